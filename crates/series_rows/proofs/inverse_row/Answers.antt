use Rattle.series_rows.proofs.RowSteps.{first_entry, no_entries, one_more, next_entry}
use Rattle.series_rows.proofs.inverse_row.Goals as goal

pub loop-i-init : goal.loop-i-init
loop-i-init c = (first_entry _ _ _ c.requires.0, no_entries _ _ _ c.requires.1)

pub loop-i-preserved : goal.loop-i-preserved
loop-i-preserved c = let inv = c.loop-i.invariant in (
  next_entry _ _ _ c.loop-i.i c.loop-i.entry c.loop-i.row c.loop-i.auto.i inv.0 _ c.next_entry-entry.ensures.same,
  one_more _ _ _ c.loop-i.i c.loop-i.entry c.loop-i.row c.loop-i.auto.i inv.0 c.loop-i-test.true inv.1,
)
