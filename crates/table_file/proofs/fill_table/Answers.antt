use Rattle.table_file.proofs.ReaderSteps.{none_filled, entry_stands, one-filled, all_filled}
use Rattle.table_file.proofs.fill_table.Goals as goal

pub loop-entry-init : goal.loop-entry-init
loop-entry-init c = none_filled _ _ _

pub number_again-number-requires : goal.number_again-number-requires
number_again-number-requires c = entry_stands c.loop-entry.invariant c.loop-entry-test.true c.requires

pub loop-entry-preserved : goal.loop-entry-preserved
loop-entry-preserved c = one-filled c.loop-entry.invariant c.loop-entry-test.true c.number_again-number.ensures

pub returns : goal.returns
returns c = all_filled c.loop-entry.invariant c.loop-entry-test.false
