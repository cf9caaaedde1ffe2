use native.Mathlib.Omega.{arith}
use Rattle.text_pieces.specs.TextLaws.{writes_length}
use Rattle.table_show.proofs.TextSteps.{none_written, one_more, all_written}
use Rattle.table_show.proofs.text.write_entries.Goals as goal

pub loop-code-init : goal.loop-code-init
loop-code-init c = none_written _ _ _ (omega (arith, c.requires.table_in_bounds))

pub write_entry-place-requires : goal.write_entry-place-requires
write_entry-place-requires c = let loop = c.loop-code.invariant in record {
  code_lt_code_limit = omega (arith, c.requires.table_len_bound);
  at_in_bounds = omega (arith, c.requires.table_in_bounds, loop.few, writes_length loop.writes);
}

pub loop-code-preserved : goal.loop-code-preserved
loop-code-preserved c = one_more c.loop-code.invariant c.write_entry-place.ensures

pub returns : goal.returns
returns c = all_written c.loop-code.invariant (omega arith)
