use Rattle.sparse_writer.proofs.SizeSteps.{one_written, all_written}
use Rattle.sparse_writer.proofs.write_pairs.Goals as goal

pub loop-code-preserved : goal.loop-code-preserved
loop-code-preserved c = let at-loop = c.loop-code in
    let at-loop-test = c.loop-code-test in
    let at-write-number = c.write_number-value_at in
    let at-write-number2 = c.write_number-place in
    one_written _ _ _ _ _ _ _ at-loop.invariant at-loop-test.true at-write-number.ensures.value at-write-number.ensures.buffer_after
    at-write-number2.ensures.value at-write-number2.ensures.buffer_after c.next_entry-code-in-loop-code.ensures

pub returns : goal.returns
returns c = all_written _ _ _ _ _ _ _ c.loop-code.invariant c.loop-code-test.false
