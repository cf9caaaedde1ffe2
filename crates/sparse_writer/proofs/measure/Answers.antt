use Rattle.sparse_writer.proofs.SizeSteps.{large_entry, one_measured, all_measured}
use Rattle.sparse_writer.proofs.measure.Goals as goal

pub returns-then-m-value : goal.returns-then-m-value
returns-then-m-value c = large_entry _ _ c.requires.m_nonzero c.loop-code.invariant c.loop-code-test.true c.if-m-value.true

pub loop-code-preserved : goal.loop-code-preserved
loop-code-preserved c = let at-loop = c.loop-code in
    let at-loop-test = c.loop-code-test in
    let at-if1 = c.if-m-value in
    let at-number-length = c.number_length in
    one_measured _ _ c.requires.m_nonzero at-loop.invariant at-loop-test.true at-if1.false
    at-number-length.ensures c.number_length-in-loop-code.ensures c.next_entry-code-in-loop-code.ensures

pub returns : goal.returns
returns c = all_measured _ _ c.requires.m_nonzero c.loop-code.invariant c.loop-code-test.false
