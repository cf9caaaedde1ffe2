use mathlib.Core.Path.{sym, ◌∙◌}
use native.Mathlib.Omega.{arith}
use Rattle.sparse_file.proofs.PairSteps.{turn_stops, turn_goes_on, tail, no_tail}
use Rattle.sparse_file.proofs.test_pairs.Goals as goal

pub returns-in_err-pair : goal.returns-in_err-pair
returns-in_err-pair c = sym (c.loop.invariant
    ∙ turn_stops _ _ _ _ c.read_pair.ensures _ (omega (arith, c.loop-test.true)) c.in_err-pair.was _ c.from_residual.ensures.1)

pub loop-preserved : goal.loop-preserved
loop-preserved c = c.loop.invariant
    ∙ turn_goes_on _ _ _ _ c.read_pair.ensures c.in_ok-pair.was _ (omega (arith, c.loop-test.true)) _ (omega (arith, c.loop-test.true))

pub returns-then-place-bytes : goal.returns-then-place-bytes
returns-then-place-bytes c = sym (c.loop.invariant ∙ tail _ _ _ _ _ (omega (arith, c.loop-test.false)) c.if-place-bytes.true)

pub returns : goal.returns
returns c = sym (c.loop.invariant ∙ no_tail _ _ _ _ _ (omega (arith, c.loop-test.false)) c.if-place-bytes.false)
