use mathlib.Core.Path.{sym, ◌∙◌}
use native.Mathlib.Omega.{arith}
use Rattle.table_file.proofs.ReaderSteps.{turn_stops, turn_goes_on, tail, no_tail}
use Rattle.table_file.proofs.test_entries.Goals as goal

pub returns-in_err-entry : goal.returns-in_err-entry
returns-in_err-entry c = sym (c.loop.invariant
    ∙ turn_stops _ _ _ c.read_entry.ensures _ (omega (arith, c.loop-test.true)) c.in_err-entry.was _ c.from_residual.ensures.1)

pub loop-preserved : goal.loop-preserved
loop-preserved c = c.loop.invariant
    ∙ turn_goes_on _ _ _ c.read_entry.ensures _ (omega (arith, c.loop-test.true)) c.in_ok-entry.was _ (omega (arith, c.loop-test.true))

pub returns-then-place-bytes : goal.returns-then-place-bytes
returns-then-place-bytes c = sym (c.loop.invariant ∙ tail _ _ _ _ (omega (arith, c.loop-test.false)) c.if-place-bytes.true)

pub returns : goal.returns
returns c = sym (c.loop.invariant ∙ no_tail _ _ _ _ (omega (arith, c.loop-test.false)) c.if-place-bytes.false)
