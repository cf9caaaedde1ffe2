use native.Mathlib.Omega.{arith}
use Rattle.nonzero_entries.specs.EntryLaws.{many_skipped}
use Rattle.nonzero_entries.proofs.skip_eights.Goals as goal

pub loop-code-preserved : goal.loop-code-preserved
loop-code-preserved c = let skipped = c.loop-code.invariant in
    many_skipped _ _ _ 8 skipped (omega (arith, c.loop-code-test.true, skipped.inside)) (c.eight_joined.ensures c.if-eight_joined-ne0.false)
