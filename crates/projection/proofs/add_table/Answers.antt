use mathlib.Core.Path.{◌∙◌, ap₂}
use Prim.Native.Nat.{ℕ, ◌+◌, ◌%◌}
use native.Mathlib.Omega.{arith}
use Rattle.ranked_theory.specs.Places.{placed_none, placed_more}
use Rattle.projection.proofs.Adding.{at_source, at_target, both_below}
use Rattle.projection.proofs.add_table.Goals as goal

pub loop-i-init : goal.loop-i-init
loop-i-init c = placed_none _ _ _

pub add-requires : goal.add-requires
add-requires c = both_below c.requires c.loop-i-test.true c.loop-i.invariant

pub loop-i-preserved : goal.loop-i-preserved
loop-i-preserved c = let v = c.loop-i in
    let t = c.loop-i-test.true in
    placed_more v.invariant _ (omega (arith, c.requires.target_in, v.auto.workspace, t))
    (c.add.ensures.same
    ∙ ap₂ (λ (x y : ℕ). (x + y) % c.args.modulus.value) (at_target c.requires t v.invariant) (at_source c.requires t v.invariant))
