use mathlib.Core.Path.{◌≡◌}
use Prim.Native.Nat.{◌-◌, min}
use native.Mathlib.Omega.{arith}
use Rattle.std.proofs.lemmas.Grind.{common_steps}
use Rattle.ranked_theory.specs.Leaf.{multiplying_more, multiplying_all}
use Rattle.ranked_rows.proofs.multiply_row.Goals as goal

pub loop-e-preserved : goal.loop-e-preserved
loop-e-preserved c =
    let more : c.min-more.result.0 ≡ min (c.args.n - c.args.d.0) c.args.d.0 = grind (arith, common_steps) in
    multiplying_more _ _ _ _ c.requires _ _ c.loop-e.invariant (omega (arith, more)) (omega (arith, more)) _ c.product_rank.ensures.same

pub returns : goal.returns
returns c =
    let more : c.min-more.result.0 ≡ min (c.args.n - c.args.d.0) c.args.d.0 = grind (arith, common_steps) in
    multiplying_all _ _ _ _ c.requires _ _ c.loop-e.invariant (omega (arith, more))
