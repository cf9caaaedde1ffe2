use mathlib.Core.Path.{◌≡◌, refl}
use Prim.Native.Nat.{min, ◌≤◌}
use native.Mathlib.Omega.{arith}
use Rattle.std.proofs.lemmas.Grind.{common_steps}
use Rattle.ranked_theory.specs.RowSteps as rows
use Rattle.ranked_rows.proofs.subtract_row.Goals as goal

pub run-requires : goal.run-requires
run-requires c =
    let more : c.min-more.result.0 ≤ min c.args.e.0 c.args.size.0 = grind (arith, common_steps) in
    rows.run_ready _ 1 _ _ _ _ _ _ _ _ _ _ c.requires refl (omega arith) (omega (arith, c.requires.row, more)) (omega (arith, c.requires.row, more))

pub returns : goal.returns
returns c =
    let more : c.min-more.result.0 ≡ min c.args.e.0 c.args.size.0 = grind (arith, common_steps) in
    rows.subtract_row _ _ _ _ _ _ _ _ c.requires more _ _ _ refl refl c.run.ensures
