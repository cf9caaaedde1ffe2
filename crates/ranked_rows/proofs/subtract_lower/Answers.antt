use mathlib.Core.Path.{ap}
use Prim.Native.Nat.{ℕ, ◌+◌}
use Rattle.ranked_theory.specs.RowSteps.{passing_more, row_step_as}
use Rattle.ranked_rows.proofs.subtract_lower.Goals as goal

pub loop-u-preserved : goal.loop-u-preserved
loop-u-preserved c = let v = c.loop-u in
    let d = c.args.d.0 in
    let done = c.subtract_row in
    (c.next_size-low.ensures, passing_more v.invariant.1 c.loop-u-test.true (row_step_as (ap (λ (s : ℕ). s + d) v.invariant.0) _ done.ensures) done.auto.rows)
