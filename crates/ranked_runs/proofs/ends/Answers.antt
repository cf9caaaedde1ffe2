use mathlib.Core.Path.{refl}
use native.Mathlib.Omega.{arith}
use Rattle.ranked_theory.specs.Places.{placed_as}
use Rattle.ranked_theory.specs.Runs.{run_over}
use Rattle.ranked_runs.proofs.ends.Goals as goal

pub returns : goal.returns
returns g c =
    let a = c.args in
    run_over (g.S.Step.op a.modulus.value) a.lo a.hi 4 a.last a.rows.now _ _
    (placed_as c.store_four.ensures refl c.four-front.ensures)
    (placed_as c.store_four-2.ensures refl c.four-back.ensures)
    c.requires.last_bound
    (omega arith)
