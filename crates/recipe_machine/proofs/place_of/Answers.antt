use mathlib.Core.Path.{ap₂}
use Prim.Native.Nat.{ℕ, ◌+◌, ◌*◌}
use native.Mathlib.Omega.{arith}
use Rattle.recipe_machine.proofs.Places.{place_fits, pad_fits}
use Rattle.recipe_machine.proofs.place_of.Goals as goal

pub overflow_mul-result : goal.overflow_mul-result
overflow_mul-result c = omega (arith, place_fits c.args.n c.args.k c.requires.n_le_most_controls c.requires.k_bound c.power.ensures)

pub overflow_add-result : goal.overflow_add-result
overflow_add-result c = let n = c.args.n in
    omega (arith, place_fits n c.args.k c.requires.n_le_most_controls c.requires.k_bound c.power.ensures, pad_fits n c.requires.n_le_most_controls c.pad_length.ensures)

pub returns : goal.returns
returns c = ap₂ (λ (w s : ℕ). w + c.args.k * s) c.pad_length.ensures c.power.ensures
