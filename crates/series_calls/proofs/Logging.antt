-- The logarithm call: what its result is.
use mathlib.Core.Path.{◌≡◌}
use mathlib.Core.List.{List}
use Prim.Native.Nat.{ℕ}
use Rattle.definitions.specs.Partitions.{IsLogarithm}
use Rattle.theory.specs.Entries.{at_below}
use Rattle.theory.specs.Logarithm.{logarithm_of, logarithm_is}
use Rattle.checks.specs.Accepted.{start_number}
use Rattle.composition_calls.specs.Cores.{started, first_is_lem}

pub is_logarithm : (n m : ℕ) (e : List ℕ) (r p : ℕ) → start_number n m e r p 1 ≡ 0 → {l : List ℕ} → l ≡ logarithm_of n m e → IsLogarithm n m e l
is_logarithm n m e r p zero made =
    let table = (started n m e r p 1 zero).table in
    rw made (logarithm_is n m e table.size (at_below m e (λ i c. table.below i)) (first_is_lem n m e r p 1 zero))
