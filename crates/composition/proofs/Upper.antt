-- The upper half of a composition, entry by entry: the subset product of the composition with the shifted row, by its residues,
-- and the table's upper half.
use mathlib.Core.Path.{◌≡◌, sym, ap, ◌∙◌}
use mathlib.Core.List.{List}
use Prim.Native.Nat.{ℕ, suc, ◌+◌, ◌%◌, ◌^◌, ◌<◌}
use Rattle.definitions.specs.Sums.{at}
use Rattle.definitions.specs.Products.{subset_sum}
use Rattle.definitions.specs.Partitions.{composition_sum}
use Rattle.theory.specs.Halves.{Row, shift}
use Rattle.theory.specs.Composition.{composition_hi}
use Rattle.theory.specs.Series.{subset_comm, subset_mod}

pub composition_upper : (n m : ℕ) (f : Row) (A : ℕ → ℕ) (L U : List ℕ)
    → ((S : ℕ) → S < 2 ^ n → at L S % m ≡ composition_sum n (shift f) A S % m)
    → ((S : ℕ) → S < 2 ^ n → at U S ≡ A (2 ^ n + S))
    → (R : ℕ) → R < 2 ^ n → subset_sum n (at L) (at U) R % m ≡ composition_sum (suc n) f A (2 ^ n + R) % m
composition_upper n m f A L U l u R h =
    subset_mod n m (at L) (at U) (composition_sum n (shift f) A) (λ c. A (2 ^ n + c)) l (λ S k. ap (λ (x : ℕ). x % m) (u S k)) R h
    ∙ ap (λ (x : ℕ). x % m) (subset_comm n (composition_sum n (shift f) A) (λ c. A (2 ^ n + c)) R h ∙ sym (composition_hi n f A R))
