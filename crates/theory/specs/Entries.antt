-- Entries below m: `all_below m A` says that each entry of A is below m.
--   below_at, at_below     the test, entry by entry
--   below_anywhere         past the end too
--   below_positive         a table's modulus is not 0
--   below_residues         remainders are below m
use Rattle.std.specs.Prelude.{◌≡◌, refl, true, List, [], ◌∷◌, ℕ, zero, suc, ◌^◌, ◌<◌, ◌≤◌, ltb, length}
use Rattle.std.proofs.Common.{⊎_elim, mod-lt, arith, pow_pos, ltb-true, lt-ltb}
use Rattle.std.proofs.Math.ListN.{get_or-eq_default}
use Rattle.definitions.specs.Sums.{at}
use Rattle.definitions.specs.Products.{residues}
use Rattle.definitions.specs.Partitions.{all_below}
use Rattle.theory.specs.Tests.{below_or, and_true_left, and_true_right}
use Rattle.theory.specs.Lists.{length-residues, at-residues}

pub below_at : (m : ℕ) (A : List ℕ) → all_below m A ≡ true → (i : ℕ) → i < length A → at A i < m
unfolding all_below
below_at m [] e i h = omega arith
below_at m (x ∷ A) e zero h = ltb-true x m (and_true_left (ltb x m) (all_below m A) e)
below_at m (x ∷ A) e (suc i) h = below_at m A (and_true_right (ltb x m) (all_below m A) e) i (omega arith)

pub at_below : (m : ℕ) (A : List ℕ) → ((i : ℕ) → i < length A → at A i < m) → all_below m A ≡ true
unfolding all_below
at_below m [] h = refl
at_below m (x ∷ A) h = rw (lt-ltb x m (h 0 (omega arith))) (at_below m A (λ i k. h (suc i) (omega arith)))

pub below_residues : (n m : ℕ) (f : ℕ → ℕ) → 0 < m → all_below m (residues n m f) ≡ true
below_residues n m f pos = at_below m (residues n m f)
    (λ i h. let k : i < 2 ^ n = omega (arith, length-residues n m f) in rw (at-residues n m f i k) (mod-lt (f i) pos))

-- a table has an entry, so m is not 0
pub below_positive : (n m : ℕ) (A : List ℕ) → length A ≡ 2 ^ n → all_below m A ≡ true → 0 < m
below_positive n m A l b = omega (arith, below_at m A b 0 (omega (arith, pow_pos n)))

-- below m at any place, past the end too
pub below_anywhere : (m : ℕ) (A : List ℕ) → 0 < m → all_below m A ≡ true → (i : ℕ) → at A i < m
below_anywhere m A pos e i = ⊎_elim (below_at m A e i)
    (λ (k : length A ≤ i). rw (get_or-eq_default A 0 k) pos) (below_or i (length A))
