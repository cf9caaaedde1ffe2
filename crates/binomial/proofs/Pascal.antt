-- Rows of Pascal's triangle modulo m: the first, the next, and the sum of the terms that one gives.
use mathlib.Core.Path.{◌≡◌, refl, sym, ◌∙◌, ap, ap₂}
use mathlib.Core.List.{List, ◌∷◌}
use mathlib.Core.Logic.{⊎_elim}
use Prim.Native.Nat.{ℕ, zero, suc, ◌+◌, ◌-◌, ◌*◌, ◌%◌, ◌<◌, ◌≤◌}
use native.Mathlib.Nat.{mod-lt, mod-mod, mod-eq_of_lt, add_comm, add-zero}
use native.Mathlib.Numerals.{add-one}
use native.Mathlib.Omega.{arith}
use lib.ListN.{length, replicate, get_or-replicate, get_or-eq_default}
use Rattle.definitions.specs.Sums.{at, sum, tabulate}
use Rattle.definitions.specs.Rows.{choose, binomial_sum}
use Rattle.theory.specs.Tests.{below_or}
use Rattle.theory.specs.Lists.{length-tabulate, at-tabulate, tabulate_ext, tabulate_of}
use Rattle.theory.specs.Remainders.{mod-add, mod-mul, mul_mod_l}
use Rattle.theory.specs.Sums.{sum-mod}
use Rattle.theory.specs.Binomial.{choose_none, choose_zero, choose_step}
use Rattle.checks.specs.Accepted.{Entries}
use Rattle.binomial.specs.Rules.{row_width, pascal_row, pascal_at, term_at, binomial_at}

-- ---- what is to the left

pub left_more : (row : List ℕ) (j : ℕ) → at row j ≡ at (0 ∷ row) (j + 1)
left_more row j = rw (add-one j)

pub left_below : {m : ℕ} (row : List ℕ) → 0 < m → ((j : ℕ) → at row j < m) → (j : ℕ) → at (0 ∷ row) j < m
left_below row pos h zero = pos
left_below row pos h (suc j) = h j

-- ---- the rows

module _ (m : ℕ) where
  pascal_size : (i : ℕ) → length (pascal_row m i) ≡ row_width
  unfolding pascal_row
  pascal_size i = length-tabulate row_width (λ k. choose i k % m)

  pascal_at_lem : (i j : ℕ) → j < row_width → at (pascal_row m i) j ≡ choose i j % m
  unfolding pascal_row
  pascal_at_lem i j h = at-tabulate row_width (λ k. choose i k % m) j h

  -- a row of residues
  pub pascal_entries : 0 < m → (i : ℕ) → Entries row_width m (pascal_row m i)
  pascal_entries pos i =
      record {
        size = pascal_size i;
        below = λ j.
            ⊎_elim (λ (h : j < row_width). rw (pascal_at_lem i j h) (mod-lt (choose i j) pos))
            (λ (h : row_width ≤ j). rw (get_or-eq_default (pascal_row m i) 0 {n = j} (omega (arith, pascal_size i))) pos)
            (below_or j row_width);
      }

  step : (i j : ℕ) → j < row_width → pascal_at m (pascal_row m i) j ≡ choose (suc i) j % m
  step i zero h =
      ap (λ (x : ℕ). (x + 0) % m) (pascal_at_lem i 0 h) ∙ ap (λ (x : ℕ). x % m) (add-zero (choose i 0 % m)) ∙ mod-mod (choose i 0) m
      ∙ ap (λ (x : ℕ). x % m) (choose_none i ∙ sym (choose_none (suc i)))
  step i (suc j) h =
      let l : j < row_width = omega arith in
      ap₂ (λ (x y : ℕ). (x + y) % m) (pascal_at_lem i (suc j) h) (pascal_at_lem i j l)
      ∙ mod-add m (choose i (suc j) % m) (choose i j % m) (choose i (suc j)) (choose i j) (mod-mod _ m) (mod-mod _ m)
      ∙ ap (λ (x : ℕ). x % m) (add_comm (choose i (suc j)) (choose i j) ∙ sym (choose_step i j))

  pub pascal_next : (i : ℕ) → tabulate row_width (pascal_at m (pascal_row m i)) ≡ pascal_row m (suc i)
  unfolding pascal_row
  pascal_next i = tabulate_ext row_width (pascal_at m (pascal_row m i)) (λ j. choose (suc i) j % m) (step i)

  first : (1 < m) → (j : ℕ) → j < row_width → at (1 ∷ replicate 16 0) j ≡ choose 0 j % m
  first h zero l = sym (ap (λ (x : ℕ). x % m) (choose_none 0) ∙ mod-eq_of_lt h)
  first h (suc j) l =
      get_or-replicate 16 j 0 0 (omega arith) ∙ sym (ap (λ (x : ℕ). x % m) (choose_zero j) ∙ mod-eq_of_lt (omega arith))

  pub pascal_first : 1 < m → 1 ∷ replicate 16 0 ≡ pascal_row m 0
  unfolding pascal_row
  pascal_first h = tabulate_of row_width (1 ∷ replicate 16 0) (λ j. choose 0 j % m) refl (first h)

-- ---- an entry of the product, whose inner products are reduced first

abbrev pub reduced_at : ℕ → List ℕ → List ℕ → List ℕ → ℕ → ℕ → ℕ
reduced_at m choices f g i j = at choices j * (at f j * at g (i - j) % m)

pub unreduced : (m : ℕ) (choices f g : List ℕ) (i : ℕ) →
    sum (suc i) (reduced_at m choices f g i) % m ≡ sum (suc i) (term_at choices f g i) % m
unreduced m choices f g i =
    sum-mod m (suc i) (reduced_at m choices f g i) (term_at choices f g i)
    (λ j l. mod-mul m (at choices j) (at f j * at g (i - j) % m) (at choices j) (at f j * at g (i - j)) refl (mod-mod _ m))

module _ (m : ℕ) where
  pub entry : (f g : List ℕ) (i : ℕ) → i < row_width → sum (suc i) (term_at (pascal_row m i) f g i) % m ≡ binomial_at m f g i
  unfolding binomial_sum
  entry f g i h =
      sum-mod m (suc i) (term_at (pascal_row m i) f g i) (λ j. choose i j * (at f j * at g (i - j)))
      (λ j l. ap (λ (x : ℕ). x * (at f j * at g (i - j)) % m) (pascal_at_lem m i j (omega arith))
      ∙ sym (mul_mod_l m (choose i j) (at f j * at g (i - j))))
