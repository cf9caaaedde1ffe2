-- The degree of a table: the largest size of a set with a nonzero entry, and 255 if every entry is 0.
--   nonzero-at, zeros-at, zeros_are     a nonzero table and a table of zeros, entry by entry
--   degree-zeros, degree-nonzero        255, or the largest size; degree-tells: so, of a panel that is not refused, 255 tells
--                                       a table of zeros from all others
--   degree-at, degree_least             of a nonzero table it is the least bound on those sizes; degree-most: at most n
--   product_zeros                       a subset product with a table of zeros has degree 255
use Rattle.std.specs.Prelude.{◌≡◌, refl, Bool, true, false, cond, not, ◌&&◌, List, ◌≢◌, ℕ, ◌*◌, ◌-◌, ◌%◌, ◌^◌, ◌<◌, ◌≤◌, eqb}
use Rattle.std.proofs.Common.{ap, ◌∙◌, zero-mul, mul-zero, arith, eqb-true, eq-eqb, ne_eqb}
use Rattle.std.proofs.Math.Nat.{zero-mod}
use Rattle.std.proofs.Math.Decide.{ℕ_discrete}
use Rattle.std.proofs.lemmas.Bool.{not-false}
use Rattle.definitions.specs.Sums.{at, largest}
use Rattle.definitions.specs.Sets.{size, inside}
use Rattle.definitions.specs.Products.{subset_sum, subset_table, nonzero, degree_of_zeros, degree}
use Rattle.theory.specs.Tests.{guard_zero}
use Rattle.theory.specs.Sums.{sum_zero, some_found, some_none, none_some, le-largest, largest-le}
use Rattle.theory.specs.Lists.{at-residues}
use Rattle.theory.specs.Codes.{size-le}

-- ---- tables of zeros

pub nonzero-at : (n : ℕ) (A : List ℕ) (S : ℕ) → S < 2 ^ n → at A S ≢ 0 → nonzero n A ≡ true
unfolding nonzero
nonzero-at n A S h d = some_found (2 ^ n) _ S h (ap not (ne_eqb (at A S) 0 d))

pub zeros-at : (n : ℕ) (A : List ℕ) → nonzero n A ≡ false → (S : ℕ) → S < 2 ^ n → at A S ≡ 0
unfolding nonzero
zeros-at n A e S h = eqb-true (at A S) 0 (not-false (eqb (at A S) 0) (some_none (2 ^ n) _ e S h))

pub zeros_are : (n : ℕ) (A : List ℕ) → ((S : ℕ) → S < 2 ^ n → at A S ≡ 0) → nonzero n A ≡ false
unfolding nonzero
zeros_are n A z = none_some (2 ^ n) _ (λ S h. ap not (eq-eqb (at A S) 0 (z S h)))

-- ---- the degree

pub degree-zeros : (n : ℕ) (A : List ℕ) → nonzero n A ≡ false → degree n A ≡ degree_of_zeros
unfolding degree
degree-zeros n A e = rw e

pub degree-nonzero : (n : ℕ) (A : List ℕ) → nonzero n A ≡ true
    → degree n A ≡ largest (2 ^ n) (λ S. cond (eqb (at A S) 0) 0 (size S))
unfolding degree
degree-nonzero n A e = rw e

pub degree-at : (n : ℕ) (A : List ℕ) (S : ℕ) → S < 2 ^ n → at A S ≢ 0 → size S ≤ degree n A
degree-at n A S h d =
    rw (degree-nonzero n A (nonzero-at n A S h d))
    (rw (ne_eqb (at A S) 0 d) at (le-largest (2 ^ n) (λ T. cond (eqb (at A T) 0) 0 (size T)) S h))

pub degree_least : (n : ℕ) (A : List ℕ) (b : ℕ) → nonzero n A ≡ true
    → ((S : ℕ) → S < 2 ^ n → at A S ≢ 0 → size S ≤ b) → degree n A ≤ b
degree_least n A b some h = rw (degree-nonzero n A some) (largest-le (2 ^ n) _ b (λ S k. elim (ℕ_discrete (at A S) 0) [
  | yes e ↦ rw e (omega arith)
  | no d ↦ rw (ne_eqb (at A S) 0 d) (h S k d)
]))

pub degree_most : (n : ℕ) (A : List ℕ) → nonzero n A ≡ true → degree n A ≤ n
degree_most n A some = degree_least n A n some (λ S h d. size-le n S h)

-- so of a panel with fewer controls than 255 it tells a table of zeros from all others
pub degree_tells : (n : ℕ) (A : List ℕ) → n < degree_of_zeros → nonzero n A ≡ not (eqb (degree n A) degree_of_zeros)
degree_tells n A few = tells (nonzero n A) refl where
  tells : (b : Bool) → nonzero n A ≡ b → b ≡ not (eqb (degree n A) degree_of_zeros)
  tells true e = rw (ne_eqb (degree n A) degree_of_zeros (λ d. omega (arith, degree_most n A e)))
  tells false e = rw (eq-eqb (degree n A) degree_of_zeros (degree-zeros n A e))

-- ---- the subset product

-- 02: one with a table of zeros has ceiling 255
pub product_zeros : (n m : ℕ) (A B : List ℕ) → (nonzero n A && nonzero n B) ≡ false → degree n (subset_table n m A B) ≡ degree_of_zeros
unfolding subset_sum
product_zeros n m A B e = degree-zeros n (subset_table n m A B) (zeros_are n (subset_table n m A B) (λ S h.
    at-residues n m _ S h
    ∙ ap (λ (x : ℕ). x % m) (sum_zero (2 ^ n) _ (λ L l. rw (term S h L l (nonzero n A) refl) (guard_zero (inside L S))))
    ∙ zero-mod m)) where
      term : (S : ℕ) → S < 2 ^ n → (L : ℕ) → L < 2 ^ n → (b : Bool) → nonzero n A ≡ b → at A L * at B (S - L) ≡ 0
      term S h L l false a = rw (zeros-at n A a L l) (zero-mul _)
      term S h L l true a = rw (zeros-at n B (rw a at e) (S - L) (omega arith)) (mul-zero _)
