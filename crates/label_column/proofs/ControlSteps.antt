-- The lowest control of a set, and the set without it.
--   lowest            found by the zeros at the end of the code
--   size-without      one control less
--   without_lowest    the controls behind it
use mathlib.Core.Path.{◌≡◌, refl, sym, ◌∙◌, ap, ap₂}
use Prim.Native.Nat.{ℕ, zero, suc, ◌+◌, ◌*◌, ◌-◌, ◌/◌, ◌%◌, ◌^◌, ◌<◌, min}
use native.Mathlib.Nat.{add-zero, mul_assoc, pow-suc}
use native.Mathlib.Omega.{arith}
use lib.Bits.{bit_and, and_step, and_self}
use lib.Count.{ones, ones_step, under, count_trailing_zeros}
use lib.Pow.{shr-shr}
use Rattle.label_column.specs.Columns.{Lowest}

module _ (k n : ℕ) (more : 0 < n / 2 → n / 2 < 2 ^ k → Lowest (n / 2) (count_trailing_zeros k (n / 2))) where
  halved : (j : ℕ) → n / 2 ^ suc j ≡ n / 2 / 2 ^ j
  halved j =
      let e : 1 + j ≡ suc j = omega arith in
      sym (shr-shr n 1 j ∙ ap (λ (i : ℕ). n / 2 ^ i) e)

  none_to : (t : ℕ) → n % 2 ≡ 0 → Lowest (n / 2) t → (j : ℕ) → j < suc t → n / 2 ^ j % 2 ≡ 0
  none_to t e l zero h = omega arith
  none_to t e l (suc j) h = ap (λ (x : ℕ). x % 2) (halved j) ∙ l.none_below j (omega arith)

  by_last : (r : ℕ) → n % 2 ≡ r → 0 < n → n < 2 ^ suc k → Lowest n (under r (count_trailing_zeros k (n / 2)))
  by_last zero e p h =
      let l = more (omega arith) (omega arith) in
      record {
        bit = ap (λ (x : ℕ). x % 2) (halved (count_trailing_zeros k (n / 2))) ∙ l.bit;
        none_below = none_to (count_trailing_zeros k (n / 2)) e l;
      }
  by_last (suc r) e p h = record { bit = omega arith; none_below = λ j l. absurd (omega arith) }

pub lowest : (k n : ℕ) → 0 < n → n < 2 ^ k → Lowest n (count_trailing_zeros k n)
unfolding count_trailing_zeros
lowest zero n p h = absurd (omega arith)
lowest (suc k) n p h = by_last k n (λ q g. lowest k (n / 2) q g) (n % 2) refl p h

in_half : (n i : ℕ) → Lowest n (suc i) → Lowest (n / 2) i
in_half n i l = record {
  bit = ap (λ (x : ℕ). x % 2) (halves i) ∙ l.bit;
  none_below = λ j h. ap (λ (x : ℕ). x % 2) (halves j) ∙ l.none_below (suc j) (omega arith);
}
  where
    halves : (j : ℕ) → n / 2 / 2 ^ j ≡ n / 2 ^ suc j
    halves j =
        let e : 1 + j ≡ suc j = omega arith in
        shr-shr n 1 j ∙ ap (λ (k : ℕ). n / 2 ^ k) e

-- it is one control, and the others are behind it
one_control : (i n : ℕ) → Lowest n i → ones n ≡ ones (n / 2 ^ (i + 1)) + 1
one_control zero n l = let b = l.bit in omega (arith, ones_step n)
one_control (suc i) n l =
    let even : n % 2 ≡ 0 = let b = l.none_below 0 (omega arith) in omega arith in
    let e : 1 + (i + 1) ≡ suc i + 1 = omega arith in
    omega (arith, ones_step n, one_control i (n / 2) (in_half n i l), ap ones (shr-shr n 1 (i + 1) ∙ ap (λ (k : ℕ). n / 2 ^ k) e))

ones_shifted : (k n : ℕ) → ones (n * 2 ^ k) ≡ ones n
ones_shifted zero n = ap ones (let e : n * 2 ^ 0 ≡ n = omega arith in e)
ones_shifted (suc k) n =
    let p : n * 2 ^ suc k ≡ n * 2 ^ k * 2 = ap (λ (x : ℕ). n * x) (pow-suc 2 k) ∙ sym (mul_assoc n (2 ^ k) 2) in
    let half : n * 2 ^ k * 2 / 2 ≡ n * 2 ^ k = omega arith in
    let last : n * 2 ^ k * 2 % 2 ≡ 0 = omega arith in
    ap ones p ∙ ones_step (n * 2 ^ k * 2) ∙ omega (arith, ap ones half, ones_shifted k n)

-- without it, the controls behind it are left
pub without_lowest : (i n : ℕ) → 0 < n → Lowest n i → bit_and n (n - 1) ≡ n / 2 ^ (i + 1) * 2 ^ (i + 1)
without_lowest zero n p l =
    let b = l.bit in
    let half : (n - 1) / 2 ≡ n / 2 = omega arith in
    let last : min (n % 2) ((n - 1) % 2) ≡ 0 = omega arith in
    and_step n (n - 1) ∙ ap₂ (λ (x y : ℕ). bit_and (n / 2) x * 2 + y) half last ∙ ap (λ (x : ℕ). x * 2 + 0) (and_self (n / 2))
    ∙ (let e : n / 2 * 2 + 0 ≡ n / 2 ^ (0 + 1) * 2 ^ (0 + 1) = omega arith in e)
without_lowest (suc i) n p l =
    let even : n % 2 ≡ 0 = let b = l.none_below 0 (omega arith) in omega arith in
    let half : (n - 1) / 2 ≡ n / 2 - 1 = omega arith in
    let last : min (n % 2) ((n - 1) % 2) ≡ 0 = omega arith in
    let rest = without_lowest i (n / 2) (omega arith) (in_half n i l) in
    let e : 1 + (i + 1) ≡ suc i + 1 = omega arith in
    let p : 2 ^ (suc i + 1) ≡ 2 ^ (i + 1) * 2 = ap (λ (k : ℕ). 2 ^ k) (let f : suc i + 1 ≡ suc (i + 1) = omega arith in f) ∙ pow-suc 2 (i + 1) in
    let q : n / 2 / 2 ^ (i + 1) ≡ n / 2 ^ (suc i + 1) = shr-shr n 1 (i + 1) ∙ ap (λ (k : ℕ). n / 2 ^ k) e in
    and_step n (n - 1) ∙ ap₂ (λ (x y : ℕ). bit_and (n / 2) x * 2 + y) half last
    ∙ ap (λ (x : ℕ). x * 2 + 0) (rest ∙ ap (λ (x : ℕ). x * 2 ^ (i + 1)) q)
    ∙ add-zero (n / 2 ^ (suc i + 1) * 2 ^ (i + 1) * 2)
    ∙ mul_assoc (n / 2 ^ (suc i + 1)) (2 ^ (i + 1)) 2
    ∙ ap (λ (x : ℕ). n / 2 ^ (suc i + 1) * x) (sym p)

pub size-without : (i n : ℕ) → Lowest n i → ones n ≡ ones (n / 2 ^ (i + 1) * 2 ^ (i + 1)) + 1
size-without i n l = one_control i n l ∙ ap (λ (k : ℕ). k + 1) (sym (ones_shifted (i + 1) (n / 2 ^ (i + 1))))
