-- How one comparison reduces a sum or a difference, and that a product fits 64 bits.
use Rattle.std.proofs.Common.{◌≡◌, ℕ, ◌+◌, ◌-◌, ◌*◌, ◌%◌, ◌^◌, ◌<◌, ◌≤◌, sym, ap, ◌∙◌, mod-lt, mod-eq_of_lt, mul-le-mul, arith, w32, w64, Fits}
use native.Mathlib.Nat.{mod-eq-sub-mod}
use native.Mathlib.Decide.{dec_lt}
use Rattle.definitions.specs.Limits.{largest_modulus}
use Rattle.residues.specs.Moduli.{Below, Residue, Back}

pub reduced : (x m : ℕ) {r : ℕ} → r ≡ x → r < m → Residue m x r
reduced x m e l = record { same = sym (mod-eq_of_lt l) ∙ ap (λ (k : ℕ). k % m) e; below = l }

-- x - m for x
pub once : (x m : ℕ) {r : ℕ} → m ≤ x → r ≡ x - m → r < m → Residue m x r
once x m h e l = record { same = sym (mod-eq_of_lt l) ∙ ap (λ (k : ℕ). k % m) e ∙ sym (mod-eq-sub-mod h); below = l }

pub fits_residue : (x : ℕ) {m : ℕ} → 0 < m → m ≤ largest_modulus → Fits w32 (x % m)
fits_residue x {m} pos top = let h : x % m < m = mod-lt x pos in record { fits = omega arith }

-- a product of two numbers of 32 bits fits 64
pub product_fits : {a b : ℕ} → a < 2 ^ 32 → b < 2 ^ 32 → Fits w64 (a * b)
product_fits {a} {b} h k =
    let x : a ≤ 4294967295 = omega arith in
    let y : b ≤ 4294967295 = omega arith in
    let p : a * b ≤ 4294967295 * 4294967295 = mul-le-mul x y in
    record { fits = omega arith }

-- a + r - b, where r is m or nothing, as a needs it
module _ (m a b r : ℕ) (h : Below m a b) (back : Back m a b r) where
  pub back_covers : b ≤ a + r
  back_covers = elim (dec_lt a b) [ yes l ↦ omega (arith, back.short l) | no k ↦ omega arith ]

  pub back_below : a + r - b < m
  back_below =
      elim (dec_lt a b) [ yes l ↦ omega (arith, back.short l) | no k ↦ omega (arith, back.enough (omega arith)) ]

  pub back_residue : Residue m (a + (m - b)) (a + r - b)
  back_residue =
      elim (dec_lt a b) [
        | yes l ↦ reduced _ _ (omega (arith, back.short l)) back_below
        | no k ↦ once _ _ (omega arith) (omega (arith, back.enough (omega arith))) back_below
      ]
