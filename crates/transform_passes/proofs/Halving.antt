-- Powers of m / 2 + 1, which under an odd modulus m is the residue that times 2 is 1.
use mathlib.Core.Path.{◌≡◌, refl, ap, subst, ◌∙◌}
use Prim.Native.Nat.{ℕ, ◌+◌, ◌*◌, ◌/◌, ◌%◌, ◌^◌, ◌<◌}
use native.Mathlib.Nat.{mod-mod, mul-add-mod_self_right}
use native.Mathlib.Numerals.{add-one}
use native.Mathlib.Omega.{arith}
use Rattle.theory.specs.Remainders.{mod-mul}
use Rattle.residues.specs.Moduli.{Residue}
use Rattle.transform_passes.specs.Steps.{Halves}

module _ (m : ℕ) (odd : m % 2 ≡ 1) where
  twice_half : (m / 2 + 1) * 2 % m ≡ 1 % m
  twice_half =
      let e : (m / 2 + 1) * 2 ≡ 1 * m + 1 = omega arith in
      ap (λ (k : ℕ). k % m) e ∙ mul-add-mod_self_right 1 m 1

  pub none : 1 < m → Halves 0 m 1
  none h = record { one = refl; below = h }

  pub one_more : {i r half v : ℕ} → Halves i m r → half ≡ m / 2 + 1 → Residue m (r * half) v → Halves (i + 1) m v
  one_more {i} {r} {half = q} {v} h f e =
      let two : 2 ^ (i + 1) ≡ 2 * 2 ^ i = rw (add-one i) (omega arith) in
      record {
        one = mod-mul m v (2 ^ (i + 1)) (r * q) (2 * 2 ^ i) (ap (λ (k : ℕ). k % m) e.same ∙ mod-mod (r * q) m) (ap (λ (k : ℕ). k % m) two)
            ∙ ap (λ (k : ℕ). k % m) (shape r q (2 ^ i))
            ∙ mod-mul m (q * 2) (r * 2 ^ i) 1 1 (ap (λ (k : ℕ). k * 2 % m) f ∙ twice_half) h.one;
        below = e.below;
      }
    where
      shape : (r q p : ℕ) → r * q * (2 * p) ≡ q * 2 * (r * p)
      shape r q p = omega arith

pub all : {i n m r : ℕ} → Halves i m r → i ≡ n → Halves n m r
all {m = m} {r = r} h e = subst (λ (k : ℕ). Halves k m r) e h
