-- The inverse of a table without a reciprocal at hand.
--   reciprocal_is      what has the product 1 with x is the reciprocal of x
use Rattle.std.specs.Prelude.{◌≡◌, refl, Bool, true, false, List, eqb}
use Rattle.std.proofs.Common.{sym, ◌∙◌, mod-lt, mod-eq_of_lt, mul-one, arith, eq-eqb, eqb-true}
use Rattle.std.proofs.Math.Path.{ap}
use Rattle.std.proofs.Math.Bool.{cond}
use Prim.Native.Nat.{ℕ, ◌*◌, ◌%◌, ◌<◌, ◌≤◌}
use Rattle.std.proofs.Math.Nat.{le_antisymm}
use Rattle.definitions.specs.Sums.{largest, at}
use Rattle.theory.specs.Sums.{le-largest, largest-le}
use Rattle.theory.specs.Remainders.{mod-mul}
use Rattle.theory.specs.Inverse.{inverse_of}

-- the residue whose product with x is 1 modulo m, and 0 if there is none
unfoldable pub reciprocal_of : ℕ → ℕ → ℕ
reciprocal_of m x = largest m (λ u. cond (eqb (u * x % m) 1) u 0)

-- the inverse of A, where its first entry has a reciprocal (`theory`, Inverse: it is one, and the only one)
abbrev pub inverse_table : ℕ → ℕ → List ℕ → List ℕ
inverse_table n m A = inverse_of n m (reciprocal_of m (at A 0)) A

module _ (m x u : ℕ) (below : u < m) (one : u * x % m ≡ 1) where
  -- v = v (u x) = u (v x) = u
  only : (v : ℕ) → v < m → v * x % m ≡ 1 → v ≡ u
  only v h e =
      let first : v * (u * x) ≡ u * (v * x) = omega arith in
      let pos : 0 < m = omega arith in
      let two : 1 < m = omega (arith, one, mod-lt (u * x) pos) in
      let unit : 1 ≡ 1 % m = sym (mod-eq_of_lt two) in
      let left : v * (u * x) % m ≡ v = mod-mul m v (u * x) v 1 refl (one ∙ unit) ∙ ap (λ (y : ℕ). y % m) (mul-one v) ∙ mod-eq_of_lt h in
      let right : u * (v * x) % m ≡ u = mod-mul m u (v * x) u 1 refl (e ∙ unit) ∙ ap (λ (y : ℕ). y % m) (mul-one u) ∙ mod-eq_of_lt below in
      sym left ∙ ap (λ (y : ℕ). y % m) first ∙ right

  at_most : (v : ℕ) → v < m → (b : Bool) → eqb (v * x % m) 1 ≡ b → cond b v 0 ≤ u
  at_most v h true e = omega (arith, only v h (eqb-true _ _ e))
  at_most v h false e = omega arith

  pub reciprocal_is : reciprocal_of m x ≡ u
  unfolding reciprocal_of
  reciprocal_is =
      let f : ℕ → ℕ = λ v. cond (eqb (v * x % m) 1) v 0 in
      let here : f u ≡ u = ap (λ (b : Bool). cond b u 0) (eq-eqb _ _ one) in
      le_antisymm (largest-le m f u (λ v h. at_most v h _ refl)) (omega (arith, le-largest m f u below, here))
