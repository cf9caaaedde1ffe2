-- The rows by which composition gives inverse and logarithm. Nothing is divided by a factorial; m - 1 stands for -1.
--   inverse_row m u     (-1)^k k! u^(k+1); inverse_row_first, inverseRow-next: how a program makes it
--   logarithm_row m     0, 1, -1, 2!, -3!, ..
--   row_inverts        where u a = 1, its binomial product with a, 1, 0, 0, .. is 1, 0, 0, .. modulo m
use Rattle.std.specs.Prelude.{◌≡◌}
use Rattle.std.proofs.Math.Path.{refl, sym, ap}
use Rattle.std.proofs.Common.{◌∙◌, pow-suc, mul-one}
use Prim.Native.Nat.{ℕ, zero, suc, ◌+◌, ◌-◌, ◌*◌, ◌%◌, ◌^◌, ◌<◌}
use Rattle.std.proofs.Math.Nat.{pow-zero, zero-mod}
use native.Mathlib.Omega.{arith}
use Rattle.theory.specs.Remainders.{mod-add, mod-mul, minus_one}
use Rattle.theory.specs.Halves.{Row, conv, one, linear, conv-linear}

unfoldable pub factorial : ℕ → ℕ
factorial zero = 1
factorial (suc k) = suc k * factorial k

unfoldable pub inverse_row : ℕ → ℕ → Row
inverse_row m u k = (m - 1) ^ k * factorial k * u ^ suc k

unfoldable pub logarithm_row : ℕ → Row
logarithm_row m zero = 0
logarithm_row m (suc k) = inverse_row m 1 k

pub inverse_row_first : (m u : ℕ) → inverse_row m u 0 ≡ u
unfolding inverse_row factorial
inverse_row_first m u = rw (pow-suc u 0, pow-zero (m - 1), pow-zero u) (omega arith)

pub inverse_row-next : (m u k : ℕ) → inverse_row m u (suc k) ≡ (m - 1) * (suc k * (u * inverse_row m u k))
unfolding inverse_row factorial
inverse_row-next m u k = rw (pow-suc (m - 1) k, pow-suc u (suc k)) (omega arith)

module _ (m : ℕ) (pos : 0 < m) (a u : ℕ) (e : u * a % m ≡ 1 % m) where
  pub row_inverts : (k : ℕ) → conv (inverse_row m u) (linear a) k % m ≡ one k % m
  unfolding conv
  row_inverts zero = ap (λ (x : ℕ). x * a % m) (inverse_row_first m u) ∙ e
  row_inverts (suc k) =
      let r : ℕ = inverse_row m u k in
      let w : ℕ = suc k * r in
      let shape : (m - 1) * (suc k * (u * r)) * a ≡ (m - 1) * (w * (u * a)) = omega arith in
      let unit : w * (u * a) % m ≡ w % m = mod-mul m w (u * a) w 1 refl e ∙ ap (λ (x : ℕ). x % m) (mul-one w) in
      ap (λ (x : ℕ). x % m) (conv-linear a (inverse_row m u) k ∙ ap (λ (x : ℕ). x * a + w) (inverse_row-next m u k) ∙ ap (λ (x : ℕ). x + w) shape)
      ∙ mod-add m _ w ((m - 1) * w) w (mod-mul m (m - 1) _ (m - 1) w refl unit) refl
      ∙ minus_one m pos w ∙ sym (zero-mod m)
