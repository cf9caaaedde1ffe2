-- Remainders by m of sums, products and differences.
--   mod-add, mod-mul       equal remainders give equal remainders
--   mod_back               y is taken away round through m and comes back
--   lacks, mod-sub         of that: what x lacks to m; what is left of y + x after y is taken away
--   minus_one              m - 1 for -1
--   minus-times            a difference, by m - 1
--   mod_cancel             equal summands cancel
use Rattle.std.specs.Prelude.{◌≡◌, refl, ℕ, ◌+◌, ◌-◌, ◌*◌, ◌/◌, ◌%◌, ◌<◌, ◌≤◌}
use Rattle.std.proofs.Common.{sym, ap, ap₂, ◌∙◌, mod-lt, div-add-mod', mul_comm, zero-add, arith}
use Rattle.std.proofs.Math.Nat.{add-mod, add-mod_right, mod-add-mod, mul-add-mod_self_right, mul-mod_left, zero-mod}

pub mod-add : (m a b c d : ℕ) → a % m ≡ c % m → b % m ≡ d % m → (a + b) % m ≡ (c + d) % m
mod-add m a b c d p q = add-mod a b m ∙ ap₂ (λ (x y : ℕ). (x + y) % m) p q ∙ sym (add-mod c d m)

-- a factor's remainder does for the factor
pub mul_mod_l : (m a b : ℕ) → a * b % m ≡ a % m * b % m
mul_mod_l m a b =
    let e : a * b ≡ a / m * b * m + a % m * b = omega (arith, ap (λ (k : ℕ). k * b) (div-add-mod' a m)) in
    ap (λ (k : ℕ). k % m) e ∙ mul-add-mod_self_right (a / m * b) m (a % m * b)

pub mod-mul : (m a b c d : ℕ) → a % m ≡ c % m → b % m ≡ d % m → a * b % m ≡ c * d % m
mod-mul m a b c d p q =
    mul_mod_l m a b ∙ ap (λ (k : ℕ). k * b % m) p ∙ sym (mul_mod_l m c b) ∙ ap (λ (k : ℕ). k % m) (mul_comm c b)
    ∙ mul_mod_l m b c ∙ ap (λ (k : ℕ). k * c % m) q ∙ sym (mul_mod_l m d c) ∙ ap (λ (k : ℕ). k % m) (mul_comm d c)

pub mod_back : (m x y : ℕ) → y ≤ m → ((x + (m - y)) % m + y) % m ≡ x % m
mod_back m x y h =
    let e : x + (m - y) + y ≡ x + m = omega arith in
    mod-add-mod (x + (m - y)) m y ∙ ap (λ (k : ℕ). k % m) e ∙ add-mod_right x m

module _ (m : ℕ) (pos : 0 < m) where
  -- the same of any y, by its remainder
  back : (x y : ℕ) → (x + (m - y % m) + y) % m ≡ x % m
  back x y = add-mod (x + (m - y % m)) y m ∙ mod_back m x (y % m) (omega (arith, mod-lt y pos))

  pub lacks : (x : ℕ) → (m - x % m + x) % m ≡ 0
  lacks x = ap (λ (k : ℕ). (k + x) % m) (sym (zero-add (m - x % m))) ∙ back 0 x ∙ zero-mod m

  pub mod-sub : (x y : ℕ) → ((y + x) % m + (m - y % m)) % m ≡ x % m
  mod-sub x y =
      let e : y + x + (m - y % m) ≡ x + (m - y % m) + y = omega arith in
      mod-add-mod (y + x) m (m - y % m) ∙ ap (λ (k : ℕ). k % m) e ∙ back x y

  pub mod_cancel : (x y z w : ℕ) → x % m ≡ z % m → (x + y) % m ≡ (z + w) % m → y % m ≡ w % m
  mod_cancel x y z w p e =
      sym (mod-sub y x) ∙ ap₂ (λ (s t : ℕ). (s + (m - t)) % m) e p ∙ mod-sub w z

  -- m - 1 stands for -1
  pub minus_one : (x : ℕ) → ((m - 1) * x + x) % m ≡ 0
  minus_one x =
      let one : m - 1 + 1 ≡ m = omega arith in
      let shape : (m - 1) * x + x ≡ x * (m - 1 + 1) = omega arith in
      ap (λ (y : ℕ). y % m) (shape ∙ ap (λ (k : ℕ). x * k) one) ∙ mul-mod_left x m

  -- to take x away is to add m - 1 times x
  pub minus-times : (x y : ℕ) → (y % m + (m - x % m)) % m ≡ ((m - 1) * x + y) % m
  minus-times x y =
      let z : ℕ = (m - 1) * x + y in
      let shape : x + z ≡ (m - 1) * x + x + y = omega arith in
      let same : (x + z) % m ≡ y % m = ap (λ (k : ℕ). k % m) shape
      ∙ mod-add m ((m - 1) * x + x) y 0 y (minus_one x ∙ sym (zero-mod m)) refl ∙ ap (λ (k : ℕ). k % m) (zero-add y) in
      ap (λ (k : ℕ). (k + (m - x % m)) % m) (sym same) ∙ mod-sub z x

  pub minus_one_squared : (m - 1) * (m - 1) % m ≡ 1 % m
  minus_one_squared =
      let c : ℕ = m - 1 in
      let twice : c + c * c ≡ c * c + c = omega arith in
      let once : c + 1 ≡ c * 1 + 1 = omega arith in
      mod_cancel c (c * c) c 1 refl
      (ap (λ (k : ℕ). k % m) twice ∙ minus_one c ∙ sym (minus_one 1) ∙ ap (λ (k : ℕ). k % m) (sym once))
