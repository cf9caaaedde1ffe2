-- Common divisors: `shares_divisor m x` tests whether m and x have one above 1.
--   shared           a divisor of both, above 1
--   coprime          where x has a reciprocal modulo m there is none
--   Euclid           what Euclid's algorithm keeps of two remainders: euclid_first, euclid_next, euclid_last
--   reciprocal       where none is shared, x has a reciprocal
use Rattle.std.specs.Prelude.{◌≡◌, refl, true, false, ℕ, zero, suc, ◌+◌, ◌-◌, ◌*◌, ◌/◌, ◌%◌, ◌<◌, ◌≤◌, ltb, eqb}
use Rattle.std.proofs.Common.{sym, ap, ◌∙◌, ⊎_elim, div-add-mod', mod-eq_of_lt, mod-lt, zero-mul, one-mul, mul-zero, zero-add, arith, ltb→lt, eqb→eq, lt-ltb}
use Rattle.std.proofs.Math.Nat.{mod_self, mod-zero, zero-mod}
use Rattle.definitions.specs.Partitions.{shares_divisor}
use Rattle.theory.specs.Tests.{no_test, and_left, and_right, below_or, zero_is_not_one}
use Rattle.theory.specs.Sums.{none_some, some_found}
use Rattle.theory.specs.Remainders.{lacks, mod-add, mod-mul, mod_cancel}

pub shared : (m x d : ℕ) → 0 < m → 1 < d → m % d ≡ 0 → x % d ≡ 0 → shares_divisor m x ≡ true
unfolding shares_divisor
shared m x d pos big dm dx = some_found (suc m) _ d (omega (arith, below)) (rw (lt-ltb 1 d big, dm, dx)) where
  below : d ≤ m
  below = ⊎_elim (λ (h : m < d). let z : m ≡ 0 = sym (mod-eq_of_lt h) ∙ dm in omega arith) (λ (h : d ≤ m). h) (below_or m d)

-- what divides s and r % s divides r
divides_back : (d r s : ℕ) → s % d ≡ 0 → r % s % d ≡ 0 → r % d ≡ 0
divides_back d r s ds dr =
    ap (λ (x : ℕ). x % d) (sym (div-add-mod' r s))
    ∙ mod-add d (r / s * s) (r % s) 0 0 (mod-mul d (r / s) s (r / s) 0 refl (ds ∙ sym (zero-mod d)) ∙ ap (λ (x : ℕ). x % d) (mul-zero (r / s))) (dr ∙ sym (zero-mod d))
    ∙ zero-mod d

pub coprime : (m x u : ℕ) → x * u % m ≡ 1 → shares_divisor m x ≡ false
unfolding shares_divisor
coprime m x u e = none_some (suc m) _ (λ d h. no_test _ (λ t. clash d
    (ltb→lt 1 d (and_left (ltb 1 d) _ t))
    (eqb→eq (m % d) 0 (and_left (eqb (m % d) 0) _ (and_right (ltb 1 d) _ t)))
    (eqb→eq (x % d) 0 (and_right (eqb (m % d) 0) _ (and_right (ltb 1 d) _ t)))))
  where
    -- x u = q m + 1, and d divides x and m
    clash : (d : ℕ) → 1 < d → m % d ≡ 0 → x % d ≡ 0 → ⊥
    clash d big dm dx =
        let q : ℕ = x * u / m in
        let whole : x * u ≡ q * m + 1 = sym (div-add-mod' (x * u) m) ∙ ap (λ (r : ℕ). q * m + r) e in
        let left : x * u % d ≡ 0 = mod-mul d x u 0 u (dx ∙ sym (zero-mod d)) refl ∙ ap (λ (r : ℕ). r % d) (zero-mul u) ∙ zero-mod d in
        let right : (q * m + 1) % d ≡ 1 = mod-add d (q * m) 1 0 1 (mod-mul d q m q 0 refl (dm ∙ sym (zero-mod d)) ∙ ap (λ (r : ℕ). r % d) (mul-zero q)) refl ∙ mod-eq_of_lt big in
        zero_is_not_one (sym left ∙ ap (λ (r : ℕ). r % d) whole ∙ right)

-- ---- Euclid: r and s stay multiples of x modulo m, and what divides both divides m and x

pub record Euclid (m x r s u v : ℕ) : Type 0 where
  pub larger : u * x % m ≡ r % m
  pub smaller : v * x % m ≡ s % m
  pub keeps : (d : ℕ) → r % d ≡ 0 → s % d ≡ 0 → (m % d ≡ 0) × (x % d ≡ 0)

-- how r % s is a multiple of x
euclid_step : (m : ℕ) → 0 < m → (x r s u v : ℕ) → u * x % m ≡ r % m → v * x % m ≡ s % m → (u + (m - r / s * v % m)) * x % m ≡ r % s % m
euclid_step m pos x r s u v hu hv =
    let q : ℕ = r / s in
    let w : ℕ = m - q * v % m in
    let whole : q * s + r % s ≡ r = div-add-mod' r s in
    let shape : q * (v * x) + (u + w) * x ≡ (w + q * v) * x + u * x = omega arith in
    let none : (w + q * v) * x % m ≡ 0 % m = mod-mul m (w + q * v) x 0 x (lacks m pos (q * v) ∙ sym (zero-mod m)) refl ∙ ap (λ (k : ℕ). k % m) (zero-mul x) in
    mod_cancel m pos (q * (v * x)) ((u + w) * x) (q * s) (r % s) (mod-mul m q (v * x) q s refl hv)
    (ap (λ (k : ℕ). k % m) shape ∙ mod-add m ((w + q * v) * x) (u * x) 0 r none hu ∙ ap (λ (k : ℕ). k % m) (zero-add r ∙ sym whole))

pub euclid_first : (m x : ℕ) → Euclid m x m x 0 1
euclid_first m x =
    record {
      larger = ap (λ (k : ℕ). k % m) (zero-mul x) ∙ zero-mod m ∙ sym (mod_self m);
      smaller = ap (λ (k : ℕ). k % m) (one-mul x);
      keeps = λ d dm dx. (dm, dx);
    }

module _ {m x r s u v : ℕ} (e : Euclid m x r s u v) where
  -- w is the new coefficient modulo m
  pub euclid_next : 0 < m → (w : ℕ) → w % m ≡ (u + (m - r / s * v % m)) % m → Euclid m x s (r % s) v w
  euclid_next pos w h =
      record {
        larger = e.smaller;
        smaller = mod-mul m w x _ x h refl ∙ euclid_step m pos x r s u v e.larger e.smaller;
        keeps = λ d ds dr. e.keeps d (divides_back d r s ds dr) ds;
      }

  pub euclid_last : s ≡ 0 → (m % r ≡ 0) × (x % r ≡ 0)
  euclid_last z = e.keeps r (mod_self r) (rw z (zero-mod r))

-- where m and x share no divisor, x has a reciprocal modulo m
module _ (m x : ℕ) (pos : 0 < m) (h : shares_divisor m x ≡ false) where
  -- the last divisor is not above 1
  by_divisor : (r u : ℕ) → u * x % m ≡ r % m → (m % r ≡ 0) × (x % r ≡ 0) → (u : ℕ) × (u * x % m ≡ 1 % m)
  by_divisor zero u e d = absurd (omega (arith, mod-zero m, d.0))
  by_divisor (suc zero) u e d = (u, e)
  by_divisor (suc (suc g)) u e d =
      let t : true ≡ false = sym (shared m x (suc (suc g)) pos (omega arith) d.0 d.1) ∙ h in
      absurd (zero_is_not_one (cc))

  -- s falls
  by_steps : (n r s u v : ℕ) → s ≤ n → Euclid m x r s u v → (u : ℕ) × (u * x % m ≡ 1 % m)
  by_steps zero r s u v l e = by_divisor r u e.larger (euclid_last e (omega arith))
  by_steps (suc n) r s u v l e = ⊎_elim (λ (z : s < 1). by_divisor r u e.larger (euclid_last e (omega arith)))
      (λ (k : 1 ≤ s). by_steps n s (r % s) v _ (omega (arith, mod-lt r {m = s} k)) (euclid_next e pos _ refl))
      (below_or s 1)

  pub reciprocal : (u : ℕ) × (u * x % m ≡ 1 % m)
  reciprocal = by_steps x m x 0 1 (omega arith) (euclid_first m x)
