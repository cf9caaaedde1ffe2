-- Tests (Bool) and the guarded terms `cond test x 0`.
--   same_test, no_test, yes_test    a test by what it implies
--   and_left, and_right, and_both   the tests that `&&` joins, as proofs; and_true_left, .. as equations
--   below_or                        a number is below a bound or not
--   zero_is_not_one                 for two constructors that cannot be the same: `cc` proves 0 = 1 of them
--   guard_ext, guard_zero           guarded terms
use Rattle.std.specs.Prelude.{◌≡◌, refl, Bool, true, false, cond, ◌&&◌, ◌⊎◌, ℕ, ◌<◌, ◌≤◌, T}
use Rattle.std.proofs.Common.{inl, inr, arith}
use Rattle.std.proofs.Math.Decide.{dec_lt}

pub same_test : (b c : Bool) → (T b → T c) → (T c → T b) → b ≡ c
same_test true true f g = refl
same_test true false f g = absurd (f tt)
same_test false true f g = absurd (g tt)
same_test false false f g = refl

pub no_test : (b : Bool) → (T b → ⊥) → b ≡ false
no_test b f = same_test b false f absurd

pub yes_test : (b : Bool) → T b → b ≡ true
yes_test b t = same_test b true (λ s. tt) (λ s. t)

pub and_left : (b c : Bool) → T (b && c) → T b
and_left true c t = tt
and_left false c t = t

pub and_right : (b c : Bool) → T (b && c) → T c
and_right true c t = t
and_right false c t = absurd t

pub and_both : (b c : Bool) → T b → T c → T (b && c)
and_both true c s t = t
and_both false c s t = s

pub and_true_left : (b c : Bool) → (b && c) ≡ true → b ≡ true
and_true_left true c e = refl
and_true_left false c e = e

pub and_true_right : (b c : Bool) → (b && c) ≡ true → c ≡ true
and_true_right true c e = e
and_true_right false c e = cc

pub zero_is_not_one : ◌≡◌ {A = ℕ} 0 1 → ⊥
zero_is_not_one e = omega arith

pub below_or : (c m : ℕ) → (c < m) ⊎ (m ≤ c)
below_or c m = elim (dec_lt c m) [ yes h ↦ inl h | no k ↦ inr (omega arith) ]

-- a guarded term changes where its guard holds only
pub guard_ext : (b : Bool) (x y : ℕ) → (T b → x ≡ y) → cond b x 0 ≡ cond b y 0
guard_ext true x y h = h tt
guard_ext false x y h = refl

pub guard_zero : (b : Bool) → ◌≡◌ {A = ℕ} (cond b 0 0) 0
guard_zero true = refl
guard_zero false = refl
