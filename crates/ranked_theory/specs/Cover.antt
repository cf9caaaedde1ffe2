-- The product over unions, by ranks: cover q f g at u and k is the sum of f J i · g K j over all codes J, K below 2 ^ q with
-- J ∪ K = u and i + j = k. It is bilinear, which is why the ranked recursion is right. Functions are of a code and a rank.
--   cover-low, cover-high     by the top control
--   cover-both                what the upper half of the recursion holds before its subtraction
--   Upto, From, Ranks         within which ranks a function is not 0
--   cover_upto, cover-from    within which ranks its product is not 0
use Rattle.std.specs.Prelude.{◌≡◌, Bool, true, false, cond, ℕ, zero, suc, ◌+◌, ◌-◌, ◌^◌, ◌<◌, ltb}
use Rattle.std.proofs.Common.{ap, ◌∙◌, arith, lt-ltb, le-ltb}
use Rattle.std.proofs.Math.Nat.{add-sub_cancel_left}
use Rattle.std.proofs.Math.Arith.{lt-one}
use Rattle.std.specs.Int.Count.{ones}
use Rattle.definitions.specs.Sets.{size}
use Rattle.theory.specs.Codes.{by_top, size_top}
use Rattle.ranked_theory.specs.Convolution.{conv, conv_add_left, conv_add_right, conv_past, conv_before}

-- the upper half of a function of codes below 2 ^ (p + 1)
abbrev pub hi : ℕ → (ℕ → ℕ → ℕ) → ℕ → ℕ → ℕ
hi p f u k = f (2 ^ p + u) k

-- its two halves added
abbrev pub both : ℕ → (ℕ → ℕ → ℕ) → ℕ → ℕ → ℕ
both p f u k = f u k + f (2 ^ p + u) k

unfoldable pub cover : ℕ → (ℕ → ℕ → ℕ) → (ℕ → ℕ → ℕ) → ℕ → ℕ → ℕ
cover zero f g u k = conv (f u) (g u) k
cover (suc p) f g u k =
    cond (ltb u (2 ^ p)) (cover p f g u k)
    (cover p (hi p f) g (u - 2 ^ p) k + (cover p f (hi p g) (u - 2 ^ p) k + cover p (hi p f) (hi p g) (u - 2 ^ p) k))

pub cover-low : (p : ℕ) (f g : ℕ → ℕ → ℕ) (u k : ℕ) → u < 2 ^ p → cover (suc p) f g u k ≡ cover p f g u k
unfolding cover
cover-low p f g u k h = rw (lt-ltb u (2 ^ p) h)

pub cover-high : (p : ℕ) (f g : ℕ → ℕ → ℕ) (u k : ℕ)
    → cover (suc p) f g (2 ^ p + u) k ≡ cover p (hi p f) g u k + (cover p f (hi p g) u k + cover p (hi p f) (hi p g) u k)
unfolding cover
cover-high p f g u k = rw (le-ltb (2 ^ p + u) (2 ^ p) (omega arith), add-sub_cancel_left (2 ^ p) u)

-- ---- bilinear

cond-add : (b : Bool) (x x₁ x₂ y y₁ y₂ : ℕ) → x ≡ x₁ + x₂ → y ≡ y₁ + y₂ → cond b x y ≡ cond b x₁ y₁ + cond b x₂ y₂
cond-add true x x₁ x₂ y y₁ y₂ p q = p
cond-add false x x₁ x₂ y y₁ y₂ p q = q

three : (a b c a₁ b₁ c₁ a₂ b₂ c₂ : ℕ) → a ≡ a₁ + a₂ → b ≡ b₁ + b₂ → c ≡ c₁ + c₂ → a + (b + c) ≡ a₁ + (b₁ + c₁) + (a₂ + (b₂ + c₂))
three a b c a₁ b₁ c₁ a₂ b₂ c₂ p q r = omega arith

pub cover_add_left : (p : ℕ) (f f' g : ℕ → ℕ → ℕ) (u k : ℕ) → cover p (λ v j. f v j + f' v j) g u k ≡ cover p f g u k + cover p f' g u k
unfolding cover
cover_add_left zero f f' g u k = conv_add_left (f u) (f' u) (g u) k
cover_add_left (suc p) f f' g u k =
    let v = u - 2 ^ p in
    let a = cover_add_left p (hi p f) (hi p f') g v k in
    let b = cover_add_left p f f' (hi p g) v k in
    let c = cover_add_left p (hi p f) (hi p f') (hi p g) v k in
    cond-add (ltb u (2 ^ p)) _ _ _ _ _ _ (cover_add_left p f f' g u k) (three _ _ _ _ _ _ _ _ _ a b c)

pub cover_add_right : (p : ℕ) (f g g' : ℕ → ℕ → ℕ) (u k : ℕ) → cover p f (λ v j. g v j + g' v j) u k ≡ cover p f g u k + cover p f g' u k
unfolding cover
cover_add_right zero f g g' u k = conv_add_right (f u) (g u) (g' u) k
cover_add_right (suc p) f g g' u k =
    let v = u - 2 ^ p in
    let a = cover_add_right p (hi p f) g g' v k in
    let b = cover_add_right p f (hi p g) (hi p g') v k in
    let c = cover_add_right p (hi p f) (hi p g) (hi p g') v k in
    cond-add (ltb u (2 ^ p)) _ _ _ _ _ _ (cover_add_right p f g g' u k) (three _ _ _ _ _ _ _ _ _ a b c)

-- what the upper half holds before the subtraction: the lower half's value, and what is wanted
pub cover-both : (p : ℕ) (f g : ℕ → ℕ → ℕ) (u k : ℕ) → cover p (both p f) (both p g) u k ≡ cover p f g u k + cover (suc p) f g (2 ^ p + u) k
cover-both p f g u k =
    let a = cover_add_left p f (hi p f) (both p g) u k in
    let b = cover_add_right p f g (hi p g) u k in
    let c = cover_add_right p (hi p f) g (hi p g) u k in
    let d = cover-high p f g u k in
    omega arith

-- ---- ranks: at most |u| + d, and at least |u| + l

pub no_control : (u : ℕ) → u < 2 ^ 0 → size u ≡ 0
unfolding ones
no_control u h = ap size (lt-one h)

abbrev pub Upto : ℕ → ℕ → (ℕ → ℕ → ℕ) → Type 0
Upto p d f = (u k : ℕ) → u < 2 ^ p → size u + d < k → f u k ≡ 0

abbrev pub From : ℕ → ℕ → (ℕ → ℕ → ℕ) → Type 0
From p l f = (u k : ℕ) → u < 2 ^ p → k < size u + l → f u k ≡ 0

pub upto_low : (p d : ℕ) (f : ℕ → ℕ → ℕ) → Upto (suc p) d f → Upto p d f
upto_low p d f h u k l g = h u k (omega arith) g

pub upto_high : (p d : ℕ) (f : ℕ → ℕ → ℕ) → Upto (suc p) d f → Upto p (d + 1) (hi p f)
upto_high p d f h u k l g = let e = size_top p u l in h (2 ^ p + u) k (omega arith) (omega arith)

pub from_low : (p l : ℕ) (f : ℕ → ℕ → ℕ) → From (suc p) l f → From p l f
from_low p l f h u k lt g = h u k (omega arith) g

pub from-high : (p l : ℕ) (f : ℕ → ℕ → ℕ) → From (suc p) l f → From p (l + 1) (hi p f)
from-high p l f h u k lt g = let e = size_top p u lt in h (2 ^ p + u) k (omega arith) (omega arith)

pub cover_upto : (p d d' : ℕ) (f g : ℕ → ℕ → ℕ) → Upto p d f → Upto p d' g → (u : ℕ) → u < 2 ^ p → (k : ℕ) → size u + d + (size u + d') < k → cover p f g u k ≡ 0
unfolding cover
cover_upto zero d d' f g hf hg u lu k h = conv_past (size u + d) (size u + d') (f u) (g u) (λ i. hf u i lu) (λ i. hg u i lu) k h
cover_upto (suc p) d d' f g hf hg u₀ lu₀ k₀ h₀ =
    by_top p u₀ (λ u. (k : ℕ) → size u + d + (size u + d') < k → cover (suc p) f g u k ≡ 0) lu₀
    (λ lu k h. cover-low p f g u₀ k lu ∙ cover_upto p d d' f g (upto_low p d f hf) (upto_low p d' g hg) u₀ lu k h)
    (λ u lu k h.
    let e = size_top p u lu in
    let a = cover_upto p (d + 1) d' (hi p f) g (upto_high p d f hf) (upto_low p d' g hg) u lu k (omega arith) in
    let b = cover_upto p d (d' + 1) f (hi p g) (upto_low p d f hf) (upto_high p d' g hg) u lu k (omega arith) in
    let c = cover_upto p (d + 1) (d' + 1) (hi p f) (hi p g) (upto_high p d f hf) (upto_high p d' g hg) u lu k (omega arith) in
    let q = cover-high p f g u k in
    omega arith)
    k₀ h₀

pub cover-from : (p l l' : ℕ) (f g : ℕ → ℕ → ℕ) → From p l f → From p l' g → (u : ℕ) → u < 2 ^ p → (k : ℕ) → k < size u + l + l' → cover p f g u k ≡ 0
unfolding cover
cover-from zero l l' f g hf hg u lu k h =
    let z = no_control u lu in
    conv_before (size u + l) (size u + l') (f u) (g u) (λ i. hf u i lu) (λ i. hg u i lu) k (omega arith)
cover-from (suc p) l l' f g hf hg u₀ lu₀ k₀ h₀ =
    by_top p u₀ (λ u. (k : ℕ) → k < size u + l + l' → cover (suc p) f g u k ≡ 0) lu₀
    (λ lu k h. cover-low p f g u₀ k lu ∙ cover-from p l l' f g (from_low p l f hf) (from_low p l' g hg) u₀ lu k h)
    (λ u lu k h.
    let e = size_top p u lu in
    let a = cover-from p (l + 1) l' (hi p f) g (from-high p l f hf) (from_low p l' g hg) u lu k (omega arith) in
    let b = cover-from p l (l' + 1) f (hi p g) (from_low p l f hf) (from-high p l' g hg) u lu k (omega arith) in
    let c = cover-from p (l + 1) (l' + 1) (hi p f) (hi p g) (from-high p l f hf) (from-high p l' g hg) u lu k (omega arith) in
    let q = cover-high p f g u k in
    omega arith)
    k₀ h₀

-- f u is 0 but at the ranks from |u| to |u| + d
pub record Ranks (q d : ℕ) (f : ℕ → ℕ → ℕ) : Type 0 where
  pub from : From q 0 f
  pub upto : Upto q d f

pub ranks_low : (p d : ℕ) (f : ℕ → ℕ → ℕ) → Ranks (suc p) d f → Ranks p d f
ranks_low p d f h = record { from = from_low p 0 f h.from; upto = upto_low p d f h.upto }

pub ranks_both : (p d : ℕ) (f : ℕ → ℕ → ℕ) → Ranks (suc p) d f → Ranks p (d + 1) (both p f)
ranks_both p d f h =
    record {
      from = λ u k l o.
          let a = h.from u k (omega arith) o in
          let b = from-high p 0 f h.from u k l (omega arith) in
          omega arith;
      upto = λ u k l o.
          let a = h.upto u k (omega arith) (omega arith) in
          let b = upto_high p d f h.upto u k l o in
          omega arith;
    }
