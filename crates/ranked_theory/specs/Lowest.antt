-- Of a ranked table, the product over unions at the rank |h| is the subset product at h: at the lowest rank that two sets with
-- union h can have together, they are disjoint.
--   ranked              01's table A as a function of a code and a rank
--   ranked_ranks        its ranks
--   cover-ranked        the product of two
use Rattle.std.specs.Prelude.{◌≡◌, cond, ℕ, zero, suc, ◌+◌, ◌*◌, ◌^◌, ◌<◌, eqb}
use Rattle.std.proofs.Common.{sym, ap, ap₂, ◌∙◌, add-zero, zero-add, add_comm, arith, eq-eqb, ne_eqb}
use Rattle.std.proofs.Math.Arith.{lt-one}
use Rattle.definitions.specs.Sums.{sum}
use Rattle.definitions.specs.Sets.{size, inside}
use Rattle.definitions.specs.Products.{subset_sum}
use Rattle.theory.specs.Codes.{by_top, size_top}
use Rattle.theory.specs.Product.{subset_lo, subset_hi}
use Rattle.ranked_theory.specs.Convolution.{conv, conv_lowest}
use Rattle.ranked_theory.specs.Cover.{hi, cover, cover-low, cover-high, cover-from, From, from_low, from-high, Ranks, no_control}

-- the upper half of a table
abbrev up : ℕ → (ℕ → ℕ) → ℕ → ℕ
up p A u = A (2 ^ p + u)

-- f u starts with A u, at the rank |u| + l
pub record Starts (p l : ℕ) (f : ℕ → ℕ → ℕ) (A : ℕ → ℕ) : Type 0 where
  pub from : From p l f
  pub lowest : (u : ℕ) → u < 2 ^ p → f u (size u + l) ≡ A u

starts_low : (p l : ℕ) (f : ℕ → ℕ → ℕ) (A : ℕ → ℕ) → Starts (suc p) l f A → Starts p l f A
starts_low p l f A h = record { from = from_low p l f h.from; lowest = λ u lu. h.lowest u (omega arith) }

starts_high : (p l : ℕ) (f : ℕ → ℕ → ℕ) (A : ℕ → ℕ) → Starts (suc p) l f A → Starts p (l + 1) (hi p f) (up p A)
starts_high p l f A h =
    record {
      from = from-high p l f h.from;
      lowest = λ u lu.
          let e = size_top p u lu in
          let q : size u + (l + 1) ≡ size (2 ^ p + u) + l = omega arith in
          ap (f (2 ^ p + u)) q ∙ h.lowest (2 ^ p + u) (omega arith);
    }

-- of one entry
subset_one : (A B : ℕ → ℕ) (u : ℕ) → u < 2 ^ 0 → A u * B u ≡ subset_sum 0 A B u
unfolding subset_sum sum inside
subset_one A B u h = rw (lt-one h) (sym (zero-add (A 0 * B 0)))

pub cover_lowest : (p l l' : ℕ) (f g : ℕ → ℕ → ℕ) (A B : ℕ → ℕ) → Starts p l f A → Starts p l' g B
    → (u : ℕ) → u < 2 ^ p → cover p f g u (size u + l + l') ≡ subset_sum p A B u
unfolding cover
cover_lowest zero l l' f g A B hf hg u lu =
    let z = no_control u lu in
    let q : size u + l + l' ≡ size u + l + (size u + l') = omega arith in
    ap (conv (f u) (g u)) q
    ∙ conv_lowest (size u + l) (size u + l') (f u) (g u) (λ k. hf.from u k lu) (λ k. hg.from u k lu)
    ∙ ap₂ ◌*◌ (hf.lowest u lu) (hg.lowest u lu) ∙ subset_one A B u lu
cover_lowest (suc p) l l' f g A B hf hg u₀ lu₀ =
    by_top p u₀ (λ u. cover (suc p) f g u (size u + l + l') ≡ subset_sum (suc p) A B u) lu₀
    (λ lu.
    cover-low p f g u₀ (size u₀ + l + l') lu ∙ cover_lowest p l l' f g A B (starts_low p l f A hf) (starts_low p l' g B hg) u₀ lu
    ∙ sym (subset_lo p A B u₀ lu))
    (λ u lu.
    let e = size_top p u lu in
    let k = size (2 ^ p + u) + l + l' in
    let q₁ : k ≡ size u + (l + 1) + l' = omega arith in
    let q₂ : k ≡ size u + l + (l' + 1) = omega arith in
    let fh = starts_high p l f A hf in
    let gh = starts_high p l' g B hg in
    let a = ap (cover p (hi p f) g u) q₁ ∙ cover_lowest p (l + 1) l' (hi p f) g (up p A) B fh (starts_low p l' g B hg) u lu in
    let b = ap (cover p f (hi p g) u) q₂ ∙ cover_lowest p l (l' + 1) f (hi p g) A (up p B) (starts_low p l f A hf) gh u lu in
    let c = cover-from p (l + 1) (l' + 1) (hi p f) (hi p g) fh.from gh.from u lu k (omega arith) in
    cover-high p f g u k ∙ ap₂ ◌+◌ a (ap₂ ◌+◌ b c ∙ add-zero _) ∙ add_comm _ _ ∙ sym (subset_hi p A B u lu))

-- ---- a ranked table

abbrev pub ranked : (ℕ → ℕ) → ℕ → ℕ → ℕ
ranked A u k = cond (eqb (size u) k) (A u) 0

pub ranked_on : (A : ℕ → ℕ) (u k : ℕ) → size u ≡ k → ranked A u k ≡ A u
ranked_on A u k h = rw (eq-eqb (size u) k h)

ranked_off : (A : ℕ → ℕ) (u k : ℕ) → (size u ≡ k → ⊥) → ranked A u k ≡ 0
ranked_off A u k h = rw (ne_eqb (size u) k h)

pub ranked_ranks : (n : ℕ) (A : ℕ → ℕ) → Ranks n 0 (ranked A)
ranked_ranks n A =
    record { from = λ u k lu h. ranked_off A u k (λ e. omega arith); upto = λ u k lu h. ranked_off A u k (λ e. omega arith) }

ranked_starts : (n : ℕ) (A : ℕ → ℕ) → Starts n 0 (ranked A) A
ranked_starts n A =
    record { from = λ u k lu h. ranked_off A u k (λ e. omega arith); lowest = λ u lu. ranked_on A u (size u + 0) (omega arith) }

pub cover-ranked : (n : ℕ) (A B : ℕ → ℕ) (h : ℕ) → h < 2 ^ n → cover n (ranked A) (ranked B) h (size h) ≡ subset_sum n A B h
cover-ranked n A B h lh =
    let q : size h ≡ size h + 0 + 0 = omega arith in
    ap (cover n (ranked A) (ranked B) h) q
    ∙ cover_lowest n 0 0 (ranked A) (ranked B) A B (ranked_starts n A) (ranked_starts n B) h lh
