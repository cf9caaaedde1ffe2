-- The subset product on codes is the product of tables by halves.
--   subset_lo, subset_hi    at a set without the top control, and with it
--   subset_empty            at the empty set
--   tab-mul                 on whole tables
use Rattle.std.specs.Prelude.{◌≡◌}
use Rattle.std.proofs.Common.{sym, ◌∙◌, zero-add, arith, pow_pos}
use Rattle.std.proofs.Math.Path.{ap, ap₂}
use Prim.Native.Nat.{ℕ, zero, suc, ◌+◌, ◌*◌, ◌^◌, ◌<◌}
use Rattle.std.proofs.Math.Bool.{cond}
use Rattle.std.proofs.Math.Nat.{add-zero}
use Rattle.definitions.specs.Sums.{sum}
use Rattle.definitions.specs.Sets.{inside}
use Rattle.definitions.specs.Products.{subset_sum}
use Rattle.theory.specs.Tests.{guard_ext}
use Rattle.theory.specs.Sums.{sum_ext, sum_zero, sum_halves}
use Rattle.theory.specs.Codes.{inside-le, inside_hh, inside_lh, inside_hl}
use Rattle.theory.specs.Semiring.{both}
use Rattle.theory.specs.Halves.{add, mul, tab, tab_ext, tab-add}

module _ (n : ℕ) (A B : ℕ → ℕ) (S : ℕ) (hs : S < 2 ^ n) where
  pub subset_lo : subset_sum (suc n) A B S ≡ subset_sum n A B S
  unfolding subset_sum
  subset_lo = sum_halves n _ ∙ ap (λ (k : ℕ). subset_sum n A B S + k) (sum_zero (2 ^ n) _ (λ L h. rw (inside_hl n L S h hs))) ∙ add-zero _

  pub subset_hi : subset_sum (suc n) A B (2 ^ n + S) ≡ subset_sum n A (λ c. B (2 ^ n + c)) S + subset_sum n (λ c. A (2 ^ n + c)) B S
  unfolding subset_sum
  subset_hi = sum_halves n _ ∙ ap₂ ◌+◌
      (sum_ext (2 ^ n) _ _ (λ L h. rw (inside_lh n L S h hs) (guard_ext (inside L S) _ _ (λ t. let e = inside-le L S t in ap (λ (k : ℕ). A L * B k) (omega arith)))))
      (sum_ext (2 ^ n) _ _ (λ L h. rw (inside_hh n L S h hs) (ap (λ (k : ℕ). cond (inside L S) (A (2 ^ n + L) * B k) 0) (omega arith))))

-- at the empty set, the product of the first entries
pub subset_empty : (n : ℕ) (A B : ℕ → ℕ) → subset_sum n A B 0 ≡ A 0 * B 0
unfolding subset_sum sum inside
subset_empty zero A B = zero-add _
subset_empty (suc n) A B = subset_lo n A B 0 (pow_pos n) ∙ subset_empty n A B

pub tab-mul : (n : ℕ) (A B : ℕ → ℕ) → mul n (tab n A) (tab n B) ≡ tab n (subset_sum n A B)
unfolding tab mul subset_sum sum inside
tab-mul zero A B = sym (zero-add _)
tab-mul (suc n) A B = both
    (tab-mul n A B ∙ sym (tab_ext n _ _ (λ S h. subset_lo n A B S h)))
    (ap₂ (add n) (tab-mul n A _) (tab-mul n _ B) ∙ sym (tab-add n _ _) ∙ sym (tab_ext n _ _ (λ S h. subset_hi n A B S h)))
