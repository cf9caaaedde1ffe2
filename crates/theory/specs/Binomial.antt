-- The binomial product of rows: Σ over j ≤ i of C(i, j) f(j) g(i - j), where C(i, j) counts sets.
--   choose_none, choose_zero, choose_step    Pascal's rule for the counts; choose-over: none beyond
--   binomial_step                            the same, summed
--   conv_binomial                            the product by Leibniz's rule is the product by the sum
use Rattle.std.specs.Prelude.{◌≡◌, refl, Bool, cond, ℕ, zero, suc, ◌+◌, ◌*◌, ◌-◌, ◌^◌, ◌<◌, eqb}
use Rattle.std.proofs.Common.{sym, ap, ap₂, ◌∙◌, add_comm, zero-mul, add-mul, arith}
use Rattle.std.proofs.Math.Nat.{suc-sub-suc}
use Rattle.std.specs.Int.Count.{ones}
use Rattle.std.proofs.Math.Dec.{eqb-zero-suc, eqb-suc-zero, eqb-suc-suc}
use Rattle.definitions.specs.Sums.{sum, count}
use Rattle.definitions.specs.Sets.{size}
use Rattle.definitions.specs.Rows.{choose, binomial_sum}
use Rattle.theory.specs.Sums.{sum_ext, sum_zero, sum-last, sum-plus, sum_front, count_ext, count_halves}
use Rattle.theory.specs.Codes.{size_top}
use Rattle.theory.specs.Halves.{Row, shift, conv}

-- ---- Pascal's rule: a set of j + 1 of the i + 1 things has the top one with j others, or j + 1 without it

-- the sets with the top thing
with_top : (i j : ℕ) → count (2 ^ i) (λ S. eqb (size (2 ^ i + S)) j) ≡ count (2 ^ i) (λ S. eqb (suc (size S)) j)
with_top i j = count_ext (2 ^ i) _ _ (λ S h. ap (λ (k : ℕ). eqb k j) (size_top i S h))

pub choose_step : (i j : ℕ) → choose (suc i) (suc j) ≡ choose i j + choose i (suc j)
unfolding choose
choose_step i j =
    count_halves i _
    ∙ ap (λ (k : ℕ). choose i (suc j) + k) (with_top i (suc j) ∙ count_ext (2 ^ i) _ _ (λ S h. eqb-suc-suc (size S) j))
    ∙ add_comm _ _

pub choose_none : (i : ℕ) → choose i 0 ≡ 1
unfolding choose count sum ones
choose_none zero = refl
choose_none (suc i) =
    count_halves i (λ S. eqb (size S) 0)
    ∙ ap₂ ◌+◌ (choose_none i) (with_top i 0 ∙ sum_zero (2 ^ i) _ (λ S h. ap (λ (b : Bool). cond b 1 0) (eqb-suc-zero (size S))))

pub choose_zero : (j : ℕ) → choose 0 (suc j) ≡ 0
unfolding choose count sum ones
choose_zero j = rw (eqb-zero-suc j)

pub choose_over : (n k : ℕ) → n < k → choose n k ≡ 0
choose_over n zero h = omega arith
choose_over zero (suc k) h = choose_zero k
choose_over (suc n) (suc k) h = choose_step n k ∙ ap₂ ◌+◌ (choose_over n k (omega arith)) (choose_over n (suc k) (omega arith))

-- Pascal's rule, summed
pub binomial_step : (f g : Row) (i : ℕ) → binomial_sum f g (suc i) ≡ binomial_sum (shift f) g i + binomial_sum f (shift g) i
unfolding binomial_sum
binomial_step f g i =
    let t : ℕ → ℕ = λ j. choose (suc i) j * (f j * g (suc i - j)) in
    let u : ℕ → ℕ = λ j. choose i j * (f j * g (suc i - j)) in
    let v : ℕ → ℕ = λ j. choose i j * (f (suc j) * g (i - j)) in
    let split : sum (suc i) (λ j. t (suc j)) ≡ sum (suc i) v + sum (suc i) (λ j. u (suc j)) =
    sum_ext (suc i) (λ j. t (suc j)) (λ j. v j + u (suc j)) (λ j h. rw (suc-sub-suc i j, choose_step i j, add-mul)) ∙ sum-plus (suc i) v (λ j. u (suc j)) in
    let same : sum (suc i) u ≡ binomial_sum f (shift g) i =
    sum_ext (suc i) u (λ j. choose i j * (f j * g (suc (i - j)))) (λ j h. ap (λ (k : ℕ). choose i j * (f j * g k)) (omega arith)) in
    let over : u (suc i) ≡ 0 = rw (choose_over i (suc i) (omega arith)) (zero-mul _) in
    let last : sum (suc (suc i)) u ≡ sum (suc i) u + u (suc i) = sum-last (suc i) u in
    let heads : t 0 ≡ u 0 = rw (choose_none (suc i), choose_none i) in
    omega (arith, sum_front (suc i) t, sum_front (suc i) u)

pub conv_binomial : (i : ℕ) (f g : Row) → conv f g i ≡ binomial_sum f g i
unfolding conv binomial_sum sum
conv_binomial zero f g = rw (choose_none 0) (omega arith)
conv_binomial (suc i) f g = ap₂ ◌+◌ (conv_binomial i (shift f) g) (conv_binomial i f (shift g)) ∙ sym (binomial_step f g i)
