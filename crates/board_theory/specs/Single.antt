-- A table with one entry, c at the nonempty set S, as a function of codes: its exponential, and the product with 1 and it.
--   single_exponential     exp (c x^S) = 1 + c x^S
--   times-single           E (1 + c x^S), entry by entry
use Rattle.std.specs.Prelude.{◌≡◌, refl, Bool, ◌⊎◌, ℕ, zero, suc, ◌+◌, ◌*◌, ◌-◌, ◌^◌, ◌<◌, ◌≤◌, eqb}
use Rattle.std.proofs.Common.{sym, ap₂, ◌∙◌, inl, inr, zero-mul, arith, eq-eqb, ne_eqb}
use Rattle.std.proofs.Math.Path.{ap}
use Rattle.std.proofs.Math.Bool.{cond}
use Rattle.definitions.specs.Sets.{inside, without}
use Rattle.definitions.specs.Products.{subset_sum}
use Rattle.definitions.specs.Partitions.{composition_sum, all_ones, unit}
use Rattle.theory.specs.Tests.{guard_zero, below_or}
use Rattle.theory.specs.Sums.{sum_only}
use Rattle.theory.specs.Semiring.{both, one-mul, zero_add}
use Rattle.theory.specs.Halves.{Table, zeros, scalar, add, mul, comp, laws, comp-zeros, tab, tab_inj, tab-add, tab-zeros, tab-unit}
use Rattle.theory.specs.Composition.{tab-comp}
use Rattle.theory.specs.Series.{subset_comm, subset_plus, subset_unit}

-- c at S and 0 elsewhere
abbrev pub single : ℕ → ℕ → ℕ → ℕ
single S c T = cond (eqb T S) c 0

single_here : (S c : ℕ) → single S c S ≡ c
single_here S c = ap (λ (b : Bool). cond b c 0) (eq-eqb S S refl)

pub single_away : (S c T : ℕ) → (T ≡ S → ⊥) → single S c T ≡ 0
single_away S c T d = ap (λ (b : Bool). cond b c 0) (ne_eqb T S d)

-- ---- by halves

-- the upper half: either it is 0, or the lower half of c x^S is
upper : (n S c : ℕ) → (S < 2 ^ n) ⊎ (2 ^ n ≤ S)
    → mul n (comp n all_ones (tab n (single S c))) (tab n (λ T. single S c (2 ^ n + T))) ≡ add n (zeros n) (tab n (λ T. single S c (2 ^ n + T)))
upper n S c (inl k) =
    rw (tab-zeros n (λ T. single S c (2 ^ n + T)) (λ T j. single_away S c (2 ^ n + T) (λ e. omega arith)))
    ((laws n).mul_zero _ ∙ sym ((laws n).add_zero _))
upper n S c (inr k) =
    rw (tab-zeros n (single S c) (λ T j. single_away S c T (λ e. omega arith)), comp-zeros n all_ones)
    (one-mul (laws n) _ ∙ sym (zero_add (laws n) _))

exp_single : (n S c : ℕ) → 0 < S → comp n all_ones (tab n (single S c)) ≡ add n (scalar n 1) (tab n (single S c))
unfolding comp tab add scalar
exp_single zero S c h = rw (single_away S c 0 (λ e. omega arith))
exp_single (suc n) S c h = both (exp_single n S c h) (upper n S c (below_or S (2 ^ n)))

-- ---- on codes

module _ (n S c : ℕ) where
  pub single_exponential : 0 < S → (T : ℕ) → T < 2 ^ n → composition_sum n all_ones (single S c) T ≡ unit T + single S c T
  single_exponential h = tab_inj n _ (λ T. unit T + single S c T)
      (sym (tab-comp n all_ones (single S c)) ∙ exp_single n S c h
      ∙ ap (λ (t : Table n). add n t (tab n (single S c))) (sym (tab-unit n)) ∙ sym (tab-add n unit (single S c)))

  -- the one pair (L, T without L) that counts is that of L = S
  only_single : S < 2 ^ n → (E : ℕ → ℕ) (T : ℕ) → subset_sum n (single S c) E T ≡ cond (inside S T) (c * E (without T S)) 0
  unfolding subset_sum
  only_single h E T =
      sum_only (2 ^ n) S (λ L. cond (inside L T) (single S c L * E (T - L)) 0) h
      (λ L k d.
      ap (λ (x : ℕ). cond (inside L T) (x * E (T - L)) 0) (single_away S c L d)
      ∙ ap (λ (x : ℕ). cond (inside L T) x 0) (zero-mul (E (T - L))) ∙ guard_zero (inside L T))
      ∙ ap (λ (x : ℕ). cond (inside S T) (x * E (T - S)) 0) (single_here S c)

  pub times-single : S < 2 ^ n → (E : ℕ → ℕ) (T : ℕ) → T < 2 ^ n
      → subset_sum n E (λ R. unit R + single S c R) T ≡ E T + cond (inside S T) (c * E (without T S)) 0
  times-single h E T k =
      subset_plus n E unit (single S c) T k
      ∙ ap₂ ◌+◌ (subset_unit n E T k) (subset_comm n E (single S c) T k ∙ only_single h E T)
