-- The laws of set power series on functions of codes (a list A gives `at A`), exact and modulo m.
--   subset_comm, subset_assoc, subset_plus, subset_unit    the subset product
--   exponential_plus       the exponential of a sum is the product of the exponentials
--   exponential_nothing    the exponential of zeros is the unit
--   composition_binomial   composition takes the binomial product of rows to the subset product
--   subset_mod, composition_mod    both respect equality modulo m
use Rattle.std.specs.Prelude.{◌≡◌, ℕ, ◌+◌, ◌%◌, ◌^◌, ◌<◌, ◌≤◌}
use Rattle.std.proofs.Common.{sym, ap, ◌∙◌}
use Rattle.std.proofs.Math.Path.{fun_ext}
use Rattle.definitions.specs.Products.{subset_sum}
use Rattle.definitions.specs.Rows.{binomial_sum}
use Rattle.definitions.specs.Partitions.{composition_sum, all_ones, unit}
use Rattle.theory.specs.Halves.{Row, conv, comp, laws, exp_add, comp-conv, comp-zeros, tab_inj, tab-add, tab-zeros, tab-unit}
use Rattle.theory.specs.Product.{tab-mul}
use Rattle.theory.specs.Composition.{tab-comp}
use Rattle.theory.specs.Binomial.{conv_binomial}
use Rattle.theory.specs.Congruence.{mul-same, comp-same, same_at, at_same}

module _ (n : ℕ) where
  pub subset_comm : (A B : ℕ → ℕ) (S : ℕ) → S < 2 ^ n → subset_sum n A B S ≡ subset_sum n B A S
  subset_comm A B = tab_inj n _ _ (rw (← tab-mul n A B, ← tab-mul n B A) ((laws n).mul_comm _ _))

  pub subset_assoc : (A B C : ℕ → ℕ) (S : ℕ) → S < 2 ^ n → subset_sum n (subset_sum n A B) C S ≡ subset_sum n A (subset_sum n B C) S
  subset_assoc A B C = tab_inj n _ _
      (rw (← tab-mul n (subset_sum n A B) C, ← tab-mul n A B, ← tab-mul n A (subset_sum n B C), ← tab-mul n B C) ((laws n).mul_assoc _ _ _))

  pub subset_plus : (A B C : ℕ → ℕ) (S : ℕ) → S < 2 ^ n → subset_sum n A (λ c. B c + C c) S ≡ subset_sum n A B S + subset_sum n A C S
  subset_plus A B C = tab_inj n _ (λ c. subset_sum n A B c + subset_sum n A C c)
      (rw (tab-add n (subset_sum n A B) (subset_sum n A C), ← tab-mul n A B, ← tab-mul n A C, ← tab-mul n A (λ c. B c + C c), tab-add n B C) ((laws n).mul_add _ _ _))

  pub subset_unit : (A : ℕ → ℕ) (S : ℕ) → S < 2 ^ n → subset_sum n A unit S ≡ A S
  subset_unit A = tab_inj n _ _ (rw (← tab-mul n A unit, tab-unit n) ((laws n).mul_one _))

  pub exponential_plus : (A B : ℕ → ℕ) (S : ℕ) → S < 2 ^ n
      → composition_sum n all_ones (λ c. A c + B c) S ≡ subset_sum n (composition_sum n all_ones A) (composition_sum n all_ones B) S
  exponential_plus A B = tab_inj n _ _
      (rw (← tab-mul n (composition_sum n all_ones A) (composition_sum n all_ones B), ← tab-comp n all_ones A, ← tab-comp n all_ones B, ← tab-comp n all_ones (λ c. A c + B c), tab-add n A B)
      (exp_add n _ _))

  pub exponential_nothing : (A : ℕ → ℕ) → ((S : ℕ) → S < 2 ^ n → A S ≡ 0) → (S : ℕ) → S < 2 ^ n → composition_sum n all_ones A S ≡ unit S
  exponential_nothing A z = tab_inj n _ _
      (sym (tab-comp n all_ones A) ∙ ap (comp n all_ones) (tab-zeros n A z) ∙ comp-zeros n all_ones ∙ sym (tab-unit n))

  pub composition_binomial : (f g : Row) (A : ℕ → ℕ) (S : ℕ) → S < 2 ^ n
      → composition_sum n (binomial_sum f g) A S ≡ subset_sum n (composition_sum n f A) (composition_sum n g A) S
  composition_binomial f g A = tab_inj n _ _
      (rw (← fun_ext (λ i. conv_binomial i f g), ← tab-mul n (composition_sum n f A) (composition_sum n g A), ← tab-comp n f A, ← tab-comp n g A, ← tab-comp n (conv f g) A)
      (comp-conv n f g _))

  module _ (m : ℕ) where
    pub subset_mod : (A B C D : ℕ → ℕ) → ((S : ℕ) → S < 2 ^ n → A S % m ≡ C S % m) → ((S : ℕ) → S < 2 ^ n → B S % m ≡ D S % m)
        → (S : ℕ) → S < 2 ^ n → subset_sum n A B S % m ≡ subset_sum n C D S % m
    subset_mod A B C D p q = same_at m n _ _
        (rw (← tab-mul n A B, ← tab-mul n C D) (mul-same m n _ _ _ _ (at_same m n A C p) (at_same m n B D q)))

    pub composition_mod : (f g : Row) (A B : ℕ → ℕ) → ((k : ℕ) → k ≤ n → f k % m ≡ g k % m) → ((S : ℕ) → S < 2 ^ n → A S % m ≡ B S % m)
        → (S : ℕ) → S < 2 ^ n → composition_sum n f A S % m ≡ composition_sum n g B S % m
    composition_mod f g A B p q = same_at m n _ _
        (rw (← tab-comp n f A, ← tab-comp n g B) (comp-same m n f g _ _ p (at_same m n A B q)))
