-- The laws follow from what each call promises by itself.
use Rattle.std.specs.Prelude.{◌≡◌, Bool, List, [], ◌∷◌, ℕ, ◌*◌, ◌%◌}
use Rattle.std.proofs.Common.{sym, ap, ap₂, ◌∙◌, mod-eq_of_lt, pow_pos}
use Rattle.definitions.specs.Sums.{at}
use Rattle.definitions.specs.Products.{subset_table}
use Rattle.definitions.specs.Partitions.{exponential_table}
use Rattle.definitions.specs.Refusals.{word_if, or_else, first_word, table_word, pad_word, shared_start_word, single_number, logarithm_number, inverse_number}
use Rattle.theory.specs.Divisors.{coprime}
use Rattle.theory.specs.Tables.{exponential_first, difference_first, product_first}
use Rattle.theory.specs.Inverse.{inverse_unique}
use Rattle.theory.specs.Logarithm.{logarithm_unique}
use Rattle.theory.proofs.OfExponentials.{inverse_of_exponential, logarithm_of_product}
use Rattle.checks.specs.Accepted.{InRange, IsTable, table_accepted, start_right}
use Rattle.laws_theory.specs.Accepting.{number_of_sum, number_of_product, exponential_number_lem, logarithm_number_lem, residues_table, logarithm_table}
use Rattle.logarithm_laws.specs.Law.{Calls, Run, Factors, LogarithmsAdd, Subtracted, ExponentialInverts, Lawful}

-- A first entry of 1 passes the inverse's test, as it passes the logarithm's.
number_of_inverse : {n m : ℕ} → InRange n m → {a : List ℕ} → IsTable n m a → at a 0 ≡ 1 → (r p : ℕ)
    → inverse_number n m a r p ≡ first_word (table_word n r ∷ pad_word n p ∷ [])
unfolding inverse_number logarithm_number
number_of_inverse {n} {m} range {a} is e r p =
    ap (or_else (single_number n m a r p)) (passes ∙ sym (start_right 1 a e)) ∙ logarithm_number_lem range is r p e
  where
    passes : shared_start_word m a ≡ 0
    passes = ap (λ (b : Bool). word_if b 6) (coprime m (at a 0) 1 (ap (λ (x : ℕ). x * 1 % m) e ∙ mod-eq_of_lt range.lowest))

module _ (n m : ℕ) (E F A Z : List ℕ) (c : Calls) (run : Run n m E F A Z c) where
  logarithms_add : Factors n m E F → LogarithmsAdd n c
  logarithms_add i =
      let range : InRange n m = (table_accepted n m E i.table_E).0 in
      let e : IsTable n m E = (table_accepted n m E i.table_E).1 in
      let f : IsTable n m F = (table_accepted n m F i.table_F).1 in
      let one : at (subset_table n m E F) 0 ≡ 1 =
      product_first n m E F ∙ ap₂ (λ (x y : ℕ). x * y % m) i.first_E i.first_F ∙ mod-eq_of_lt range.lowest in
      record {
        number_of_product = run.product.made.says ∙ number_of_product range e f _ _;
        log_product_number = λ p.
            run.log_product.made.says
            ∙ logarithm_number_lem range (rw (run.product.made.holds p) (residues_table range _)) _ _ (ap (λ (t : List ℕ). at t 0) (run.product.made.holds p) ∙ one);
        log_E_number = run.log_E.made.says ∙ logarithm_number_lem range e _ _ i.first_E;
        log_F_number = run.log_F.made.says ∙ logarithm_number_lem range f _ _ i.first_F;
        number_of_sum = λ x y.
            run.sum.says
            ∙ number_of_sum range (logarithm_table range (run.log_E.made.holds x)) (logarithm_table range (run.log_F.made.holds y)) _;
        logarithm_of_product = λ p l x y s.
            logarithm_unique n m (subset_table n m E F) _ _ (rw (run.product.made.holds p) at (run.log_product.made.holds l))
            (logarithm_of_product n m E F _ _ (run.log_E.made.holds x) (run.log_F.made.holds y))
            ∙ sym (run.sum.holds s);
      }

  exponential_inverts : Subtracted n m A Z → ExponentialInverts n c
  exponential_inverts i =
      let range : InRange n m = (table_accepted n m A i.table_A).0 in
      let a : IsTable n m A = (table_accepted n m A i.table_A).1 in
      let z : IsTable n m Z = (table_accepted n m Z i.table_Z).1 in
      record {
        exp_A_number = run.exp_A.made.says ∙ exponential_number_lem range a _ _ i.first_A;
        number_of_inverse = λ x.
            run.inverse.made.says
            ∙ number_of_inverse range (rw (run.exp_A.made.holds x) (residues_table range _))
            (ap (λ (t : List ℕ). at t 0) (run.exp_A.made.holds x) ∙ exponential_first n m range.lowest A) _ _;
        difference_number = run.difference.says ∙ number_of_sum range z a _;
        exp_difference_number = λ d.
            run.exp_difference.made.says
            ∙ exponential_number_lem range (rw (run.difference.holds d) (residues_table range _)) _ _
            (ap (λ (t : List ℕ). at t 0) (run.difference.holds d) ∙ difference_first n m Z A (i.zeros_Z 0 (pow_pos n)) i.first_A);
        inverse_of_exponential = λ x v d y.
            inverse_unique n m (exponential_table n m A) _ _ (rw (run.exp_A.made.holds x) at (run.inverse.made.holds v))
            (inverse_of_exponential n m range.lowest A Z (λ S h. a.below S) z.size i.zeros_Z)
            ∙ sym (run.exp_difference.made.holds y ∙ ap (exponential_table n m) (run.difference.holds d));
      }

pub lawful : (n m : ℕ) (E F A Z : List ℕ) (c : Calls) → Run n m E F A Z c → Lawful n m E F A Z c
lawful n m E F A Z c run = record {
  run = run;
  logarithms_add = logarithms_add n m E F A Z c run;
  exponential_inverts = exponential_inverts n m E F A Z c run;
}
