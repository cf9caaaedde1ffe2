-- Demand 3 follows from what each call promises by itself.
use Rattle.std.specs.Prelude.{◌≡◌, refl, List, ℕ}
use Rattle.std.proofs.Common.{sym, ap, ap₂, ◌∙◌}
use Rattle.definitions.specs.Sums.{at}
use Rattle.definitions.specs.Products.{residues, subset_table}
use Rattle.definitions.specs.Partitions.{composition_table, exponential_table}
use Rattle.definitions.specs.Refusals.{after, pad_after}
use Rattle.theory.specs.Logarithm.{logarithm_unique}
use Rattle.theory.specs.Entries.{at_below}
use Rattle.theory.specs.Tables.{exponential_of_sum, composition_of_product, exponential_first, sum_first}
use Rattle.checks.specs.Words.{refused_list}
use Rattle.checks.specs.Accepted.{InRange, IsTable, IsRow, table_accepted, row_accepted}
use Rattle.laws_theory.specs.Calls.{Call, Done, Made, MadeInPad}
use Rattle.laws_theory.specs.Demand.{Calls, Run, Inputs, Demand3, Laws}
use Rattle.laws_theory.specs.Accepting.{number_of_sum, number_of_binomial, number_of_product, exponential_number_lem, logarithm_number_lem, number_of_composition, residues_table, binomial_row_lem, logarithm_table}

-- ---- a call's promises, from its contract

module _ {number : ℕ} (c : Call) (says : c.number ≡ number) where
  -- the logarithm's contract says which table its result is, and what is known of it
  made_with : {Right : List ℕ → Type 0} (table : List ℕ) → c.result ≡ after c.number table c.lent → (Done c → Right c.result)
      → Made number Right c
  made_with table e right = record { says = says; holds = right; kept = λ no. e ∙ sym (refused_list c.number table c.lent no) }

  pub made : {table : List ℕ} → c.result ≡ after c.number table c.lent → Made number (λ r. r ≡ table) c
  made {table} e = made_with table e (λ z. e ∙ ap (λ (k : ℕ). after k table c.lent) z)

  pub made_in_pad_with : {n : ℕ} {Right : List ℕ → Type 0} (table : List ℕ) → c.result ≡ after c.number table c.lent
      → (Done c → Right c.result) → c.pad_left ≡ pad_after c.number n c.pad → MadeInPad n number Right c
  made_in_pad_with table e right p = record { made = made_with table e right; clears = p }

  pub made_in_pad : {n : ℕ} {table : List ℕ} → c.result ≡ after c.number table c.lent
      → c.pad_left ≡ pad_after c.number n c.pad → MadeInPad n number (λ r. r ≡ table) c
  made_in_pad e p = record { made = made e; clears = p }

-- ---- the demand, from the promises

module _ (n m : ℕ) (A B E f g : List ℕ) (i : Inputs n m A B E f g) (c : Calls) (run : Run n m A B E f g c) where
  range : InRange n m
  range = (table_accepted n m A i.table_A).0

  a : IsTable n m A
  a = (table_accepted n m A i.table_A).1

  b : IsTable n m B
  b = (table_accepted n m B i.table_B).1

  e : IsTable n m E
  e = (table_accepted n m E i.table_E).1

  row_f : IsRow n m f
  row_f = (row_accepted n m f i.row_f).1

  row_g : IsRow n m g
  row_g = (row_accepted n m g i.row_g).1

  -- a result that is a table of residues is accepted by the next call
  accepted : {r : List ℕ} (h : ℕ → ℕ) → r ≡ residues n m h → IsTable n m r
  accepted h q = rw q (residues_table range h)

  pub demand3 : Demand3 n m A B E f g c
  demand3 = record {
    number_of_sum = run.sum.says ∙ number_of_sum range a b _;
    exp_sum_number = λ s.
        run.exp_sum.made.says
        ∙ exponential_number_lem range (accepted _ (run.sum.holds s)) _ _ (ap (λ (t : List ℕ). at t 0) (run.sum.holds s) ∙ sum_first n m A B i.first_A i.first_B);
    exp_A_number = run.exp_A.made.says ∙ exponential_number_lem range a _ _ i.first_A;
    exp_B_number = run.exp_B.made.says ∙ exponential_number_lem range b _ _ i.first_B;
    number_of_product = λ x y. run.product.made.says ∙ number_of_product range (accepted _ (run.exp_A.made.holds x)) (accepted _ (run.exp_B.made.holds y)) _ _;
    log_exp_number = λ x.
        run.log_exp.made.says
        ∙ logarithm_number_lem range (accepted _ (run.exp_A.made.holds x)) _ _ (ap (λ (t : List ℕ). at t 0) (run.exp_A.made.holds x) ∙ exponential_first n m range.lowest A);
    log_E_number = run.log_E.made.says ∙ logarithm_number_lem range e _ _ i.first_E;
    exp_log_number = λ x. run.exp_log.made.says ∙ exponential_number_lem range (logarithm_table range (run.log_E.made.holds x)) _ _ (run.log_E.made.holds x).first;
    number_of_binomial = run.binomial.says ∙ number_of_binomial range row_f row_g _;
    comp_binomial_number = λ x.
        run.comp_binomial.made.says
        ∙ number_of_composition range a _ _ (rw (run.binomial.holds x) (binomial_row_lem range f g)) i.first_A;
    comp_f_number = run.comp_f.made.says ∙ number_of_composition range a _ _ row_f i.first_A;
    comp_g_number = run.comp_g.made.says ∙ number_of_composition range a _ _ row_g i.first_A;
    comp_product_number = λ x y. run.comp_product.made.says ∙ number_of_product range (accepted _ (run.comp_f.made.holds x)) (accepted _ (run.comp_g.made.holds y)) _ _;
    exponential_of_sum = λ s es x y p.
        run.exp_sum.made.holds es ∙ ap (exponential_table n m) (run.sum.holds s) ∙ exponential_of_sum n m A B
        ∙ sym (run.product.made.holds p ∙ ap₂ (subset_table n m) (run.exp_A.made.holds x) (run.exp_B.made.holds y));
    logarithm_of_exponential = λ x y.
        logarithm_unique n m (exponential_table n m A) _ A (rw (run.exp_A.made.holds x) at (run.log_exp.made.holds y))
        (record { long = a.size; below = at_below m A (λ k h. a.below k); first = i.first_A; exponential = refl });
    exponential_of_logarithm = λ x y. run.exp_log.made.holds y ∙ (run.log_E.made.holds x).exponential;
    composition_of_product = λ h k x y p.
        run.comp_binomial.made.holds k ∙ ap (λ (t : List ℕ). composition_table n m t A) (run.binomial.holds h) ∙ composition_of_product n m f g A
        ∙ sym (run.comp_product.made.holds p ∙ ap₂ (subset_table n m) (run.comp_f.made.holds x) (run.comp_g.made.holds y));
  }

pub laws_hold : (n m : ℕ) (A B E f g : List ℕ) (c : Calls) → Run n m A B E f g c → Laws n m A B E f g c
laws_hold n m A B E f g c run = record { run = run; demand = λ i. demand3 n m A B E f g i c run }
