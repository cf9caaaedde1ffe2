-- The law follows from what each call promises by itself.
use Rattle.std.specs.Prelude.{◌≡◌, List, [], ◌∷◌, ℕ, ◌+◌, ◌*◌, ◌%◌}
use Rattle.std.proofs.Common.{sym, ap, ◌∙◌}
use Rattle.definitions.specs.Sums.{sum, at}
use Rattle.definitions.specs.Products.{subset_table}
use Rattle.definitions.specs.Projection.{whole_entry}
use Rattle.definitions.specs.Refusals.{or_else, first_word, row_word, pad_word, projection_number}
use Rattle.projection_theory.proofs.Law.{projection_law}
use Rattle.checks.specs.Words.{or_else_go, ◌and◌}
use Rattle.checks.specs.Accepted.{InRange, IsTable, table_accepted, row_accepted, range_panel, range_modulus, entries_length, entries_below, start_right}
use Rattle.laws_theory.specs.Accepting.{number_of_product, number_of_composition, residues_table}
use Rattle.laws_theory.specs.Calls.{Done}
use Rattle.projection_laws.specs.Law.{Calls, Run, Inputs, Law, Lawful}

-- of accepted tables only the lent lengths count
number_of_projection : {n m : ℕ} → InRange n m → {a b : List ℕ} → IsTable n m a → IsTable n m b → at b 0 ≡ 0 → (r p : ℕ)
    → projection_number n m a b r p ≡ first_word (row_word n r ∷ pad_word n p ∷ [])
unfolding projection_number
number_of_projection {n} {m} i {a} {b} ha hb z r p =
    or_else_go _ _ (range_panel i) ∙ or_else_go _ _ (range_modulus i) ∙ or_else_go _ _ (entries_length ha) ∙ or_else_go _ _ (entries_length hb)
    ∙ ap (λ (k : ℕ). or_else (row_word n r) (or_else (pad_word n p) k))
    (entries_below ha and entries_below hb and or_else_go _ 0 (start_right 0 b z))

module _ (n m : ℕ) (A B f : List ℕ) (i : Inputs n m A B f) (c : Calls) (run : Run n m A B f c) where
  range : InRange n m
  range = (table_accepted n m A i.table_A).0

  a : IsTable n m A
  a = (table_accepted n m A i.table_A).1

  b : IsTable n m B
  b = (table_accepted n m B i.table_B).1

  -- what the composition returned is accepted by the product
  composed : Done c.composition → IsTable n m c.composition.result
  composed z = rw (run.composition.made.holds z) (residues_table range _)

  pub law : Law n m f c
  law = record {
    number_of_projection = run.projection.made.says ∙ number_of_projection range a b i.first_B _ _;
    number_of_composition = run.composition.made.says ∙ number_of_composition range b _ _ (row_accepted n m f i.row_f).1 i.first_B;
    number_of_product = λ z. run.product.made.says ∙ number_of_product range a (composed z) _ _;
    weighted_sum = λ x y z.
        ap (λ (r : List ℕ). sum (n + 1) (λ j. at f j * at r j) % m) (run.projection.made.holds x) ∙ projection_law n m A B f
        ∙ sym (ap (whole_entry n) (run.product.made.holds z) ∙ ap (λ (r : List ℕ). whole_entry n (subset_table n m A r)) (run.composition.made.holds y));
  }

pub lawful : (n m : ℕ) (A B f : List ℕ) (c : Calls) → Run n m A B f c → Lawful n m A B f c
lawful n m A B f c run = record { run = run; law = λ i. law n m A B f i c run }
