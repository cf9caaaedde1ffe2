-- The call's number by its tests, and the labels that a sheet is read into.
use mathlib.Core.Path.{◌≡◌, refl, sym, ◌∙◌, ap, subst}
use mathlib.Core.List.{List, [], ◌∷◌, ◌++◌}
use Rattle.std.specs.Prelude.{Result, Ok, Err}
use Prim.Native.Nat.{ℕ, zero, suc}
use lib.ListN.{length}
use Rattle.definitions.specs.Outcomes.{Outcome, accepted, refused, number_of, value_or}
use Rattle.definitions.specs.Refusals.{or_else, panel_word, modulus_word, buffer_word}
use Rattle.definitions.specs.Sheets.{sheet_number, read_sheet}
use Rattle.definitions.specs.Pages.{label_layout, pages_text, wall_pages, pages_number}
use Rattle.checks.specs.Words.{one_more_word, or_else_go, or_else_stop}
use Rattle.checks.specs.Accepted.{table_words, table_number}
use Rattle.checks.specs.Answers as answers
use Rattle.checks.specs.Answers.{IsChecked}
use Rattle.refusals.specs.Words.{word}
use Rattle.refusals.specs.declared.Refusal.{Refusal}
use Rattle.residues.specs.declared.Modulus.{Modulus}
use Rattle.table_writer.specs.Writing.{TextBy}
use Rattle.table_writer.specs.WritingLaws.{text_accepted, text_refused}
use Rattle.label_sheet.specs.LabelArrays.{labels_in}
use Rattle.label_sheet.specs.declared.labels.Label.{Label}
use Rattle.pages.specs.PagesBy.{IfRoom, IfSheet}

or_else_assoc : (i j k : ℕ) → or_else (or_else i j) k ≡ or_else i (or_else j k)
or_else_assoc zero j k = refl
or_else_assoc (suc i) j k = refl

-- the tests of n, m and the table, and then those of the sheet and of the buffer
pub by_tests : (n m : ℕ) (A sheet : List ℕ) (b : ℕ) →
    pages_number n m A sheet b ≡ or_else (table_number n m A) (or_else (sheet_number sheet) (buffer_word b (length (wall_pages sheet A))))
unfolding pages_number
by_tests n m A sheet b =
    let first = panel_word n ∷ modulus_word m ∷ table_words n m A in
    let short = buffer_word b (length (wall_pages sheet A)) in
    one_more_word (first ++ (sheet_number sheet ∷ [])) short
    ∙ ap (λ (k : ℕ). or_else k short) (one_more_word first (sheet_number sheet))
    ∙ or_else_assoc (table_number n m A) (sheet_number sheet) short

-- behind the tests of n, m and the table
module _ (n m : ℕ) (A sheet old : List ℕ) {r : Result Modulus Refusal} (tests : IsChecked m (table_number n m A) r) where
  abbrev number : ℕ
  number = pages_number n m A sheet (length old)

  abbrev others : ℕ
  others = or_else (sheet_number sheet) (buffer_word (length old) (length (wall_pages sheet A)))

  pub as_written : {modulus : _} → r ≡ Ok modulus → {w : Result ℕ Refusal} {buffer : List ℕ} →
      IfSheet sheet A old w buffer → TextBy (wall_pages sheet A) number old w buffer
  as_written e {w} {buffer} h =
      subst (λ (j : ℕ). TextBy (wall_pages sheet A) j old w buffer)
      (sym (by_tests n m A sheet (length old) ∙ or_else_go (table_number n m A) others (answers.accepted tests e))) h

  pub as_refused : {refusal : Refusal} → r ≡ Err refusal → TextBy (wall_pages sheet A) number old (Err refusal) old
  as_refused e =
      let short = buffer_word (length old) (length (wall_pages sheet A)) in
      text_refused (wall_pages sheet A) old (table_number n m A) number
      (by_tests n m A sheet (length old)
      ∙ or_else_stop (table_number n m A) others (answers.not_accepted tests e)
      ∙ sym (or_else_stop (table_number n m A) short (answers.not_accepted tests e)))
      (answers.refused tests e)

-- ---- the sheet, accepted and refused

module _ (sheet A old : List ℕ) where
  -- what is written with its labels
  pub as_loaded : (array : List Label) → accepted (labels_in array) ≡ read_sheet sheet → {w : Result ℕ Refusal} {buffer : List ℕ} →
      IfRoom (pages_text (label_layout (labels_in array)) A) old w buffer → IfSheet sheet A old w buffer
  as_loaded array e {w} {buffer} h =
      let text : pages_text (label_layout (labels_in array)) A ≡ wall_pages sheet A =
      ap (λ (o : Outcome (List (List ℕ))). pages_text (label_layout (value_or [] (λ ls. ls) o)) A) e in
      text_accepted (wall_pages sheet A) old (sheet_number sheet) _ refl (sym (ap number_of e))
      (subst (λ (t : List ℕ). IfRoom t old w buffer) text h)

  pub not_loaded : {refusal : Refusal} → refused (word refusal) ≡ read_sheet sheet → IfSheet sheet A old (Err refusal) old
  not_loaded e = text_refused (wall_pages sheet A) old (sheet_number sheet) _ refl (ap number_of e)
