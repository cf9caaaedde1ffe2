-- Laws of labels as they are kept.
--   name_label               the bytes of a kept label before the first blank are the label
--   label_here               a label that is kept for a text is this text without the blanks
--   labels_length, label_at  as many labels as are kept, and each of them
--   labels_sixteen           the labels of a sheet are sixteen
--   labels_are               labels that are kept for some texts are these texts
--   held                     labels that are kept for sixteen good ones are held
--   same_names, other_names  two labels are the same exactly if their names are
--   number_is, loaded        what reading a sheet answers: its number, and its labels if it is accepted
use Rattle.std.specs.Prelude.{◌≡◌, Result, Ok, Err, Bool, true, false, refl, List, [], ℕ, ◌-◌, ◌<◌, length, take, get_or}
use Rattle.std.proofs.Common.{sym, ◌∙◌, ap, ap₂, arith, ext_get_or, take_at}
use Rattle.std.proofs.lemmas.List.{length-map, get_or-map}
use Rattle.definitions.specs.Limits.{most_controls, longest_label}
use Rattle.definitions.specs.Sheets.{alphanumeric, same, label_of, read_sheet, sheet_number, sheet_labels}
use Rattle.definitions.specs.Pages.{blanks, filled}
use Rattle.label_theory.specs.Labels.{GoodLabel, same_self, same_is}
use Rattle.label_theory.specs.Splitting.{word, word-filled, good_free}
use Rattle.label_theory.specs.LabelLaws.{AcceptedSheet}
use Rattle.label_sheet.specs.declared.labels.Label.{Label}
use Rattle.label_sheet.specs.declared.labels.Labels.{Labels}
use Rattle.label_sheet.specs.SheetAnswers.{sheet_outcome}
use Rattle.refusals.specs.Words.{word_of}
use Rattle.refusals.specs.declared.Refusal.{Refusal}
use Rattle.definitions.specs.Outcomes.{number_of, value_or}
use Rattle.label_sheet.specs.LabelArrays.{label_in, labels_in, HasLabel, Held}

blank_is : alphanumeric 32 ≡ false
unfolding alphanumeric
blank_is = refl

pub name_label : (l : List ℕ) → GoodLabel l → word (filled longest_label l) ≡ l
unfolding filled
name_label l good = word-filled l (longest_label - length l) (good_free 32 l blank_is good.bytes)

pub label_here : {l : Label} {text : List ℕ} → HasLabel l text → label_in l ≡ text
unfolding filled
label_here {l} {text} h =
    ap₂ (λ (k : ℕ) (name : List ℕ). take k name) h.length_is h.name_is ∙ take_at text (blanks (longest_label - length text)) (length text) refl

pub labels_length : (array : List Label) → length (labels_in array) ≡ length array
labels_length array = length-map array label_in

pub labels_sixteen : (x : Labels) → length (labels_in x.labels.now) ≡ most_controls
labels_sixteen x = labels_length x.labels.now ∙ x.ready.held.sixteen

pub label_at : (array : List Label) (i : ℕ) (d : Label) → i < length array → label_of (labels_in array) i ≡ label_in (get_or array i d)
label_at array i d h = get_or-map label_in array i d [] h

pub labels_are : (ls : List (List ℕ)) (array : List Label) → length array ≡ length ls →
    ((i : ℕ) (d : Label) → i < length array → HasLabel (get_or array i d) (label_of ls i)) → labels_in array ≡ ls
labels_are ls array e kept =
    ext_get_or [] (labels_in array) ls (labels_length array ∙ e)
    (λ i h.
    let some : Label = record { name = []; length = 0 } in
    let inside : i < length array = omega (arith, labels_length array) in
    label_at array i some inside ∙ label_here (kept i some inside))

module _ (ls : List (List ℕ)) (sixteen : length ls ≡ most_controls) (good : (i : ℕ) → i < most_controls → GoodLabel (label_of ls i))
    (array : List Label) (long : length array ≡ most_controls)
    (kept : (i : ℕ) (d : Label) → i < most_controls → HasLabel (get_or array i d) (label_of ls i)) where
  pub these : labels_in array ≡ ls
  these = labels_are ls array (long ∙ sym sixteen) (λ i d h. kept i d (omega arith))

  pub held : Held array
  held = record {
    sixteen = long;
    each = λ i h. rw these (good i h);
    kept = λ i d h. rw these (kept i d h);
  }

module _ (array : List Label) (are : Held array) (i j : ℕ) (d : Label) (h : i < most_controls) (k : j < most_controls) where
  pub same_names : (get_or array i d).name ≡ (get_or array j d).name → same (label_of (labels_in array) i) (label_of (labels_in array) j) ≡ true
  same_names e =
      let both : filled longest_label (label_of (labels_in array) i) ≡ filled longest_label (label_of (labels_in array) j) =
      sym (are.kept i d h).name_is ∙ e ∙ (are.kept j d k).name_is in
      let one : label_of (labels_in array) i ≡ label_of (labels_in array) j =
      sym (name_label (label_of (labels_in array) i) (are.each i h)) ∙ ap word both ∙ name_label (label_of (labels_in array) j) (are.each j k) in
      ap (same (label_of (labels_in array) i)) (sym one) ∙ same_self (label_of (labels_in array) i)

  pub other_names : ((get_or array i d).name ≡ (get_or array j d).name → ⊥) → same (label_of (labels_in array) i) (label_of (labels_in array) j) ≡ false
  other_names n = by (same (label_of (labels_in array) i) (label_of (labels_in array) j)) refl
    where
      by : (b : Bool) → same (label_of (labels_in array) i) (label_of (labels_in array) j) ≡ b → b ≡ false
      by false e = refl
      by true e =
          absurd (n ((are.kept i d h).name_is ∙ ap (filled longest_label) (same_is (label_of (labels_in array) i) (label_of (labels_in array) j) e) ∙ sym (are.kept j d k).name_is))

pub number_is : {A : Type 0} (sheet : List ℕ) (r : Result A Refusal) (array : List Label) → sheet_outcome r array ≡ read_sheet sheet → word_of r ≡ sheet_number sheet
number_is sheet (Ok x) array e = ap number_of e
number_is sheet (Err r) array e = ap number_of e

pub loaded : {A : Type 0} (sheet : List ℕ) (x : A) (array : List Label) → sheet_outcome (Ok x) array ≡ read_sheet sheet
    → AcceptedSheet sheet × (labels_in array ≡ sheet_labels sheet)
loaded sheet x array e = (sym (ap number_of e), ap (value_or [] (λ (ls : List (List ℕ)). ls)) e)
