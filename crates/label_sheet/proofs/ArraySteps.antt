-- The steps of looking for equal labels, and the sheet.
use mathlib.Core.Path.{◌≡◌, refl, sym, ◌∙◌, ap}
use mathlib.Core.Bool.{Bool, true, false, ◌||◌}
use mathlib.Core.List.{List, [], ◌∷◌}
use Prim.Native.Nat.{ℕ, zero, suc, ◌+◌, ◌<◌, ◌≤◌}
use native.Mathlib.Numerals.{add-one}
use native.Mathlib.Omega.{arith}
use lib.ListN.{drop, get_or, drop_of_length-le}
use lib.Seq.{drop-cons}
use lib.Dec.{eqb}
use lib.Pointwise.{pointwise}
use Rattle.std.specs.Bool.{Decides}
use Rattle.std.proofs.lemmas.Bool.Decides.{Decides-eqb}
use Rattle.std.proofs.lemmas.Slice.Eq.{slice_eq-Decides}
use Rattle.theory.specs.Tests.{zero_is_not_one}
use Rattle.definitions.specs.Limits.{most_controls}
use Rattle.definitions.specs.Files.{tail_word}
use Rattle.definitions.specs.Outcomes.{Outcome, accepted, refused, and_then, unless}
use Rattle.definitions.specs.Sheets.{Labels, read_labels, same, among, twice, equal_word, sheet_end, read_sheet, label_of}
use Rattle.std.specs.Prelude.{Result, Ok, Err}
use Rattle.refusals.specs.Words.{word, word_of, word-not-zero}
use Rattle.refusals.specs.declared.Refusal.{Refusal}
use Rattle.label_theory.proofs.SheetLaws.{sheet_read}
use Rattle.label_sheet.specs.declared.labels.Label.{Label}
use Rattle.label_sheet.specs.LabelArrays.{labels_in, Held, Ready}
use Rattle.label_sheet.specs.SheetAnswers.{LabelsAre, to_tail, sheet_outcome}
use Rattle.label_sheet.specs.ArrayLaws.{labels_length, same_names, other_names}

-- ---- equal labels

-- names that are tested
names_equal : {k l : List ℕ} {t : Bool} → t ≡ pointwise eqb k l → Decides t (k ≡ l)
names_equal {k} {l} {t} e = slice_eq-Decides Decides-eqb k l t e

-- no label before another one is the same as this one
pub record NoneSoFar (array : List Label) (control other : ℕ) : Type 0 where
  pub behind : control < other
  pub others : among (label_of (labels_in array) control) (drop (control + 1) (labels_in array)) ≡ among (label_of (labels_in array) control) (drop other (labels_in array))

pub none_start : (array : List Label) (control : ℕ) → NoneSoFar array control (control + 1)
none_start array control = record { behind = omega arith; others = refl }

among_step : (l x : List ℕ) (ls : List (List ℕ)) → among l (x ∷ ls) ≡ (same l x || among l ls)
unfolding among
among_step l x ls = refl

among_none : (l : List ℕ) → among l [] ≡ false
unfolding among
among_none l = refl

module _ {array : List Label} (held : Held array) where
  -- the labels from one on, by that one
  from_one : (i : ℕ) → i < most_controls → drop i (labels_in array) ≡ label_of (labels_in array) i ∷ drop (i + 1) (labels_in array)
  from_one i h =
      drop-cons (labels_in array) i [] (omega (arith, labels_length array, held.sixteen))
      ∙ ap (λ (j : ℕ). label_of (labels_in array) i ∷ drop j (labels_in array)) (sym (add-one i))

  from_none : (i : ℕ) → most_controls ≤ i → drop i (labels_in array) ≡ []
  from_none i h = drop_of_length-le (labels_in array) {i = i} (omega (arith, labels_length array, held.sixteen))

  module _ {control other : ℕ} (s : NoneSoFar array control other) where
    module _ (d : Label) (below : other < most_controls) where
      this : among (label_of (labels_in array) control) (drop (control + 1) (labels_in array))
          ≡ (same (label_of (labels_in array) control) (label_of (labels_in array) other)
          || among (label_of (labels_in array) control) (drop (other + 1) (labels_in array)))
      this =
          s.others ∙ ap (among (label_of (labels_in array) control)) (from_one other below)
          ∙ among_step (label_of (labels_in array) control) (label_of (labels_in array) other) (drop (other + 1) (labels_in array))

      module _ {t : Bool} (tested : t ≡ pointwise eqb (get_or array control d).name (get_or array other d).name) where
        pub found_one : t ≡ true → true ≡ among (label_of (labels_in array) control) (drop (control + 1) (labels_in array))
        found_one e = sym (this ∙ rw (same_names array held control other d (omega (arith, s.behind)) below ((names_equal tested).0 e)))

        pub none_more : t ≡ false → NoneSoFar array control (other + 1)
        none_more e = record {
          behind = omega (arith, s.behind);
          others =
              this ∙ rw (other_names array held control other d (omega (arith, s.behind)) below (λ f. zero_is_not_one (let g = (names_equal tested).1 f in cc)));
        }

    pub none_all : most_controls ≤ other → false ≡ among (label_of (labels_in array) control) (drop (control + 1) (labels_in array))
    none_all h = sym (s.others ∙ ap (among (label_of (labels_in array) control)) (from_none other h) ∙ among_none (label_of (labels_in array) control))

-- no label before a control stands again behind itself
pub record DifferentSoFar (array : List Label) (control : ℕ) : Type 0 where
  pub others : twice (labels_in array) ≡ twice (drop control (labels_in array))

twice_step : (x : List ℕ) (ls : List (List ℕ)) → twice (x ∷ ls) ≡ (among x ls || twice ls)
unfolding twice
twice_step x ls = refl

twice_none : twice [] ≡ false
unfolding twice
twice_none = refl

pub different_start : (array : List Label) → DifferentSoFar array 0
different_start array = record { others = refl }

module _ {array : List Label} (held : Held array) {control : ℕ} (s : DifferentSoFar array control) where
  module _ (below : control < most_controls) {again : Bool} (e : again ≡ among (label_of (labels_in array) control) (drop (control + 1) (labels_in array))) where
    here : twice (labels_in array) ≡ (again || twice (drop (control + 1) (labels_in array)))
    here =
        s.others ∙ ap twice (from_one held control below) ∙ twice_step (label_of (labels_in array) control) (drop (control + 1) (labels_in array))
        ∙ ap (λ (b : Bool). b || twice (drop (control + 1) (labels_in array))) (sym e)

    pub equal_found : again ≡ true → 18 ≡ equal_word (labels_in array)
    equal_found f = rw (here, f)

    pub different_more : again ≡ false → DifferentSoFar array (control + 1)
    different_more f = record { others = here ∙ rw f }

  pub different_all : most_controls ≤ control → 0 ≡ equal_word (labels_in array)
  different_all h = rw (s.others ∙ ap twice (from_none held control h) ∙ twice_none)

-- ---- the sheet

-- a `?` hands its refusal on
pub sheet_handed : {A : Type 0} {o : Outcome (List (List ℕ))} {refusal : Refusal} (r : Result A Refusal) (array : List Label) → r ≡ Err refusal
    → refused (word refusal) ≡ o → sheet_outcome r array ≡ o
sheet_handed {A} r array e h = ap (λ (x : Result A Refusal). sheet_outcome x array) e ∙ h

-- what follows when nothing is behind the labels
abbrev different_end : Labels → Outcome (List (List ℕ))
different_end x = unless (equal_word x.labels) (accepted x.labels)

unless_then : {X Y : Type 0} (w : ℕ) (x : X) (next : X → Outcome Y) → and_then (unless w (accepted x)) next ≡ unless w (next x)
unless_then zero x next = refl
unless_then (suc w) x next = refl

by_tail : (o : Outcome Labels) → and_then (and_then o to_tail) different_end ≡ and_then o sheet_end
by_tail (accepted x) = unless_then (tail_word x.rest) x different_end
by_tail (refused k) = refl

module _ (sheet : List ℕ) where
  after_tail : {o : Outcome Labels} → and_then (read_labels most_controls sheet) to_tail ≡ o → and_then o different_end ≡ read_sheet sheet
  unfolding read_sheet
  after_tail e = ap (λ (p : Outcome Labels). and_then p different_end) (sym e) ∙ by_tail (read_labels most_controls sheet)

  pub sheet_stops : {w : ℕ} → and_then (read_labels most_controls sheet) to_tail ≡ refused w → refused w ≡ read_sheet sheet
  sheet_stops {w} e = after_tail {o = refused w} e

  module _ {array : List Label} (l : LabelsAre (and_then (read_labels most_controls sheet) to_tail) array) where
    by_word : {w : ℕ} → w ≡ equal_word (labels_in array) → unless w (accepted (labels_in array)) ≡ read_sheet sheet
    by_word e = ap (λ (k : ℕ). unless k (accepted (labels_in array))) e ∙ after_tail l.read

    pub sheet_equal : (r : Refusal) → word r ≡ equal_word (labels_in array) → refused (word r) ≡ read_sheet sheet
    sheet_equal r e = sym (unless_refused (word r) (accepted (labels_in array)) (word-not-zero r)) ∙ by_word e
      where
        unless_refused : {X : Type 0} (w : ℕ) (o : Outcome X) → (w ≡ 0 → ⊥) → unless w o ≡ refused w
        unless_refused zero o n = absurd (n refl)
        unless_refused (suc w) o n = refl

    module _ (different : 0 ≡ equal_word (labels_in array)) where
      pub sheet_accepts : accepted (labels_in array) ≡ read_sheet sheet
      sheet_accepts = by_word different

      pub sheet_ready : Ready array
      sheet_ready = record { held = l.held; good = (sheet_read sheet (labels_in array) (sym sheet_accepts)).good }

    -- as the test for equal labels answers
    pub sheet_by : {A : Type 0} (r : Result A Refusal) → word_of r ≡ equal_word (labels_in array) → sheet_outcome r array ≡ read_sheet sheet
    sheet_by (Ok x) e = sheet_accepts e
    sheet_by (Err r) e = sheet_equal r e
