-- What 02 says of lines with labels, as theorems, for every accepted sheet.
--   shown                        the labels are those of the sheet; splitting the set column of a line at + gives the labels of its
--                                set's controls and no others; where the line stands
--   line_bytes, heading_bytes    a line has 158 bytes, and a heading 158
--   pages_bytes, pages_most      how many bytes all pages have, and how many at most
use Rattle.std.proofs.Math.Path.{◌≡◌, refl, sym, ap}
use Rattle.std.proofs.Common.{◌∙◌, arith, pow_pos, ne_eqb, lt-ltb}
use Rattle.std.specs.Prelude.{Bool, cond, ℕ, ◌+◌, ◌*◌, ◌/◌, ◌%◌, ◌^◌, ◌<◌, ◌≤◌, eqb, length}
use Rattle.std.proofs.Math.Bool.{true, false, or-false}
use mathlib.Core.List.{List, [], ◌∷◌, map}
use Rattle.std.proofs.Math.Nat.{div-eq_of_lt}
use Rattle.std.proofs.Math.Decide.{ℕ_discrete}
use Rattle.definitions.specs.Limits.{most_controls}
use Rattle.definitions.specs.Sheets.{alphanumeric, same, among, sheet_labels, label_of}
use Rattle.definitions.specs.Pages.{line_of, heading, nonzero_codes, pages_for, page_count, has, controls_of, joined, labels_of, labelled, label_layout, wall_pages}
use Rattle.page_theory.specs.Widths.{Fits, line-length, heading-length}
use Rattle.page_theory.specs.Codes.{codes_few}
use Rattle.page_theory.specs.Paging.{pages_length, pages_mono}
use Rattle.page_theory.specs.Places.{line_at}
use Rattle.label_theory.specs.Labels.{AllAlphanumeric, GoodLabels, among_labels}
use Rattle.label_theory.proofs.SheetLaws.{SheetRead, sheet_read, number_accepts}
use Rattle.label_theory.specs.LabelLaws.{Shown, AcceptedSheet, ShownFrom}
use Rattle.label_theory.specs.Columns.{AllBelow, controls_below, labelled_few, labels_fit}
use Rattle.label_theory.specs.Splitting.{column_of, shown_in, parts, Free, AllFree, good_not, good_free, free_joined, parts-joined, word_column, some_controls, same_bits}

module _ (ls : List (List ℕ)) (good : GoodLabels ls) where
  label_free : (b i : ℕ) → alphanumeric b ≡ false → i < most_controls → Free b (label_of ls i)
  label_free b i f h = good_free b (label_of ls i) f (good.each i h).bytes

  labels_free : (b : ℕ) (cs : List ℕ) → alphanumeric b ≡ false → AllBelow most_controls cs → AllFree b (map (label_of ls) cs)
  labels_free b [] f h = tt
  labels_free b (c ∷ cs) f h = (label_free b c f h.0, labels_free b cs f h.1)

  plus_is : alphanumeric 43 ≡ false
  unfolding alphanumeric
  plus_is = refl

  blank_is : alphanumeric 32 ≡ false
  unfolding alphanumeric
  blank_is = refl

  dash_is : alphanumeric 45 ≡ false
  unfolding alphanumeric
  dash_is = refl

  labelled_free : (S : ℕ) → Free 32 (labelled ls S)
  unfolding labelled
  labelled_free S = by (eqb S 0) (free_joined 32 (labels_of ls S) (λ (e : ◌≡◌ {A = ℕ} 43 32). omega arith) (labels_free 32 (controls_of S) blank_is (controls_below S)))
    where
      by : (t : Bool) → Free 32 (joined (labels_of ls S)) → Free 32 (cond t (45 ∷ []) (joined (labels_of ls S)))
      by true f = ((λ (e : ◌≡◌ {A = ℕ} 45 32). omega arith), tt)
      by false f = f

  text_of : (S v : ℕ) → shown_in (column_of (line_of (label_layout ls) S v)) ≡ parts (labelled ls S)
  text_of S v = ap parts (word_column (label_layout ls) S v refl (labelled_few ls good S) (labelled_free S))

  joined-parts : (cs : List ℕ) → (cs ≡ [] → ⊥) → AllBelow most_controls cs → parts (joined (map (label_of ls) cs)) ≡ map (label_of ls) cs
  joined-parts [] d h = absurd (d refl)
  joined-parts (c ∷ cs) d h = parts-joined (label_of ls c) (map (label_of ls) cs) (labels_free 43 (c ∷ cs) plus_is h)

  shown_labels : (S v : ℕ) → S < 2 ^ most_controls → (S ≡ 0 → ⊥) → shown_in (column_of (line_of (label_layout ls) S v)) ≡ labels_of ls S
  unfolding labelled
  shown_labels S v h d =
      text_of S v ∙ ap parts (rw (ne_eqb S 0 d)) ∙ joined-parts (controls_of S) (some_controls S h d) (controls_below S)

  shown-empty : (v : ℕ) → shown_in (column_of (line_of (label_layout ls) 0 v)) ≡ (45 ∷ []) ∷ []
  unfolding labelled parts
  shown-empty v = text_of 0 v

  not_dash : (l : List ℕ) → AllAlphanumeric l → same l (45 ∷ []) ≡ false
  unfolding same
  not_dash [] h = refl
  not_dash (x ∷ l) h = rw (ne_eqb x 45 (good_not 45 x dash_is h.0))

  part_none : (v i : ℕ) → i < most_controls → among (label_of ls i) (shown_in (column_of (line_of (label_layout ls) 0 v))) ≡ has 0 i
  unfolding among
  part_none v i k =
      ap (among (label_of ls i)) (shown-empty v)
      ∙ or-false (same (label_of ls i) (45 ∷ []))
      ∙ not_dash (label_of ls i) (good.each i k).bytes
      ∙ sym (ne_eqb (0 / 2 ^ i % 2) 1 (λ (e : 0 / 2 ^ i % 2 ≡ 1). omega (arith, div-eq_of_lt (pow_pos i))))

  part_some : (S i : ℕ) → i < most_controls → among (label_of ls i) (labels_of ls S) ≡ has S i
  unfolding controls_of
  part_some S i k = among_labels ls good (has S) most_controls i (omega arith) k ∙ rw (lt-ltb i 16 k)

  shown_part : (S v i : ℕ) → S < 2 ^ most_controls → i < most_controls → among (label_of ls i) (shown_in (column_of (line_of (label_layout ls) S v))) ≡ has S i
  shown_part S v i h k = elim (ℕ_discrete S 0) [
    | yes e ↦ rw e (part_none v i k)
    | no d ↦ ap (among (label_of ls i)) (shown_labels S v h d) ∙ part_some S i k
  ]

  shown_by : Shown ls
  shown_by = record {
    labels = shown_labels;
    empty = shown-empty;
    part = shown_part;
    different = λ S T v w h k e. same_bits most_controls S T h k (λ i l.
        sym (shown_part S v i h l) ∙ ap (λ (c : List ℕ). among (label_of ls i) (shown_in c)) e ∙ shown_part T w i k l);
  }

-- ---- for every accepted sheet

module _ (sheet : List ℕ) (read : AcceptedSheet sheet) where
  sheet_is : SheetRead sheet (sheet_labels sheet)
  sheet_is = sheet_read sheet (sheet_labels sheet) (number_accepts sheet read)

  fits : Fits (label_layout (sheet_labels sheet)) 158
  fits = labels_fit (sheet_labels sheet) sheet_is.good

  pub shown : ShownFrom sheet
  shown = record {
    loaded = sheet_is.form;
    good = sheet_is.good;
    lines = shown_by (sheet_labels sheet) sheet_is.good;
    places = line_at fits;
  }

  pub line_bytes : (S v : ℕ) → S < 2 ^ most_controls → length (line_of (label_layout (sheet_labels sheet)) S v) ≡ 158
  line_bytes S v h = line-length fits S v h

  pub heading_bytes : (number pages : ℕ) → length (heading (label_layout (sheet_labels sheet)).heading_width number pages) ≡ 158
  heading_bytes number pages = heading-length fits number pages

  module _ (A : List ℕ) (small : length A ≤ 2 ^ most_controls) where
    pub pages_bytes : length (wall_pages sheet A) ≡ 158 * (length (nonzero_codes A) + page_count A)
    pages_bytes = pages_length fits A small

    -- and at most: each entry has at most one line
    pub pages_most : length (wall_pages sheet A) ≤ 158 * (length A + pages_for (length A))
    pages_most = omega (arith, pages_bytes, codes_few A, pages_mono (codes_few A))
