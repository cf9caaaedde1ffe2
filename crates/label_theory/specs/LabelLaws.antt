-- What 02 says of lines with labels, for every accepted sheet: the statements. Their proofs are in proofs/LabelLaws.
use Rattle.std.proofs.Math.Path.{◌≡◌}
use Rattle.std.specs.Prelude.{ℕ, ◌+◌, ◌*◌, ◌/◌, ◌^◌, ◌<◌, ◌≤◌, length, take, drop}
use mathlib.Core.List.{List, [], ◌∷◌}
use Rattle.definitions.specs.Limits.{most_controls}
use Rattle.definitions.specs.Sums.{at}
use Rattle.definitions.specs.Sheets.{among, sheet_number, sheet_labels, label_of}
use Rattle.definitions.specs.Pages.{line_of, nonzero_codes, has, labels_of, label_layout, wall_pages}
use Rattle.label_theory.specs.Labels.{GoodLabels}
use Rattle.label_theory.specs.SheetLaws.{sheet_of}
use Rattle.label_theory.specs.Splitting.{column_of, shown_in}

-- what the line of a set shows, whatever its value
pub record Shown (ls : List (List ℕ)) : Type 0 where
  -- the labels of the set's controls, in rising order; the empty set's line shows `-`
  pub labels : (S v : ℕ) → S < 2 ^ most_controls → (S ≡ 0 → ⊥) → shown_in (column_of (line_of (label_layout ls) S v)) ≡ labels_of ls S
  pub empty : (v : ℕ) → shown_in (column_of (line_of (label_layout ls) 0 v)) ≡ (45 ∷ []) ∷ []
  -- so label i is a part exactly if control i is in the set
  pub part : (S v i : ℕ) → S < 2 ^ most_controls → i < most_controls → among (label_of ls i) (shown_in (column_of (line_of (label_layout ls) S v))) ≡ has S i
  -- and different sets have different columns
  pub different : (S T v w : ℕ) → S < 2 ^ most_controls → T < 2 ^ most_controls →
      column_of (line_of (label_layout ls) S v) ≡ column_of (line_of (label_layout ls) T w) → S ≡ T

-- ---- for every accepted sheet

-- a sheet that none of its words refuses
abbrev pub AcceptedSheet : List ℕ → Type 0
AcceptedSheet sheet = sheet_number sheet ≡ 0

-- what it loads, and what lines show of that
pub record ShownFrom (sheet : List ℕ) : Type 0 where
  -- the labels are those of the sheet, one after the other, each behind its length
  pub loaded : sheet ≡ sheet_of (sheet_labels sheet)
  pub good : GoodLabels (sheet_labels sheet)
  pub lines : Shown (sheet_labels sheet)
  -- and these are the lines of the pages, one for each nonzero entry, in rising code: line k stands behind k lines, the
  -- headings of the pages before and that of its own
  pub places : (A : List ℕ) → length A ≤ 2 ^ most_controls → (k : ℕ) → k < length (nonzero_codes A) →
      take 158 (drop (158 * (k + k / 50 + 1)) (wall_pages sheet A)) ≡ line_of (label_layout (sheet_labels sheet)) (at (nonzero_codes A) k) (at A (at (nonzero_codes A) k))
