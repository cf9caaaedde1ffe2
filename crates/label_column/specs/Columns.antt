-- What writing the column of a set needs.
use Rattle.std.specs.Prelude.{◌≡◌, cond, List, [], ◌∷◌, ℕ, ◌/◌, ◌%◌, ◌^◌, ◌<◌, eqb}
use Rattle.definitions.specs.Pages.{Layout, label_layout}
use Rattle.label_sheet.specs.LabelArrays.{labels_in}
use Rattle.label_sheet.specs.declared.labels.Labels.{Labels}

-- the lowest control of a set
pub record Lowest (S i : ℕ) : Type 0 where
  pub bit : S / 2 ^ i % 2 ≡ 1
  pub none_below : (j : ℕ) → j < i → S / 2 ^ j % 2 ≡ 0

-- what stands behind a label: + if controls are left
abbrev pub joint : ℕ → List ℕ
joint rest = cond (eqb rest 0) [] (43 ∷ [])

-- how pages are laid out with some labels
abbrev pub layout_of : Labels → Layout
layout_of labels = label_layout (labels_in labels.labels.now)
