-- Labels as they are kept: each filled with blanks to eight bytes, with its length beside.
use Rattle.std.specs.Prelude.{◌≡◌, List, [], ◌∷◌, map, ℕ, ◌<◌, length, take, get_or}
use Rattle.std.specs.Coded.{×_prop, Unit-prop}
use Rattle.std.proofs.Props.{props}
use Rattle.definitions.specs.Limits.{most_controls, longest_label}
use Rattle.definitions.specs.Sheets.{label_of}
use Rattle.definitions.specs.Pages.{filled}
use Rattle.label_theory.specs.Labels.{AllAlphanumeric, GoodLabel, GoodLabels}
use Rattle.label_sheet.specs.declared.labels.Label.{Label}

-- the label itself, without the blanks
abbrev pub label_in : Label → List ℕ
label_in l = take l.length l.name

-- some labels
abbrev pub labels_in : List Label → List (List ℕ)
labels_in array = map label_in array

-- a label as it is kept
pub record HasLabel (l : Label) (text : List ℕ) : Type 0 where
  pub name_is : l.name ≡ filled longest_label text
  pub length_is : l.length ≡ length text

-- labels that are kept for sixteen good ones, which may be equal
pub record Held (array : List Label) : Type 0 where
  pub sixteen : length array ≡ most_controls
  pub each : (i : ℕ) → i < most_controls → GoodLabel (label_of (labels_in array) i)
  pub kept : (i : ℕ) (d : Label) → i < most_controls → HasLabel (get_or array i d) (label_of (labels_in array) i)

-- and for sixteen good ones, no two of which are the same
pub record Ready (array : List Label) : Type 0 where
  pub held : Held array
  pub good : GoodLabels (labels_in array)

-- these facts have one proof
pub alphanumeric-prop : (l : List ℕ) → IsProp (AllAlphanumeric l)
alphanumeric-prop [] = Unit-prop
alphanumeric-prop (b ∷ l) = ×_prop (Prim.hlevel props) (alphanumeric-prop l)

pub ready-prop : (array : List Label) → IsProp (Ready array)
ready-prop array = Prim.hlevel (props, alphanumeric-prop)
