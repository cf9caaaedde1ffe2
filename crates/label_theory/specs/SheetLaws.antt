-- What a sheet is written as: the bytes of its labels. That accepted sheets are these, and no others, is in proofs/SheetLaws.
use Rattle.std.specs.Prelude.{ℕ, length}
use mathlib.Core.List.{List, ◌∷◌, flat_map}

-- a label as it stands in a sheet: its length, which is one group, and its bytes
abbrev pub entry_of : List ℕ → List ℕ
entry_of l = length l ∷ l

unfoldable pub sheet_of : List (List ℕ) → List ℕ
sheet_of ls = flat_map entry_of ls
