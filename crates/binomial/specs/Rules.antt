-- The rules by which the loops of this crate fill a list, entry by entry.
use Rattle.std.specs.Prelude.{List, ◌∷◌, ℕ, ◌+◌, ◌-◌, ◌*◌, ◌%◌}
use Rattle.definitions.specs.Sums.{at, tabulate}
use Rattle.definitions.specs.Rows.{choose, binomial_sum}

abbrev pub binomial_at : ℕ → List ℕ → List ℕ → ℕ → ℕ
binomial_at m f g i = binomial_sum (at f) (at g) i % m

-- a row of Pascal's triangle is kept in an array of this width: n is at most 16
abbrev pub row_width : ℕ
row_width = 17

-- C(i, 0), C(i, 1), .. modulo m
unfoldable pub pascal_row : ℕ → ℕ → List ℕ
pascal_row m i = tabulate row_width (λ j. choose i j % m)

-- an entry of the next row: the entry here and the one to its left, which is 0 at the left edge
abbrev pub pascal_at : ℕ → List ℕ → ℕ → ℕ
pascal_at m row j = (at row j + at (0 ∷ row) j) % m

-- one term of entry i
abbrev pub term_at : List ℕ → List ℕ → List ℕ → ℕ → ℕ → ℕ
term_at choices f g i j = at choices j * (at f j * at g (i - j))
