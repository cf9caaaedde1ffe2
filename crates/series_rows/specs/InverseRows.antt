-- The row of inverses as a program makes it, modulo m.
use Rattle.std.specs.Prelude.{◌≡◌, List, ℕ, ◌+◌, ◌%◌, ◌<◌, ◌≤◌, length}
use Rattle.definitions.specs.Limits.{most_controls}
use Rattle.definitions.specs.Sums.{at}
use Rattle.theory.specs.Rows.{inverse_row}

-- the entries of a row for the most controls
abbrev pub row_space : ℕ
row_space = most_controls + 1

pub record EntryReady (m u k entry : ℕ) : Type 0 where
  pub reciprocal : u < m
  pub few : k ≤ most_controls
  pub below : entry < m

-- the first `count` entries: 0 before the start, and the row of inverses from there on
pub record InverseRow (m u start count : ℕ) (r : List ℕ) : Type 0 where
  pub long : length r ≡ row_space
  pub before : (i : ℕ) → i < start → at r i ≡ 0
  pub entries : (k : ℕ) → start + k < count → at r (start + k) ≡ inverse_row m u k % m
