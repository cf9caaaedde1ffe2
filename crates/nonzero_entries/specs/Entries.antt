-- The entries of a table from a place on: zeros, and the first that is none.
use Rattle.std.specs.Prelude.{◌≡◌, List, ◌++◌, ℕ, ◌+◌, ◌-◌, ◌<◌, ◌≤◌, length, drop}
use Rattle.definitions.specs.Sums.{at}
use Rattle.definitions.specs.Files.{zeros}

-- so many entries from a place on are 0
abbrev pub ZerosAt : List ℕ → ℕ → ℕ → Type 0
ZerosAt a from k = (i : ℕ) → i < k → at a (from + i) ≡ 0

-- from a place on only zeros stand before r
pub record Skipped (a : List ℕ) (from r : ℕ) : Type 0 where
  pub behind : from ≤ r
  pub inside : r ≤ length a
  pub skipped : drop from a ≡ zeros (r - from) ++ drop r a

-- the first entry from a place on that is not 0 stands at r; if there is none, r is the table's length
pub record NextEntry (a : List ℕ) (from r : ℕ) : Type 0 where
  pub zeros_before : Skipped a from r
  pub found : r < length a → 0 < at a r
