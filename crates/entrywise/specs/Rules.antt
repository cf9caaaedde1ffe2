-- The rules by which the loops of this crate fill a list, entry by entry.
use Rattle.std.specs.Prelude.{List, ℕ, ◌+◌, ◌-◌, ◌%◌}
use Rattle.definitions.specs.Sums.{at}

module _ (m : ℕ) (a b : List ℕ) (i : ℕ) where
  abbrev pub sum_at : ℕ
  sum_at = (at a i + at b i) % m

  abbrev pub difference_at : ℕ
  difference_at = (at a i + (m - at b i)) % m
