-- Sets of controls by their codes: control i is in the set if bit i of the code is 1.
use Rattle.std.specs.Prelude.{Bool, List, ℕ, ◌-◌, ◌^◌, eqb}
use Rattle.std.specs.Int.Bits.{bit_and}
use Rattle.std.specs.Int.Count.{ones}
use Rattle.definitions.specs.Sums.{tabulate, keep}

-- |S|, the count of its controls
abbrev pub size : ℕ → ℕ
size S = ones S

-- L is inside S if the controls in both are those of L
unfoldable pub inside : ℕ → ℕ → Bool
inside L S = eqb (bit_and L S) L

-- S without L, for L inside S: each control of L takes its power of 2 off the code
abbrev pub without : ℕ → ℕ → ℕ
without S L = S - L

-- the sets of the first n controls that are inside S, in rising code
unfoldable pub subsets : ℕ → ℕ → List ℕ
subsets n S = keep (λ L. inside L S) (tabulate (2 ^ n) (λ L. L))
