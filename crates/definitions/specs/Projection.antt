-- 02's projection: how the sessions of the whole panel divide by their number of exercises.
use Rattle.std.specs.Prelude.{cond, List, ℕ, ◌+◌, ◌-◌, ◌^◌, eqb}
use Rattle.definitions.specs.Sums.{tabulate, at}
use Rattle.definitions.specs.Products.{subset_table}
use Rattle.definitions.specs.Partitions.{composition_table}

-- 1 at place i and 0 elsewhere
abbrev pub one_at : ℕ → ℕ → ℕ
one_at i k = cond (eqb k i) 1 0

-- the same as a row
unfoldable pub one_row : ℕ → ℕ → List ℕ
one_row n i = tabulate (n + 1) (one_at i)

-- 02's whole-panel entry: that of the set of all n controls
unfoldable pub whole_entry : ℕ → List ℕ → ℕ
whole_entry n A = at A (2 ^ n - 1)

-- the whole-panel entry of the subset product of A with 02's P_i, the composition of B with the row that is 1 at place i
unfoldable pub projection_entry : ℕ → ℕ → List ℕ → List ℕ → ℕ → ℕ
projection_entry n m A B i = whole_entry n (subset_table n m A (composition_table n m (one_row n i) B))

unfoldable pub projection_row : ℕ → ℕ → List ℕ → List ℕ → List ℕ
projection_row n m A B = tabulate (n + 1) (projection_entry n m A B)
