-- A table that becomes its exponential where it stands, and a workspace (01: pad) with room for the rows of a product.
use Rattle.std.specs.Prelude.{◌≡◌, List, ◌++◌, ℕ, ◌^◌, ◌<◌, ◌≤◌, length, take, drop}
use Rattle.definitions.specs.Limits.{most_controls}
use Rattle.definitions.specs.Sums.{at}
use Rattle.definitions.specs.Products.{subset_table}
use Rattle.ranked_theory.specs.Layout.{rows_length}

-- a table of residues
pub record Ready (q m : ℕ) (t w : List ℕ) : Type 0 where
  pub few : q ≤ most_controls
  pub long : length t ≡ 2 ^ q
  pub below : (S : ℕ) → S < 2 ^ q → at t S < m
  pub room : rows_length q ≤ length w

-- the lower half, and its product with the upper half
abbrev pub upper_filled : ℕ → ℕ → List ℕ → List ℕ
upper_filled p m t = take (2 ^ p) t ++ subset_table p m (take (2 ^ p) t) (drop (2 ^ p) t)
