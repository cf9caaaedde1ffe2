-- What the composition is lent, a table of n controls and a workspace (01: pad) with room for the rows of a product and a table behind
-- them, and where it leaves its result.
use Rattle.std.specs.Prelude.{◌≡◌, List, ℕ, ◌+◌, ◌^◌, ◌<◌, ◌≤◌, length}
use Rattle.definitions.specs.Limits.{most_controls}
use Rattle.definitions.specs.Sums.{at}
use Rattle.ranked_theory.specs.Layout.{rows_length}
use Rattle.ranked_within.specs.Within.{table_at}

pub record Ready (n m : ℕ) (a w : List ℕ) : Type 0 where
  pub few : n ≤ most_controls
  pub long : length a ≡ 2 ^ n
  pub below : (S : ℕ) → S < 2 ^ n → at a S < m
  pub room : rows_length n + 2 ^ n ≤ length w

-- a row with entries for up to n blocks
pub record RowReady (n m : ℕ) (f : List ℕ) : Type 0 where
  pub long : n < length f
  pub below : (k : ℕ) → k ≤ n → at f k < m

-- the table of n controls behind the rows
abbrev pub result_in : ℕ → List ℕ → List ℕ
result_in n w = table_at n (rows_length n) w

-- a result to copy it to
pub record ResultReady (n : ℕ) (w r : List ℕ) : Type 0 where
  pub few : n ≤ most_controls
  pub room : rows_length n + 2 ^ n ≤ length w
  pub as_long : length r ≡ 2 ^ n
