-- Tables at places of a workspace: one added to another, and a turn of the projection.
use Rattle.std.specs.Prelude.{◌≡◌, List, ℕ, suc, ◌+◌, ◌%◌, ◌^◌, ◌≤◌, ◌<◌, length}
use Rattle.definitions.specs.Limits.{most_controls}
use Rattle.definitions.specs.Sums.{at}
use Rattle.definitions.specs.Products.{subset_sum}
use Rattle.ranked_theory.specs.Layout.{rows_length}

-- ---- a sum

-- two tables of residues of that size, apart
pub record AddReady (m size source target : ℕ) (w : List ℕ) : Type 0 where
  pub source_in : source + size ≤ length w
  pub target_in : target + size ≤ length w
  pub apart : (x y : ℕ) → x < size → y < size → source + x ≡ target + y → ⊥
  pub source_below : (x : ℕ) → x < size → at w (source + x) < m
  pub target_below : (x : ℕ) → x < size → at w (target + x) < m

-- what the table at the target becomes
abbrev pub sum_at : ℕ → ℕ → ℕ → List ℕ → ℕ → ℕ
sum_at m source target w x = (at w (target + x) + at w (source + x)) % m

-- ---- one turn: a table of k + 1 controls at `lower`, one of k at `here` and room for the next one behind that

pub record TurnReady (m k lower here : ℕ) (b w : List ℕ) : Type 0 where
  pub few : suc k ≤ most_controls
  pub entries : 2 ^ suc k ≤ length b
  pub below : (S : ℕ) → S < 2 ^ suc k → at b S < m
  pub lower_behind : rows_length k ≤ lower
  pub here_behind : rows_length k ≤ here
  pub lower_in : lower + 2 ^ suc k ≤ length w
  pub here_in : here + 2 ^ suc k ≤ length w
  pub apart : (x y : ℕ) → x < 2 ^ suc k → y < 2 ^ suc k → lower + x ≡ here + y → ⊥
  pub lower_below : (x : ℕ) → x < 2 ^ suc k → at w (lower + x) < m
  pub here_below : (x : ℕ) → x < 2 ^ k → at w (here + x) < m

-- the upper half is added here, the lower half times b's upper half stands behind it, and nothing else behind the rows changes
pub record TurnMade (m k lower here : ℕ) (b w s : List ℕ) : Type 0 where
  pub added : (S : ℕ) → S < 2 ^ k → at s (here + S) ≡ (at w (here + S) + at w (lower + (2 ^ k + S))) % m
  pub next : (S : ℕ) → S < 2 ^ k → at s (here + (2 ^ k + S)) ≡ subset_sum k (λ x. at w (lower + x)) (λ x. at b (2 ^ k + x)) S % m
  pub rest : (x : ℕ) → rows_length k ≤ x → ((y : ℕ) → y < 2 ^ suc k → x ≡ here + y → ⊥) → at s x ≡ at w x
