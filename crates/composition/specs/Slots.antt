-- Tables side by side in a list, and the step that makes one table of the next size of two neighbours.
use Rattle.std.specs.Prelude.{◌≡◌, List, ◌⊎◌, ℕ, suc, ◌+◌, ◌-◌, ◌*◌, ◌%◌, ◌^◌, ◌<◌, ◌≤◌, length, drop}
use Rattle.definitions.specs.Limits.{most_controls}
use Rattle.definitions.specs.Sums.{at}
use Rattle.definitions.specs.Products.{subset_table}
use Rattle.definitions.specs.Partitions.{composition_sum}
use Rattle.theory.specs.Halves.{from}
use Rattle.ranked_theory.specs.Layout.{rows_length}
use Rattle.ranked_within.specs.Within.{table_at}

-- ---- a table copied to its own place or behind itself

pub record CopyReady (size source target : ℕ) (r : List ℕ) : Type 0 where
  pub inside : target + size ≤ length r
  pub ordered : source ≤ target
  pub apart : (source ≡ target) ⊎ (source + size ≤ target)

pub record Copied (size source target : ℕ) (r s : List ℕ) : Type 0 where
  pub there : (j : ℕ) → j < size → at s (target + j) ≡ at r (source + j)
  pub before : (x : ℕ) → x < target → at s x ≡ at r x
  pub behind : (x : ℕ) → target + size ≤ x → at s x ≡ at r x

-- ---- one table of the next size

-- the tables stand in w from start on, behind the rows of their products
pub record TurnReady (k i m start : ℕ) (a w : List ℕ) : Type 0 where
  pub few : suc k ≤ most_controls
  pub entries : 2 ^ suc k ≤ length a
  pub below : (S : ℕ) → S < 2 ^ suc k → at a S < m
  pub rows : rows_length k ≤ start
  pub inside : start + 2 * (suc i * 2 ^ k) ≤ length w
  pub both_below : (x : ℕ) → i * 2 ^ k ≤ x → x < suc (suc i) * 2 ^ k → at w (start + x) < m

-- s is r, the tables from start on, after the step
pub record Turned (k i m : ℕ) (a r s : List ℕ) : Type 0 where
  pub lower : (S : ℕ) → S < 2 ^ k → at s (2 * (i * 2 ^ k) + S) ≡ at r (i * 2 ^ k + S)
  pub upper : (S : ℕ) → S < 2 ^ k → at s (2 * (i * 2 ^ k) + 2 ^ k + S) ≡ at (subset_table k m (table_at k (suc i * 2 ^ k) r) (table_at k (2 ^ k) a)) S
  pub before : (x : ℕ) → x < 2 * (i * 2 ^ k) → at s x ≡ at r x
  pub behind : (x : ℕ) → 2 * (i * 2 ^ k) + 2 * 2 ^ k ≤ x → at s x ≡ at r x

-- ---- a level: the tables of k controls

-- slot i of 2 ^ k numbers holds the composition of the first k controls' sets with the row from i on, for low ≤ i < high
pub record Slots (m k low high : ℕ) (f A : ℕ → ℕ) (r : List ℕ) : Type 0 where
  pub slot : (i S : ℕ) → low ≤ i → i < high → S < 2 ^ k → at r (i * 2 ^ k + S) ≡ composition_sum k (from i f) A S % m

-- the tables of k controls at level k of a composition with some row
pub record LevelReady (n k m start : ℕ) (a w : List ℕ) : Type 0 where
  pub few : n ≤ most_controls
  pub more : k < n
  pub long : length a ≡ 2 ^ n
  pub below : (S : ℕ) → S < 2 ^ n → at a S < m
  pub rows : rows_length n ≤ start
  pub room : start + 2 ^ n ≤ length w
  pub row : ℕ → ℕ
  pub slots : Slots m k 0 (suc (n - k)) row (at a) (drop start w)

-- whatever the row is, its tables of k controls have become those of k + 1
abbrev pub LevelRaised : ℕ → ℕ → ℕ → List ℕ → List ℕ → List ℕ → Type 0
LevelRaised n k m a r s = (f : ℕ → ℕ) → Slots m k 0 (suc (n - k)) f (at a) r → Slots m (suc k) 0 (n - k) f (at a) s
