-- The levels of the projection in a workspace: tables side by side in one of two areas behind the rows.
use Rattle.std.specs.Prelude.{◌≡◌, List, ℕ, suc, ◌+◌, ◌-◌, ◌*◌, ◌^◌, ◌≤◌, ◌<◌, length}
use Rattle.definitions.specs.Limits.{most_controls}
use Rattle.definitions.specs.Sums.{at}
use Rattle.ranked_theory.specs.Layout.{rows_length}
use Rattle.projection_theory.specs.Levels.{Same}

-- table i of k controls, side by side from a place on
abbrev pub slots : ℕ → ℕ → List ℕ → ℕ → ℕ → ℕ
slots k place w i S = at w (place + (i * 2 ^ k + S))

-- c tables of k controls, all of residues
abbrev pub Residues : ℕ → ℕ → ℕ → ℕ → List ℕ → Type 0
Residues m k c place w = (i S : ℕ) → i < c → S < 2 ^ k → slots k place w i S < m

-- two areas of 2 ^ n entries behind the rows of a product, apart, in a workspace of that length
pub record Areas (n source target long : ℕ) : Type 0 where
  pub source_behind : rows_length n ≤ source
  pub target_behind : rows_length n ≤ target
  pub source_in : source + 2 ^ n ≤ long
  pub target_in : target + 2 ^ n ≤ long
  pub apart : (x y : ℕ) → x < 2 ^ n → y < 2 ^ n → source + x ≡ target + y → ⊥

-- the tables of k + 1 controls stand in one area
pub record LevelReady (m n k source target : ℕ) (b w : List ℕ) : Type 0 where
  pub few : n ≤ most_controls
  pub more : k < n
  pub long : length b ≡ 2 ^ n
  pub below : (S : ℕ) → S < 2 ^ n → at b S < m
  pub areas : Areas n source target (length w)
  pub filled : Residues m (suc k) (n - k) source w

-- the tables of k controls in the other area have the same value, whatever the row
pub record LevelMade (m n k source target : ℕ) (b w s : List ℕ) : Type 0 where
  pub filled : Residues m k (suc (n - k)) target s
  pub same : Same m k (suc (n - k)) (slots k target s) (suc k) (n - k) (slots (suc k) source w) (at b)

-- what the projection is lent
pub record Ready (m n : ℕ) (a b r w : List ℕ) : Type 0 where
  pub few : n ≤ most_controls
  pub left : length a ≡ 2 ^ n
  pub left_below : (S : ℕ) → S < 2 ^ n → at a S < m
  pub right : length b ≡ 2 ^ n
  pub right_below : (S : ℕ) → S < 2 ^ n → at b S < m
  pub row : length r ≡ n + 1
  pub room : rows_length n + 2 * 2 ^ n ≤ length w
