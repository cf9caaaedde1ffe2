-- 02's law of boards as one statement about calls: a fresh board, and then the changes of a lent list. In this order: the list, the
-- calls, what they promise, the law.
use Rattle.std.specs.Prelude.{◌≡◌, List, [], ◌∷◌, ◌++◌, ℕ, zero, suc, min, length}
use Rattle.definitions.specs.Sums.{at}
use Rattle.definitions.specs.Boards.{Board, fresh_board, fresh_number, board_after, Change, adds, takes, number_on, next, run, run_numbers, BoardLaw}

-- ---- the list

-- kind 0 adds, every other takes
abbrev pub change_of : ℕ → ℕ → ℕ → Change
change_of zero S c = adds S c
change_of (suc kind) S c = takes S c

-- the first k changes of three lists: kinds, sets, weights
unfoldable pub changes_of : ℕ → List ℕ → List ℕ → List ℕ → List Change
changes_of zero kinds sets weights = []
changes_of (suc k) kinds sets weights =
    changes_of k kinds sets weights ++ (change_of (at kinds k) (at sets k) (at weights k) ∷ [])

-- as many as the shortest has
abbrev pub lent_changes : List ℕ → List ℕ → List ℕ → List Change
lent_changes kinds sets weights = changes_of (min (min (length kinds) (length sets)) (length weights)) kinds sets weights

-- ---- the calls

-- a fresh board made in lent tables, and then the changes of a list, one after the other
pub record Calls : Type 0 where
  pub changes : List Change
  pub found : Board  -- the lent tables, as they were
  pub left : Board  -- and as they then are
  pub fresh : ℕ  -- what the fresh board's call returned
  pub lent : List ℕ  -- the slice for the numbers of the changes, as it was
  pub kept : List ℕ  -- and as it then is

-- ---- what they promise

-- one change of the board b, which returned r and left c
pub record ChangeMade (n m : ℕ) (x : Change) (b : Board) (r : ℕ) (c : Board) : Type 0 where
  pub number : r ≡ number_on n m b x
  pub board : c ≡ next n m b x

-- numbers at the start of a lent list, as far as it goes; what is behind them is unchanged
unfoldable pub written : List ℕ → List ℕ → List ℕ
written [] lent = lent
written (k ∷ numbers) [] = []
written (k ∷ numbers) (x ∷ lent) = k ∷ written numbers lent

-- changes one after the other, of the board b, which left c and these numbers
pub record ChangesMade (n m : ℕ) (changes : List Change) (b c : Board) (lent kept : List ℕ) : Type 0 where
  pub board : c ≡ run n m b changes
  pub numbers : kept ≡ written (run_numbers n m b changes) lent

pub record Run (n m : ℕ) (c : Calls) : Type 0 where
  pub fresh : c.fresh ≡ fresh_number n m c.found
  pub changes : ChangesMade n m c.changes (board_after c.fresh (fresh_board n) c.found) c.left c.lent c.kept

-- ---- the law

-- what the function that makes the calls promises: what these promise one after the other, whatever they were lent, and the law
-- if a fresh board was made
pub record Lawful (n m : ℕ) (c : Calls) : Type 0 where
  pub run : Run n m c
  pub law : c.fresh ≡ 0 → BoardLaw n m c.changes c.left
