-- What the recursion takes and leaves. Row h has 2 n + 2 numbers. On the way down the two factors lie side by side, the left
-- one's rank k at 2 (|h| - k) and the right one's next to it; from one entry up, the row holds the result's rank |h| + i at 2 n - i.
use Rattle.std.specs.Prelude.{◌≡◌, List, ℕ, ◌+◌, ◌-◌, ◌*◌, ◌%◌, ◌^◌, ◌≤◌, ◌<◌, min, length}
use Rattle.definitions.specs.Sums.{at}
use Rattle.definitions.specs.Sets.{size}
use Rattle.definitions.specs.Products.{subset_table}
use Rattle.ranked_theory.specs.Cover.{cover, Ranks}
use Rattle.ranked_theory.specs.Layout.{width, rows_length, place, result_place}

-- a part of 2 ^ q rows whose codes share d controls above the low q, with residues at the ranks from |h| - d to |h| of each
-- factor. What it holds elsewhere does not matter.
pub record Ready (m n q d : ℕ) (xs : List ℕ) : Type 0 where
  pub few : n ≤ 16
  pub room : d + q ≤ n
  pub long : length xs ≡ 2 ^ q * width n
  pub filled : (u r : ℕ) → u < 2 ^ q → r < 2 * d + 2 → at xs (u * width n + r) < m

-- the factor at side 0 or 1 is f, modulo m
abbrev pub Factor : ℕ → ℕ → ℕ → ℕ → ℕ → List ℕ → (ℕ → ℕ → ℕ) → Type 0
Factor m n side q d xs f =
    (u k : ℕ) → u < 2 ^ q → size u ≤ k → k ≤ size u + d → at xs (u * width n + (2 * (size u + d - k) + side)) ≡ f u k % m

-- Whatever the factors are, ys holds their product over unions, at the ranks of row u from |h| = |u| + d to 2 |h| that the levels
-- above can use: with q controls left those are at most |u| + (n - q).
pub record Worked (m n q d : ℕ) (xs ys : List ℕ) : Type 0 where
  pub below : (u j : ℕ) → u < 2 ^ q → j < width n → 2 * n ≤ j + min (n - q - d) (size u + d) → at ys (u * width n + j) < m
  pub product : (f g : ℕ → ℕ → ℕ) → Ranks q d f → Ranks q d g → Factor m n 0 q d xs f → Factor m n 1 q d xs g
      → (u i : ℕ) → u < 2 ^ q → i ≤ size u + d → i + q + d ≤ n
      → at ys (u * width n + (2 * n - i)) ≡ cover q f g u (size u + d + i) % m

-- ---- tables in rows

-- the rows hold the table A as the factor at that side
abbrev pub Laid : ℕ → ℕ → List ℕ → List ℕ → Type 0
Laid n side A xs = (h : ℕ) → h < 2 ^ n → at xs (place n side h) ≡ at A h

-- room for the rows of a table
pub record Room (n : ℕ) (A xs : List ℕ) : Type 0 where
  pub few : n ≤ 16
  pub table : length A ≡ 2 ^ n
  pub long : rows_length n ≤ length xs

-- one factor laid out; every other number is as it was
pub record LaidOut (n side : ℕ) (A xs ys : List ℕ) : Type 0 where
  pub laid : Laid n side A ys
  pub other : (j : ℕ) → ((h : ℕ) → h < 2 ^ n → j ≡ place n side h → ⊥) → at ys j ≡ at xs j

-- both factors laid out
pub record LaidBoth (n : ℕ) (A B ys : List ℕ) : Type 0 where
  pub left : Laid n 0 A ys
  pub right : Laid n 1 B ys

-- two factors of residues are laid out
pub record BothReady (m n : ℕ) (xs : List ℕ) : Type 0 where
  pub few : n ≤ 16
  pub long : rows_length n ≤ length xs
  pub below : (h side : ℕ) → h < 2 ^ n → side ≤ 1 → at xs (place n side h) < m

-- whatever tables they are, the rows hold their product; behind them nothing has changed
pub record RowsMultiplied (m n : ℕ) (xs ys : List ℕ) : Type 0 where
  pub product : (A B : List ℕ) → LaidBoth n A B xs → (h : ℕ) → h < 2 ^ n → at ys (result_place n h) ≡ at (subset_table n m A B) h
  pub behind : (x : ℕ) → rows_length n ≤ x → at ys x ≡ at xs x

-- the product in a table of its own
abbrev pub ReadOff : ℕ → List ℕ → List ℕ → Type 0
ReadOff n xs r = (h : ℕ) → h < 2 ^ n → at r h ≡ at xs (result_place n h)

-- whatever tables the factors are, r is their product
abbrev pub ProductOfBoth : ℕ → ℕ → List ℕ → List ℕ → Type 0
ProductOfBoth m n xs r = (A B : List ℕ) → LaidBoth n A B xs → r ≡ subset_table n m A B

pub record TablesReady (m n : ℕ) (a b r xs : List ℕ) : Type 0 where
  pub few : n ≤ 16
  pub left : length a ≡ 2 ^ n
  pub left_below : (h : ℕ) → h < 2 ^ n → at a h < m
  pub right : length b ≡ 2 ^ n
  pub right_below : (h : ℕ) → h < 2 ^ n → at b h < m
  pub result : length r ≡ 2 ^ n
  pub long : rows_length n ≤ length xs
