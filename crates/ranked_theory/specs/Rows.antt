-- What the loops over rows do, entry by entry. A part of the workspace is 2 ^ q rows of w numbers; its upper half starts at mid.
use Rattle.std.specs.Prelude.{◌≡◌, List, ◌⊎◌, ℕ, zero, suc, ◌+◌, ◌-◌, ◌*◌, ◌%◌, ◌^◌, ◌≤◌, ◌<◌, min, length}
use Rattle.definitions.specs.Sums.{sum, at}

-- ---- a run of numbers

abbrev pub plus : ℕ → ℕ → ℕ → ℕ
plus m x y = (x + y) % m

-- going round through m
abbrev pub minus : ℕ → ℕ → ℕ → ℕ
minus m x y = (x + (m - y)) % m

abbrev pub stored : ℕ → ℕ → ℕ
stored x y = y

-- ys is xs with the count values of v from place base on
pub record Placed (v : ℕ → ℕ) (base count : ℕ) (xs ys : List ℕ) : Type 0 where
  pub inside : (i : ℕ) → i < count → at ys (base + i) ≡ v i
  pub outside : (j : ℕ) → (j < base) ⊎ (base + count ≤ j) → at ys j ≡ at xs j

-- entry hi + i takes op of itself and of entry lo + i, for i < count
abbrev pub Run : (ℕ → ℕ → ℕ) → ℕ → ℕ → ℕ → List ℕ → List ℕ → Type 0
Run op lo hi count xs ys = Placed (λ i. op (at xs (hi + i)) (at xs (lo + i))) hi count xs ys

-- four numbers of a run as it makes them: op of entry hi + i and of entry lo + i
pub record Taken (op : ℕ → ℕ → ℕ) (lo hi : ℕ) (xs : List ℕ) (a b c d : ℕ) : Type 0 where
  pub first : a ≡ op (at xs hi) (at xs lo)
  pub second : b ≡ op (at xs (hi + 1)) (at xs (lo + 1))
  pub third : c ≡ op (at xs (hi + 2)) (at xs (lo + 2))
  pub fourth : d ≡ op (at xs (hi + 3)) (at xs (lo + 3))

-- one of four numbers, by its place among them
abbrev pub of_four : ℕ → ℕ → ℕ → ℕ → ℕ → ℕ
of_four a b c d zero = a
of_four a b c d (suc zero) = b
of_four a b c d (suc (suc zero)) = c
of_four a b c d (suc (suc (suc i))) = d

pub record RunReady (m lo hi count : ℕ) (xs : List ℕ) : Type 0 where
  pub apart : lo + count ≤ hi
  pub long : hi + count ≤ length xs
  pub lower : (i : ℕ) → i < count → at xs (lo + i) < m
  pub upper : (i : ℕ) → i < count → at xs (hi + i) < m

-- two numbers of a list, both residues
pub record PairReady (m lo hi : ℕ) (xs : List ℕ) : Type 0 where
  pub apart : lo < hi
  pub long : hi < length xs
  pub lower : at xs lo < m
  pub upper : at xs hi < m

-- ---- a row, and the row mid past it
--
-- Row h has the rank k of its factors at the places 2 (|h| - k) and 2 (|h| - k) + 1 and the rank |h| + i of the result at 2 n - i,
-- from its end. The row past it has one control more, so that a rank stands two places on there, and one place on in the result.

-- Step (1) at place r of the upper row, which held x, over y two places before in the lower row. The lower row's lowest rank is below
-- those that the upper row has, so it is stored.
pub record Added (m d r x y z : ℕ) : Type 0 where
  pub highest : r < 2 → z ≡ x
  pub sums : 2 ≤ r → r < 2 * d + 2 → z ≡ plus m x y
  pub lowest : 2 * d + 2 ≤ r → r < 2 * d + 4 → z ≡ y

-- Step (2) at place r of the upper row over y one place before in the lower row, where s is the size |h| of the lower row's code:
-- the ranks from |h| to |h| + e, and none past 2 |h|
pub record Subtracted (m w e s r x y z : ℕ) : Type 0 where
  pub within : w ≤ r + min e s + 1 → z ≡ minus m x y
  pub without : r + min e s + 1 < w → z ≡ x

-- the row mid past row u becomes at each place r what P says of that place and of the place shift before it in row u, and nothing
-- else changes
pub record RowStep (P : ℕ → ℕ → ℕ → ℕ → Type 0) (shift w mid u : ℕ) (xs ys : List ℕ) : Type 0 where
  pub here : (r : ℕ) → r < w → P r (at xs (mid + (u * w + r))) (at xs (u * w + (r - shift))) (at ys (mid + (u * w + r)))
  pub elsewhere : (j : ℕ) → (j < mid + u * w) ⊎ (mid + (u * w + w) ≤ j) → at ys j ≡ at xs j

-- row u and the row mid past it are in the list; row u has residues at count places from lo on, and the other one shift past them
pub record RowReady (m shift lo count w mid u : ℕ) (xs : List ℕ) : Type 0 where
  pub row : lo + shift + count ≤ w
  pub lower : u * w + w ≤ mid
  pub upper : mid + (u * w + w) ≤ length xs
  pub lower_below : (r : ℕ) → lo ≤ r → r < lo + count → at xs (u * w + r) < m
  pub upper_below : (r : ℕ) → lo + shift ≤ r → r < lo + shift + count → at xs (mid + (u * w + r)) < m

-- ---- the rows of the upper half, each over its row of the lower half

-- rows mid + u become what P u says, for u < h
pub record RowsStep (P : ℕ → ℕ → ℕ → ℕ → ℕ → Type 0) (shift w mid h : ℕ) (xs ys : List ℕ) : Type 0 where
  pub changed : (u r : ℕ) → u < h → r < w → P u r (at xs (mid + (u * w + r))) (at xs (u * w + (r - shift))) (at ys (mid + (u * w + r)))
  pub lower : (j : ℕ) → j < mid → at ys j ≡ at xs j
  pub rest : (j : ℕ) → mid + h * w ≤ j → at ys j ≡ at xs j

-- two halves of 2 ^ p rows, with residues at count u places of row u from lo u on, and shift past them in the upper half
pub record RowsReady (m shift : ℕ) (lo count : ℕ → ℕ) (w p : ℕ) (xs : List ℕ) : Type 0 where
  pub few : p ≤ 16
  pub long : length xs ≡ 2 ^ p * w + 2 ^ p * w
  pub row : (u : ℕ) → u < 2 ^ p → lo u + shift + count u ≤ w
  pub lower_below : (u r : ℕ) → u < 2 ^ p → lo u ≤ r → r < lo u + count u → at xs (u * w + r) < m
  pub upper_below : (u r : ℕ) → u < 2 ^ p → lo u + shift ≤ r → r < lo u + shift + count u → at xs (2 ^ p * w + (u * w + r)) < m

-- where step (2) starts in a row, and how many places it has
abbrev pub back_from : ℕ → ℕ → ℕ → ℕ
back_from w e s = w - 2 - min e s

abbrev pub back_count : ℕ → ℕ → ℕ
back_count e s = min e s + 1

-- ---- one row

-- how many coefficients step (3) makes: of the ranks from d to 2 d, those up to n
abbrev pub coefficient_count : ℕ → ℕ → ℕ
coefficient_count n d = min (n - d) d + 1

-- rank 2 d - t of the product of the row's two factors, which go up to rank d: their ranks are counted from d down
abbrev pub coefficient : ℕ → List ℕ → ℕ
coefficient t xs = sum (t + 1) (λ j. at xs (2 * (t - j)) * at xs (2 * j + 1))

-- the row has the ranks that such a coefficient takes
pub record RanksWithin (t : ℕ) (xs : List ℕ) : Type 0 where
  pub few : t ≤ 16
  pub long : 2 * t + 2 ≤ length xs

-- a row of a set of d controls
pub record WholeRow (n d : ℕ) (xs : List ℕ) : Type 0 where
  pub few : n ≤ 16
  pub deep : d ≤ n
  pub long : 2 * n + 2 ≤ length xs

-- Step (3). Step (2) goes on to take the rank below d too, which counts for nothing: it is left a residue.
pub record Multiplied (m n d : ℕ) (xs ys : List ℕ) : Type 0 where
  pub ranks : (e : ℕ) → e < coefficient_count n d → at ys (2 * n - e) ≡ coefficient (d - e) xs % m
  pub before : at ys (2 * n + 1) ≡ 0
