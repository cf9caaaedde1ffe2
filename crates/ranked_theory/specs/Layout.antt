-- Where the rows of a product of n controls hold what. Only the recursion and `ranked_rows`, which works it and has the same names as
-- functions, count on the arithmetic; all above use the names and the laws of this page, so that a new layout changes nothing there.
--   width                                              of a row, for the recursion
--   rows_length, rows_mono, rows_few, rows_and_tables   how many numbers the rows have
--   place, place_in, place_apart                       where they hold a set's entry in one of the two factors
--   result_place, result_in_lem                             where they hold it in the product
use Rattle.std.specs.Prelude.{◌≡◌, ℕ, ◌+◌, ◌*◌, ◌^◌, ◌≤◌, ◌<◌}
use Rattle.std.proofs.Math.Path.{refl}
use Rattle.std.proofs.Common.{⊎_elim, mul-le-mul, pow_mono}
use native.Mathlib.Omega.{arith}
use Rattle.definitions.specs.Limits.{most_controls, pad_length}
use Rattle.theory.specs.Tests.{below_or}
use Rattle.ranked_theory.specs.Places.{row_in}

-- a row for each set
abbrev pub width : ℕ → ℕ
width n = 2 * n + 2

unfoldable pub rows_length : ℕ → ℕ
rows_length n = 2 ^ n * width n

-- the factor at side 0, the left one, or 1: rank |h| of row h
unfoldable pub place : ℕ → ℕ → ℕ → ℕ
place n side h = h * width n + side

-- rank |h| of row h in the product
unfoldable pub result_place : ℕ → ℕ → ℕ
result_place n h = h * width n + 2 * n

-- more controls take more room
pub rows_mono : (p q : ℕ) → p ≤ q → rows_length p ≤ rows_length q
unfolding rows_length
rows_mono p q h = mul-le-mul (pow_mono h) (omega arith)

-- the rows of the most controls are few enough for every index
pub rows_few : (n : ℕ) → n ≤ most_controls → rows_length n ≤ 2228224
unfolding rows_length
rows_few n h = omega (arith, rows_mono n most_controls h)

-- a pad has room for the rows and for two tables behind them
pub rows_and_tables : (n : ℕ) → rows_length n + 2 * 2 ^ n ≤ pad_length n
unfolding rows_length pad_length
rows_and_tables n = omega arith

module _ (n : ℕ) where
  pub place_in : (side h : ℕ) → side ≤ 1 → h < 2 ^ n → place n side h < rows_length n
  unfolding place rows_length
  place_in side h one l = omega (arith, row_in h (2 ^ n) (width n) l)

  pub result_in_lem : (h : ℕ) → h < 2 ^ n → result_place n h < rows_length n
  unfolding result_place rows_length
  result_in_lem h l = omega (arith, row_in h (2 ^ n) (width n) l)

  -- two places of rows are the same only in one row
  same_row : (h r H R : ℕ) → r < width n → R < width n → h * width n + r ≡ H * width n + R → h ≡ H
  same_row h r H R lr lR e =
      ⊎_elim (λ (l : h < H). let b = row_in h H (width n) l in omega arith)
      (λ (g : H ≤ h). ⊎_elim (λ (l : H < h). let b = row_in H h (width n) l in omega arith) (λ (g' : h ≤ H). omega arith) (below_or H h)) (below_or h H)

  -- each factor has a place of its own for each set
  pub place_apart : (side h side' h' : ℕ) → side ≤ 1 → side' ≤ 1 → h < 2 ^ n → h' < 2 ^ n → place n side h ≡ place n side' h'
      → (side ≡ side') × (h ≡ h')
  unfolding place
  place_apart side h side' h' one one' l l' e =
      let same : h ≡ h' = same_row h side h' side' (omega arith) (omega arith) e in
      let z : h * width n ≡ h' * width n = rw same refl in
      (omega arith, same)
