-- One level of the recursion as its code goes: what it takes and leaves. That it goes so is in proofs/Turns.
use Rattle.std.specs.Prelude.{◌≡◌, List, ◌++◌, ℕ, ◌+◌, ◌-◌, ◌*◌, ◌^◌, ◌≤◌, ◌<◌, min, length, take, drop}
use Rattle.definitions.specs.Sums.{at}
use Rattle.definitions.specs.Sets.{size}
use Rattle.ranked_theory.specs.Rows.{Added, Subtracted, RowsStep, RowsReady, back_from, back_count}
use Rattle.ranked_theory.specs.Layout.{width}
use Rattle.ranked_theory.specs.Recursion.{Ready, Worked}

-- step (1) at this level
abbrev pub Down : ℕ → ℕ → ℕ → ℕ → List ℕ → List ℕ → Type 0
Down m p d w xs ys = RowsStep (λ u. Added m d) 2 w (2 ^ p * w) (2 ^ p) xs ys

-- step (2)
abbrev pub Up : ℕ → ℕ → ℕ → ℕ → ℕ → List ℕ → List ℕ → Type 0
Up m n p d w xs ys = RowsStep (λ u. Subtracted m w (n - p - d) (size u + d)) 1 w (2 ^ p * w) (2 ^ p) xs ys

abbrev pub UpReady : ℕ → ℕ → ℕ → ℕ → ℕ → List ℕ → Type 0
UpReady m n p d w xs = RowsReady m 1 (λ u. back_from w (n - p - d) (size u + d)) (λ u. back_count (n - p - d) (size u + d)) w p xs

-- the upper half has residues where step (2) takes them
abbrev pub TakenBelow : ℕ → ℕ → ℕ → ℕ → List ℕ → Type 0
TakenBelow m n p d k = (u r : ℕ) → u < 2 ^ p → r < width n → 2 * n < r + min (n - p - d) (size u + d) → at k (u * width n + r) < m

pub record Level (m n q p d mid w : ℕ) (xs : List ℕ) : Type 0 where
  pub long : length xs ≡ mid + mid
  pub down_ready : RowsReady m 2 (λ u. 0) (λ u. 2 * d) w p xs
  pub down_room : 2 * d + 4 ≤ w
  pub first_ready : (ys : List ℕ) → Down m p d w xs ys → length ys ≡ length xs → Ready m n p d (take mid ys)
  pub second_ready : (ys : List ℕ) → Down m p d w xs ys → length ys ≡ length xs → Ready m n p (d + 1) (drop mid ys)
  pub up_ready : (ys l k : List ℕ) → Down m p d w xs ys → length ys ≡ length xs → Worked m n p d (take mid ys) l → length l ≡ mid → length k ≡ mid
      → TakenBelow m n p d k → UpReady m n p d w (l ++ k)
  pub up : (ys l k zs : List ℕ) → Down m p d w xs ys → length ys ≡ length xs → Worked m n p d (take mid ys) l → Worked m n p (d + 1) (drop mid ys) k
      → length l ≡ mid → length k ≡ mid → Up m n p d w (l ++ k) zs → Worked m n q d xs zs
