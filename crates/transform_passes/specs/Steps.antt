-- The step of each transform, on the entries of a set without a control and of the set with it, and the tables it is made on.
use Rattle.std.specs.Prelude.{◌≡◌, List, ℕ, ◌+◌, ◌*◌, ◌%◌, ◌^◌, ◌<◌, ◌≤◌, length, set}
use Rattle.std.proofs.Common.{arith, mod-lt}
use Rattle.definitions.specs.Sums.{tabulate, at}
use Rattle.theory.specs.Passes.{lower, passes}
use Rattle.theory.specs.Convolution.{add_lower, take_lower, add_upper, take_upper, transformed, point_table}
use Rattle.checks.specs.Accepted.{IsTable}
use Rattle.transform_passes.specs.declared.Four.{Four}

-- what then stands at the set without the control, and at the one with it, modulo m
pub record Step : Type 0 where
  pub lower : ℕ → ℕ → ℕ → ℕ
  pub upper : ℕ → ℕ → ℕ → ℕ

abbrev pub zeta : Step
zeta = record { lower = λ m. lower; upper = add_lower }

abbrev pub moebius : Step
moebius = record { lower = λ m. lower; upper = take_lower }

abbrev pub walsh : Step
walsh = record { lower = add_upper; upper = take_upper }

-- of residues it makes residues
pub record KeepsResidues (s : Step) : Type 0 where
  pub lower : (m x y : ℕ) → x < m → y < m → s.lower m x y < m
  pub upper : (m x y : ℕ) → x < m → y < m → s.upper m x y < m

positive : {m x : ℕ} → x < m → 0 < m
positive h = omega arith

pub zeta_keeps : KeepsResidues zeta
zeta_keeps = record { lower = λ m x y p q. p; upper = λ m x y p q. mod-lt _ (positive p) }

pub moebius_keeps : KeepsResidues moebius
moebius_keeps = record { lower = λ m x y p q. p; upper = λ m x y p q. mod-lt _ (positive p) }

pub walsh_keeps : KeepsResidues walsh
walsh_keeps = record { lower = λ m x y p q. mod-lt _ (positive p); upper = λ m x y p q. mod-lt _ (positive p) }

-- r is v, and a residue
pub record Gives (m v r : ℕ) : Type 0 where
  pub same : r ≡ v
  pub below : r < m

-- ---- two controls at once

pub record FourBelow (m : ℕ) (x : Four) : Type 0 where
  pub neither : x.neither < m
  pub first : x.first < m
  pub second : x.second < m
  pub both : x.both < m

-- the steps of the first control, and then those of the second
pub record FourOf (p q : ℕ → ℕ → ℕ) (x r : Four) : Type 0 where
  pub neither : r.neither ≡ p (p x.neither x.first) (p x.second x.both)
  pub first : r.first ≡ p (q x.neither x.first) (q x.second x.both)
  pub second : r.second ≡ q (p x.neither x.first) (p x.second x.both)
  pub both : r.both ≡ q (q x.neither x.first) (q x.second x.both)

-- the same in a list, from the place i on
pub record CanCrossFour (m i : ℕ) (l : List ℕ) : Type 0 where
  pub room : i + 4 ≤ length l
  pub below : (k : ℕ) → k < 4 → at l (i + k) < m

unfoldable pub crossed_four : (ℕ → ℕ → ℕ) → (ℕ → ℕ → ℕ) → ℕ → List ℕ → List ℕ
crossed_four p q i l =
    set (set (set (set l i (p (p (at l i) (at l (i + 1))) (p (at l (i + 2)) (at l (i + 3)))))
    (i + 1) (p (q (at l i) (at l (i + 1))) (q (at l (i + 2)) (at l (i + 3)))))
    (i + 2) (q (p (at l i) (at l (i + 1))) (p (at l (i + 2)) (at l (i + 3)))))
    (i + 3) (q (q (at l i) (at l (i + 1))) (q (at l (i + 2)) (at l (i + 3))))

-- ---- tables

-- l is what is left of the table xs after i controls
pub record Applying (m : ℕ) (t : Step) (n : ℕ) (xs : List ℕ) (i : ℕ) (l : List ℕ) : Type 0 where
  pub within : i ≤ n
  pub size : length xs ≡ 2 ^ n
  pub table : IsTable n m l
  pub is : l ≡ tabulate (2 ^ n) (passes (t.lower m) (t.upper m) i (at xs))

-- l is the table xs transformed
pub record Transformed (m : ℕ) (t : Step) (n : ℕ) (xs l : List ℕ) : Type 0 where
  pub is : l ≡ transformed (t.lower m) (t.upper m) n xs
  pub table : IsTable n m l

-- r times 2 ^ n is 1
pub record Halves (n m r : ℕ) : Type 0 where
  pub one : r * 2 ^ n % m ≡ 1 % m
  pub below : r < m

-- two tables transformed, and multiplied entry by entry
abbrev pub products : ℕ → ℕ → Step → List ℕ → List ℕ → List ℕ
products n m t a b =
    point_table n m (transformed (t.lower m) (t.upper m) n a) (transformed (t.lower m) (t.upper m) n b)
