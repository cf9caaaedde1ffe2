-- 01's entries worked by hand, as one theorem of the definitions; and projections and ceilings worked by hand.
use Rattle.std.specs.Prelude.{◌≡◌, refl, ℕ}
use mathlib.Core.List.{List, [], ◌∷◌, flat_map}
use Rattle.std.specs.Int.Count.{ones}
use Rattle.definitions.specs.Sums.{sum, list_sum, count, some, largest, tabulate, keep}
use Rattle.definitions.specs.Sets.{inside, subsets}
use Rattle.definitions.specs.Products.{residues, subset_sum, pair_sum, subset_table, union_table, xor_table, nonzero, degree}
use Rattle.definitions.specs.Rows.{choose, binomial_sum, binomial_row}
use Rattle.definitions.specs.Partitions.{partitions, block_product, composition_sum, composition_table, exponential_table, all_below, IsLogarithm, IsInverse}
use Rattle.definitions.specs.Projection.{one_row, whole_entry, projection_entry, projection_row}

-- a call with its inputs and what it gives
pub data Case : Type 0 where
  subset union xor : (n m : ℕ) (A B H : List ℕ) → Case
  inverse exponential logarithm : (n m : ℕ) (A H : List ℕ) → Case
  composition : (n m : ℕ) (A f H : List ℕ) → Case
  binomial : (n m : ℕ) (f g h : List ℕ) → Case
  ceiling : (n m : ℕ) (A B : List ℕ) (c : ℕ) → Case
  ceiling_of : (n : ℕ) (A : List ℕ) (c : ℕ) → Case
  projection : (n m : ℕ) (A B h : List ℕ) → Case

-- what the definitions say of it
abbrev pub Holds : Case → Type 0
Holds (subset n m A B H) = subset_table n m A B ≡ H
Holds (union n m A B H) = union_table n m A B ≡ H
Holds (xor n m A B H) = xor_table n m A B ≡ H
Holds (inverse n m A H) = IsInverse n m A H
Holds (exponential n m A H) = exponential_table n m A ≡ H
Holds (logarithm n m E H) = IsLogarithm n m E H
Holds (composition n m A f H) = composition_table n m f A ≡ H
Holds (binomial n m f g h) = binomial_row n m f g ≡ h
Holds (ceiling n m A B c) = degree n (subset_table n m A B) ≡ c
Holds (ceiling_of n A c) = degree n A ≡ c
Holds (projection n m A B h) = projection_row n m A B ≡ h

-- every case of a list holds
abbrev pub AllHold : List Case → Type 0
AllHold [] = Unit {0}
AllHold (c ∷ cs) = Holds c × AllHold cs

abbrev pub P : List ℕ
P = 1 ∷ 2 ∷ 3 ∷ 4 ∷ []

abbrev pub Q : List ℕ
Q = 5 ∷ 6 ∷ 7 ∷ 8 ∷ []

abbrev pub R : List ℕ
R = 0 ∷ 2 ∷ 3 ∷ 4 ∷ []

-- 01's twelve, in its order; the last has a table and a ceiling, the latter as 02 changes it
abbrev pub cases : List Case
cases =
    subset 2 101 P Q (5 ∷ 16 ∷ 22 ∷ 60 ∷ [])
    ∷ union 2 101 P Q (5 ∷ 28 ∷ 43 ∷ 83 ∷ [])
    ∷ xor 2 101 P Q (70 ∷ 68 ∷ 62 ∷ 60 ∷ [])
    ∷ inverse 2 101 P (1 ∷ 99 ∷ 98 ∷ 8 ∷ [])
    ∷ exponential 2 101 R (1 ∷ 2 ∷ 3 ∷ 10 ∷ [])
    ∷ logarithm 2 101 (1 ∷ 2 ∷ 3 ∷ 10 ∷ []) R
    ∷ composition 2 101 R (1 ∷ 0 ∷ 5 ∷ []) (1 ∷ 0 ∷ 0 ∷ 30 ∷ [])
    ∷ binomial 2 101 (1 ∷ 0 ∷ 5 ∷ []) (1 ∷ 1 ∷ 1 ∷ []) (1 ∷ 1 ∷ 6 ∷ [])
    ∷ exponential 3 101 (0 ∷ 1 ∷ 1 ∷ 1 ∷ 1 ∷ 1 ∷ 1 ∷ 1 ∷ []) (1 ∷ 1 ∷ 1 ∷ 2 ∷ 1 ∷ 2 ∷ 2 ∷ 5 ∷ [])
    ∷ exponential 2 2 (0 ∷ 1 ∷ 1 ∷ 1 ∷ []) (1 ∷ 1 ∷ 1 ∷ 0 ∷ [])
    ∷ subset 0 5 (3 ∷ []) (4 ∷ []) (2 ∷ [])
    ∷ subset 2 101 (0 ∷ 2 ∷ 0 ∷ 0 ∷ []) (0 ∷ 3 ∷ 0 ∷ 0 ∷ []) (0 ∷ 0 ∷ 0 ∷ 0 ∷ [])
    ∷ ceiling 2 101 (0 ∷ 2 ∷ 0 ∷ 0 ∷ []) (0 ∷ 3 ∷ 0 ∷ 0 ∷ []) 255
    ∷ []

pub worked : AllHold cases
unfolding residues tabulate subset_sum pair_sum sum inside binomial_row binomial_sum choose count composition_sum list_sum partitions subsets keep block_product all_below nonzero some degree largest flat_map ones
worked = (
  refl,
  (
    refl,
    (
      refl,
      (
        record { long = refl; below = refl; product = refl },
        (
          refl,
          (
            record { long = refl; below = refl; first = refl; exponential = refl },
            (refl, (refl, (refl, (refl, (refl, (refl, (refl, tt))))))),
          ),
        ),
      ),
    ),
  ),
)

-- Of P and R: with no block, P's own 4; with one, 1 · 4 + 2 · 3 + 3 · 2; with two, 1 · 2 · 3. The same under m = 5. With A = [1, 0, ..] the
-- partitions of the whole panel alone: under R, and with all ones, where they are counted.
abbrev pub projections : List Case
projections =
    projection 2 101 P R (4 ∷ 16 ∷ 6 ∷ [])
    ∷ projection 2 5 P R (4 ∷ 1 ∷ 1 ∷ [])
    ∷ projection 2 101 (1 ∷ 0 ∷ 0 ∷ 0 ∷ []) R (0 ∷ 4 ∷ 6 ∷ [])
    ∷ projection 3 101 (1 ∷ 0 ∷ 0 ∷ 0 ∷ 0 ∷ 0 ∷ 0 ∷ 0 ∷ []) (0 ∷ 1 ∷ 1 ∷ 1 ∷ 1 ∷ 1 ∷ 1 ∷ 1 ∷ []) (0 ∷ 1 ∷ 3 ∷ 1 ∷ [])
    ∷ projection 0 5 (3 ∷ []) (0 ∷ []) (3 ∷ [])
    ∷ []

pub worked_projections : AllHold projections
unfolding residues tabulate subset_sum sum inside composition_sum list_sum partitions subsets keep block_product flat_map one_row whole_entry projection_entry projection_row
worked_projections = (refl, (refl, (refl, (refl, (refl, tt)))))

-- A table of zeros is told from one whose only nonzero entry is the empty set's.
abbrev pub ceilings : List Case
ceilings =
    ceiling_of 2 (0 ∷ 0 ∷ 0 ∷ 0 ∷ []) 255
    ∷ ceiling_of 0 (0 ∷ []) 255
    ∷ ceiling_of 2 (1 ∷ 0 ∷ 0 ∷ 0 ∷ []) 0
    ∷ ceiling_of 0 (3 ∷ []) 0
    ∷ ceiling_of 2 (0 ∷ 0 ∷ 3 ∷ 0 ∷ []) 1
    ∷ ceiling_of 2 P 2
    ∷ ceiling_of 1 (0 ∷ 1 ∷ []) 1
    ∷ ceiling_of 3 (0 ∷ 0 ∷ 0 ∷ 0 ∷ 0 ∷ 0 ∷ 0 ∷ 1 ∷ []) 3
    ∷ ceiling_of 4 (0 ∷ 0 ∷ 0 ∷ 0 ∷ 0 ∷ 0 ∷ 0 ∷ 0 ∷ 0 ∷ 0 ∷ 0 ∷ 0 ∷ 0 ∷ 0 ∷ 0 ∷ 1 ∷ []) 4
    ∷ []

pub worked_ceilings : AllHold ceilings
unfolding nonzero some degree largest ones
worked_ceilings = (refl, (refl, (refl, (refl, (refl, (refl, (refl, (refl, (refl, tt)))))))))

-- The ceiling of a subset product is not known from those of its factors: their sets can overlap, and products of entries and sums
-- of these can be 0 under m. The last is of P and its inverse.
abbrev pub product_ceilings : List Case
product_ceilings =
    ceiling 2 101 (0 ∷ 0 ∷ 0 ∷ 0 ∷ []) (0 ∷ 0 ∷ 0 ∷ 0 ∷ []) 255
    ∷ ceiling 2 101 (0 ∷ 0 ∷ 0 ∷ 0 ∷ []) P 255
    ∷ ceiling 2 101 P (0 ∷ 0 ∷ 0 ∷ 0 ∷ []) 255
    ∷ ceiling 0 5 (0 ∷ []) (4 ∷ []) 255
    ∷ ceiling 2 101 (1 ∷ 0 ∷ 0 ∷ 0 ∷ []) (1 ∷ 0 ∷ 0 ∷ 0 ∷ []) 0
    ∷ ceiling 1 101 (1 ∷ 0 ∷ []) (1 ∷ 0 ∷ []) 0
    ∷ ceiling 0 5 (3 ∷ []) (4 ∷ []) 0
    ∷ ceiling 2 101 P (1 ∷ 0 ∷ 0 ∷ 0 ∷ []) 2
    ∷ ceiling 2 101 P P 2
    ∷ ceiling 3 101 (0 ∷ 4 ∷ 0 ∷ 0 ∷ 0 ∷ 0 ∷ 0 ∷ 0 ∷ []) (0 ∷ 0 ∷ 5 ∷ 0 ∷ 0 ∷ 0 ∷ 0 ∷ 0 ∷ []) 2
    ∷ ceiling 3 101 (0 ∷ 0 ∷ 0 ∷ 4 ∷ 0 ∷ 0 ∷ 0 ∷ 0 ∷ []) (0 ∷ 0 ∷ 0 ∷ 0 ∷ 5 ∷ 0 ∷ 0 ∷ 0 ∷ []) 3
    ∷ ceiling 0 6 (2 ∷ []) (3 ∷ []) 255
    ∷ ceiling 2 101 (0 ∷ 2 ∷ 3 ∷ 0 ∷ []) (0 ∷ 2 ∷ 98 ∷ 0 ∷ []) 255
    ∷ ceiling 2 6 (1 ∷ 0 ∷ 2 ∷ 0 ∷ []) (1 ∷ 3 ∷ 0 ∷ 0 ∷ []) 1
    ∷ ceiling 2 101 P (1 ∷ 99 ∷ 98 ∷ 8 ∷ []) 0
    ∷ []

pub worked_product_ceilings : AllHold product_ceilings
unfolding residues tabulate subset_sum sum inside nonzero some degree largest ones
worked_product_ceilings = (refl, (refl, (refl, (refl, (refl, (refl, (refl, (refl, (refl, (refl, (refl, (refl, (refl, (refl, (refl, tt)))))))))))))))
