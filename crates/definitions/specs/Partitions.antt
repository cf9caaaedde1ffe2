-- The partitions of a set of controls, and what is summed over them: composition, exponential and, by that, the logarithm.
-- Also the inverse under the subset product.
use Rattle.std.specs.Prelude.{◌≡◌, Bool, true, cond, ◌&&◌, ℕ, zero, suc, ◌+◌, ◌*◌, ◌-◌, ◌%◌, ◌^◌, ltb, eqb, length}
use mathlib.Core.List.{List, [], ◌∷◌, map, flat_map}
use Rattle.definitions.specs.Sums.{list_sum, some, tabulate, at}
use Rattle.definitions.specs.Sets.{without, subsets}
use Rattle.definitions.specs.Products.{residues, subset_table}

-- The partitions of S, a set of the first n controls, each as the list of its blocks' codes. If S has the top control, then
-- the block that holds it is that control with a set T of others, and the other blocks are a partition of the rest.
-- (`theory`, Partitions: the blocks are nonempty and pairwise disjoint with union S, and each such collection is listed once.)
unfoldable pub partitions : ℕ → ℕ → List (List ℕ)
partitions zero S = [] ∷ []
partitions (suc n) S =
    cond (ltb S (2 ^ n)) (partitions n S)
    (flat_map (λ T. map (λ p. (2 ^ n + T) ∷ p) (partitions n (without (S - 2 ^ n) T))) (subsets n (S - 2 ^ n)))

-- the product of A over the blocks
unfoldable pub block_product : (ℕ → ℕ) → List ℕ → ℕ
block_product A [] = 1
block_product A (b ∷ p) = A b * block_product A p

-- the sum over the partitions of S of f[number of blocks] times the product of A over the blocks
unfoldable pub composition_sum : ℕ → (ℕ → ℕ) → (ℕ → ℕ) → ℕ → ℕ
composition_sum n f A S = list_sum (λ p. f (length p) * block_product A p) (partitions n S)

abbrev pub composition_table : ℕ → ℕ → List ℕ → List ℕ → List ℕ
composition_table n m f A = residues n m (composition_sum n (at f) (at A))

abbrev pub all_ones : ℕ → ℕ
all_ones k = 1

-- composition with a row of ones: the sum over the partitions of the product of A over the blocks
abbrev pub exponential_table : ℕ → ℕ → List ℕ → List ℕ
exponential_table n m A = residues n m (composition_sum n all_ones (at A))

-- whether every entry is below m
unfoldable pub all_below : ℕ → List ℕ → Bool
all_below m [] = true
all_below m (x ∷ xs) = ltb x m && all_below m xs

-- A is a logarithm of E: a table of residues with first entry 0 whose exponential is E
pub record IsLogarithm (n m : ℕ) (E A : List ℕ) : Type 0 where
  pub long : length A ≡ 2 ^ n
  pub below : all_below m A ≡ true
  pub first : at A 0 ≡ 0
  pub exponential : exponential_table n m A ≡ E

-- 1 at the empty set and 0 elsewhere
abbrev pub unit : ℕ → ℕ
unit S = cond (eqb S 0) 1 0

-- I is an inverse of A: a table of residues whose subset product with A is 1 at the empty set and 0 elsewhere
pub record IsInverse (n m : ℕ) (A I : List ℕ) : Type 0 where
  pub long : length I ≡ 2 ^ n
  pub below : all_below m I ≡ true
  pub product : subset_table n m A I ≡ tabulate (2 ^ n) unit

-- whether m and x have a common divisor above 1; it need not be looked for beyond m
unfoldable pub shares_divisor : ℕ → ℕ → Bool
shares_divisor m x = some (suc m) (λ d. ltb 1 d && (eqb (m % d) 0 && eqb (x % d) 0))
