-- Sum, difference and the three products of tables of n controls. Each is a sum of natural numbers whose remainder by m is
-- taken once, at the end.
use Rattle.std.specs.Prelude.{Bool, cond, not, List, ℕ, ◌+◌, ◌*◌, ◌-◌, ◌%◌, ◌^◌, eqb}
use Rattle.std.specs.Int.Bits.{bit_or, bit_xor}
use Rattle.definitions.specs.Sums.{sum, some, largest, tabulate, at}
use Rattle.definitions.specs.Sets.{size, inside, without}

-- a table of n controls whose entry at S is the remainder of f S by m
unfoldable pub residues : ℕ → ℕ → (ℕ → ℕ) → List ℕ
residues n m f = tabulate (2 ^ n) (λ S. f S % m)

abbrev pub sum_table : ℕ → ℕ → List ℕ → List ℕ → List ℕ
sum_table n m A B = residues n m (λ S. at A S + at B S)

-- going round through m: m - B[S] is what B[S] lacks to m
abbrev pub difference_table : ℕ → ℕ → List ℕ → List ℕ → List ℕ
difference_table n m A B = residues n m (λ S. at A S + (m - at B S))

-- Σ A[L] · B[S without L] over all L inside S
unfoldable pub subset_sum : ℕ → (ℕ → ℕ) → (ℕ → ℕ) → ℕ → ℕ
subset_sum n A B S = sum (2 ^ n) (λ L. cond (inside L S) (A L * B (without S L)) 0)

-- Σ A[L] · B[R] over all L, R that the operation joins to S
unfoldable pub pair_sum : (ℕ → ℕ → ℕ) → ℕ → (ℕ → ℕ) → (ℕ → ℕ) → ℕ → ℕ
pair_sum join n A B S = sum (2 ^ n) (λ L. sum (2 ^ n) (λ R. cond (eqb (join L R) S) (A L * B R) 0))

abbrev pub subset_table : ℕ → ℕ → List ℕ → List ℕ → List ℕ
subset_table n m A B = residues n m (subset_sum n (at A) (at B))

-- L ∪ R = S
abbrev pub union_table : ℕ → ℕ → List ℕ → List ℕ → List ℕ
union_table n m A B = residues n m (pair_sum bit_or n (at A) (at B))

-- the symmetric difference of L and R is S
abbrev pub xor_table : ℕ → ℕ → List ℕ → List ℕ → List ℕ
xor_table n m A B = residues n m (pair_sum bit_xor n (at A) (at B))

-- whether some entry of the table is not 0; a table without such an entry is a table of zeros
unfoldable pub nonzero : ℕ → List ℕ → Bool
nonzero n A = some (2 ^ n) (λ S. not (eqb (at A S) 0))

-- 02's ceiling of a table of zeros
abbrev pub degree_of_zeros : ℕ
degree_of_zeros = 255

-- 01's ceiling, as 02 changes it (the degree of the table): the largest size of a set with a nonzero entry, and 255 for a table
-- of zeros. 01's returned ceiling, what a subset product returns, is that of its result (02).
unfoldable pub degree : ℕ → List ℕ → ℕ
degree n A = cond (nonzero n A) (largest (2 ^ n) (λ S. cond (eqb (at A S) 0) 0 (size S))) degree_of_zeros
