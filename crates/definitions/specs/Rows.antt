-- Rows of n + 1 numbers, and their binomial product.
use Rattle.std.specs.Prelude.{List, ℕ, suc, ◌+◌, ◌*◌, ◌-◌, ◌%◌, ◌^◌, eqb}
use Rattle.definitions.specs.Sums.{sum, count, tabulate, at}
use Rattle.definitions.specs.Sets.{size}

-- 01's C(i, j): how many of the subsets of i things have j elements
unfoldable pub choose : ℕ → ℕ → ℕ
choose i j = count (2 ^ i) (λ S. eqb (size S) j)

-- Σ over j from 0 to i of C(i, j) · f[j] · g[i - j]
unfoldable pub binomial_sum : (ℕ → ℕ) → (ℕ → ℕ) → ℕ → ℕ
binomial_sum f g i = sum (suc i) (λ j. choose i j * (f j * g (i - j)))

unfoldable pub binomial_row : ℕ → ℕ → List ℕ → List ℕ → List ℕ
binomial_row n m f g = tabulate (n + 1) (λ i. binomial_sum (at f) (at g) i % m)
