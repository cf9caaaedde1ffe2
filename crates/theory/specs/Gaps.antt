-- Laws of tables by their nonzero entries: zeros, and the numbers that a sparse file has of a table.
--   length-zeros, zeros-append, zero_behind, zeros-tabulate   runs of zeros
--   pairs_zeros, pairs_one, pairs_end   gaps and values, by what a table begins with
--   count_zeros, count-one              how many entries are not 0, likewise; count-few: no more than there are
--   below_skipped                       zeros in front do not change whether all entries are below m
use Rattle.std.specs.Prelude.{◌≡◌, refl, List, [], ◌∷◌, ◌++◌, ℕ, zero, suc, ◌+◌, ◌<◌, ◌≤◌, length}
use Rattle.std.proofs.Common.{sym, ◌∙◌, ap, arith, lt-ltb}
use Rattle.definitions.specs.Sums.{tabulate, at}
use Rattle.definitions.specs.Partitions.{all_below}
use Rattle.definitions.specs.Files.{zeros, nonzero_count, pairs_from}
use Rattle.theory.specs.Lists.{tabulate_of}

-- ---- zeros

pub length-zeros : (k : ℕ) → length (zeros k) ≡ k
unfolding zeros
length-zeros zero = refl
length-zeros (suc k) = ap suc (length-zeros k)

pub zeros-append : (j k : ℕ) → zeros j ++ zeros k ≡ zeros (j + k)
unfolding zeros
zeros-append zero k = ap zeros (let e : k ≡ 0 + k = omega arith in e)
zeros-append (suc j) k =
    ap (λ (l : List ℕ). 0 ∷ l) (zeros-append j k) ∙ ap zeros (let e : suc (j + k) ≡ suc j + k = omega arith in e)

-- one more zero, in front or behind
pub zero_behind : (k : ℕ) (a : List ℕ) → zeros (suc k) ++ a ≡ zeros k ++ (0 ∷ a)
unfolding zeros
zero_behind zero a = refl
zero_behind (suc k) a = ap (λ (l : List ℕ). 0 ∷ l) (zero_behind k a)

at-zeros : (k i : ℕ) → i < k → at (zeros k) i ≡ 0
unfolding zeros
at-zeros zero i h = absurd (omega arith)
at-zeros (suc k) zero h = refl
at-zeros (suc k) (suc i) h = at-zeros k i (omega arith)

pub zeros-tabulate : (k : ℕ) → tabulate k (λ i. 0) ≡ zeros k
zeros-tabulate k = sym (tabulate_of k (zeros k) (λ i. 0) (length-zeros k) (λ i h. at-zeros k i h))

-- ---- gaps and values

-- so many zeros more are skipped
pub pairs_zeros : (g k : ℕ) (a : List ℕ) → pairs_from g (zeros k ++ a) ≡ pairs_from (g + k) a
unfolding zeros pairs_from
pairs_zeros g zero a = ap (λ (j : ℕ). pairs_from j a) (let e : g ≡ g + 0 = omega arith in e)
pairs_zeros g (suc k) a = pairs_zeros (suc g) k a ∙ ap (λ (j : ℕ). pairs_from j a) (let e : suc g + k ≡ g + suc k = omega arith in e)

pub pairs_one : (g v : ℕ) (a : List ℕ) → 0 < v → pairs_from g (v ∷ a) ≡ g ∷ v ∷ pairs_from 0 a
unfolding pairs_from
pairs_one g zero a h = absurd (omega arith)
pairs_one g (suc v) a h = refl

pub pairs_end : (g : ℕ) → pairs_from g [] ≡ []
unfolding pairs_from
pairs_end g = refl

-- ---- how many entries are not 0

pub count_zeros : (k : ℕ) (a : List ℕ) → nonzero_count (zeros k ++ a) ≡ nonzero_count a
unfolding zeros nonzero_count
count_zeros zero a = refl
count_zeros (suc k) a = count_zeros k a

pub count-one : (v : ℕ) (a : List ℕ) → 0 < v → nonzero_count (v ∷ a) ≡ suc (nonzero_count a)
unfolding nonzero_count
count-one zero a h = absurd (omega arith)
count-one (suc v) a h = refl

pub count_few : (a : List ℕ) → nonzero_count a ≤ length a
unfolding nonzero_count
count_few [] = omega arith
count_few (zero ∷ a) = omega (arith, count_few a)
count_few (suc v ∷ a) = omega (arith, count_few a)

-- ---- below m

pub below_skipped : (m k : ℕ) (a : List ℕ) → 0 < m → all_below m (zeros k ++ a) ≡ all_below m a
unfolding zeros all_below
below_skipped m zero a pos = refl
below_skipped m (suc k) a pos = rw (lt-ltb 0 m pos) (below_skipped m k a pos)
