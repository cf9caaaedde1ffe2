-- Sums, counts and maxima over the numbers below a bound and over lists, and lists made by a rule.
use Rattle.std.specs.Prelude.{Bool, true, false, cond, List, [], ◌∷◌, ◌++◌, ℕ, zero, suc, ◌+◌, max, get_or}

-- f 0 + f 1 + .. + f (n - 1)
unfoldable pub sum : ℕ → (ℕ → ℕ) → ℕ
sum zero f = 0
sum (suc n) f = sum n f + f n

-- the sum of h x over the members x of a list
unfoldable pub list_sum : {X : Type 0} → (X → ℕ) → List X → ℕ
list_sum h [] = 0
list_sum h (x ∷ xs) = h x + list_sum h xs

-- how many i below n pass the test
unfoldable pub count : ℕ → (ℕ → Bool) → ℕ
count n test = sum n (λ i. cond (test i) 1 0)

-- whether some i below n passes the test
unfoldable pub some : ℕ → (ℕ → Bool) → Bool
some zero test = false
some (suc n) test = cond (test n) true (some n test)

-- the largest of f 0, .., f (n - 1), and 0 if there is none
unfoldable pub largest : ℕ → (ℕ → ℕ) → ℕ
largest zero f = 0
largest (suc n) f = max (largest n f) (f n)

-- the list f 0, f 1, .., f (n - 1)
unfoldable pub tabulate : ℕ → (ℕ → ℕ) → List ℕ
tabulate zero f = []
tabulate (suc n) f = tabulate n f ++ (f n ∷ [])

-- the members of a list that pass the test
unfoldable pub keep : (ℕ → Bool) → List ℕ → List ℕ
keep test [] = []
keep test (x ∷ xs) = cond (test x) (x ∷ keep test xs) (keep test xs)

-- 01's A[S] and f[k]: what stands at a place of a table or row; 0 past its end
abbrev pub at : List ℕ → ℕ → ℕ
at A S = get_or A S 0
