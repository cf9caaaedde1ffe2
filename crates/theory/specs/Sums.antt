-- Laws of sum, list_sum, count, some and largest.
--   sum-        last, front, split, halves; ext, plus, scale, zero, only, swap, mod
--   listSum-    append, map, flat, keep, tabulate, subsets; scale, null
--   count-      last, ext, halves
--   some_found, some_which, some_none, none_some    the test, place by place
--   le-largest, largest-le                          the largest is the least bound; largest_ext, largest_split
use Rattle.std.specs.Prelude.{◌≡◌, Bool, true, false, cond, ◌≢◌, ℕ, zero, suc, ◌+◌, ◌*◌, ◌%◌, ◌^◌, ◌<◌, ◌≤◌, max}
use Rattle.std.proofs.Math.Path.{refl, sym}
use Rattle.std.proofs.Common.{ap, ap₂, ◌∙◌, add-zero, add-suc, mul-zero, mul-add, add_assoc, zero-add, not-suc-le-zero, arith}
use mathlib.Core.List.{List, [], ◌∷◌, ◌++◌, map, flat_map}
use Rattle.std.proofs.Math.Nat.{max-zero, add-mod}
use Rattle.std.proofs.Math.Decide.{ℕ_discrete}
use Rattle.definitions.specs.Sums.{sum, list_sum, count, some, largest, tabulate, keep}
use Rattle.definitions.specs.Sets.{inside, subsets}
use Rattle.theory.specs.Tests.{zero_is_not_one}

-- ---- sum

pub sum-last : (n : ℕ) (f : ℕ → ℕ) → sum (suc n) f ≡ sum n f + f n
unfolding sum
sum-last n f = refl

pub sum_ext : (n : ℕ) (f g : ℕ → ℕ) → ((i : ℕ) → i < n → f i ≡ g i) → sum n f ≡ sum n g
unfolding sum
sum_ext zero f g h = refl
sum_ext (suc n) f g h = ap₂ ◌+◌ (sum_ext n f g (λ i k. h i (omega arith))) (h n (omega arith))

pub sum-plus : (n : ℕ) (f g : ℕ → ℕ) → sum n (λ i. f i + g i) ≡ sum n f + sum n g
unfolding sum
sum-plus zero f g = refl
sum-plus (suc n) f g = omega (arith, sum-plus n f g)

pub sum_scale : (n c : ℕ) (f : ℕ → ℕ) → sum n (λ i. c * f i) ≡ c * sum n f
unfolding sum
sum_scale zero c f = sym (mul-zero c)
sum_scale (suc n) c f = rw (sum_scale n c f, mul-add)

pub sum_zero : (n : ℕ) (f : ℕ → ℕ) → ((i : ℕ) → i < n → f i ≡ 0) → sum n f ≡ 0
unfolding sum
sum_zero zero f h = refl
sum_zero (suc n) f h = ap₂ ◌+◌ (sum_zero n f (λ i k. h i (omega arith))) (h n (omega arith))

pub sum_split : (m n : ℕ) (f : ℕ → ℕ) → sum (m + n) f ≡ sum m f + sum n (λ i. f (m + i))
unfolding sum
sum_split m zero f = simp add-zero
sum_split m (suc n) f = rw (add-suc, sum_split m n f, add_assoc)

-- the codes without the top control, and those with it
pub sum_halves : (n : ℕ) (f : ℕ → ℕ) → sum (2 ^ suc n) f ≡ sum (2 ^ n) f + sum (2 ^ n) (λ i. f (2 ^ n + i))
sum_halves n f = ap (λ (k : ℕ). sum k f) (omega arith) ∙ sum_split (2 ^ n) (2 ^ n) f

pub sum_front : (n : ℕ) (f : ℕ → ℕ) → sum (suc n) f ≡ f 0 + sum n (λ i. f (suc i))
unfolding sum
sum_front zero f = omega arith
sum_front (suc n) f = omega (arith, sum_front n f)

-- one term alone counts
pub sum_only : (n t : ℕ) (f : ℕ → ℕ) → t < n → ((i : ℕ) → i < n → i ≢ t → f i ≡ 0) → sum n f ≡ f t
unfolding sum
sum_only zero t f h z = omega arith
sum_only (suc n) t f h z = elim (ℕ_discrete t n) [
  | yes e ↦ rw (sum_zero n f (λ i k. z i (omega arith) (omega arith)), zero-add) (rw e)
  | no d ↦ rw (sum_only n t f (omega arith) (λ i k. z i (omega arith)), z n (omega arith) (omega arith)) (add-zero (f t))
]

-- the order of two sums
pub sum_swap : (m n : ℕ) (f : ℕ → ℕ → ℕ) → sum m (λ i. sum n (λ j. f i j)) ≡ sum n (λ j. sum m (λ i. f i j))
unfolding sum
sum_swap zero n f = sym (sum_zero n (λ j. 0) (λ j h. refl))
sum_swap (suc m) n f = rw (sum_swap m n f) (sym (sum-plus n (λ j. sum m (λ i. f i j)) (λ j. f m j)))

-- the residue of a sum is that of the sum of residues
pub sum-mod : (m n : ℕ) (f g : ℕ → ℕ) → ((i : ℕ) → i < n → f i % m ≡ g i % m) → sum n f % m ≡ sum n g % m
unfolding sum
sum-mod m zero f g h = refl
sum-mod m (suc n) f g h =
    add-mod (sum n f) (f n) m ∙ ap₂ (λ (x y : ℕ). (x + y) % m) (sum-mod m n f g (λ i k. h i (omega arith))) (h n (omega arith))
    ∙ sym (add-mod (sum n g) (g n) m)

-- ---- list_sum

module _ {X : Type 0} (h : X → ℕ) where
  pub list_sum-append : (xs ys : List X) → list_sum h (xs ++ ys) ≡ list_sum h xs + list_sum h ys
  unfolding list_sum
  list_sum-append [] ys = sym (zero-add _)
  list_sum-append (x ∷ xs) ys = rw (list_sum-append xs ys, add_assoc)

  pub list_sum_scale : (c : ℕ) (xs : List X) → list_sum (λ x. c * h x) xs ≡ c * list_sum h xs
  unfolding list_sum
  list_sum_scale c [] = sym (mul-zero c)
  list_sum_scale c (x ∷ xs) = rw (list_sum_scale c xs, mul-add)

  module _ {Y : Type 0} where
    pub list_sum-map : (g : Y → X) (ys : List Y) → list_sum h (map g ys) ≡ list_sum (λ y. h (g y)) ys
    unfolding list_sum
    list_sum-map g [] = refl
    list_sum-map g (y ∷ ys) = rw (list_sum-map g ys)

    pub list_sum_flat : (g : Y → List X) (ys : List Y) → list_sum h (flat_map g ys) ≡ list_sum (λ y. list_sum h (g y)) ys
    unfolding list_sum flat_map
    list_sum_flat g [] = refl
    list_sum_flat g (y ∷ ys) = rw (list_sum-append (g y) (flat_map g ys), list_sum_flat g ys)

pub list_sum-null : {X : Type 0} (xs : List X) → list_sum (λ x. 0) xs ≡ 0
unfolding list_sum
list_sum-null [] = refl
list_sum-null (x ∷ xs) = rw (list_sum-null xs)

list_sum-cond : (h : ℕ → ℕ) (b : Bool) (x : ℕ) (xs : List ℕ) → list_sum h (cond b (x ∷ xs) xs) ≡ cond b (h x) 0 + list_sum h xs
unfolding list_sum
list_sum-cond h true x xs = refl
list_sum-cond h false x xs = sym (zero-add _)

pub list_sum-keep : (h : ℕ → ℕ) (p : ℕ → Bool) (xs : List ℕ) → list_sum h (keep p xs) ≡ list_sum (λ i. cond (p i) (h i) 0) xs
unfolding list_sum keep
list_sum-keep h p [] = refl
list_sum-keep h p (x ∷ xs) = rw (list_sum-cond h (p x) x (keep p xs), list_sum-keep h p xs)

pub list_sum-tabulate : (h f : ℕ → ℕ) (n : ℕ) → list_sum h (tabulate n f) ≡ sum n (λ i. h (f i))
unfolding list_sum tabulate sum
list_sum-tabulate h f zero = refl
list_sum-tabulate h f (suc n) = rw (list_sum-append h (tabulate n f) (f n ∷ []), list_sum-tabulate h f n, add-zero)

pub list_sum-subsets : (h : ℕ → ℕ) (n S : ℕ) → list_sum h (subsets n S) ≡ sum (2 ^ n) (λ L. cond (inside L S) (h L) 0)
unfolding subsets
list_sum-subsets h n S = list_sum-keep h (λ L. inside L S) (tabulate (2 ^ n) (λ L. L)) ∙ list_sum-tabulate _ (λ L. L) (2 ^ n)

-- ---- count

pub count_ext : (n : ℕ) (s t : ℕ → Bool) → ((i : ℕ) → i < n → s i ≡ t i) → count n s ≡ count n t
unfolding count
count_ext n s t h = sum_ext n _ _ (λ i k. ap (λ (b : Bool). cond b 1 0) (h i k))

pub count_halves : (n : ℕ) (test : ℕ → Bool) → count (2 ^ suc n) test ≡ count (2 ^ n) test + count (2 ^ n) (λ i. test (2 ^ n + i))
unfolding count
count_halves n test = sum_halves n _

-- ---- some

pub some_found : (n : ℕ) (test : ℕ → Bool) (i : ℕ) → i < n → test i ≡ true → some n test ≡ true
unfolding some
some_found zero test i h e = absurd (not-suc-le-zero h)
some_found (suc n) test i h e = elim (ℕ_discrete i n) [
  | yes s ↦ rw (← s, e)
  | no d ↦ rw (some_found n test i (omega arith) e) (always (test n))
] where
  always : (b : Bool) → cond b true true ≡ true
  always true = refl
  always false = refl

some_rest : (b c : Bool) → cond b true c ≡ false → (b ≡ false) × (c ≡ false)
some_rest true c e = (e, cc)
some_rest false c e = (refl, e)

-- none passes
pub some_none : (n : ℕ) (test : ℕ → Bool) → some n test ≡ false → (i : ℕ) → i < n → test i ≡ false
unfolding some
some_none zero test e i h = absurd (not-suc-le-zero h)
some_none (suc n) test e i h =
    let r = some_rest (test n) (some n test) e in
    elim (ℕ_discrete i n) [ yes s ↦ rw s r.0 | no d ↦ some_none n test r.1 i (omega arith) ]

pub none_some : (n : ℕ) (test : ℕ → Bool) → ((i : ℕ) → i < n → test i ≡ false) → some n test ≡ false
unfolding some
none_some zero test h = refl
none_some (suc n) test h = rw (h n (omega arith)) (none_some n test (λ i k. h i (omega arith)))

-- some i passes, and this is one
pub some_which : (n : ℕ) (test : ℕ → Bool) → some n test ≡ true → (i : ℕ) × (i < n) × (test i ≡ true)
unfolding some
some_which zero test e = absurd (zero_is_not_one (cc))
some_which (suc n) test e = which (test n) refl e (some_which n test) where
  which : (b : Bool) → test n ≡ b → cond b true (some n test) ≡ true → (some n test ≡ true → (i : ℕ) × (i < n) × (test i ≡ true))
      → (i : ℕ) × (i < suc n) × (test i ≡ true)
  which true t e g = (n, omega arith, t)
  which false t e g = let r = g e in (r.0, omega (arith, r.1), r.2)

-- ---- largest

pub largest_ext : (n : ℕ) (f g : ℕ → ℕ) → ((i : ℕ) → i < n → f i ≡ g i) → largest n f ≡ largest n g
unfolding largest
largest_ext zero f g h = refl
largest_ext (suc n) f g h = ap₂ max (largest_ext n f g (λ i k. h i (omega arith))) (h n (omega arith))

pub largest_split : (m n : ℕ) (f : ℕ → ℕ) → largest (m + n) f ≡ max (largest m f) (largest n (λ i. f (m + i)))
unfolding largest
largest_split m zero f = rw (add-zero, max-zero)
largest_split m (suc n) f = rw add-suc (omega (arith, largest_split m n f))

pub le-largest : (n : ℕ) (f : ℕ → ℕ) (i : ℕ) → i < n → f i ≤ largest n f
unfolding largest
le-largest zero f i h = omega arith
le-largest (suc n) f i h = elim (ℕ_discrete i n) [ yes e ↦ rw e (omega arith) | no d ↦ omega (arith, le-largest n f i (omega arith)) ]

pub largest-le : (n : ℕ) (f : ℕ → ℕ) (b : ℕ) → ((i : ℕ) → i < n → f i ≤ b) → largest n f ≤ b
unfolding largest
largest-le zero f b h = omega arith
largest-le (suc n) f b h = omega (arith, largest-le n f b (λ i k. h i (omega arith)), h n (omega arith))
