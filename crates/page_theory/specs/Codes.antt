-- The codes of the nonzero entries.
--   codes_once                        each is among them once, and no other
--   codes_rise                        they rise, below the table's length
--   codes_few, codes_none, codes_some at most as many as entries; none in a table of zeros, some in any other
--   from_none, from_skip, from-take   the codes from a place on
use Rattle.std.specs.Prelude.{◌≡◌, refl, Bool, true, false, cond, not, List, [], ◌∷◌, ◌++◌, ◌⊎◌, ◌≢◌, ℕ, zero, suc, ◌+◌, ◌<◌, ◌≤◌, eqb, length, drop, get_or}
use Rattle.std.proofs.Common.{sym, ◌∙◌, ap, ap₂, append-nil, ⊎_elim, add-one, arith, length-append, drop_of_length-le, drop-cons}
use Rattle.std.proofs.Math.ListN.{get_or-append, get_or-eq_default}
use Rattle.std.proofs.lemmas.List.{get_or_at}
use borrow.Author.Tests.{eq-eqb, ne_eqb}
use Rattle.definitions.specs.Sums.{sum, list_sum, tabulate, keep, at}
use Rattle.theory.specs.Tests.{below_or, zero_is_not_one}
use Rattle.theory.specs.Sums.{sum_only, sum_zero, list_sum-keep, list_sum-tabulate}
use Rattle.theory.specs.Lists.{length-tabulate, at-tabulate}
use Rattle.definitions.specs.Pages.{nonzero_codes}

abbrev pub nonzero : List ℕ → ℕ → Bool
nonzero A S = not (eqb (at A S) 0)

-- ---- each once

-- how often a number is in a list
unfoldable pub times : ℕ → List ℕ → ℕ
times S xs = list_sum (λ x. cond (eqb x S) 1 0) xs

guarded : (b : Bool) → ◌≡◌ {A = ℕ} (cond b (cond false 1 0) 0) 0
guarded true = refl
guarded false = refl

pub codes_once : (A : List ℕ) (S : ℕ) → times S (nonzero_codes A) ≡ cond (nonzero A S) 1 0
unfolding times nonzero_codes
codes_once A S =
    list_sum-keep (λ x. cond (eqb x S) 1 0) (nonzero A) (tabulate (length A) (λ i. i))
    ∙ list_sum-tabulate (λ x. cond (nonzero A x) (cond (eqb x S) 1 0) 0) (λ i. i) (length A)
    ∙ ⊎_elim
    (λ (l : S < length A).
    sum_only (length A) S term l (λ i k d. rw (ne_eqb i S d) (guarded (nonzero A i)))
    ∙ rw (eq-eqb S S refl))
    (λ (l : length A ≤ S).
    sum_zero (length A) term (λ i k. rw (ne_eqb i S (λ (e : i ≡ S). omega arith)) (guarded (nonzero A i)))
    ∙ rw (get_or-eq_default A 0 l))
    (below_or S (length A))
  where
    term : ℕ → ℕ
    term x = cond (nonzero A x) (cond (eqb x S) 1 0) 0

-- ---- rising

pub record Rises (n : ℕ) (l : List ℕ) : Type 0 where
  pub below : (i : ℕ) → i < length l → at l i < n
  pub rises : (i j : ℕ) → i < j → j < length l → at l i < at l j

cond_snoc : (t : Bool) (y : ℕ) (xs ys zs : List ℕ) → xs ≡ ys ++ zs → cond t (y ∷ xs) xs ≡ cond t (y ∷ ys) ys ++ zs
cond_snoc true y xs ys zs e = ap (λ (l : List ℕ). y ∷ l) e
cond_snoc false y xs ys zs e = e

pub keep_snoc : (p : ℕ → Bool) (xs : List ℕ) (x : ℕ) → keep p (xs ++ (x ∷ [])) ≡ keep p xs ++ cond (p x) (x ∷ []) []
unfolding keep
keep_snoc p [] x = refl
keep_snoc p (y ∷ ys) x = cond_snoc (p y) y (keep p (ys ++ (x ∷ []))) (keep p ys) (cond (p x) (x ∷ []) []) (keep_snoc p ys x)

module _ (n : ℕ) (l : List ℕ) (r : Rises n l) where
  at_last : (i : ℕ) → i ≡ length l → at (l ++ (n ∷ [])) i ≡ n
  at_last i e = get_or_at l n [] 0 i (sym e)

  at_front : (i : ℕ) → i < length l → at (l ++ (n ∷ [])) i ≡ at l i
  at_front i h = get_or-append l (n ∷ []) 0 i h

  long : length (l ++ (n ∷ [])) ≡ length l + 1
  long = length-append l (n ∷ [])

  one_below : (i : ℕ) → i < length (l ++ (n ∷ [])) → at (l ++ (n ∷ [])) i < suc n
  one_below i h = ⊎_elim
      (λ (k : i < length l). omega (arith, at_front i k, r.below i k))
      (λ (k : length l ≤ i). omega (arith, at_last i (omega (arith, long))))
      (below_or i (length l))

  one_rises : (i j : ℕ) → i < j → j < length (l ++ (n ∷ [])) → at (l ++ (n ∷ [])) i < at (l ++ (n ∷ [])) j
  one_rises i j h g =
      let il : i < length l = omega (arith, long) in
      ⊎_elim
      (λ (k : j < length l). omega (arith, at_front i il, at_front j k, r.rises i j h k))
      (λ (k : length l ≤ j). omega (arith, at_front i il, r.below i il, at_last j (omega (arith, long))))
      (below_or j (length l))

  one_more : (t : Bool) → Rises (suc n) (l ++ cond t (n ∷ []) [])
  one_more true = record { below = one_below; rises = one_rises }
  one_more false = rw nil (record { below = λ i h. omega (arith, r.below i h); rises = r.rises })
    where
      nil : l ++ [] ≡ l
      nil = append-nil l

pub kept_rises : (p : ℕ → Bool) (n : ℕ) → Rises n (keep p (tabulate n (λ i. i)))
unfolding tabulate keep
kept_rises p zero = record { below = λ i h. absurd (zero_is_not_one (omega arith)); rises = λ i j h g. absurd (zero_is_not_one (omega arith)) }
kept_rises p (suc n) = rw (keep_snoc p (tabulate n (λ i. i)) n) (one_more n (keep p (tabulate n (λ i. i))) (kept_rises p n) (p n))

pub codes_rise : (A : List ℕ) → Rises (length A) (nonzero_codes A)
unfolding nonzero_codes
codes_rise A = kept_rises (nonzero A) (length A)

-- ---- how many

cond_few : (t : Bool) (x : ℕ) (xs : List ℕ) → length (cond t (x ∷ xs) xs) ≤ suc (length xs)
cond_few true x xs = omega arith
cond_few false x xs = omega arith

pub keep_few : (p : ℕ → Bool) (xs : List ℕ) → length (keep p xs) ≤ length xs
unfolding keep
keep_few p [] = omega arith
keep_few p (x ∷ xs) = omega (arith, cond_few (p x) x (keep p xs), keep_few p xs)

pub codes_few : (A : List ℕ) → length (nonzero_codes A) ≤ length A
unfolding nonzero_codes
codes_few A = omega (arith, keep_few (nonzero A) (tabulate (length A) (λ i. i)), length-tabulate (length A) (λ i. i))

keep_none : (p : ℕ → Bool) (xs : List ℕ) → ((x : ℕ) → p x ≡ false) → keep p xs ≡ []
unfolding keep
keep_none p [] h = refl
keep_none p (x ∷ xs) h = rw (h x) (keep_none p xs h)

pub codes_none : (A : List ℕ) → ((S : ℕ) → at A S ≡ 0) → nonzero_codes A ≡ []
unfolding nonzero_codes
codes_none A h = keep_none (nonzero A) (tabulate (length A) (λ i. i)) (λ S. rw (eq-eqb (at A S) 0 (h S)))

none_in : (S : ℕ) (xs : List ℕ) → length xs ≡ 0 → times S xs ≡ 0
unfolding times list_sum
none_in S [] h = refl
none_in S (x ∷ xs) h = absurd (zero_is_not_one (omega arith))

pub codes_some : (A : List ℕ) (S : ℕ) → at A S ≢ 0 → 0 < length (nonzero_codes A)
codes_some A S d = ⊎_elim
    (λ (l : length (nonzero_codes A) < 1).
    let one : times S (nonzero_codes A) ≡ 1 = codes_once A S ∙ rw (ne_eqb (at A S) 0 d) in
    absurd (zero_is_not_one (sym (none_in S (nonzero_codes A) (omega arith)) ∙ one)))
    (λ (l : 1 ≤ length (nonzero_codes A)). l)
    (below_or (length (nonzero_codes A)) 1)

-- ---- the codes from a place on

unfoldable pub codes_from : List ℕ → ℕ → List ℕ
codes_from A c = keep (nonzero A) (drop c (tabulate (length A) (λ i. i)))

pub from_start : (A : List ℕ) → codes_from A 0 ≡ nonzero_codes A
unfolding codes_from nonzero_codes
from_start A = refl

module _ (A : List ℕ) (c : ℕ) where
  pub from_none : length A ≤ c → codes_from A c ≡ []
  unfolding codes_from keep
  from_none h = rw (drop_of_length-le (tabulate (length A) (λ i. i)) {i = c} (omega (arith, length-tabulate (length A) (λ i. i))))

  module _ (h : c < length A) where
    one : drop c (tabulate (length A) (λ i. i)) ≡ c ∷ drop (c + 1) (tabulate (length A) (λ i. i))
    one =
        drop-cons (tabulate (length A) (λ i. i)) c 0 (omega (arith, length-tabulate (length A) (λ i. i)))
        ∙ ap₂ (λ (x k : ℕ). x ∷ drop k (tabulate (length A) (λ i. i))) (at-tabulate (length A) (λ i. i) c h) (sym (add-one c))

    pub from_skip : at A c ≡ 0 → codes_from A c ≡ codes_from A (c + 1)
    unfolding codes_from keep
    from_skip e = rw (one, eq-eqb (at A c) 0 e)

    pub from-take : (at A c ≡ 0 → ⊥) → codes_from A c ≡ c ∷ codes_from A (c + 1)
    unfolding codes_from keep
    from-take d = rw (one, ne_eqb (at A c) 0 d)
