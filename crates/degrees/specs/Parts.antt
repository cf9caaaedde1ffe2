-- The degree of a part of a table: 2 ^ q entries, whose codes share d controls above the low q.
--   part_whole                 of a whole table that is nonzero; part_none, part-some: whether a table is nonzero
--   part_single                of one entry
--   part_most                  at most d + q
--   part_halves                of the halves, where the upper one has one control more
--   part_eight                 of eight entries, those of sets of one size joined
use Rattle.std.specs.Prelude.{◌≡◌, refl, Bool, true, false, cond, List, ◌≢◌, ℕ, zero, suc, ◌+◌, ◌^◌, ◌≤◌, max, eqb, take, drop}
use Rattle.std.proofs.Common.{sym, ap, ap₂, ◌∙◌, add-zero, zero-add, arith, get_or-take, get_or-drop, ne_eqb}
use Rattle.std.proofs.Math.Nat.{zero-max, max-zero}
use Rattle.std.specs.Int.Bits.{bit_or, or_add_and}
use Rattle.std.proofs.lemmas.Nat.{and_le_r}
use Rattle.std.specs.Int.Count.{ones}
use Rattle.std.proofs.Math.Decide.{ℕ_discrete}
use Rattle.definitions.specs.Sums.{at, largest}
use Rattle.definitions.specs.Sets.{size}
use Rattle.definitions.specs.Products.{nonzero, degree}
use Rattle.theory.specs.Sums.{largest_ext, largest_split, largest-le}
use Rattle.theory.specs.Codes.{size_top, size-le, size_zero, size_none}
use Rattle.theory.specs.Degree.{nonzero-at, zeros-at, zeros_are, degree-nonzero, degree-at}

-- what a set of that size counts for if its entry is x
abbrev pub counted : ℕ → ℕ → ℕ
counted x size = cond (eqb x 0) 0 size

unfoldable pub part_degree : ℕ → ℕ → List ℕ → ℕ
part_degree q d A = largest (2 ^ q) (λ S. counted (at A S) (d + size S))

-- ---- the laws

counted-le : (x s : ℕ) → counted x s ≤ s
counted-le x s = most (eqb x 0) where
  most : (b : Bool) → cond b 0 s ≤ s
  most true = omega arith
  most false = omega arith

pub part_whole : (n : ℕ) (A : List ℕ) → nonzero n A ≡ true → part_degree n 0 A ≡ degree n A
unfolding part_degree
part_whole n A some = largest_ext (2 ^ n) _ _ (λ S h. ap (counted (at A S)) (zero-add (size S))) ∙ sym (degree-nonzero n A some)

-- A table of zeros has 0 here, and so has a table with the empty set's entry alone: that entry tells them apart.
pub part_none : (n : ℕ) (A : List ℕ) → part_degree n 0 A ≡ 0 → at A 0 ≡ 0 → nonzero n A ≡ false
part_none n A e first = zeros_are n A (λ S h. elim (ℕ_discrete (at A S) 0) [
  | yes z ↦ z
  | no d ↦
      let empty : size S ≡ 0 = omega (arith, part_whole n A (nonzero-at n A S h d), degree-at n A S h d) in
      ap (at A) (size_none S empty) ∙ first
])

pub part_some : (n : ℕ) (A : List ℕ) → part_degree n 0 A ≢ 0 → nonzero n A ≡ true
unfolding part_degree
part_some n A d = found (nonzero n A) refl where
  found : (b : Bool) → nonzero n A ≡ b → b ≡ true
  found true e = refl
  found false e = absurd (d (omega (arith, largest-le (2 ^ n) (λ S. counted (at A S) (0 + size S)) 0 (λ S h. rw (zeros-at n A e S h) (omega arith)))))

pub part_single : (d : ℕ) (A : List ℕ) → part_degree 0 d A ≡ counted (at A 0) d
unfolding part_degree largest
part_single d A = simp (zero-max, size_zero, add-zero)

pub part_most : (q d : ℕ) (A : List ℕ) → part_degree q d A ≤ d + q
unfolding part_degree
part_most q d A = largest-le (2 ^ q) _ (d + q) (λ S h. omega (arith, counted-le (at A S) (d + size S), size-le q S h))

pub part_halves : (p d : ℕ) (A : List ℕ)
    → part_degree (suc p) d A ≡ max (part_degree p d (take (2 ^ p) A)) (part_degree p (d + 1) (drop (2 ^ p) A))
unfolding part_degree
part_halves p d A =
    ap (λ (k : ℕ). largest k (λ S. counted (at A S) (d + size S))) (omega arith) ∙ largest_split (2 ^ p) (2 ^ p) _
    ∙ ap₂ max
    (largest_ext (2 ^ p) _ _ (λ S h. ap (λ (x : ℕ). counted x (d + size S)) (sym (get_or-take (2 ^ p) A S 0 h))))
    (largest_ext (2 ^ p) _ _ (λ S h. ap₂ counted (sym (get_or-drop (2 ^ p) A S 0)) (omega (arith, size_top p S h))))

-- ---- eight entries

-- two entries joined count if one of them does
counted-or : (x y s : ℕ) → counted (bit_or x y) s ≡ max (counted x s) (counted y s)
counted-or zero y s = sym (zero-max _)
counted-or (suc x) y s =
    let some : bit_or (suc x) y ≡ 0 → ⊥ = λ e. omega (arith, or_add_and (suc x) y, and_le_r (suc x) y) in
    rw (ne_eqb _ 0 some, ne_eqb (suc x) 0 (λ e. omega arith)) (omega (arith, counted-le y s))

max_assoc : (a b c : ℕ) → max a (max b c) ≡ max (max a b) c
max_assoc a b c = omega arith

max_swap : (a b c : ℕ) → max (max a b) c ≡ max (max a c) b
max_swap a b c = omega arith

pub part_eight : (L d : ℕ) (A : List ℕ) → max L (part_degree 3 d A)
    ≡ max (max (max (max L (counted (at A 0) d)) (counted (bit_or (bit_or (at A 1) (at A 2)) (at A 4)) (d + 1)))
    (counted (bit_or (bit_or (at A 3) (at A 5)) (at A 6)) (d + 2))) (counted (at A 7) (d + 3))
unfolding part_degree largest ones
part_eight L d A = simp (counted-or, max_assoc, max-zero, add-zero) (rw (max_swap _ (counted (at A 3) (d + 2)) (counted (at A 4) (d + 1))))
