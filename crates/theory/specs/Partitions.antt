-- What `partitions n S` lists: the partitions of S, each once.
--   IsPartition S p      p has the blocks of a partition of S, in falling code
--   times p ps           how often p is listed
--   partitions_each      each partition of S is listed, once
--   partitions_only      what is listed is a partition of S
use Rattle.std.specs.Prelude.{◌≡◌, Bool, true, false, cond, ◌&&◌, ◌≢◌, ◌⊎◌, ℕ, zero, suc, ◌+◌, ◌-◌, ◌/◌, ◌%◌, ◌^◌, ◌<◌, ◌≤◌, max, T, eqb, ltb}
use Rattle.std.proofs.Math.Path.{refl, ap₂, fun_ext}
use Rattle.std.proofs.Common.{sym, ap, ◌∙◌, inl, inr, ⊎_elim, eqb→eq, ltb→lt, lt→ltb}
use mathlib.Core.List.{List, [], ◌∷◌}
use native.Mathlib.Omega.{arith}
use Rattle.std.proofs.Math.Dec.{eqb_refl}
use Rattle.std.proofs.Math.Arith.{lt-one, bin_ind}
use Rattle.std.specs.Int.Bits.{bit_and, bit_or, and_step, or_step, or_add_and, and_self, and_zero_r, or_zero_r, or_lt}
use Rattle.std.proofs.lemmas.Nat.{or_disjoint, and_le_l, and_le_r}
use Rattle.std.proofs.Math.Pow.{pow_pos}
use borrow.Author.Tests.{lt-ltb, eq-eqb, ne_eqb}
use Rattle.definitions.specs.Sums.{sum, list_sum}
use Rattle.definitions.specs.Sets.{inside, subsets}
use Rattle.definitions.specs.Partitions.{partitions}
use Rattle.theory.specs.Tests.{no_test, yes_test, and_left, and_right, and_both, guard_zero, below_or}
use Rattle.theory.specs.Sums.{sum_zero, sum_only, list_sum-map, list_sum_flat, list_sum-subsets, list_sum-null}
use Rattle.theory.specs.Codes.{inside→eq, eq→inside, inside-le, inside_hh, inside_lh, by_top, and_hh, and_half, and_odd, apart_rest}
use Rattle.theory.specs.Composition.{partitions_lo, partitions-hi}

-- ---- the statement

abbrev pub Each : (ℕ → Type 0) → List ℕ → Type 0
Each P [] = Unit {0}
Each P (x ∷ xs) = P x × Each P xs

-- of any two members, the earlier first
abbrev pub Pairwise : (ℕ → ℕ → Type 0) → List ℕ → Type 0
Pairwise R [] = Unit {0}
Pairwise R (x ∷ xs) = Each (R x) xs × Pairwise R xs

unfoldable pub union : List ℕ → ℕ
union [] = 0
union (b ∷ p) = bit_or b (union p)

-- nonempty sets, pairwise disjoint, with union S; as a collection has no order, they stand in falling code
pub record IsPartition (S : ℕ) (p : List ℕ) : Type 0 where
  pub nonempty : Each (λ b. 0 < b) p
  pub disjoint : Pairwise (λ b c. bit_and b c ≡ 0) p
  pub falling : Pairwise (λ b c. c < b) p
  pub whole : union p ≡ S

unfoldable pub same_list : List ℕ → List ℕ → Bool
same_list [] [] = true
same_list [] (y ∷ ys) = false
same_list (x ∷ xs) [] = false
same_list (x ∷ xs) (y ∷ ys) = eqb x y && same_list xs ys

unfoldable pub times : List ℕ → List (List ℕ) → ℕ
times p = list_sum (λ q. cond (same_list p q) 1 0)

-- ---- a test for partitions

-- the first block is inside S and larger than all that is left, so it holds the top control; the others partition what is left
unfoldable is_part : ℕ → List ℕ → Bool
is_part S [] = eqb S 0
is_part S (b ∷ p) = inside b S && (ltb (S - b) b && is_part (S - b) p)

abbrev one_if : Bool → ℕ
one_if b = cond b 1 0

-- ---- the partitions that are listed pass it, each once

cond-and : (b c : Bool) → one_if (b && c) ≡ cond b (one_if c) 0
cond-and true c = refl
cond-and false c = refl

list_sum_guard : {X : Type 0} (c : Bool) (p : X → Bool) (xs : List X) → list_sum (λ x. one_if (c && p x)) xs ≡ cond c (list_sum (λ x. one_if (p x)) xs) 0
list_sum_guard true p xs = refl
list_sum_guard false p xs = list_sum-null xs

fails : (S b : ℕ) (p : List ℕ) → (T (inside b S) → S - b < b → ⊥) → one_if (is_part S (b ∷ p)) ≡ 0
unfolding is_part
fails S b p h =
    let r = is_part (S - b) p in
    rw (no_test (is_part S (b ∷ p)) (λ t. h (and_left (inside b S) (ltb (S - b) b && r) t)
    (ltb→lt (S - b) b (and_left (ltb (S - b) b) r (and_right (inside b S) (ltb (S - b) b && r) t)))))

abbrev term : (n R b : ℕ) (q : List ℕ) → ℕ → ℕ
term n R b q L = cond (inside L R) (cond (eqb b (2 ^ n + L)) (one_if (is_part (R - L) q)) 0) 0

block : (n R b : ℕ) (q : List ℕ) → ((L : ℕ) → times q (partitions n (R - L)) ≡ one_if (is_part (R - L) q))
    → times (b ∷ q) (partitions (suc n) (2 ^ n + R)) ≡ sum (2 ^ n) (term n R b q)
unfolding times same_list
block n R b q ih =
    ap (times (b ∷ q)) (partitions-hi n R) ∙ list_sum_flat _ _ (subsets n R)
    ∙ ap (λ (u : ℕ → ℕ). list_sum u (subsets n R)) (fun_ext (λ L.
    list_sum-map _ (λ p. (2 ^ n + L) ∷ p) (partitions n (R - L)) ∙ list_sum_guard (eqb b (2 ^ n + L)) (same_list q) (partitions n (R - L))
    ∙ ap (λ (x : ℕ). cond (eqb b (2 ^ n + L)) x 0) (ih L)))
    ∙ list_sum-subsets _ n R

term_zero : (n R b : ℕ) (q : List ℕ) (L : ℕ) → b ≢ 2 ^ n + L → term n R b q L ≡ 0
term_zero n R b q L d = rw (ne_eqb b (2 ^ n + L) d) (guard_zero (inside L R))

module _ (n R : ℕ) (q : List ℕ) (hr : R < 2 ^ n) where
  -- no block of the list can be b
  foreign : (b : ℕ) → (b < 2 ^ n) ⊎ (2 ^ suc n ≤ b) → sum (2 ^ n) (term n R b q) ≡ one_if (is_part (2 ^ n + R) (b ∷ q))
  foreign b c =
      sum_zero (2 ^ n) _ (λ L h. term_zero n R b q L (⊎_elim {C = b ≢ 2 ^ n + L} (λ k. omega arith) (λ k. omega arith) c))
      ∙ sym (fails (2 ^ n + R) b q (λ t k. ⊎_elim
      (λ (l : b < 2 ^ n). omega (arith, inside-le b R (rw (inside_lh n b R l hr) at t)))
      (λ (l : 2 ^ suc n ≤ b). omega (arith, inside-le b (2 ^ n + R) t)) c))

  own : (U : ℕ) → U < 2 ^ n → sum (2 ^ n) (term n R (2 ^ n + U) q) ≡ one_if (is_part (2 ^ n + R) ((2 ^ n + U) ∷ q))
  unfolding is_part
  own U ht =
      let off : 2 ^ n + R - (2 ^ n + U) ≡ R - U = omega arith in
      sum_only (2 ^ n) U _ ht (λ L h d. term_zero n R (2 ^ n + U) q L (omega arith))
      ∙ rw (eq-eqb (2 ^ n + U) (2 ^ n + U) refl, inside_hh n U R ht hr, off, lt-ltb (R - U) (2 ^ n + U) (omega arith))
      (sym (cond-and (inside U R) (is_part (R - U) q)))

none : (p : List ℕ) → times p (partitions 0 0) ≡ one_if (is_part 0 p)
unfolding times partitions is_part list_sum same_list
none [] = refl
none (b ∷ q) = sym (fails 0 b q (λ t k. omega (arith, inside-le b 0 t)))

with_top : (n R : ℕ) → R < 2 ^ n → (p : List ℕ) → ((q : List ℕ) (L : ℕ) → times q (partitions n (R - L)) ≡ one_if (is_part (R - L) q))
    → times p (partitions (suc n) (2 ^ n + R)) ≡ one_if (is_part (2 ^ n + R) p)
unfolding is_part times same_list
with_top n R k [] ih =
    ap (times []) (partitions-hi n R) ∙ list_sum_flat _ _ (subsets n R)
    ∙ ap (λ (u : ℕ → ℕ). list_sum u (subsets n R)) (fun_ext (λ L. list_sum-map _ (λ p. (2 ^ n + L) ∷ p) (partitions n (R - L)) ∙ list_sum-null _))
    ∙ list_sum-null _ ∙ sym (ap one_if (ne_eqb (2 ^ n + R) 0 (omega arith)))
with_top n R k (b ∷ q) ih = block n R b q (ih q) ∙ ⊎_elim
    (λ (l : b < 2 ^ suc n). by_top n b (λ x. sum (2 ^ n) (term n R x q) ≡ one_if (is_part (2 ^ n + R) (x ∷ q))) l
    (λ j. foreign n R q k b (inl j)) (λ U j. own n R q k U j))
    (λ l. foreign n R q k b (inr l))
    (below_or b (2 ^ suc n))

listed : (n S : ℕ) (p : List ℕ) → S < 2 ^ n → times p (partitions n S) ≡ one_if (is_part S p)
listed zero S p h = rw (lt-one h) (none p)
listed (suc n) S p h = by_top n S (λ x. times p (partitions (suc n) x) ≡ one_if (is_part x p)) h
    (λ k. rw (partitions_lo n S k) (listed n S p k))
    (λ R k. with_top n R k p (λ q L. listed n (R - L) q (omega arith)))

-- ---- the test says what a partition is

or_half : (a b : ℕ) → bit_or a b / 2 ≡ bit_or (a / 2) (b / 2)
or_half a b = omega (arith, or_step a b)

or_odd : (a b : ℕ) → bit_or a b % 2 ≡ max (a % 2) (b % 2)
or_odd a b = omega (arith, or_step a b)

and-or : (a b c : ℕ) → bit_and a (bit_or b c) ≡ bit_or (bit_and a b) (bit_and a c)
and-or = bin_ind (λ (n : ℕ). (b c : ℕ) → bit_and n (bit_or b c) ≡ bit_or (bit_and n b) (bit_and n c)) (λ b c. refl)
    (λ n ih b c.
    let l : bit_and (n / 2) (bit_or b c / 2) ≡ bit_or (bit_and n b / 2) (bit_and n c / 2) =
    rw (or_half b c, and_half n b, and_half n c) (ih (b / 2) (c / 2)) in
    omega (arith, and_step n (bit_or b c), or_step (bit_and n b) (bit_and n c), or_odd b c, and_odd n b, and_odd n c))

or_ge_l : (a b : ℕ) → a ≤ bit_or a b
or_ge_l a b = omega (arith, or_add_and a b, and_le_r a b)

or_ge_r : (a b : ℕ) → b ≤ bit_or a b
or_ge_r a b = omega (arith, or_add_and a b, and_le_l a b)

-- what is below b and apart from it as a union is so block by block
each_below : (b : ℕ) (p : List ℕ) → union p < b → Each (λ c. c < b) p
unfolding union
each_below b [] h = tt
each_below b (c ∷ p) h = (omega (arith, or_ge_l c (union p)), each_below b p (omega (arith, or_ge_r c (union p))))

each_apart : (b : ℕ) (p : List ℕ) → bit_and b (union p) ≡ 0 → Each (λ c. bit_and b c ≡ 0) p
unfolding union
each_apart b [] e = tt
each_apart b (c ∷ p) e =
    let z : bit_or (bit_and b c) (bit_and b (union p)) ≡ 0 = sym (and-or b c (union p)) ∙ e in
    (omega (arith, or_ge_l (bit_and b c) (bit_and b (union p))), each_apart b p (omega (arith, or_ge_r (bit_and b c) (bit_and b (union p)))))

-- and back, by the top control of b
top : (N b : ℕ) → 0 < b → b < 2 ^ N → (n : ℕ) × (2 ^ n ≤ b) × (b < 2 ^ suc n)
top zero b l h = (0, omega arith, omega arith)
top (suc N) b l h = ⊎_elim (λ (k : b < 2 ^ N). top N b l k) (λ (k : 2 ^ N ≤ b). (N, k, h)) (below_or b (2 ^ N))

lt-pow : (b : ℕ) → b < 2 ^ b
lt-pow zero = omega arith
lt-pow (suc b) = omega (arith, lt-pow b)

module _ (n b : ℕ) (l : 2 ^ n ≤ b) (h : b < 2 ^ suc n) where
  below_top : (c : ℕ) → c < b → bit_and b c ≡ 0 → c < 2 ^ n
  below_top c u e = ⊎_elim (λ (k : c < 2 ^ n). k)
      (λ (k : 2 ^ n ≤ c).
      let eb : 2 ^ n + (b - 2 ^ n) ≡ b = omega arith in
      let ec : 2 ^ n + (c - 2 ^ n) ≡ c = omega arith in
      omega (arith, rw (eb, ec) at (and_hh n (b - 2 ^ n) (c - 2 ^ n) (omega arith) (omega arith))))
      (below_or c (2 ^ n))

  union_below : (p : List ℕ) → Each (λ c. c < b) p → Each (λ c. bit_and b c ≡ 0) p → (bit_and b (union p) ≡ 0) × (union p < 2 ^ n)
  unfolding union
  union_below [] u e = (and_zero_r b, pow_pos n)
  union_below (c ∷ p) u e =
      let r = union_below p u.1 e.1 in
      (and-or b c (union p) ∙ ap₂ bit_or e.0 r.0, or_lt n c (union p) (below_top c u.0 e.0) r.1)

part→ : (S : ℕ) (p : List ℕ) → T (is_part S p) → IsPartition S p
unfolding is_part union
part→ S [] t = record { nonempty = tt; disjoint = tt; falling = tt; whole = sym (eqb→eq S 0 t) }
part→ S (b ∷ p) t =
    let y = ltb (S - b) b in
    let r = is_part (S - b) p in
    let i : T (inside b S) = and_left (inside b S) (y && r) t in
    let l : S - b < b = ltb→lt (S - b) b (and_left y r (and_right (inside b S) (y && r) t)) in
    let rest = part→ (S - b) p (and_right y r (and_right (inside b S) (y && r) t)) in
    let z : bit_and b (S - b) ≡ 0 = apart_rest b S (inside→eq b S i) in
    record {
      nonempty = (omega arith, rest.nonempty);
      disjoint = (each_apart b p (rw rest.whole z), rest.disjoint);
      falling = (each_below b p (rw rest.whole l), rest.falling);
      whole = rw rest.whole (omega (arith, or_disjoint b (S - b) z, inside-le b S i));
    }

part← : (p : List ℕ) (S : ℕ) → IsPartition S p → T (is_part S p)
unfolding is_part union
part← [] S k = rw (← k.whole) tt
part← (b ∷ p) S k =
    let n = top b b k.nonempty.0 (lt-pow b) in
    let d = union_below n.0 b n.1 n.2 p k.falling.0 k.disjoint.0 in
    let s : bit_or b (union p) ≡ S = k.whole in
    let off : S - b ≡ union p = omega (arith, or_disjoint b (union p) d.0) in
    let i : T (inside b S) = rw (← s) (eq→inside b (bit_or b (union p)) (and-or b b (union p) ∙ ap₂ bit_or (and_self b) d.0 ∙ or_zero_r b)) in
    let l : T (ltb (S - b) b) = lt→ltb (S - b) b (omega arith) in
    and_both (inside b S) _ i (and_both (ltb (S - b) b) _ l
    (part← p (S - b) (record { nonempty = k.nonempty.1; disjoint = k.disjoint.1; falling = k.falling.1; whole = sym off })))

-- ---- the theorem

pub partitions_each : (n S : ℕ) (p : List ℕ) → S < 2 ^ n → IsPartition S p → times p (partitions n S) ≡ 1
partitions_each n S p h k = listed n S p h ∙ ap one_if (yes_test (is_part S p) (part← p S k))

pub partitions_only : (n S : ℕ) (p : List ℕ) → S < 2 ^ n → 0 < times p (partitions n S) → IsPartition S p
partitions_only n S p h k = part→ S p (tested (is_part S p) (omega (arith, listed n S p h))) where
  tested : (b : Bool) → 0 < one_if b → T b
  tested true k = tt
  tested false k = omega arith

-- `times` counts equal lists
pub same_equal : (p q : List ℕ) → T (same_list p q) → p ≡ q
unfolding same_list
same_equal [] [] t = refl
same_equal [] (y ∷ ys) t = absurd t
same_equal (x ∷ xs) [] t = absurd t
same_equal (x ∷ xs) (y ∷ ys) t =
    ap₂ (λ (a : ℕ) (l : List ℕ). a ∷ l) (eqb→eq x y (and_left (eqb x y) (same_list xs ys) t)) (same_equal xs ys (and_right (eqb x y) (same_list xs ys) t))

pub equal_same : (p : List ℕ) → T (same_list p p)
unfolding same_list
equal_same [] = tt
equal_same (x ∷ xs) = and_both (eqb x x) (same_list xs xs) (eqb_refl x) (equal_same xs)
