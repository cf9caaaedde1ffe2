-- Labels as an accepted sheet has them.
--   GoodLabel, GoodLabels    one label; sixteen of them, no two the same
--   same_self, same_is       the test of equal labels
--   once_differ, differ_once no label stands again behind itself exactly if any two differ
--   label_same               of two labels of a sheet: they are the same only if they are one
--   among_labels             a label is among those of some controls if its control is one of them
use Rattle.std.specs.Prelude.{◌≡◌, refl, Bool, true, false, ltb, eqb, length}
use Rattle.std.proofs.Common.{sym, ◌∙◌, ⊎_elim, arith, eq-eqb, ne_eqb, eqb-true, lt-ltb, le-ltb}
use Rattle.std.proofs.Math.Path.{ap, ap₂}
use Rattle.std.proofs.Math.Bool.{cond, ◌||◌, or-false, or_assoc}
use mathlib.Core.List.{List, [], ◌∷◌, ◌++◌, map, map-append}
use Prim.Native.Nat.{ℕ, zero, suc, ◌<◌, ◌≤◌}
use Rattle.std.proofs.Math.Decide.{ℕ_discrete}
use Rattle.definitions.specs.Limits.{most_controls, longest_label}
use Rattle.definitions.specs.Sums.{tabulate, keep}
use Rattle.definitions.specs.Sheets.{alphanumeric, same, among, twice, label_of}
use Rattle.theory.specs.Tests.{below_or, and_true_left, and_true_right, zero_is_not_one}
use Rattle.page_theory.specs.Codes.{keep_snoc}

-- ---- what a label is

abbrev pub AllAlphanumeric : List ℕ → Type 0
AllAlphanumeric [] = Unit {0}
AllAlphanumeric (x ∷ xs) = (alphanumeric x ≡ true) × AllAlphanumeric xs

pub record GoodLabel (l : List ℕ) : Type 0 where
  pub some : 1 ≤ length l
  pub short : length l ≤ longest_label
  pub bytes : AllAlphanumeric l

pub record GoodLabels (ls : List (List ℕ)) : Type 0 where
  pub sixteen : length ls ≡ most_controls
  pub each : (i : ℕ) → i < most_controls → GoodLabel (label_of ls i)
  pub different : (i j : ℕ) → i < j → j < most_controls → label_of ls i ≡ label_of ls j → ⊥

-- ---- equal labels

pub same_self : (l : List ℕ) → same l l ≡ true
unfolding same
same_self [] = refl
same_self (x ∷ l) = rw (eq-eqb x x refl, same_self l)

pub same_is : (k l : List ℕ) → same k l ≡ true → k ≡ l
unfolding same
same_is [] [] e = refl
same_is [] (y ∷ l) e = absurd (zero_is_not_one (cc))
same_is (x ∷ k) [] e = absurd (zero_is_not_one (cc))
same_is (x ∷ k) (y ∷ l) e =
    ap₂ (λ (z : ℕ) (t : List ℕ). z ∷ t) (eqb-true x y (and_true_left (eqb x y) (same k l) e)) (same_is k l (and_true_right (eqb x y) (same k l) e))

other_same : (k l : List ℕ) → (k ≡ l → ⊥) → same k l ≡ false
other_same k l d = by (same k l) refl
  where
    by : (b : Bool) → same k l ≡ b → b ≡ false
    by false e = refl
    by true e = absurd (d (same_is k l e))

or_false_left : (a b : Bool) → (a || b) ≡ false → a ≡ false
or_false_left false b e = refl
or_false_left true b e = e

or_false_right : (a b : Bool) → (a || b) ≡ false → b ≡ false
or_false_right false b e = e
or_false_right true b e = absurd (zero_is_not_one (cc))

among-at : (l : List ℕ) (ls : List (List ℕ)) (j : ℕ) → j < length ls → among l ls ≡ false → same l (label_of ls j) ≡ false
unfolding among
among-at l [] j h e = absurd (zero_is_not_one (omega arith))
among-at l (x ∷ ls) zero h e = or_false_left (same l x) (among l ls) e
among-at l (x ∷ ls) (suc j) h e = among-at l ls j (omega arith) (or_false_right (same l x) (among l ls) e)

-- no label stands again behind itself exactly if any two differ
pub once_differ : (ls : List (List ℕ)) → twice ls ≡ false → (i j : ℕ) → i < j → j < length ls → label_of ls i ≡ label_of ls j → ⊥
unfolding twice
once_differ [] e i j h l f = zero_is_not_one (omega arith)
once_differ (x ∷ ls) e i zero h l f = zero_is_not_one (omega arith)
once_differ (x ∷ ls) e zero (suc j) h l f =
    let no : same x (label_of ls j) ≡ false = among-at x ls j (omega arith) (or_false_left (among x ls) (twice ls) e) in
    let yes : same x (label_of ls j) ≡ true = ap (same x) (sym f) ∙ same_self x in
    zero_is_not_one (cc)
once_differ (x ∷ ls) e (suc i) (suc j) h l f = once_differ ls (or_false_right (among x ls) (twice ls) e) i j (omega arith) (omega arith) f

not-among : (l : List ℕ) (ls : List (List ℕ)) → ((j : ℕ) → j < length ls → l ≡ label_of ls j → ⊥) → among l ls ≡ false
unfolding among
not-among l [] h = refl
not-among l (x ∷ ls) h = rw (other_same l x (h 0 (omega arith)), not-among l ls (λ j k. h (suc j) (omega arith)))

pub differ_once : (ls : List (List ℕ)) → ((i j : ℕ) → i < j → j < length ls → label_of ls i ≡ label_of ls j → ⊥) → twice ls ≡ false
unfolding twice
differ_once [] h = refl
differ_once (x ∷ ls) h =
    rw (not-among x ls (λ j k. h 0 (suc j) (omega arith) (omega arith)), differ_once ls (λ i j k l. h (suc i) (suc j) (omega arith) (omega arith)))

-- ---- a label among those of some controls

among-both : (l : List ℕ) (xs ys : List (List ℕ)) → among l (xs ++ ys) ≡ (among l xs || among l ys)
unfolding among
among-both l [] ys = refl
among-both l (x ∷ xs) ys = ap (λ (b : Bool). same l x || b) (among-both l xs ys) ∙ sym (or_assoc (same l x) (among l xs) (among l ys))

among-cond : (l : List ℕ) (f : ℕ → List ℕ) (t : Bool) (x : ℕ) → among l (map f (cond t (x ∷ []) [])) ≡ cond t (same l (f x)) false
unfolding among
among-cond l f true x = or-false (same l (f x))
among-cond l f false x = refl

cond_both : (t : Bool) → cond t false false ≡ false
cond_both true = refl
cond_both false = refl

cond_self : (t : Bool) → cond t true false ≡ t
cond_self true = refl
cond_self false = refl

last_kept : (p : ℕ → Bool) (n i : ℕ) → (cond (ltb i n) (p i) false || cond (p n) (eqb i n) false) ≡ cond (ltb i (suc n)) (p i) false
last_kept p n i = elim (ℕ_discrete i n) [
  | yes e ↦ rw (le-ltb i n (omega arith), lt-ltb i (suc n) (omega arith), eq-eqb i n e) (cond_self (p n) ∙ ap p (sym e))
  | no d ↦ ⊎_elim
      (λ (l : i < n). rw (lt-ltb i n l, lt-ltb i (suc n) (omega arith), ne_eqb i n d) (ap (λ (b : Bool). p i || b) (cond_both (p n)) ∙ or-false (p i)))
      (λ (l : n ≤ i). rw (le-ltb i n l, le-ltb i (suc n) (omega arith), ne_eqb i n d) (cond_both (p n)))
      (below_or i n)
]

module _ (ls : List (List ℕ)) (good : GoodLabels ls) where
  pub label_same : (i j : ℕ) → i < most_controls → j < most_controls → same (label_of ls i) (label_of ls j) ≡ eqb i j
  label_same i j h k = elim (ℕ_discrete i j) [
    | yes e ↦ rw e (same_self (label_of ls j) ∙ sym (eq-eqb j j refl))
    | no d ↦ ⊎_elim
        (λ (l : i < j). other_same (label_of ls i) (label_of ls j) (good.different i j l k) ∙ sym (ne_eqb i j d))
        (λ (l : j ≤ i).
        other_same (label_of ls i) (label_of ls j) (λ (e : label_of ls i ≡ label_of ls j). good.different j i (omega arith) h (sym e)) ∙ sym (ne_eqb i j d))
        (below_or i j)
  ]

  -- the controls below n that pass a test
  pub among_labels : (p : ℕ → Bool) (n i : ℕ) → n ≤ most_controls → i < most_controls →
      among (label_of ls i) (map (label_of ls) (keep p (tabulate n (λ j. j)))) ≡ cond (ltb i n) (p i) false
  unfolding tabulate keep among
  among_labels p zero i l h = rw (le-ltb i 0 (omega arith))
  among_labels p (suc n) i l h =
      ap (λ (xs : List ℕ). among (label_of ls i) (map (label_of ls) xs)) (keep_snoc p (tabulate n (λ j. j)) n)
      ∙ ap (among (label_of ls i)) (map-append (label_of ls) (keep p (tabulate n (λ j. j))) (cond (p n) (n ∷ []) []))
      ∙ among-both (label_of ls i) (map (label_of ls) (keep p (tabulate n (λ j. j)))) (map (label_of ls) (cond (p n) (n ∷ []) []))
      ∙ ap₂ ◌||◌ (among_labels p n i (omega arith) h) (among-cond (label_of ls i) (label_of ls) (p n) n ∙ ap (λ (b : Bool). cond (p n) b false) (label_same i n h (omega arith)))
      ∙ last_kept p n i
