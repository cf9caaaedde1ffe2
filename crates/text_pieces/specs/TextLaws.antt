-- Laws of decimal numbers and of text that is written piece by piece.
--   decimal-last, decimal_more, decimal_few   a number by its last digit; it has at most ten
--   decimal_left, aligned-last, aligned_left  a number aligned to the right, by its last byte
--   writes_append, writes_byte, writes_one, writes_none   one piece behind another, one byte, nothing
--   writes_length, writes_room                the buffer is as long as it was; room behind a piece
--   writes_front, writes_again, writes_inside a byte in front of a piece, all of it written over, a piece inside it;
--                                             writes-there: it is there already
--   filled-written                            a piece, and blanks behind it
--   flat_map_one                               one text more behind some
use Rattle.std.specs.Prelude.{◌≡◌, refl, Bool, cond, ◌≢◌, ℕ, zero, suc, ◌+◌, ◌-◌, ◌/◌, ◌%◌, ◌^◌, ◌<◌, ◌≤◌, length, set}
use Rattle.std.proofs.Common.{sym, ◌∙◌, ap, ⊎_elim, arith, length-append, length-set, set-set, lt-ltb, le-ltb, eq-eqb, ne_eqb}
use mathlib.Core.List.{List, [], ◌∷◌, ◌++◌, flat_map, append_assoc, append-nil}
use Rattle.std.proofs.Math.Dec.{eqb-suc-zero}
use Rattle.std.proofs.lemmas.List.{replicate-append-replicate, set_comm}
use Rattle.std.proofs.lemmas.List.Edits.{sets}
use Rattle.std.proofs.Math.Seq.{length-sets}
use Rattle.definitions.specs.Show.{decimal, digits_in}
use Rattle.definitions.specs.Pages.{blanks, filled, aligned}
use Rattle.theory.specs.Tests.{below_or, zero_is_not_one}
use Rattle.number_groups.specs.Stores.{sets_append}
use Rattle.text_pieces.specs.Text.{Writes, digits_left, digit_or_blank}

-- ---- decimal numbers

module _ (k v : ℕ) where
  last_digit : v < 10 → digits_in (suc k) v ≡ (48 + v) ∷ []
  unfolding digits_in
  last_digit h = rw (lt-ltb v 10 h)

  more_digits : 10 ≤ v → digits_in (suc k) v ≡ digits_in k (v / 10) ++ ((48 + v % 10) ∷ [])
  unfolding digits_in
  more_digits h = rw (le-ltb v 10 h)

-- one more digit than a number needs is not used
unused : (k v : ℕ) → (10 ≤ v → digits_in k (v / 10) ≡ digits_in (suc k) (v / 10)) → digits_in (suc k) v ≡ digits_in (suc (suc k)) v
unused k v further =
    ⊎_elim (λ (l : v < 10). last_digit k v l ∙ sym (last_digit (suc k) v l))
    (λ (l : 10 ≤ v). more_digits k v l ∙ ap (λ (ds : List ℕ). ds ++ ((48 + v % 10) ∷ [])) (further l) ∙ sym (more_digits (suc k) v l))
    (below_or v 10)

enough : (k v : ℕ) → v < 10 ^ suc k → digits_in (suc k) v ≡ digits_in (suc (suc k)) v
enough zero v h = unused zero v (λ l. absurd (omega arith))
enough (suc k) v h = unused (suc k) v (λ l. enough k (v / 10) (omega arith))

pub decimal-last : (v : ℕ) → v < 10 → decimal v ≡ (48 + v) ∷ []
decimal-last v h = last_digit 9 v h

pub decimal_more : (v : ℕ) → 10 ≤ v → v < 2 ^ 32 → decimal v ≡ decimal (v / 10) ++ ((48 + v % 10) ∷ [])
decimal_more v l h = more_digits 9 v l ∙ ap (λ (ds : List ℕ). ds ++ ((48 + v % 10) ∷ [])) (enough 8 (v / 10) (omega arith))

few_by : (k v : ℕ) → length (digits_in k (v / 10)) ≤ k → length (digits_in (suc k) v) ≤ suc k
few_by k v h =
    ⊎_elim (λ (l : v < 10). omega (arith, ap length (last_digit k v l)))
    (λ (l : 10 ≤ v). omega (arith, ap length (more_digits k v l), length-append (digits_in k (v / 10)) ((48 + v % 10) ∷ [])))
    (below_or v 10)

few_digits : (k v : ℕ) → length (digits_in k v) ≤ k
unfolding digits_in
few_digits zero v = omega arith
few_digits (suc k) v = few_by k v (few_digits k (v / 10))

pub decimal_few : (v : ℕ) → length (decimal v) ≤ 10
decimal_few v = few_digits 10 v

-- ---- aligned to the right

none_left : (rest : ℕ) → rest ≡ 0 → digits_left rest ≡ []
unfolding digits_left
none_left rest e = rw (eq-eqb rest 0 e)

some_left : (rest : ℕ) → rest ≢ 0 → digits_left rest ≡ decimal rest
unfolding digits_left
some_left rest d = rw (ne_eqb rest 0 d)

-- every number is what is left above its last digit, and that digit
pub decimal_left : (v : ℕ) → v < 2 ^ 32 → decimal v ≡ digits_left (v / 10) ++ ((48 + v % 10) ∷ [])
decimal_left v h = ⊎_elim
    (λ (l : v < 10).
    let same : v ≡ v % 10 = omega arith in
    decimal-last v l ∙ ap (λ (k : ℕ). (48 + k) ∷ []) same
    ∙ ap (λ (ds : List ℕ). ds ++ ((48 + v % 10) ∷ [])) (sym (none_left (v / 10) (omega arith))))
    (λ (l : 10 ≤ v).
    decimal_more v l h
    ∙ ap (λ (ds : List ℕ). ds ++ ((48 + v % 10) ∷ [])) (sym (some_left (v / 10) (λ (e : v / 10 ≡ 0). omega arith))))
    (below_or v 10)

pub aligned-last : (k : ℕ) (text : List ℕ) (b : ℕ) → aligned (suc k) (text ++ (b ∷ [])) ≡ aligned k text ++ (b ∷ [])
unfolding aligned
aligned-last k text b =
    let same : suc k - length (text ++ (b ∷ [])) ≡ k - length text = omega (arith, length-append text (b ∷ [])) in
    ap (λ (j : ℕ). blanks j ++ (text ++ (b ∷ []))) same ∙ sym (append_assoc (blanks (k - length text)) text (b ∷ []))

aligned_none : (k : ℕ) → aligned k [] ≡ blanks k
unfolding aligned
aligned_none k =
    let all : k - 0 ≡ k = omega arith in
    ap (λ (j : ℕ). blanks j ++ []) all ∙ append-nil (blanks k)

one_blank : (k : ℕ) → blanks (suc k) ≡ blanks k ++ (32 ∷ [])
one_blank k =
    let more : suc k ≡ k + 1 = omega arith in
    ap blanks more ∙ sym (replicate-append-replicate k 1 32)

-- what is left, by its last byte: a digit, or a blank once nothing is left
pub aligned_left : (k rest : ℕ) → rest < 2 ^ 32 →
    aligned (suc k) (digits_left rest) ≡ aligned k (digits_left (rest / 10)) ++ (digit_or_blank rest ∷ [])
aligned_left k zero h =
    ap (aligned (suc k)) (none_left 0 refl)
    ∙ aligned_none (suc k) ∙ one_blank k
    ∙ ap (λ (t : List ℕ). t ++ (32 ∷ [])) (sym (aligned_none k) ∙ ap (aligned k) (sym (none_left 0 refl)))
aligned_left k (suc r) h =
    ap (aligned (suc k)) (some_left (suc r) (λ (e : suc r ≡ 0). omega arith) ∙ decimal_left (suc r) h)
    ∙ aligned-last k (digits_left (suc r / 10)) (48 + suc r % 10)
    ∙ ap (λ (t : Bool). aligned k (digits_left (suc r / 10)) ++ (cond t 32 (48 + suc r % 10) ∷ [])) (sym (eqb-suc-zero r))

pub nothing_left : (rest : ℕ) → rest < 1 → aligned 0 (digits_left rest) ≡ []
nothing_left rest h = ap (aligned 0) (none_left rest (omega arith)) ∙ aligned_none 0

-- ---- text piece by piece

pub writes_length : {old text last : List ℕ} {at next : ℕ} → Writes old at text next last → length last ≡ length old
writes_length {old} {text} {at = i} w = ap length w.text_is ∙ length-sets old i text

-- room for k bytes behind a piece
pub writes_room : {old text last : List ℕ} {at next : ℕ} (k : ℕ) → Writes old at text next last → at + length text + k ≤ length old → next + k ≤ length last
writes_room k w h = omega (arith, w.next_is, writes_length w)

pub writes_append : {old a b mid last : List ℕ} {i j k : ℕ} → Writes old i a j mid → Writes mid j b k last → Writes old i (a ++ b) k last
writes_append {old} {a} {b} {i = i} v w = record {
  next_is = omega (arith, v.next_is, w.next_is, length-append a b);
  text_is = w.text_is ∙ rw (v.text_is, v.next_is) (sym (sets_append old i a b));
  within = w.within;
}

-- one byte more
pub writes_one : (old : List ℕ) (i byte : ℕ) → i < length old → Writes old i (byte ∷ []) (i + 1) (set old i byte)
writes_one old i byte h = record { next_is = refl; text_is = refl; within = omega (arith, length-set old i byte) }

pub writes_byte : {old a mid : List ℕ} {i j : ℕ} (byte : ℕ) → j < length mid → Writes old i a j mid → Writes old i (a ++ (byte ∷ [])) (j + 1) (set mid j byte)
writes_byte {mid = mid} {j = j} byte h v = writes_append v (writes_one mid j byte h)

pub writes_none : (old : List ℕ) (i : ℕ) → i ≤ length old → Writes old i [] i old
writes_none old i h = record { next_is = omega arith; text_is = refl; within = h }

-- text that is the same
pub writes_same : {old a b last : List ℕ} {i k : ℕ} → a ≡ b → Writes old i a k last → Writes old i b k last
writes_same e w = rw (sym e) w

-- ---- one byte in front of a piece, and a piece over another

-- a byte before some that are stored
set_before : (l : List ℕ) (i j b : ℕ) (vs : List ℕ) → i < j → set (sets l j vs) i b ≡ sets (set l i b) j vs
set_before l i j b [] h = refl
set_before l i j b (v ∷ vs) h =
    set_before (set l j v) i (suc j) b vs (omega arith) ∙ ap (λ (m : List ℕ). sets m (suc j) vs) (set_comm l j i v b (λ (e : j ≡ i). omega arith))

pub writes_front : {old text mid : List ℕ} {i j next : ℕ} (b : ℕ) → j ≡ suc i → Writes old j text next mid →
    Writes old i (b ∷ text) next (set mid i b)
writes_front {old} {text} {mid} {i} {j} b e w = record {
  next_is = omega (arith, w.next_is);
  text_is = ap (λ (l : List ℕ). set l i b) (w.text_is ∙ ap (λ (k : ℕ). sets old k text) e) ∙ set_before old i (suc i) b text (omega arith);
  within = omega (arith, w.within, length-set mid i b);
}

-- one piece over another that is as long
sets_again : (l : List ℕ) (i : ℕ) (a b : List ℕ) → length a ≡ length b → sets (sets l i a) i b ≡ sets l i b
sets_again l i [] [] e = refl
sets_again l i [] (y ∷ b) e = absurd (zero_is_not_one (omega arith))
sets_again l i (x ∷ a) [] e = absurd (zero_is_not_one (omega arith))
sets_again l i (x ∷ a) (y ∷ b) e =
    ap (λ (m : List ℕ). sets m (suc i) b)
    (set_before (set l i x) i (suc i) y a (omega arith) ∙ ap (λ (m : List ℕ). sets m (suc i) a) (set-set l i x y))
    ∙ sets_again (set l i y) (suc i) a b (omega arith)

pub writes_again : {old a b mid last : List ℕ} {i k : ℕ} → length a ≡ length b → Writes old i a k mid → Writes mid i b k last → Writes old i b k last
writes_again {old} {a} {b} {i = i} e v w = record {
  next_is = w.next_is;
  text_is = w.text_is ∙ ap (λ (l : List ℕ). sets l i b) v.text_is ∙ sets_again old i a b e;
  within = w.within;
}

-- some bytes before others that are stored
sets_before : (l : List ℕ) (i j : ℕ) (b vs : List ℕ) → i + length b ≤ j → sets (sets l j vs) i b ≡ sets (sets l i b) j vs
sets_before l i j [] vs h = refl
sets_before l i j (x ∷ b) vs h =
    ap (λ (m : List ℕ). sets m (suc i) b) (set_before l i j x vs (omega arith)) ∙ sets_before (set l i x) (suc i) j b vs (omega arith)

-- a piece inside another, in place of one that is as long
pub writes_inside : {old mid last : List ℕ} {i next : ℕ} (x a b y : List ℕ) {j r : ℕ} → j ≡ i + length x → length a ≡ length b →
    Writes old i (x ++ (a ++ y)) next mid → Writes mid j b r last → Writes old i (x ++ (b ++ y)) next last
writes_inside {old} {mid} {last} {i} x a b y {j} e f v w = record {
  next_is = omega (arith, v.next_is, length-append x (a ++ y), length-append a y, length-append x (b ++ y), length-append b y);
  text_is =
      w.text_is
      ∙ ap (λ (l : List ℕ). sets l j b) (v.text_is ∙ sets_append old i x (a ++ y) ∙ sets_append front place a y)
      ∙ rw e
      (sets_before (sets front place a) place (place + length a) b y (omega arith)
      ∙ ap (λ (l : List ℕ). sets l (place + length a) y) (sets_again front place a b f)
      ∙ ap (λ (k : ℕ). sets (sets front place b) (place + k) y) f
      ∙ sym (sets_append old i x (b ++ y) ∙ sets_append front place b y));
  within = omega (arith, v.within, writes_length w);
}
  where
    front : List ℕ
    front = sets old i x

    place : ℕ
    place = i + length x

-- a piece that is there already
pub writes_there : {old a mid : List ℕ} {i k : ℕ} → Writes old i a k mid → Writes mid i a k mid
writes_there {old} {a} {i = i} w = record {
  next_is = w.next_is;
  text_is = w.text_is ∙ sym (sets_again old i a a refl) ∙ ap (λ (l : List ℕ). sets l i a) (sym w.text_is);
  within = w.within;
}

-- ---- a piece filled with blanks

pub filled-written : (w at : ℕ) {text old mid last : List ℕ} {i r : ℕ} → length text ≤ w → Writes old at text i mid →
    Writes mid i (blanks (at + w - i)) r last → Writes old at (filled w text) r last
unfolding filled
filled-written w at {text} {i = i} h a b =
    let same : at + w - i ≡ w - length text = omega (arith, a.next_is) in
    writes_same (ap (λ (j : ℕ). text ++ blanks j) same) (writes_append a b)

-- ---- texts one after the other

pub flat_map_one : (f : ℕ → List ℕ) (xs : List ℕ) (x : ℕ) → flat_map f (xs ++ (x ∷ [])) ≡ flat_map f xs ++ f x
unfolding flat_map
flat_map_one f [] x = append-nil (f x)
flat_map_one f (y ∷ xs) x = ap (λ (l : List ℕ). f y ++ l) (flat_map_one f xs x) ∙ sym (append_assoc (f y) (flat_map f xs) (f x))
