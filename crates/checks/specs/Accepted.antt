-- When a call is accepted: the facts that its tests give. For each shape of call a record of the facts, and `SHAPE-accepted`
-- from the number 0 to the record; of one list alone also that the facts are enough, `list_accepts`.
use Rattle.std.specs.Prelude.{◌≡◌, refl, true, not, List, [], ◌∷◌, ℕ, ◌+◌, ◌^◌, ◌<◌, ◌≤◌, ltb, eqb, length}
use Rattle.std.proofs.Common.{arith, eqb-true, eq-eqb, ltb-false, le-ltb}
use Rattle.std.proofs.lemmas.Bool.{not-false}
use Rattle.definitions.specs.Limits.{most_controls, lowest_modulus, largest_modulus, pad_length}
use Rattle.definitions.specs.Sums.{at}
use Rattle.definitions.specs.Partitions.{all_below, all_ones}
use Rattle.definitions.specs.Refusals.{word_if, or_else, first_word, panel_word, modulus_word, table_word, row_word, pad_word, entry_word, start_word, AcceptedTable, AcceptedRow, sum_number, binomial_number, product_number, single_number, composition_number}
use Rattle.theory.specs.Lists.{length-tabulate, at-tabulate}
use Rattle.theory.specs.Entries.{below_anywhere, at_below}
use Rattle.theory.specs.Tables.{ones_row}
use Rattle.residues.specs.Moduli.{valid_modulus}
use Rattle.checks.specs.Words.{no_word, all_zero, ◌and◌, AllZero}

-- ---- one test

-- n and m are in range
pub record InRange (n m : ℕ) : Type 0 where
  pub few : n ≤ most_controls
  pub lowest : lowest_modulus ≤ m
  pub largest : m ≤ largest_modulus

-- the word of both tests of length: k entries where there should be `long`
abbrev pub length_word : ℕ → ℕ → ℕ
length_word long k = word_if (not (eqb k long)) 3

-- a list of so many entries, each below m; past its end a list reads 0
pub record Entries (long m : ℕ) (a : List ℕ) : Type 0 where
  pub size : length a ≡ long
  pub below : (i : ℕ) → at a i < m

abbrev pub IsTable : ℕ → ℕ → List ℕ → Type 0
IsTable n m a = Entries (2 ^ n) m a

abbrev pub IsRow : ℕ → ℕ → List ℕ → Type 0
IsRow n m f = Entries (n + 1) m f

pub few_controls : (n : ℕ) → panel_word n ≡ 0 → n ≤ most_controls
few_controls n e = ltb-false most_controls n (no_word (ltb most_controls n) 1 (λ z. omega arith) e)

pub in_range : {n m : ℕ} → panel_word n ≡ 0 → modulus_word m ≡ 0 → InRange n m
in_range {n} {m} p q =
    record {
      few = few_controls n p;
      lowest = (valid_modulus m q).lowest;
      largest = (valid_modulus m q).largest;
    }

module _ {n m : ℕ} (h : InRange n m) where
  pub range_panel : panel_word n ≡ 0
  range_panel = simp (le-ltb most_controls n h.few)

  pub range_modulus : modulus_word m ≡ 0
  range_modulus = simp (le-ltb m lowest_modulus h.lowest, le-ltb largest_modulus m h.largest)

pub right_length : (long k : ℕ) → length_word long k ≡ 0 → k ≡ long
right_length long k e = eqb-true k long (not-false (eqb k long) (no_word (not (eqb k long)) 3 (λ z. omega arith) e))

pub length_right : (long k : ℕ) → k ≡ long → length_word long k ≡ 0
length_right long k e = simp (eq-eqb k long e)

pub long_pad : (n k : ℕ) → pad_word n k ≡ 0 → pad_length n ≤ k
long_pad n k e = ltb-false k (pad_length n) (no_word (ltb k (pad_length n)) 4 (λ z. omega arith) e)

pub right_start : (first : ℕ) (a : List ℕ) → start_word first a ≡ 0 → at a 0 ≡ first
right_start first a e =
    eqb-true (at a 0) first (not-false (eqb (at a 0) first) (no_word (not (eqb (at a 0) first)) 6 (λ z. omega arith) e))

pub start_right : (first : ℕ) (a : List ℕ) → at a 0 ≡ first → start_word first a ≡ 0
start_right first a e = simp (eq-eqb (at a 0) first e)

pub all_below_lem : (m : ℕ) (a : List ℕ) → entry_word m a ≡ 0 → all_below m a ≡ true
all_below_lem m a e = not-false (all_below m a) (no_word (not (all_below m a)) 5 (λ z. omega arith) e)

-- the two tests of a list
module _ {m long : ℕ} {a : List ℕ} where
  pub entries : {n : ℕ} → InRange n m → length_word long (length a) ≡ 0 → entry_word m a ≡ 0 → Entries long m a
  entries r l e =
      record {
        size = right_length long (length a) l;
        below = below_anywhere m a (omega (arith, r.lowest)) (all_below_lem m a e);
      }

  pub entries_length : Entries long m a → length_word long (length a) ≡ 0
  entries_length h = length_right long (length a) h.size

  pub entries_below : Entries long m a → entry_word m a ≡ 0
  entries_below h = simp (at_below m a (λ i l. h.below i))

-- ---- two inputs and a result, all of one length: sum, difference; binomial product of rows

pub record Pair (n m long : ℕ) (a b : List ℕ) (r : ℕ) : Type 0 where
  pub range : InRange n m
  pub first : Entries long m a
  pub second : Entries long m b
  pub result : r ≡ long

-- the words behind the modulus'
abbrev pub pair_words : ℕ → ℕ → List ℕ → List ℕ → ℕ → List ℕ
pair_words m long a b r =
    length_word long (length a)
    ∷ length_word long (length b)
    ∷ length_word long r
    ∷ entry_word m a
    ∷ entry_word m b
    ∷ []

module _ (n m long : ℕ) (a b : List ℕ) (r : ℕ) where
  pair_facts : AllZero (panel_word n ∷ modulus_word m ∷ pair_words m long a b r) → Pair n m long a b r
  pair_facts (p, (q, (la, (lb, (lr, (ea, (eb, z))))))) =
      let i = in_range p q in
      record { range = i; first = entries i la ea; second = entries i lb eb; result = right_length long r lr }

  pub pair_accepted : first_word (panel_word n ∷ modulus_word m ∷ pair_words m long a b r) ≡ 0 → Pair n m long a b r
  pair_accepted e = pair_facts (all_zero (panel_word n ∷ modulus_word m ∷ pair_words m long a b r) e)

module _ (n m : ℕ) (a b : List ℕ) (r : ℕ) where
  pub sum_accepted : sum_number n m a b r ≡ 0 → Pair n m (2 ^ n) a b r
  unfolding sum_number
  sum_accepted e = pair_accepted n m (2 ^ n) a b r e

  pub binomial_accepted : binomial_number n m a b r ≡ 0 → Pair n m (n + 1) a b r
  unfolding binomial_number
  binomial_accepted e = pair_accepted n m (n + 1) a b r e

-- ---- two tables, a result and a workspace of p entries: subset and union product, and xor product before its own test

pub record Product (n m : ℕ) (a b : List ℕ) (r p : ℕ) : Type 0 where
  pub range : InRange n m
  pub first : IsTable n m a
  pub second : IsTable n m b
  pub result : r ≡ 2 ^ n
  pub pad : pad_length n ≤ p

abbrev pub product_words : ℕ → ℕ → List ℕ → List ℕ → ℕ → ℕ → List ℕ
product_words n m a b r p =
    table_word n (length a)
    ∷ table_word n (length b)
    ∷ table_word n r
    ∷ pad_word n p
    ∷ entry_word m a
    ∷ entry_word m b
    ∷ []

module _ (n m : ℕ) (a b : List ℕ) (r p : ℕ) where
  product_facts : AllZero (panel_word n ∷ modulus_word m ∷ product_words n m a b r p) → Product n m a b r p
  product_facts (k, (q, (la, (lb, (lr, (w, (ea, (eb, z)))))))) =
      let i = in_range k q in
      record {
        range = i;
        first = entries i la ea;
        second = entries i lb eb;
        result = right_length (2 ^ n) r lr;
        pad = long_pad n p w;
      }

  pub product_accepted : product_number n m a b r p ≡ 0 → Product n m a b r p
  unfolding product_number
  product_accepted e = product_facts (all_zero (panel_word n ∷ modulus_word m ∷ product_words n m a b r p) e)

-- ---- one table, a result and a workspace: inverse, exponential, logarithm, before their first entry is looked at

pub record Single (n m : ℕ) (a : List ℕ) (r p : ℕ) : Type 0 where
  pub range : InRange n m
  pub table : IsTable n m a
  pub result : r ≡ 2 ^ n
  pub pad : pad_length n ≤ p

abbrev pub single_words : ℕ → ℕ → List ℕ → ℕ → ℕ → List ℕ
single_words n m a r p =
    table_word n (length a) ∷ table_word n r ∷ pad_word n p ∷ entry_word m a ∷ []

module _ (n m : ℕ) (a : List ℕ) (r p : ℕ) where
  single_facts : AllZero (panel_word n ∷ modulus_word m ∷ single_words n m a r p) → Single n m a r p
  single_facts (k, (q, (la, (lr, (w, (ea, z)))))) =
      let i = in_range k q in
      record { range = i; table = entries i la ea; result = right_length (2 ^ n) r lr; pad = long_pad n p w }

  pub single_accepted : single_number n m a r p ≡ 0 → Single n m a r p
  unfolding single_number
  single_accepted e = single_facts (all_zero (panel_word n ∷ modulus_word m ∷ single_words n m a r p) e)

  -- with a first entry: exponential (0) and logarithm (1)
  abbrev pub start_number : ℕ → ℕ
  start_number first = or_else (single_number n m a r p) (start_word first a)

-- ---- a table, a row, a result and a workspace: composition

pub record Composition (n m : ℕ) (a f : List ℕ) (r p : ℕ) : Type 0 where
  pub range : InRange n m
  pub table : IsTable n m a
  pub row : IsRow n m f
  pub result : r ≡ 2 ^ n
  pub pad : pad_length n ≤ p
  pub start : at a 0 ≡ 0

abbrev pub composition_words : ℕ → ℕ → List ℕ → List ℕ → ℕ → ℕ → List ℕ
composition_words n m a f r p =
    table_word n (length a)
    ∷ row_word n (length f)
    ∷ table_word n r
    ∷ pad_word n p
    ∷ entry_word m a
    ∷ entry_word m f
    ∷ start_word 0 a
    ∷ []

module _ (n m : ℕ) (a f : List ℕ) (r p : ℕ) where
  composition_facts : AllZero (panel_word n ∷ modulus_word m ∷ composition_words n m a f r p) → Composition n m a f r p
  composition_facts (k, (q, (la, (lf, (lr, (w, (ea, (ef, (s, z))))))))) =
      let i = in_range k q in
      record {
        range = i;
        table = entries i la ea;
        row = entries i lf ef;
        result = right_length (2 ^ n) r lr;
        pad = long_pad n p w;
        start = right_start 0 a s;
      }

  pub composition_accepted : composition_number n m a f r p ≡ 0 → Composition n m a f r p
  unfolding composition_number
  composition_accepted e = composition_facts (all_zero (panel_word n ∷ modulus_word m ∷ composition_words n m a f r p) e)

-- ---- one list alone: 01's *accepted* table or row, and the writer before its buffer is looked at

abbrev pub list_number : ℕ → ℕ → ℕ → List ℕ → ℕ
list_number n m long a = first_word (panel_word n ∷ modulus_word m ∷ length_word long (length a) ∷ entry_word m a ∷ [])

abbrev pub table_words : ℕ → ℕ → List ℕ → List ℕ
table_words n m a = table_word n (length a) ∷ entry_word m a ∷ []

abbrev pub table_number : ℕ → ℕ → List ℕ → ℕ
table_number n m a = first_word (panel_word n ∷ modulus_word m ∷ table_words n m a)

module _ (n m long : ℕ) (a : List ℕ) where
  list_facts :
      AllZero (panel_word n ∷ modulus_word m ∷ length_word long (length a) ∷ entry_word m a ∷ []) → InRange n m × Entries long m a
  list_facts (k, (q, (la, (ea, z)))) = let i = in_range k q in (i, entries i la ea)

  pub list_accepted : list_number n m long a ≡ 0 → InRange n m × Entries long m a
  list_accepted e = list_facts (all_zero (panel_word n ∷ modulus_word m ∷ length_word long (length a) ∷ entry_word m a ∷ []) e)

  pub list_accepts : InRange n m → Entries long m a → list_number n m long a ≡ 0
  list_accepts i h = range_panel i and range_modulus i and entries_length h and entries_below h and refl

module _ (n m : ℕ) (a : List ℕ) where
  pub table_accepted : AcceptedTable n m a → InRange n m × IsTable n m a
  table_accepted e = list_accepted n m (2 ^ n) a e

  pub table_accepts : InRange n m → IsTable n m a → AcceptedTable n m a
  table_accepts i h = list_accepts n m (2 ^ n) a i h

  pub row_accepted : AcceptedRow n m a → InRange n m × IsRow n m a
  row_accepted e = list_accepted n m (n + 1) a e

-- the row of ones: every modulus is above 1
pub ones_accepted : {n m : ℕ} → InRange n m → AcceptedRow n m (ones_row n)
unfolding ones_row
ones_accepted {n} {m} r = list_accepts n m (n + 1) (ones_row n) r (record { size = long; below = below_anywhere m (ones_row n) (omega (arith, r.lowest)) small }) where
  long : length (ones_row n) ≡ n + 1
  long = length-tabulate (n + 1) all_ones

  small : all_below m (ones_row n) ≡ true
  small = at_below m (ones_row n) (λ i l. rw (at-tabulate (n + 1) all_ones i (omega (arith, long))) r.lowest)
