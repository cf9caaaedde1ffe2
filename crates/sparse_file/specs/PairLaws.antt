-- Laws of reading a sparse table.
--   pair_read                        an entry that is accepted, taken apart
--   pairs_none, pairs_more, pairs_stop, pairs_go   so many entries, by the first of them; first-pair: if they are accepted
--   proper_pair, proper_pairs, proper_sparse   a refusal has a word
use Rattle.std.specs.Prelude.{◌≡◌, refl, true, false, not, List, ◌∷◌, ◌++◌, ℕ, zero, suc, ◌+◌, ◌-◌, ◌<◌, ltb, eqb}
use Rattle.std.proofs.Common.{sym, ◌∙◌, ap, arith, ltb-true, eq-eqb}
use Rattle.std.proofs.lemmas.Bool.{not-false}
use Rattle.definitions.specs.Outcomes.{Outcome, accepted, refused, and_then, unless}
use Rattle.definitions.specs.Refusals.{word_if}
use Rattle.definitions.specs.Groups.{Numeral, read_number}
use Rattle.definitions.specs.Files.{Entries, Pair, sparse, leads_on, read_gap, counts, read_value, read_pair, pair_in_front, read_pairs, read_contents, zeros}
use Rattle.theory.specs.Tests.{zero_is_not_one}
use Rattle.checks.specs.Words.{no_word}
use Rattle.table_header.specs.Words.{Proper, proper_accepted, proper_then, proper_unless, proper_number, word_small, passed, passed_test}

-- ---- one entry

-- the two numbers of an entry
pub record PairRead (left m : ℕ) (bytes : List ℕ) (p : Pair) : Type 0 where
  pub gap : Numeral
  pub value : Numeral
  pub gap_read : read_number bytes ≡ accepted gap
  pub value_read : read_number gap.rest ≡ accepted value
  pub gap_below : p.gap < left
  pub some : 0 < p.value
  pub below : p.value < m
  pub gap_is : gap.value ≡ p.gap
  pub value_is : value.value ≡ p.value
  pub rest_is : value.rest ≡ p.rest

record GapRead (left : ℕ) (bytes : List ℕ) (x : Numeral) : Type 0 where
  read : read_number bytes ≡ accepted x
  below : x.value < left

gap_read : (left : ℕ) (bytes : List ℕ) (x : Numeral) → read_gap left bytes ≡ accepted x → GapRead left bytes x
unfolding read_gap
gap_read left bytes x e =
    let one = passed (read_number bytes) (leads_on left) x e in
    let y = one.value in
    let two = passed_test (word_if (not (ltb y.value left)) 15) (accepted y) x one.then in
    let same : y ≡ x = let g = two.then in cc in
    record {
      read = one.first ∙ ap accepted same;
      below = rw (sym same) (ltb-true y.value left (not-false (ltb y.value left) (no_word (not (ltb y.value left)) 15 (λ z. omega arith) two.none)));
    }

record ValueRead (m : ℕ) (bytes : List ℕ) (x : Numeral) : Type 0 where
  read : read_number bytes ≡ accepted x
  some : 0 < x.value
  below : x.value < m

not_zero : (v : ℕ) → eqb v 0 ≡ false → 0 < v
not_zero zero e = absurd (zero_is_not_one (let f : eqb 0 0 ≡ true = eq-eqb 0 0 refl in let g = sym f ∙ e in cc))
not_zero (suc v) e = omega arith

value_read : (m : ℕ) (bytes : List ℕ) (x : Numeral) → read_value m bytes ≡ accepted x → ValueRead m bytes x
unfolding read_value
value_read m bytes x e =
    let one = passed (read_number bytes) (counts m) x e in
    let y = one.value in
    let two = passed_test (word_if (eqb y.value 0) 16) (unless (word_if (not (ltb y.value m)) 5) (accepted y)) x one.then in
    let three = passed_test (word_if (not (ltb y.value m)) 5) (accepted y) x two.then in
    let same : y ≡ x = let g = three.then in cc in
    record {
      read = one.first ∙ ap accepted same;
      some = rw (sym same) (not_zero y.value (no_word (eqb y.value 0) 16 (λ z. omega arith) two.none));
      below = rw (sym same) (ltb-true y.value m (not-false (ltb y.value m) (no_word (not (ltb y.value m)) 5 (λ z. omega arith) three.none)));
    }

pub pair_read : (left m : ℕ) (bytes : List ℕ) (p : Pair) → read_pair left m bytes ≡ accepted p → PairRead left m bytes p
unfolding read_pair
pair_read left m bytes p e =
    let one = passed (read_gap left bytes) _ p e in
    let two = passed (read_value m one.value.rest) _ p one.then in
    let g = gap_read left bytes one.value one.first in
    let v = value_read m one.value.rest two.value two.first in
    let same : record { gap = one.value.value; value = two.value.value; rest = two.value.rest } ≡ p = let f = two.then in cc in
    let gap_same : one.value.value ≡ p.gap = ap (λ (q : Pair). q.gap) same in
    let value_same : two.value.value ≡ p.value = ap (λ (q : Pair). q.value) same in
    record {
      gap = one.value;
      value = two.value;
      gap_read = g.read;
      value_read = v.read;
      gap_below = omega (arith, gap_same, g.below);
      some = omega (arith, value_same, v.some);
      below = omega (arith, value_same, v.below);
      gap_is = gap_same;
      value_is = value_same;
      rest_is = ap (λ (q : Pair). q.rest) same;
    }

-- ---- so many entries

-- the entries behind a first one
abbrev pub other_pairs : ℕ → ℕ → ℕ → Pair → Outcome Entries
other_pairs k left m p = and_then (read_pairs k (left - (p.gap + 1)) m p.rest) (pair_in_front p)

pub pairs_none : (left m : ℕ) (bytes : List ℕ) → read_pairs 0 left m bytes ≡ accepted (record { entries = zeros left; rest = bytes })
unfolding read_pairs
pairs_none left m bytes = refl

pub pairs_more : (k left m : ℕ) (bytes : List ℕ) → read_pairs (suc k) left m bytes ≡ and_then (read_pair left m bytes) (other_pairs k left m)
unfolding read_pairs
pairs_more k left m bytes = refl

module _ (k left m : ℕ) (bytes : List ℕ) where
  pub pairs_stop : {w : ℕ} → read_pair left m bytes ≡ refused w → read_pairs (suc k) left m bytes ≡ refused w
  pairs_stop e = pairs_more k left m bytes ∙ ap (λ (o : Outcome Pair). and_then o (other_pairs k left m)) e

  pub pairs_go : {p : Pair} → read_pair left m bytes ≡ accepted p → read_pairs (suc k) left m bytes ≡ other_pairs k left m p
  pairs_go e = pairs_more k left m bytes ∙ ap (λ (o : Outcome Pair). and_then o (other_pairs k left m)) e

-- entries that are accepted: the first of them and the others
pub record FirstPair (k left m : ℕ) (bytes : List ℕ) (x : Entries) : Type 0 where
  pub gap : Numeral
  pub value : Numeral
  pub rest : Entries
  pub gap_read : read_number bytes ≡ accepted gap
  pub value_read : read_number gap.rest ≡ accepted value
  pub gap_below : gap.value < left
  pub rest_read : read_pairs k (left - (gap.value + 1)) m value.rest ≡ accepted rest
  pub entries_are : x.entries ≡ zeros gap.value ++ (value.value ∷ rest.entries)

pub first_pair : (k left m : ℕ) (bytes : List ℕ) (x : Entries) → read_pairs (suc k) left m bytes ≡ accepted x → FirstPair k left m bytes x
first_pair k left m bytes x e =
    let first = passed (read_pair left m bytes) (other_pairs k left m) x (sym (pairs_more k left m bytes) ∙ e) in
    let p = first.value in
    let r = pair_read left m bytes p first.first in
    let more = passed (read_pairs k (left - (p.gap + 1)) m p.rest) (pair_in_front p) x first.then in
    let z = more.value in
    let whole : record { entries = zeros p.gap ++ (p.value ∷ z.entries); rest = z.rest } ≡ x = let f = more.then in cc in
    record {
      gap = r.gap;
      value = r.value;
      rest = z;
      gap_read = r.gap_read;
      value_read = r.value_read;
      gap_below = omega (arith, r.gap_below, r.gap_is);
      rest_read = rw (r.gap_is, r.rest_is) more.first;
      entries_are = ap (λ (y : Entries). y.entries) (sym whole) ∙ rw (r.gap_is, r.value_is) refl;
    }

-- ---- words

pub proper_pair : (left m : ℕ) (bytes : List ℕ) → Proper (read_pair left m bytes)
unfolding read_pair read_gap read_value
proper_pair left m bytes =
    proper_then (read_gap left bytes) _
    (proper_then (read_number bytes) _ (proper_number bytes) (λ x.
    proper_unless (word_if (not (ltb x.value left)) 15) (accepted x) (word_small (not (ltb x.value left)) 15 (omega arith)) (proper_accepted x)))
    (λ gap.
    proper_then (read_value m gap.rest) _
    (proper_then (read_number gap.rest) _ (proper_number gap.rest) (λ x.
    proper_unless (word_if (eqb x.value 0) 16) (unless (word_if (not (ltb x.value m)) 5) (accepted x)) (word_small (eqb x.value 0) 16 (omega arith))
    (proper_unless (word_if (not (ltb x.value m)) 5) (accepted x) (word_small (not (ltb x.value m)) 5 (omega arith)) (proper_accepted x))))
    (λ x. proper_accepted _))

pub proper_pairs : (k left m : ℕ) (bytes : List ℕ) → Proper (read_pairs k left m bytes)
unfolding read_pairs
proper_pairs zero left m bytes = proper_accepted _
proper_pairs (suc k) left m bytes =
    proper_then (read_pair left m bytes) _ (proper_pair left m bytes) (λ p.
    proper_then (read_pairs k (left - (p.gap + 1)) m p.rest) _ (proper_pairs k (left - (p.gap + 1)) m p.rest) (λ x. proper_accepted _))

pub proper_sparse : (long m : ℕ) (bytes : List ℕ) → Proper (read_contents sparse long m bytes)
proper_sparse long m bytes =
    proper_then (read_number bytes) _ (proper_number bytes) (λ count. proper_pairs count.value long m count.rest)
