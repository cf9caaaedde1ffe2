-- The entries of a sparse file: what is written reads back, and what reads is what is written.
use Rattle.std.specs.Prelude.{◌≡◌, true, ltb}
use Rattle.std.proofs.Math.Path.{sym, ap}
use Rattle.std.proofs.Common.{◌∙◌, subst, length-append}
use mathlib.Core.List.{List, [], ◌∷◌, ◌++◌, flat_map, append_assoc, append-nil}
use Prim.Native.Nat.{ℕ, zero, suc, ◌+◌, ◌-◌, ◌^◌, ◌<◌}
use native.Mathlib.Omega.{arith}
use Rattle.std.proofs.Math.ListN.{length}
use borrow.Author.Tests.{lt-ltb, ltb-true, ne_eqb}
use Rattle.definitions.specs.Outcomes.{Outcome, accepted, and_then}
use Rattle.definitions.specs.Groups.{Numeral, groups, read_number}
use Rattle.definitions.specs.Files.{sparse, numbers_of, nonzero_count, pairs_from, Entries, Pair, leads_on, counts, read_gap, read_value, read_pair, read_pairs, pair_in_front, read_contents, zeros}
use Rattle.definitions.specs.Partitions.{all_below}
use Rattle.theory.specs.Tests.{and_true_left, and_true_right}
use Rattle.theory.specs.Gaps.{length-zeros, zero_behind, pairs_zeros, pairs_one, pairs_end, count_zeros, count-one, count_few, below_skipped}
use Rattle.number_groups.specs.Numbers.{reads_back}
use Rattle.table_header.specs.Words.{passed}
use Rattle.sparse_file.specs.PairLaws.{PairRead, pair_read, other_pairs, pairs_none, pairs_more, pairs_go}
use Rattle.file_theory.specs.Parts.{number_forth, EntriesForth}

-- ---- what is written reads back

gap_back : (left g : ℕ) (rest : List ℕ) → g < left → left < 2 ^ 32 → read_gap left (groups g ++ rest) ≡ accepted (record { value = g; rest = rest })
unfolding read_gap
gap_back left g rest h l =
    ap (λ (o : Outcome Numeral). and_then o (leads_on left)) (reads_back g rest (omega arith)) ∙ rw (lt-ltb g left h)

value_back : (m v : ℕ) (rest : List ℕ) → 0 < v → v < m → m < 2 ^ 32 → read_value m (groups v ++ rest) ≡ accepted (record { value = v; rest = rest })
unfolding read_value
value_back m v rest p h l =
    ap (λ (o : Outcome Numeral). and_then o (counts m)) (reads_back v rest (omega arith))
    ∙ rw (ne_eqb v 0 (λ (e : _). omega arith), lt-ltb v m h)

pair_back : (left m g v : ℕ) (rest : List ℕ) → g < left → left < 2 ^ 32 → 0 < v → v < m → m < 2 ^ 32 →
    read_pair left m (groups g ++ (groups v ++ rest)) ≡ accepted (record { gap = g; value = v; rest = rest })
unfolding read_pair
pair_back left m g v rest h l p k n = rw (gap_back left g (groups v ++ rest) h l, value_back m v rest p k n)

module _ (m : ℕ) (top : m < 2 ^ 32) where
  one_back : (g v : ℕ) (a : List ℕ) → g + length (v ∷ a) < 2 ^ 32 → 0 < v → v < m →
      read_pairs (nonzero_count a) (0 + length a) m (flat_map groups (pairs_from 0 a)) ≡ accepted (record { entries = zeros 0 ++ a; rest = [] }) →
      read_pairs (suc (nonzero_count a)) (g + length (v ∷ a)) m (groups g ++ (groups v ++ flat_map groups (pairs_from 0 a)))
      ≡ accepted (record { entries = zeros g ++ (v ∷ a); rest = [] })
  unfolding zeros
  one_back g v a l p k further =
      let rest = flat_map groups (pairs_from 0 a) in
      pairs_go (nonzero_count a) (g + length (v ∷ a)) m _ (pair_back (g + length (v ∷ a)) m g v rest (omega arith) l p k top)
      ∙ ap (λ (j : ℕ). and_then (read_pairs (nonzero_count a) j m rest) (pair_in_front (record { gap = g; value = v; rest = rest })))
      (let e : g + suc (length a) - (g + 1) ≡ 0 + length a = omega arith in e)
      ∙ ap (λ (o : Outcome Entries). and_then o (pair_in_front (record { gap = g; value = v; rest = rest }))) further

  -- behind so many zeros
  pairs_back : (g : ℕ) (a : List ℕ) → g + length a < 2 ^ 32 → all_below m a ≡ true →
      read_pairs (nonzero_count a) (g + length a) m (flat_map groups (pairs_from g a)) ≡ accepted (record { entries = zeros g ++ a; rest = [] })
  unfolding nonzero_count pairs_from flat_map all_below
  pairs_back g [] l h =
      pairs_none (g + 0) m []
      ∙ ap (λ (z : List ℕ). accepted (record { entries = z; rest = [] })) (ap zeros (let e : g + 0 ≡ g = omega arith in e) ∙ sym (append-nil (zeros g)))
  pairs_back g (zero ∷ a) l h =
      ap (λ (k : ℕ). read_pairs (nonzero_count a) k m (flat_map groups (pairs_from (suc g) a))) (let e : g + suc (length a) ≡ suc g + length a = omega arith in e)
      ∙ pairs_back (suc g) a (omega arith) (and_true_right (ltb 0 m) (all_below m a) h)
      ∙ ap (λ (z : List ℕ). accepted (record { entries = z; rest = [] })) (zero_behind g a)
  pairs_back g (suc v ∷ a) l h =
      let small : suc v < m = ltb-true (suc v) m (and_true_left (ltb (suc v) m) (all_below m a) h) in
      one_back g (suc v) a l (omega arith) small (pairs_back 0 a (omega arith) (and_true_right (ltb (suc v) m) (all_below m a) h))

  pub sparse_back : (a : List ℕ) → length a < 2 ^ 32 → all_below m a ≡ true →
      read_contents sparse (length a) m (flat_map groups (numbers_of sparse a)) ≡ accepted (record { entries = a; rest = [] })
  unfolding flat_map zeros
  sparse_back a l h =
      rw (reads_back (nonzero_count a) (flat_map groups (pairs_from 0 a)) (omega (arith, count_few a)))
      (ap (λ (k : ℕ). read_pairs (nonzero_count a) k m (flat_map groups (pairs_from 0 a))) (let e : length a ≡ 0 + length a = omega arith in e)
      ∙ pairs_back 0 a (omega arith) h)

-- ---- what reads is what is written

-- so many pairs, as they are written
record PairsForth (k left m : ℕ) (bytes : List ℕ) (x : Entries) : Type 0 where
  form : bytes ≡ flat_map groups (pairs_from 0 x.entries) ++ x.rest
  count_is : nonzero_count x.entries ≡ k
  as_long : length x.entries ≡ left
  below : all_below m x.entries ≡ true

none_forth : (left m : ℕ) (bytes : List ℕ) (x : Entries) → 0 < m → read_pairs zero left m bytes ≡ accepted x → PairsForth zero left m bytes x
unfolding flat_map all_below nonzero_count
none_forth left m bytes x pos e =
    let same : record { entries = zeros left; rest = bytes } ≡ x = let f = sym (pairs_none left m bytes) ∙ e in cc in
    let nil : zeros left ++ [] ≡ zeros left = append-nil (zeros left) in
    let pairs : pairs_from 0 (zeros left) ≡ [] = ap (pairs_from 0) (sym nil) ∙ pairs_zeros 0 left [] ∙ pairs_end (0 + left) in
    subst (PairsForth zero left m bytes) same (record {
      form = ap (λ (l : List ℕ). flat_map groups l ++ bytes) (sym pairs);
      count_is = ap nonzero_count (sym nil) ∙ count_zeros left [];
      as_long = length-zeros left;
      below = ap (all_below m) (sym nil) ∙ below_skipped m left [] pos;
    })

more_forth : (k left m : ℕ) (bytes : List ℕ) (p : Pair) (z : Entries) → all_below 256 bytes ≡ true → PairRead left m bytes p →
    PairsForth k (left - (p.gap + 1)) m p.rest z →
    PairsForth (suc k) left m bytes (record { entries = zeros p.gap ++ (p.value ∷ z.entries); rest = z.rest })
unfolding flat_map all_below
more_forth k left m bytes p z b r f =
    let one = number_forth bytes r.gap b r.gap_read in
    let two = number_forth r.gap.rest r.value one.bytes_left r.value_read in
    let pairs : pairs_from 0 (zeros p.gap ++ (p.value ∷ z.entries)) ≡ p.gap ∷ p.value ∷ pairs_from 0 z.entries =
    pairs_zeros 0 p.gap (p.value ∷ z.entries) ∙ pairs_one (0 + p.gap) p.value z.entries r.some
    ∙ ap (λ (g : ℕ). g ∷ p.value ∷ pairs_from 0 z.entries) (let e : 0 + p.gap ≡ p.gap = omega arith in e) in
    let rest = flat_map groups (pairs_from 0 z.entries) in
    record {
      form =
          one.form
          ∙ ap (λ (l : List ℕ). groups r.gap.value ++ l) two.form
          ∙ ap (λ (g : ℕ). groups g ++ (groups r.value.value ++ r.value.rest)) r.gap_is
          ∙ ap (λ (v : ℕ). groups p.gap ++ (groups v ++ r.value.rest)) r.value_is
          ∙ ap (λ (l : List ℕ). groups p.gap ++ (groups p.value ++ l)) (r.rest_is ∙ f.form)
          ∙ ap (λ (l : List ℕ). groups p.gap ++ l) (sym (append_assoc (groups p.value) rest z.rest))
          ∙ sym (append_assoc (groups p.gap) (groups p.value ++ rest) z.rest)
          ∙ ap (λ (l : List ℕ). flat_map groups l ++ z.rest) (sym pairs);
      count_is = count_zeros p.gap (p.value ∷ z.entries) ∙ count-one p.value z.entries r.some ∙ ap suc f.count_is;
      as_long = omega (arith, length-append (zeros p.gap) (p.value ∷ z.entries), length-zeros p.gap, f.as_long, r.gap_below);
      below = below_skipped m p.gap (p.value ∷ z.entries) (omega (arith, r.below)) ∙ rw (lt-ltb p.value m r.below) f.below;
    }

pairs_forth : (k left m : ℕ) (bytes : List ℕ) (x : Entries) → 0 < m → all_below 256 bytes ≡ true → read_pairs k left m bytes ≡ accepted x → PairsForth k left m bytes x
pairs_forth zero left m bytes x pos b e = none_forth left m bytes x pos e
pairs_forth (suc k) left m bytes x pos b e =
    let first = passed (read_pair left m bytes) (other_pairs k left m) x (sym (pairs_more k left m bytes) ∙ e) in
    let p = first.value in
    let rest = passed (read_pairs k (left - (p.gap + 1)) m p.rest) (pair_in_front p) x first.then in
    let z = rest.value in
    let same : record { entries = zeros p.gap ++ (p.value ∷ z.entries); rest = z.rest } ≡ x = let f = rest.then in cc in
    let r = pair_read left m bytes p first.first in
    let one = number_forth bytes r.gap b r.gap_read in
    let two = number_forth r.gap.rest r.value one.bytes_left r.value_read in
    subst (PairsForth (suc k) left m bytes) same
    (more_forth k left m bytes p z b r (pairs_forth k (left - (p.gap + 1)) m p.rest z pos (rw (sym r.rest_is) two.bytes_left) rest.first))

pub sparse_forth : (long m : ℕ) (bytes : List ℕ) (x : Entries) → 0 < m → all_below 256 bytes ≡ true → read_contents sparse long m bytes ≡ accepted x →
    EntriesForth (numbers_of sparse) long m bytes x
unfolding flat_map
sparse_forth long m bytes x pos b e =
    let count = passed (read_number bytes) _ x e in
    let c = count.value in
    let one = number_forth bytes c b count.first in
    let f = pairs_forth c.value long m c.rest x pos one.bytes_left count.then in
    record {
      form =
          one.form
          ∙ ap (λ (k : ℕ). groups k ++ c.rest) (sym f.count_is)
          ∙ ap (λ (l : List ℕ). groups (nonzero_count x.entries) ++ l) f.form
          ∙ sym (append_assoc (groups (nonzero_count x.entries)) (flat_map groups (pairs_from 0 x.entries)) x.rest);
      as_long = f.as_long;
      below = f.below;
    }
