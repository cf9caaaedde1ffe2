-- The steps of reading a sparse table.
use mathlib.Core.Path.{◌≡◌, refl, sym, ◌∙◌, ap}
use mathlib.Core.List.{List, [], ◌∷◌, ◌++◌, append_assoc}
use Prim.Native.Nat.{ℕ, zero, suc, ◌+◌, ◌-◌, ◌<◌, ◌≤◌}
use native.Mathlib.Omega.{arith}
use Rattle.std.specs.Prelude.{Result, Ok, Err, replicate}
use Rattle.std.specs.Result.{IsErrAnd}
use lib.ListN.{length, drop, set, length-set, length-append}
use lib.Seq.{set_at}
use Rattle.definitions.specs.Outcomes.{Outcome, accepted, and_then, number_of}
use Rattle.definitions.specs.Groups as groups
use Rattle.definitions.specs.Files as def
use Rattle.definitions.specs.Files.{Entries, leads_on, counts, read_gap, read_value, read_pair, read_pairs, read_contents, zeros, sparse}
use Rattle.theory.specs.Gaps.{length-zeros, zeros-append}
use Rattle.refusals.specs.Words.{word_of}
use Rattle.refusals.specs.declared.Refusal.{Refusal}
use Rattle.number_groups.specs.Outcomes.{handed_on}
use Rattle.number_groups.specs.NumberAnswers.{placed, Accepts, ReadsAgain}
use Rattle.number_groups.specs.declared.Numeral.{Numeral}
use Rattle.table_header.specs.Words.{Passed, passed}
use Rattle.table_header.specs.Ends.{to_end, number_in_front, number_unless, at_tail, at_end_lem}
use Rattle.sparse_file.specs.Pairs.{pair_at, pair_outcome, Fills}
use Rattle.sparse_file.specs.PairLaws.{pair_read, pairs_none, pairs_stop, pairs_go, FirstPair, first_pair}
use Rattle.sparse_file.specs.declared.Pair.{Pair}

-- ---- the tests

-- so many entries and the end behind them
abbrev pub pairs_number : ℕ → ℕ → ℕ → List ℕ → ℕ
pairs_number k left m bytes = number_of (and_then (read_pairs k left m bytes) to_end)

module _ (m left : ℕ) (bytes : List ℕ) (place : ℕ) {r : Result Pair Refusal} (paired : pair_outcome bytes r ≡ read_pair left m (drop place bytes)) where
  pub turn_stops : (more : ℕ) → 0 < more → {e : Refusal} → r ≡ Err e → {A : Type 0} (s : Result A Refusal) → IsErrAnd s (λ x. x ≡ e) →
      pairs_number more left m (drop place bytes) ≡ word_of s
  turn_stops zero h was s f = absurd (omega arith)
  turn_stops (suc k) h was s f =
      ap (λ (o : Outcome Entries). number_of (and_then o to_end)) (pairs_stop k left m (drop place bytes) (sym paired ∙ ap (pair_outcome bytes) was))
      ∙ sym (ap word_of (handed_on s f))

  module _ {p : Pair} (was : r ≡ Ok p) where
    pair_as : read_pair left m (drop place bytes) ≡ accepted (pair_at bytes p)
    pair_as = sym paired ∙ ap (pair_outcome bytes) was

    pub gap_left : p.gap < left
    gap_left = (pair_read left m (drop place bytes) _ pair_as).gap_below

    pub turn_goes_on : (more : ℕ) → 0 < more → (less : ℕ) → less + 1 ≡ more →
        pairs_number more left m (drop place bytes) ≡ pairs_number less (left - (p.gap + 1)) m (drop p.next bytes)
    turn_goes_on zero h less e = absurd (omega arith)
    turn_goes_on (suc k) h less e =
        ap (λ (o : Outcome Entries). number_of (and_then o to_end)) (pairs_go k left m (drop place bytes) pair_as)
        ∙ number_in_front (λ x. zeros p.gap ++ (p.value ∷ x.entries)) (read_pairs k (left - (p.gap + 1)) m (drop p.next bytes))
        ∙ ap (λ (j : ℕ). pairs_number j (left - (p.gap + 1)) m (drop p.next bytes)) (omega arith)

module _ (m left : ℕ) (bytes : List ℕ) (place more : ℕ) (none : more ≤ 0) where
  ended : pairs_number more left m (drop place bytes) ≡ def.tail_word (drop place bytes)
  ended =
      ap (λ (k : ℕ). pairs_number k left m (drop place bytes)) (let z : more ≡ 0 = omega arith in z)
      ∙ ap (λ (o : Outcome Entries). number_of (and_then o to_end)) (pairs_none left m (drop place bytes))
      ∙ number_unless (def.tail_word (drop place bytes)) _

  pub tail : place < length bytes → pairs_number more left m (drop place bytes) ≡ 9
  tail h = ended ∙ at_tail bytes place h

  pub no_tail : length bytes ≤ place → pairs_number more left m (drop place bytes) ≡ 0
  no_tail h = ended ∙ at_end_lem bytes place h

-- ---- filling

replicated-zeros : (k : ℕ) → replicate k 0 ≡ zeros k
unfolding zeros
replicated-zeros zero = refl
replicated-zeros (suc k) = ap (λ (l : List ℕ). 0 ∷ l) (replicated-zeros k)

pub filled_zeros : (k : ℕ) {table : List ℕ} → table ≡ replicate k 0 → table ≡ zeros (length table)
filled_zeros k e = let f = e ∙ replicated-zeros k in f ∙ ap zeros (sym (ap length f ∙ length-zeros k))

-- entries that are accepted: those that are left are so too, and stand behind those that are set
pub record PairsLeft (bytes : List ℕ) (m : ℕ) (x : Entries) (done : List ℕ) (left place more : ℕ) : Type 0 where
  pub rest : Entries
  pub read : read_pairs more left m (drop place bytes) ≡ accepted rest
  pub entries_are : x.entries ≡ done ++ rest.entries

-- the table so far: the entries of the codes below next, and zeros
pub record Filling (count : ℕ) (bytes : List ℕ) (at long : ℕ) (table : List ℕ) (place next more : ℕ) : Type 0 where
  pub done : List ℕ
  pub done_long : length done ≡ next
  pub within : next ≤ long
  pub as_long : length table ≡ long
  pub table_is : table ≡ done ++ zeros (long - next)
  pub left : (m : ℕ) (x : Entries) → read_pairs count long m (drop at bytes) ≡ accepted x → PairsLeft bytes m x done (long - next) place more

pub none_filled : (count : ℕ) (bytes : List ℕ) (at : ℕ) (table : List ℕ) → table ≡ zeros (length table) → Filling count bytes at (length table) table at 0 count
none_filled count bytes at table e =
    let all : length table ≡ length table - 0 = omega arith in
    record {
      done = [];
      done_long = refl;
      within = omega arith;
      as_long = refl;
      table_is = e ∙ ap zeros all;
      left = λ m x f. record { rest = x; read = ap (λ (k : ℕ). read_pairs count k m (drop at bytes)) (sym all) ∙ f; entries_are = refl };
    }

first_zero : (g k : ℕ) → zeros g ++ zeros (suc k) ≡ zeros g ++ (0 ∷ zeros k)
unfolding zeros
first_zero g k = refl

-- an entry set behind so many zeros
one_set : (done : List ℕ) (gap left v : ℕ) → gap < left →
    set (done ++ zeros left) (length done + gap) v ≡ (done ++ (zeros gap ++ (v ∷ []))) ++ zeros (left - (gap + 1))
one_set done gap left v h =
    let more = zeros (left - (gap + 1)) in
    let parts : zeros left ≡ zeros gap ++ (0 ∷ more) =
    ap zeros (let d : left ≡ gap + suc (left - (gap + 1)) = omega arith in d) ∙ sym (zeros-append gap (suc (left - (gap + 1)))) ∙ first_zero gap (left - (gap + 1)) in
    let long : length (done ++ zeros gap) ≡ length done + gap = length-append done (zeros gap) ∙ ap (λ (k : ℕ). length done + k) (length-zeros gap) in
    ap (λ (l : List ℕ). set (done ++ l) (length done + gap) v) parts
    ∙ ap (λ (l : List ℕ). set l (length done + gap) v) (sym (append_assoc done (zeros gap) (0 ∷ more)))
    ∙ set_at (done ++ zeros gap) 0 more v (length done + gap) long
    ∙ append_assoc done (zeros gap) (v ∷ more)
    ∙ sym (append_assoc done (zeros gap ++ (v ∷ [])) more ∙ ap (λ (l : List ℕ). done ++ l) (append_assoc (zeros gap) (v ∷ []) more))

module _ {count : ℕ} {bytes : List ℕ} {at long : ℕ} {table : List ℕ} {place next more : ℕ} (filling : Filling count bytes at long table place next more) where
  -- the entries that are left begin with a gap and a value
  module _ (some : 0 < more) (m : ℕ) (x : Entries) (e : read_pairs count long m (drop at bytes) ≡ accepted x) where
    first_left : FirstPair (more - 1) (long - next) m (drop place bytes) (filling.left m x e).rest
    first_left =
        let l = filling.left m x e in
        let one : more ≡ suc (more - 1) = omega arith in
        first_pair (more - 1) (long - next) m (drop place bytes) l.rest (ap (λ (k : ℕ). read_pairs k (long - next) m (drop place bytes)) (sym one) ∙ l.read)

    module _ {gap : Numeral} (gap-again : ReadsAgain (groups.read_number (drop place bytes)) bytes gap) where
      gap_same : placed bytes gap ≡ first_left.gap
      gap_same = gap-again.again first_left.gap first_left.gap_read

      value_at : groups.read_number (drop gap.next bytes) ≡ accepted first_left.value
      value_at = ap (λ (y : groups.Numeral). groups.read_number y.rest) gap_same ∙ first_left.value_read

      gap_below : next + gap.value < length table
      gap_below =
          let same : gap.value ≡ first_left.gap.value = ap (λ (y : groups.Numeral). y.value) gap_same in
          omega (arith, first_left.gap_below, filling.as_long)

  -- so they stand there, and the gap leads to a code of the table
  module _ (some : 0 < more) (a : (m : ℕ) × Accepts (read_pairs count long m (drop at bytes))) where
    pub gap_stands : Accepts (groups.read_number (drop place bytes))
    gap_stands = let f = first_left some a.0 a.1.0 a.1.1 in (f.gap, f.gap_read)

    module _ {gap : Numeral} (gap-again : ReadsAgain (groups.read_number (drop place bytes)) bytes gap) where
      pub value_stands : Accepts (groups.read_number (drop gap.next bytes))
      value_stands = ((first_left some a.0 a.1.0 a.1.1).value, value_at some a.0 a.1.0 a.1.1 gap-again)

      pub code_inside : next + gap.value < length table
      code_inside = gap_below some a.0 a.1.0 a.1.1 gap-again

  -- the first of the entries that are left, as it was read again
  module _ {gap value : Numeral} (gap-again : ReadsAgain (groups.read_number (drop place bytes)) bytes gap)
      (value-again : ReadsAgain (groups.read_number (drop gap.next bytes)) bytes value) (some : 0 < more) where
    record Again (m : ℕ) (x : Entries) (e : read_pairs count long m (drop at bytes) ≡ accepted x) : Type 0 where
      others : Entries
      read : read_pairs (more - 1) (long - next - (gap.value + 1)) m (drop value.next bytes) ≡ accepted others
      entries_are : (filling.left m x e).rest.entries ≡ zeros gap.value ++ (value.value ∷ others.entries)

    read_again : (m : ℕ) (x : Entries) (e : read_pairs count long m (drop at bytes) ≡ accepted x) → Again m x e
    read_again m x e =
        let f = first_left some m x e in
        let g = gap_same some m x e gap-again in
        let v = value-again.again f.value (value_at some m x e gap-again) in
        let same_gap : gap.value ≡ f.gap.value = ap (λ (y : groups.Numeral). y.value) g in
        let same-value : value.value ≡ f.value.value = ap (λ (y : groups.Numeral). y.value) v in
        let same_rest : drop value.next bytes ≡ f.value.rest = ap (λ (y : groups.Numeral). y.rest) v in
        record {
          others = f.rest;
          read = rw (same_gap, same_rest) f.rest_read;
          entries_are = f.entries_are ∙ rw (same_gap, same-value) refl;
        }

    pub one-filled : next + gap.value < length table →
        Filling count bytes at long (set table (next + gap.value) value.value) value.next (next + gap.value + 1) (more - 1)
    one-filled h =
        let done = filling.done in
        let pair = zeros gap.value ++ (value.value ∷ []) in
        let left_more : long - next - (gap.value + 1) ≡ long - (next + gap.value + 1) = omega arith in
        record {
          done = done ++ pair;
          done_long = omega (arith, filling.done_long, length-append done pair, length-append (zeros gap.value) (value.value ∷ []), length-zeros gap.value);
          within = omega (arith, filling.as_long);
          as_long = length-set table (next + gap.value) value.value ∙ filling.as_long;
          table_is =
              ap (λ (l : List ℕ). set l (next + gap.value) value.value) filling.table_is
              ∙ ap (λ (k : ℕ). set (done ++ zeros (long - next)) (k + gap.value) value.value) (sym filling.done_long)
              ∙ one_set done gap.value (long - next) value.value (omega (arith, filling.as_long))
              ∙ ap (λ (k : ℕ). (done ++ pair) ++ zeros k) left_more;
          left = λ m x e.
              let l = filling.left m x e in
              let r = read_again m x e in
              record {
                rest = r.others;
                read = ap (λ (k : ℕ). read_pairs (more - 1) k m (drop value.next bytes)) (sym left_more) ∙ r.read;
                entries_are =
                    l.entries_are ∙ ap (λ (es : List ℕ). done ++ es) r.entries_are
                    ∙ sym (append_assoc done pair r.others.entries
                    ∙ ap (λ (es : List ℕ). done ++ es) (append_assoc (zeros gap.value) (value.value ∷ []) r.others.entries));
              };
        }

  pub all_filled : more ≤ 0 → (m : ℕ) → Fills (read_pairs count long m (drop at bytes)) table
  all_filled none m = record {
    fills = λ x e.
        let l = filling.left m x e in
        let z : more ≡ 0 = omega arith in
        let last : accepted (record { entries = zeros (long - next); rest = drop place bytes }) ≡ accepted l.rest =
        sym (pairs_none (long - next) m (drop place bytes)) ∙ ap (λ (k : ℕ). read_pairs k (long - next) m (drop place bytes)) (sym z) ∙ l.read in
        let same : record { entries = zeros (long - next); rest = drop place bytes } ≡ l.rest = cc in
        filling.table_is ∙ ap (λ (y : Entries). filling.done ++ y.entries) same ∙ sym l.entries_are;
  }

-- ---- the count and the entries

module _ (long : ℕ) (bytes : List ℕ) (at m : ℕ) (x : Entries) (e : read_contents sparse long m (drop at bytes) ≡ accepted x) where
  counted : Passed (groups.read_number (drop at bytes)) (λ c. read_pairs c.value long m c.rest) x
  counted = passed (groups.read_number (drop at bytes)) (λ c. read_pairs c.value long m c.rest) x e

  pairs_at : {count : Numeral} {k : ℕ} → k ≡ long → ReadsAgain (groups.read_number (drop at bytes)) bytes count →
      read_pairs count.value k m (drop count.next bytes) ≡ accepted x
  pairs_at {count} d again =
      ap (λ (j : ℕ). read_pairs count.value j m (drop count.next bytes)) d
      ∙ ap (λ (c : groups.Numeral). read_pairs c.value long m c.rest) (again.again counted.value counted.first) ∙ counted.then

module _ (long : ℕ) (bytes : List ℕ) (at : ℕ) (a : (m : ℕ) × Accepts (read_contents sparse long m (drop at bytes))) where
  pub count_stands : Accepts (groups.read_number (drop at bytes))
  count_stands = let one = counted long bytes at a.0 a.1.0 a.1.1 in (one.value, one.first)

  pub pairs_stand : {count : Numeral} {k : ℕ} → k ≡ long → ReadsAgain (groups.read_number (drop at bytes)) bytes count →
      (m : ℕ) × Accepts (read_pairs count.value k m (drop count.next bytes))
  pairs_stand d again = (a.0, (a.1.0, pairs_at long bytes at a.0 a.1.0 a.1.1 d again))

pub count-again : (long : ℕ) (bytes : List ℕ) (at : ℕ) {count : Numeral} {table : List ℕ} {k : ℕ} → k ≡ long →
    ReadsAgain (groups.read_number (drop at bytes)) bytes count → ((m : ℕ) → Fills (read_pairs count.value k m (drop count.next bytes)) table) →
    (m : ℕ) → Fills (read_contents sparse long m (drop at bytes)) table
count-again long bytes at d again f m = record { fills = λ x e. (f m).fills x (pairs_at long bytes at m x e d again) }
