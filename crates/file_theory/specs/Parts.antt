-- What both kinds of table file share: what may be written, and bytes that begin with numbers as they are written.
use Rattle.std.specs.Prelude.{◌≡◌, refl, Bool, true, false, cond, not, ℕ, zero, suc, ◌+◌, ◌/◌, ◌%◌, ◌^◌, ◌≤◌, ltb, eqb, length}
use mathlib.Core.List.{List, [], ◌∷◌, ◌++◌, flat_map}
use Rattle.std.proofs.Common.{arith, eqb-true, lt-ltb, ltb-true}
use Rattle.std.proofs.lemmas.Bool.{not-false}
use Rattle.definitions.specs.Limits.{most_controls, lowest_modulus, largest_modulus}
use Rattle.definitions.specs.Outcomes.{accepted}
use Rattle.definitions.specs.Refusals.{AcceptedTable}
use Rattle.definitions.specs.Groups.{Numeral, groups_in, groups, read_number}
use Rattle.definitions.specs.Files.{Kind, first_number, numbers_of, file_of, Entries, tail_word}
use Rattle.definitions.specs.Partitions.{all_below}
use Rattle.theory.specs.Tests.{and_true_left, and_true_right}
use Rattle.theory.specs.Entries.{at_below, below_anywhere}
use Rattle.checks.specs.Words.{no_word}
use Rattle.checks.specs.Accepted.{table_accepted, table_accepts}
use Rattle.number_groups.specs.Numbers.{reads_written}

-- an accepted table, fact by fact; the two say the same
pub record Writable (n m : ℕ) (a : List ℕ) : Type 0 where
  pub few : n ≤ most_controls
  pub lowest : lowest_modulus ≤ m
  pub largest : m ≤ largest_modulus
  pub as_long : length a ≡ 2 ^ n
  pub below : all_below m a ≡ true

pub writable : (n m : ℕ) (a : List ℕ) → AcceptedTable n m a → Writable n m a
writable n m a e =
    let facts = table_accepted n m a e in
    record {
      few = facts.0.few;
      lowest = facts.0.lowest;
      largest = facts.0.largest;
      as_long = facts.1.size;
      below = at_below m a (λ i h. facts.1.below i);
    }

pub may_be_written : (n m : ℕ) (a : List ℕ) → Writable n m a → AcceptedTable n m a
may_be_written n m a w =
    table_accepts n m a (record { few = w.few; lowest = w.lowest; largest = w.largest })
    (record { size = w.as_long; below = below_anywhere m a (omega (arith, w.lowest)) w.below })

-- ---- numbers that are written are bytes

byte_by : (k v : ℕ) (t : Bool) → ltb v 128 ≡ t → all_below 256 (groups_in k (v / 128)) ≡ true →
    all_below 256 (cond t (v ∷ []) ((128 + v % 128) ∷ groups_in k (v / 128))) ≡ true
unfolding all_below
byte_by k v true e h = rw (lt-ltb v 256 (omega (arith, ltb-true v 128 e)))
byte_by k v false e h = rw (lt-ltb (128 + v % 128) 256 (omega arith)) h

group_bytes : (k v : ℕ) → all_below 256 (groups_in k v) ≡ true
unfolding groups_in all_below
group_bytes zero v = refl
group_bytes (suc k) v = byte_by k v (ltb v 128) refl (group_bytes k (v / 128))

append_bytes : (xs ys : List ℕ) → all_below 256 xs ≡ true → all_below 256 ys ≡ true → all_below 256 (xs ++ ys) ≡ true
unfolding all_below
append_bytes [] ys f g = g
append_bytes (x ∷ xs) ys f g =
    rw (and_true_left (ltb x 256) (all_below 256 xs) f) (append_bytes xs ys (and_true_right (ltb x 256) (all_below 256 xs) f) g)

number_bytes : (vs : List ℕ) → all_below 256 (flat_map groups vs) ≡ true
unfolding flat_map all_below
number_bytes [] = refl
number_bytes (v ∷ vs) = append_bytes (groups v) (flat_map groups vs) (group_bytes 5 v) (number_bytes vs)

pub file_bytes : (kind : Kind) (n m : ℕ) (a : List ℕ) → all_below 256 (file_of kind n m a) ≡ true
unfolding file_of
file_bytes kind n m a =
    append_bytes (groups (first_number kind n)) _ (group_bytes 5 (first_number kind n))
    (append_bytes (groups m) (flat_map groups (numbers_of kind a)) (group_bytes 5 m) (number_bytes (numbers_of kind a)))

-- ---- bytes that begin with numbers as they are written

bytes_behind : (xs ys : List ℕ) → all_below 256 (xs ++ ys) ≡ true → all_below 256 ys ≡ true
unfolding all_below
bytes_behind [] ys h = h
bytes_behind (x ∷ xs) ys h = bytes_behind xs ys (and_true_right (ltb x 256) (all_below 256 (xs ++ ys)) h)

-- bytes that begin with a number as it is written
pub record NumberForth (bytes : List ℕ) (x : Numeral) : Type 0 where
  pub form : bytes ≡ groups x.value ++ x.rest
  pub bytes_left : all_below 256 x.rest ≡ true

pub number_forth : (bytes : List ℕ) (x : Numeral) → all_below 256 bytes ≡ true → read_number bytes ≡ accepted x → NumberForth bytes x
number_forth bytes x h e =
    let w = reads_written bytes x h e in
    record { form = w.form; bytes_left = bytes_behind (groups x.value) x.rest (rw w.form at h) }

-- bytes that begin with entries as they are written, by the numbers that are written of them
pub record EntriesForth (numbers : List ℕ → List ℕ) (k m : ℕ) (bytes : List ℕ) (x : Entries) : Type 0 where
  pub form : bytes ≡ flat_map groups (numbers x.entries) ++ x.rest
  pub as_long : length x.entries ≡ k
  pub below : all_below m x.entries ≡ true

no_bytes : (rest : List ℕ) → length rest ≡ 0 → rest ≡ []
no_bytes [] e = refl
no_bytes (x ∷ rest) e = absurd (omega arith)

pub no_tail : (rest : List ℕ) → tail_word rest ≡ 0 → rest ≡ []
no_tail rest t =
    no_bytes rest (eqb-true (length rest) 0 (not-false (eqb (length rest) 0) (no_word (not (eqb (length rest) 0)) 9 (λ z. omega arith) t)))
