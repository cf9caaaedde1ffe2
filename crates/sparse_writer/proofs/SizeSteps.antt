-- The steps of the sparse writer: measuring, writing gaps and values, the whole file, the call.
use mathlib.Core.Path.{◌≡◌, refl, sym, ◌∙◌, ap}
use mathlib.Core.Bool.{true, false}
use Rattle.std.specs.Prelude.{Result, Ok, Err}
use mathlib.Core.List.{List, [], ◌∷◌, ◌++◌, flat_map}
use Prim.Native.Nat.{ℕ, ◌+◌, ◌-◌, ◌*◌, ◌^◌, ◌<◌, ◌≤◌}
use native.Mathlib.Omega.{arith}
use lib.ListN.{length, drop, length-append}
use lib.Pow.{pow_mono}
use lib.Seq.{sets, length-sets}
use borrow.Author.Tests.{lt-ltb, le-ltb}
use Rattle.definitions.specs.Limits.{most_controls, sparse_mark}
use Rattle.definitions.specs.Sums.{at}
use Rattle.definitions.specs.Partitions.{all_below}
use Rattle.definitions.specs.Refusals.{or_else, first_word, panel_word, modulus_word, table_word, entry_word}
use Rattle.definitions.specs.Groups.{groups}
use Rattle.definitions.specs.Files.{sparse, nonzero_count, pairs_from, file_of, writer_number}
use Rattle.checks.specs.Words.{all_zero, one_more_word, or_else_go, or_else_stop}
use Rattle.checks.specs.Accepted.{InRange, in_range, right_length, table_number}
use Rattle.checks.specs.Answers.{IsChecked, accepted, refused, not_accepted}
use Rattle.refusals.specs.Words.{word}
use Rattle.refusals.specs.declared.Refusal.{Refusal}
use Rattle.residues.specs.declared.Modulus.{Modulus}
use Rattle.number_groups.specs.Stores.{sets_append}
use Rattle.table_writer.specs.Writing.{short_word, WrittenBy}
use Rattle.table_writer.specs.WritingLaws.{accepted_write, refused_write}
use Rattle.nonzero_entries.specs.Entries.{NextEntry}
use Rattle.sparse_writer.specs.Sizes.{SizesAre}
use Rattle.sparse_writer.specs.SizeLaws.{pairs_next, count_next, below_next, pairs_last, count-last, below_last}
use Rattle.sparse_writer.specs.declared.Sizes.{Sizes}

-- ---- the bytes of gaps and values from a place on

abbrev pub bytes_from : List ℕ → ℕ → List ℕ
bytes_from a from = flat_map groups (pairs_from 0 (drop from a))

module _ (a : List ℕ) (from code : ℕ) (next : NextEntry a from code) where
  module _ (h : code < length a) where
    bytes_next : bytes_from a from ≡ groups (code - from) ++ (groups (at a code) ++ bytes_from a (code + 1))
    unfolding flat_map
    bytes_next = ap (flat_map groups) (pairs_next a from code next h)

    long_next : length (bytes_from a from) ≡ length (groups (code - from)) + (length (groups (at a code)) + length (bytes_from a (code + 1)))
    long_next =
        ap length bytes_next
        ∙ length-append (groups (code - from)) (groups (at a code) ++ bytes_from a (code + 1))
        ∙ ap (λ (k : ℕ). length (groups (code - from)) + k) (length-append (groups (at a code)) (bytes_from a (code + 1)))

  bytes_last : length a ≤ code → bytes_from a from ≡ []
  unfolding flat_map
  bytes_last h = ap (flat_map groups) (pairs_last a from code next h)

-- ---- measuring

-- the entries below a place are tested and measured
pub record Measuring (m : ℕ) (a : List ℕ) (entries bytes from code : ℕ) : Type 0 where
  pub next : NextEntry a from code
  pub few_entries : entries ≤ from
  pub few_bytes : bytes ≤ 10 * from
  pub entries_left : entries + nonzero_count (drop from a) ≡ nonzero_count a
  pub bytes_left : bytes + length (bytes_from a from) ≡ length (bytes_from a 0)
  pub below_left : all_below m (drop from a) ≡ all_below m a

module _ (m : ℕ) (a : List ℕ) where
  pub none_measured : {code : ℕ} → NextEntry a 0 code → Measuring m a 0 0 0 code
  none_measured next = record {
    next = next;
    few_entries = omega arith;
    few_bytes = omega arith;
    entries_left = omega arith;
    bytes_left = omega arith;
    below_left = refl;
  }

  module _ (pos : 0 < m) {entries bytes from code : ℕ} (c : Measuring m a entries bytes from code) where
    module _ (h : code < length a) where
      pub large_entry : m ≤ at a code → 5 ≡ entry_word m a
      large_entry l =
          let none : all_below m a ≡ false = sym c.below_left ∙ below_next a from code c.next h m pos ∙ rw (le-ltb (at a code) m l) in
          rw none

      pub one_measured : {j k further : ℕ} → at a code < m → (j ≡ length (groups (code - from))) × (j ≤ 5) → (k ≡ length (groups (at a code))) × (k ≤ 5) →
          NextEntry a (code + 1) further → Measuring m a (entries + 1) (bytes + (j + k)) (code + 1) further
      one_measured small p q next = record {
        next = next;
        few_entries = omega (arith, c.few_entries, c.next.zeros_before.behind);
        few_bytes = omega (arith, c.few_bytes, c.next.zeros_before.behind, p.1, q.1);
        entries_left = omega (arith, c.entries_left, count_next a from code c.next h);
        bytes_left = omega (arith, c.bytes_left, p.0, q.0, long_next a from code c.next h);
        below_left = sym (rw (lt-ltb (at a code) m small) at (below_next a from code c.next h m pos)) ∙ c.below_left;
      }

    pub all_measured : length a ≤ code → SizesAre m a (record { entries = entries; bytes = bytes })
    all_measured h =
        let all : all_below m a ≡ true = sym c.below_left ∙ below_last a from code c.next h m pos in
        record {
          tested = rw all;
          entries_are = omega (arith, c.entries_left, count-last a from code c.next h);
          bytes_are = omega (arith, c.bytes_left, ap length (bytes_last a from code c.next h));
          few = omega (arith, c.few_bytes, c.next.zeros_before.behind, c.next.zeros_before.inside);
        }

-- ---- writing gaps and values

-- so many are written, and with the others the buffer is as it is to be
pub record Writing (a : List ℕ) (at : ℕ) (old buffer : List ℕ) (place from code : ℕ) : Type 0 where
  pub next : NextEntry a from code
  pub as_long : length buffer ≡ length old
  pub ends : place + length (bytes_from a from) ≡ at + length (bytes_from a 0)
  pub gives : sets buffer place (bytes_from a from) ≡ sets old at (bytes_from a 0)

pub none_written : (a : List ℕ) (at : ℕ) (old : List ℕ) {code : ℕ} → NextEntry a 0 code → Writing a at old old at 0 code
none_written a at old next = record { next = next; as_long = refl; ends = refl; gives = refl }

module _ (a : List ℕ) (start : ℕ) (old buffer : List ℕ) (place from code : ℕ) (w : Writing a start old buffer place from code) where
  module _ (h : code < length a) where
    pub gap_room : start + length (bytes_from a 0) ≤ length old → place + length (groups (code - from)) ≤ length buffer
    gap_room l = omega (arith, w.as_long, w.ends, long_next a from code w.next h)

    pub value_room : {second : ℕ} {one : List ℕ} → start + length (bytes_from a 0) ≤ length old →
        second ≡ place + length (groups (code - from)) → one ≡ sets buffer place (groups (code - from)) →
        second + length (groups (at a code)) ≤ length one
    value_room l p f =
        omega (arith, w.as_long, w.ends, long_next a from code w.next h, p, ap length f ∙ length-sets buffer place (groups (code - from)))

    pub one_written : {second third further : ℕ} {one two : List ℕ} →
        second ≡ place + length (groups (code - from)) → one ≡ sets buffer place (groups (code - from)) →
        third ≡ second + length (groups (at a code)) → two ≡ sets one second (groups (at a code)) →
        NextEntry a (code + 1) further → Writing a start old two third (code + 1) further
    one_written {second} {third} {further} {one} {two} p f q g next =
        let gap = groups (code - from) in
        let value = groups (at a code) in
        let rest = bytes_from a (code + 1) in
        let last : sets two third rest ≡ sets one second (value ++ rest) = rw (q, g) (sym (sets_append one second value rest)) in
        let both : sets one second (value ++ rest) ≡ sets buffer place (gap ++ (value ++ rest)) = rw (p, f) (sym (sets_append buffer place gap (value ++ rest))) in
        record {
          next = next;
          as_long = ap length g ∙ length-sets one second value ∙ ap length f ∙ length-sets buffer place gap ∙ w.as_long;
          ends = omega (arith, p, q, w.ends, long_next a from code w.next h);
          gives = last ∙ both ∙ ap (λ (l : List ℕ). sets buffer place l) (sym (bytes_next a from code w.next h)) ∙ w.gives;
        }

  pub all_written : length a ≤ code → buffer ≡ sets old start (bytes_from a 0)
  all_written h = ap (λ (l : List ℕ). sets buffer place l) (sym (bytes_last a from code w.next h)) ∙ w.gives

-- ---- the file

module _ (n m : ℕ) (a : List ℕ) where
  file_bytes : file_of sparse n m a ≡ groups (sparse_mark + n) ++ (groups m ++ (groups (nonzero_count a) ++ bytes_from a 0))
  unfolding file_of flat_map
  file_bytes = refl

  file_long : length (file_of sparse n m a)
      ≡ length (groups (sparse_mark + n)) + (length (groups m) + (length (groups (nonzero_count a)) + length (bytes_from a 0)))
  file_long =
      let pairs = bytes_from a 0 in
      let count = groups (nonzero_count a) ++ pairs in
      omega (arith, ap length file_bytes, length-append (groups (sparse_mark + n)) (groups m ++ count), length-append (groups m) count, length-append (groups (nonzero_count a)) pairs)

  -- and by the count that was found
  pub counted_long : {entries : ℕ} → entries ≡ nonzero_count a → length (file_of sparse n m a)
      ≡ length (groups (sparse_mark + n)) + (length (groups m) + (length (groups entries) + length (bytes_from a 0)))
  counted_long e = file_long ∙ ap (λ (k : ℕ). length (groups (sparse_mark + n)) + (length (groups m) + (length (groups k) + length (bytes_from a 0)))) (sym e)

  pub file_written : (old : List ℕ) {entries second third fourth : ℕ} {one two three last : List ℕ} → entries ≡ nonzero_count a →
      second ≡ 0 + length (groups (sparse_mark + n)) → one ≡ sets old 0 (groups (sparse_mark + n)) →
      third ≡ second + length (groups m) → two ≡ sets one second (groups m) →
      fourth ≡ third + length (groups entries) → three ≡ sets two third (groups entries) →
      last ≡ sets three fourth (bytes_from a 0) → last ≡ sets old 0 (file_of sparse n m a)
  file_written old {entries} {second} {third} {fourth} {one} {two} {three} c p f q g r h e =
      let first = groups (sparse_mark + n) in
      let pairs = bytes_from a 0 in
      let counted = groups entries ++ pairs in
      let last : sets three fourth pairs ≡ sets two third counted = rw (r, h) (sym (sets_append two third (groups entries) pairs)) in
      let behind : sets two third counted ≡ sets one second (groups m ++ counted) = rw (q, g) (sym (sets_append one second (groups m) counted)) in
      let all : sets one second (groups m ++ counted) ≡ sets old 0 (first ++ (groups m ++ counted)) =
      rw (p, f) (sym (sets_append old 0 first (groups m ++ counted))) in
      e ∙ last ∙ behind ∙ all
      ∙ ap (λ (k : ℕ). sets old 0 (first ++ (groups m ++ (groups k ++ pairs)))) c
      ∙ ap (λ (l : List ℕ). sets old 0 l) (sym file_bytes)

-- ---- the call

-- the tests before the entries
abbrev pub shape_number : ℕ → ℕ → ℕ → ℕ
shape_number n m long = first_word (panel_word n ∷ modulus_word m ∷ table_word n long ∷ [])

module _ (n m : ℕ) (a old : List ℕ) {r : Result Modulus Refusal} (tests : IsChecked m (shape_number n m (length a)) r) where
  by_shape : table_number n m a ≡ or_else (shape_number n m (length a)) (entry_word m a)
  by_shape = one_more_word (panel_word n ∷ modulus_word m ∷ table_word n (length a) ∷ []) (entry_word m a)

  pub no_shape : {refusal : Refusal} → r ≡ Err refusal → WrittenBy sparse n m a (writer_number sparse n m a (length old)) old (Err refusal) old
  no_shape e =
      refused_write sparse n m a old
      (refused tests e ∙ sym (by_shape ∙ or_else_stop _ (entry_word m a) (not_accepted tests e)))

  module _ {modulus : _} (e : r ≡ Ok modulus) where
    facts : InRange n m × (length a ≡ 2 ^ n)
    facts =
        let z = all_zero (panel_word n ∷ modulus_word m ∷ table_word n (length a) ∷ []) (accepted tests e) in
        (in_range z.0 z.1.0, right_length (2 ^ n) (length a) z.1.1.0)

    pub few : n ≤ most_controls
    few = facts.0.few

    pub some : 0 < m
    some = omega (arith, facts.0.lowest)

    pub few_entries : length a ≤ 2 ^ most_controls
    few_entries = omega (arith, facts.1, pow_mono facts.0.few)

    entries_next : table_number n m a ≡ entry_word m a
    entries_next = by_shape ∙ or_else_go _ (entry_word m a) (accepted tests e)

    pub no_entries : {refusal : Refusal} → word refusal ≡ entry_word m a → WrittenBy sparse n m a (writer_number sparse n m a (length old)) old (Err refusal) old
    no_entries f = refused_write sparse n m a old (f ∙ sym entries_next)

    pub as_written : {sizes : Sizes} → SizesAre m a sizes → {w : Result ℕ Refusal} {buffer : List ℕ} →
        WrittenBy sparse n m a (short_word sparse n m a (length old)) old w buffer → WrittenBy sparse n m a (writer_number sparse n m a (length old)) old w buffer
    as_written f h = accepted_write sparse n m a old (entries_next ∙ f.tested) h
