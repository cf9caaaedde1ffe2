-- The round trip of table files, over both kinds: what is written reads back, and an accepted file is what its table is
-- written to. So each table has exactly one file of each kind. And what the first byte of an accepted file says.
use Rattle.std.specs.Prelude.{◌≡◌, true, ℕ, ◌^◌, ◌<◌, ◌≤◌, length, get_or}
use Rattle.std.proofs.Math.Path.{sym, ap, subst}
use Rattle.std.proofs.Common.{◌∙◌, arith}
use mathlib.Core.List.{List, [], ◌++◌, flat_map, append-nil}
use Rattle.std.proofs.Math.Pow.{pow_mono}
use borrow.Author.Tests.{lt-ltb, le-ltb, eq-eqb}
use Rattle.definitions.specs.Limits.{most_controls, lowest_modulus, largest_modulus}
use Rattle.definitions.specs.Outcomes.{accepted, unless}
use Rattle.definitions.specs.Refusals.{AcceptedTable, table_word}
use Rattle.definitions.specs.Groups.{groups_in, groups}
use Rattle.definitions.specs.Files.{Kind, full, sparse, first_number, numbers_of, Header, Entries, TableFile, file_of, first_says, first_of, read_header, read_contents, read_body, read_table, tail_word}
use Rattle.definitions.specs.Partitions.{all_below}
use Rattle.checks.specs.Accepted.{in_range}
use Rattle.number_groups.specs.Numbers.{reads_back}
use Rattle.table_header.specs.Words.{passed, passed_test}
use Rattle.table_header.specs.Headers.{HeaderRead, header_read, number_says}
use Rattle.table_file.specs.Reading.{body_read, file_with}
use Rattle.file_theory.specs.Parts.{Writable, writable, may_be_written, file_bytes, number_forth, EntriesForth, no_tail}
use Rattle.file_theory.specs.FullEntries.{entries_back, entries_forth}
use Rattle.file_theory.specs.SparseEntries.{sparse_back, sparse_forth}

-- a table written to a file of either kind reads back the same, and an accepted file is the one of its kind that its table is
-- written to
pub record RoundTrip : Type 0 where
  pub back : (kind : Kind) (n m : ℕ) (a : List ℕ) → AcceptedTable n m a →
      read_table (file_of kind n m a) (length a) ≡ accepted (record { kind = kind; controls = n; modulus = m; entries = a })
  pub forth : (bytes : List ℕ) (long : ℕ) (t : TableFile) → all_below 256 bytes ≡ true → read_table bytes long ≡ accepted t →
      AcceptedTable t.controls t.modulus t.entries × (bytes ≡ file_of t.kind t.controls t.modulus t.entries)

-- each accepted table has one file of each kind, and no other bytes are one
pub record OneFile (kind : Kind) (n m : ℕ) (a : List ℕ) : Type 0 where
  pub bytes_are : all_below 256 (file_of kind n m a) ≡ true
  pub reads : read_table (file_of kind n m a) (length a) ≡ accepted (record { kind = kind; controls = n; modulus = m; entries = a })
  pub only : (bytes : List ℕ) (long : ℕ) → all_below 256 bytes ≡ true →
      read_table bytes long ≡ accepted (record { kind = kind; controls = n; modulus = m; entries = a }) → bytes ≡ file_of kind n m a

-- ---- the entries of either kind

contents_back : (kind : Kind) (m : ℕ) (a : List ℕ) → m ≤ largest_modulus → length a < 2 ^ 32 → all_below m a ≡ true →
    read_contents kind (length a) m (flat_map groups (numbers_of kind a)) ≡ accepted (record { entries = a; rest = [] })
contents_back full m a l k h = entries_back m a l h
contents_back sparse m a l k h = sparse_back m (omega arith) a k h

contents_forth : (kind : Kind) (long m : ℕ) (bytes : List ℕ) (x : Entries) → 0 < m → all_below 256 bytes ≡ true → read_contents kind long m bytes ≡ accepted x →
    EntriesForth (numbers_of kind) long m bytes x
contents_forth full long m bytes x pos b e = entries_forth long m bytes x b e
contents_forth sparse long m bytes x pos b e = sparse_forth long m bytes x pos b e

-- ---- what is written reads back

first_small : (kind : Kind) (n : ℕ) → n ≤ most_controls → first_number kind n < 128
first_small full n h = omega arith
first_small sparse n h = omega arith

module _ (kind : Kind) (n m : ℕ) (a : List ℕ) (w : Writable n m a) where
  first_back : first_of most_controls (first_number kind n) ≡ accepted (record { kind = kind; controls = n })
  unfolding first_of
  first_back = rw (number_says kind n (omega (arith, w.few)), le-ltb most_controls n w.few)

  header_back : read_header most_controls (file_of kind n m a) ≡ accepted (record { kind = kind; controls = n; modulus = m; rest = flat_map groups (numbers_of kind a) })
  unfolding read_header file_of
  header_back = rw (
    reads_back (first_number kind n) (groups m ++ flat_map groups (numbers_of kind a)) (omega (arith, first_small kind n w.few)),
    first_back,
    reads_back m (flat_map groups (numbers_of kind a)) (omega (arith, w.largest)),
    le-ltb m lowest_modulus w.lowest,
    le-ltb largest_modulus m w.largest,
  )

  -- what a written file reads as, for a table of k entries
  pub file_read : (k : ℕ) → read_table (file_of kind n m a) k ≡ unless (table_word n k) (accepted (record { kind = kind; controls = n; modulus = m; entries = a }))
  unfolding read_table
  file_read k = rw (header_back, sym w.as_long, contents_back kind m a w.largest (omega (arith, w.as_long, pow_mono w.few)) w.below)

  file_back : read_table (file_of kind n m a) (length a) ≡ accepted (record { kind = kind; controls = n; modulus = m; entries = a })
  file_back = file_read (length a) ∙ rw (eq-eqb (length a) (2 ^ n) w.as_long)

-- ---- an accepted file is what its table is written to

record FileForth (bytes : List ℕ) (t : TableFile) : Type 0 where
  writable : Writable t.controls t.modulus t.entries
  form : bytes ≡ file_of t.kind t.controls t.modulus t.entries

module _ (bytes : List ℕ) (b : all_below 256 bytes ≡ true) where
  header_forth : (h : Header) (x : Entries) → HeaderRead most_controls bytes h →
      read_contents h.kind (2 ^ h.controls) h.modulus h.rest ≡ accepted x → tail_word x.rest ≡ 0 → FileForth bytes (file_with h x)
  unfolding file_of
  header_forth h x r e t =
      let one = number_forth bytes r.first b r.first_read in
      let two = number_forth r.first.rest r.second one.bytes_left r.second_read in
      let i = in_range {n = h.controls} {m = h.modulus} (rw (le-ltb most_controls h.controls r.few)) r.modulus_taken in
      let f = contents_forth h.kind (2 ^ h.controls) h.modulus h.rest x (omega (arith, i.lowest)) (rw (sym r.rest_is) two.bytes_left) e in
      let numbers = flat_map groups (numbers_of h.kind x.entries) in
      record {
        writable = record { few = r.few; lowest = i.lowest; largest = i.largest; as_long = f.as_long; below = f.below };
        form =
            one.form
            ∙ ap (λ (v : ℕ). groups v ++ r.first.rest) r.number_is
            ∙ ap (λ (l : List ℕ). groups (first_number h.kind h.controls) ++ l)
            (two.form
            ∙ ap (λ (v : ℕ). groups v ++ r.second.rest) r.modulus_is
            ∙ ap (λ (l : List ℕ). groups h.modulus ++ l)
            (r.rest_is ∙ f.form ∙ ap (λ (l : List ℕ). numbers ++ l) (no_tail x.rest t) ∙ append-nil numbers));
      }

  file_forth : (long : ℕ) (t : TableFile) → read_table bytes long ≡ accepted t → FileForth bytes t
  unfolding read_table
  file_forth long t e =
      let header = passed (read_header most_controls bytes) _ t e in
      let h = header.value in
      let tested = passed_test (table_word h.controls long) (read_body h) t header.then in
      let body = body_read h t tested.then in
      let same : file_with h body.contents ≡ t = let f = sym body.outcome ∙ tested.then in cc in
      subst (FileForth bytes) same (header_forth h body.contents (header_read most_controls bytes h header.first) body.read body.ends_there)

-- ---- both

pub round_trip : RoundTrip
round_trip = record {
  back = λ kind n m a h. file_back kind n m a (writable n m a h);
  forth = λ bytes long t b e.
      let f = file_forth bytes b long t e in (may_be_written t.controls t.modulus t.entries f.writable, f.form);
}

pub one_file : (kind : Kind) (n m : ℕ) (a : List ℕ) → AcceptedTable n m a → OneFile kind n m a
one_file kind n m a h = record {
  bytes_are = file_bytes kind n m a;
  reads = round_trip.back kind n m a h;
  only = λ bytes long b e. (round_trip.forth bytes long _ b e).1;
}

-- ---- the first byte

front_byte : (v : ℕ) (rest : List ℕ) → v < 128 → get_or (groups v ++ rest) 0 0 ≡ v
unfolding groups_in
front_byte v rest h = rw (lt-ltb v 128 h)

-- an accepted file says kind and n in its first byte: below 32 the file is full
pub first_byte : (bytes : List ℕ) (long : ℕ) (t : TableFile) → all_below 256 bytes ≡ true → read_table bytes long ≡ accepted t →
    first_says (get_or bytes 0 0) ≡ record { kind = t.kind; controls = t.controls }
unfolding file_of
first_byte bytes long t b e =
    let f = file_forth bytes b long t e in
    let few = f.writable.few in
    ap (λ (l : List ℕ). first_says (get_or l 0 0)) f.form
    ∙ ap first_says (front_byte (first_number t.kind t.controls) _ (first_small t.kind t.controls few))
    ∙ number_says t.kind t.controls (omega arith)
