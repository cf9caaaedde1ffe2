-- The round trip of the calls, from what the calls promise.
--   TripOfCalls, trip_of_calls   the statement, over both kinds and both ways, and its proof
--   not_written, part_fits, part_long, read-back   writing and then reading
--   not_read, read_and_written                     reading and then writing
use Rattle.std.specs.Prelude.{◌≡◌, refl, true, List, ◌++◌, ℕ, zero, suc, ◌≤◌, ltb, length, drop, take, Result, Ok, Err}
use Rattle.std.proofs.Common.{sym, ◌∙◌, ap, subst, arith, length-append}
use Rattle.std.proofs.Math.Seq.{take-append_seam}
use Rattle.definitions.specs.Outcomes.{Outcome, accepted, refused, unless, number_of, value_or}
use Rattle.definitions.specs.Refusals.{word_if, or_else, table_word, after, value_after, AcceptedTable}
use Rattle.definitions.specs.Partitions.{all_below}
use Rattle.definitions.specs.Files.{Kind, full, TableFile, file_of, writer_number, read_table}
use Rattle.theory.specs.Tests.{zero_is_not_one}
use Rattle.checks.specs.Words.{or_else_go, or_else_stop, or_else_first, refused_list, refused_value}
use Rattle.checks.specs.Accepted.{table_number}
use Rattle.table_header.specs.HeaderAnswers.{AnswerIs, kind_is}
use Rattle.table_header.specs.Ends.{number_unless}
use Rattle.table_header.specs.Words.{accepts}
use Rattle.table_file.specs.Words.{proper_table}
use Rattle.table_file.specs.Entries.{ReadBy}
use Rattle.table_header.specs.declared.Header.{Header}
use Rattle.file_theory.specs.Parts.{writable}
use Rattle.file_theory.specs.RoundTrip.{file_read, round_trip}
use Rattle.file_trips.specs.Trips.{there_number, kind_after, again_number, WrittenThenRead, ReadThenWritten}
use Rattle.table_writer.specs.Writing.{short_word, WrittenBy}
use Rattle.refusals.specs.Words.{word, word_of, value_of, word-not-zero}
use Rattle.refusals.specs.declared.Refusal.{Refusal}
use Rattle.table_writer.specs.WritingLaws.{by_tests}

-- ---- what an accepted write says, and what accepts one

accepted_by : (kind : Kind) (n m : ℕ) (a buffer : List ℕ) → writer_number kind n m a (length buffer) ≡ 0 → AcceptedTable n m a
accepted_by kind n m a buffer e =
    or_else_first (table_number n m a) (short_word kind n m a (length buffer)) (sym (by_tests kind n m a buffer) ∙ e)

-- an accepted table is refused for the buffer's length alone
only_short : (kind : Kind) (n m : ℕ) (a buffer : List ℕ) → AcceptedTable n m a → writer_number kind n m a (length buffer) ≡ short_word kind n m a (length buffer)
only_short kind n m a buffer e = by_tests kind n m a buffer ∙ or_else_go (table_number n m a) (short_word kind n m a (length buffer)) e

-- ---- written, then read

-- what one test leaves of an accepted outcome
test_value : {X : Type 0} (w : ℕ) (x : X) (read : X → ℕ) → value_or 0 read (unless w (accepted x)) ≡ value_after w (read x)
test_value zero x read = refl
test_value (suc w) x read = refl

test_kind : {X : Type 0} (w : ℕ) (x : X) (read : X → Kind) → value_or full read (unless w (accepted x)) ≡ kind_after w (read x)
test_kind zero x read = refl
test_kind (suc w) x read = refl

refused_kind : (k : ℕ) (kind : Kind) → (k ≡ 0 → ⊥) → full ≡ kind_after k kind
refused_kind zero kind h = absurd (h refl)
refused_kind (suc k) kind h = refl

test_list : {X : Type 0} (w : ℕ) (x : X) (old : List ℕ) (read : X → List ℕ) → value_or old read (unless w (accepted x)) ≡ after w (read x) old
test_list zero x old read = refl
test_list (suc w) x old read = refl

module _ (kind : Kind) (n m : ℕ) (a buffer back : List ℕ) {refusal : Refusal} {last : List ℕ}
    (by : WrittenBy kind n m a (writer_number kind n m a (length buffer)) buffer (Err refusal) last) where
  pub not_written : WrittenThenRead kind n m a buffer back (record { written = Err refusal; answer = Err refusal }) last back
  not_written =
      let k = writer_number kind n m a (length buffer) in
      let no : k ≡ 0 → ⊥ = λ z. word-not-zero refusal (by.number_is ∙ z) in
      let same : there_number kind n m a (length buffer) (length back) ≡ k = or_else_stop k (table_word n (length back)) no in
      record {
        written = by;
        read = λ z. absurd (word-not-zero refusal z);
        answer = rw same (record {
          number_is = by.number_is;
          kind_agrees = refused_kind k kind no;
          n_is = refused_value k n no;
          m_is = refused_value k m no;
        });
        same_table = rw same (refused_list k a back no);
      }

module _ (kind : Kind) (n m : ℕ) (a buffer back : List ℕ) {w : Result ℕ Refusal} {last : List ℕ}
    (by : WrittenBy kind n m a (writer_number kind n m a (length buffer)) buffer w last) where
  module _ (z : word_of w ≡ 0) where
    accepted_write : writer_number kind n m a (length buffer) ≡ 0
    accepted_write = sym by.number_is ∙ z

    count_is : value_of w ≡ length (file_of kind n m a)
    count_is = by.count_is ∙ ap (λ (k : ℕ). value_after k (length (file_of kind n m a))) accepted_write

    file_in : last ≡ file_of kind n m a ++ drop (length (file_of kind n m a)) buffer
    file_in = by.buffer_is ∙ ap (λ (k : ℕ). after k (file_of kind n m a ++ drop (length (file_of kind n m a)) buffer) buffer) accepted_write

    part_is : take (value_of w) last ≡ file_of kind n m a
    part_is = rw (count_is, file_in) (take-append_seam (file_of kind n m a) (drop (length (file_of kind n m a)) buffer))

    pub part_fits : value_of w ≤ length last
    part_fits = rw (count_is, file_in) (omega (arith, length-append (file_of kind n m a) (drop (length (file_of kind n m a)) buffer)))

    pub part_long : value_of w ≡ length (take (value_of w) last)
    part_long = count_is ∙ sym (ap length part_is)

    there_is : there_number kind n m a (length buffer) (length back) ≡ table_word n (length back)
    there_is = or_else_go (writer_number kind n m a (length buffer)) (table_word n (length back)) accepted_write

    reads_as : read_table (take (value_of w) last) (length back)
        ≡ unless (table_word n (length back)) (accepted (record { kind = kind; controls = n; modulus = m; entries = a }))
    reads_as = ap (λ (bytes : List ℕ). read_table bytes (length back)) part_is
        ∙ file_read kind n m a (writable n m a (accepted_by kind n m a buffer accepted_write)) (length back)

    pub read_back : {r : Result Header Refusal} {Back-last : List ℕ} → ReadBy (take (value_of w) last) back r Back-last →
        WrittenThenRead kind n m a buffer back (record { written = w; answer = r }) last Back-last
    read_back read =
        let tested = table_word n (length back) in
        let file-is : TableFile = record { kind = kind; controls = n; modulus = m; entries = a } in
        let h = read.answer in
        record {
          written = by;
          read = λ e. read;
          answer = rw there_is (record {
            number_is = h.number_is ∙ ap number_of reads_as ∙ number_unless tested file-is;
            kind_agrees = h.kind_agrees ∙ ap (value_or full (λ (f : TableFile). f.kind)) reads_as ∙ test_kind tested file-is (λ f. f.kind);
            n_is = h.n_is ∙ ap (value_or 0 (λ (f : TableFile). f.controls)) reads_as ∙ test_value tested file-is (λ f. f.controls);
            m_is = h.m_is ∙ ap (value_or 0 (λ (f : TableFile). f.modulus)) reads_as ∙ test_value tested file-is (λ f. f.modulus);
          });
          same_table = rw there_is (read.filled ∙ ap (value_or back (λ (f : TableFile). f.entries)) reads_as ∙ test_list tested file-is back (λ f. f.entries));
        }

-- ---- read, then written

-- an answer that is a refusal: no accepted file has the modulus 0
refusal_by : (bytes : List ℕ) (long : ℕ) (o : Outcome TableFile) {refusal : Refusal} → read_table bytes long ≡ o → all_below 256 bytes ≡ true →
    AnswerIs (number_of o) (value_or full (λ t. t.kind) o) (value_or 0 (λ t. t.controls) o) (value_or 0 (λ t. t.modulus) o) (Err refusal) → o ≡ refused (word refusal)
refusal_by bytes long (accepted t) e b h =
    let w = writable t.controls t.modulus t.entries (round_trip.forth bytes long t b e).0 in
    absurd (omega (arith, h.m_is, w.lowest))
refusal_by bytes long (refused k) e b h = ap refused (sym h.number_is)

-- a reading that is refused, and one that is accepted and written again
module _ (bytes table buffer : List ℕ) (b : all_below 256 bytes ≡ true) where
  pub not_read : {refusal : Refusal} {table-last : List ℕ} → ReadBy bytes table (Err refusal) table-last →
      ReadThenWritten bytes table buffer (record { written = Err refusal; answer = Err refusal }) table-last buffer
  not_read {refusal} read =
      let k = word refusal in
      let e : read_table bytes (length table) ≡ refused k = refusal_by bytes (length table) (read_table bytes (length table)) refl b read.answer in
      let no : k ≡ 0 → ⊥ = word-not-zero refusal in
      let same : again_number bytes (length table) (length buffer) ≡ k =
      ap (λ (k : ℕ). or_else k (word_if (ltb (length buffer) (length bytes)) 10)) (ap number_of e)
      ∙ or_else_stop k (word_if (ltb (length buffer) (length bytes)) 10) no in
      record {
        read = read;
        written = λ h f. absurd (zero_is_not_one (cc));
        number_is = sym same;
        count_is = rw same (refused_value k (length bytes) no);
        same_bytes = rw same (refused_list k (bytes ++ drop (length bytes) buffer) buffer no);
      }

  -- the writer of an accepted file's kind, and what it writes
  module _ (t : TableFile) (e : read_table bytes (length table) ≡ accepted t) where
    short_is : again_number bytes (length table) (length buffer) ≡ writer_number t.kind t.controls t.modulus t.entries (length buffer)
    short_is =
        let f = round_trip.forth bytes (length table) t b e in
        ap (λ (k : ℕ). or_else k (word_if (ltb (length buffer) (length bytes)) 10)) (ap number_of e)
        ∙ ap (λ (l : List ℕ). word_if (ltb (length buffer) (length l)) 10) f.1
        ∙ sym (only_short t.kind t.controls t.modulus t.entries buffer f.0)

    form : bytes ≡ file_of t.kind t.controls t.modulus t.entries
    form = (round_trip.forth bytes (length table) t b e).1

  pub read_and_written : {h : Header} {w : Result ℕ Refusal} {table-last buffer-last : List ℕ} → ReadBy bytes table (Ok h) table-last →
      WrittenBy (kind_is h.kind) h.n h.m table-last (writer_number (kind_is h.kind) h.n h.m table-last (length buffer)) buffer w buffer-last →
      ReadThenWritten bytes table buffer (record { written = w; answer = Ok h }) table-last buffer-last
  read_and_written {h} {w} {table-last} {buffer-last} read by =
      let a = accepts (read_table bytes (length table)) (proper_table bytes (length table)) (sym read.answer.number_is) in
      let t = a.0 in
      let kind-same : kind_is h.kind ≡ t.kind = read.answer.kind_agrees ∙ ap (value_or full (λ (f : TableFile). f.kind)) a.1 in
      let n-same : h.n ≡ t.controls = read.answer.n_is ∙ ap (value_or 0 (λ (f : TableFile). f.controls)) a.1 in
      let m-same : h.m ≡ t.modulus = read.answer.m_is ∙ ap (value_or 0 (λ (f : TableFile). f.modulus)) a.1 in
      let same : table-last ≡ t.entries = read.filled ∙ ap (value_or table (λ (f : TableFile). f.entries)) a.1 in
      let of-bytes : WrittenBy t.kind t.controls t.modulus t.entries (writer_number t.kind t.controls t.modulus t.entries (length buffer)) buffer w buffer-last =
      rw (kind-same, n-same, m-same, same) at by in
      let k = writer_number t.kind t.controls t.modulus t.entries (length buffer) in
      record {
        read = read;
        written = λ other e.
            let g : h ≡ other = cc in
            subst (λ (f : _). WrittenBy (kind_is f.kind) f.n f.m table-last
            (writer_number (kind_is f.kind) f.n f.m table-last (length buffer)) buffer w buffer-last) g by;
        number_is = of-bytes.number_is ∙ sym (short_is t a.1);
        count_is = rw (short_is t a.1) (of-bytes.count_is ∙ ap (λ (l : List ℕ). value_after k (length l)) (sym (form t a.1)));
        same_bytes = rw (short_is t a.1) (of-bytes.buffer_is ∙ ap (λ (l : List ℕ). after k (l ++ drop (length l) buffer) buffer) (sym (form t a.1)));
      }

-- ---- both ways

-- whoever writes a table by the writer of a kind and reads what was written gets that table, n, m and kind; whoever reads a file and
-- writes what was read, by the writer of the kind that was answered, gets those bytes
pub record TripOfCalls : Type 0 where
  pub there : (kind : Kind) (n m : ℕ) (a buffer back : List ℕ) (w : Result ℕ Refusal) (last : List ℕ) →
      WrittenBy kind n m a (writer_number kind n m a (length buffer)) buffer w last → word_of w ≡ 0 →
      (r : Result Header Refusal) (Back-last : List ℕ) → ReadBy (take (value_of w) last) back r Back-last →
      WrittenThenRead kind n m a buffer back (record { written = w; answer = r }) last Back-last
  pub again : (bytes table buffer : List ℕ) → all_below 256 bytes ≡ true →
      (h : Header) (table-last : List ℕ) → ReadBy bytes table (Ok h) table-last → (w : Result ℕ Refusal) (buffer-last : List ℕ) →
      WrittenBy (kind_is h.kind) h.n h.m table-last (writer_number (kind_is h.kind) h.n h.m table-last (length buffer)) buffer w buffer-last →
      ReadThenWritten bytes table buffer (record { written = w; answer = Ok h }) table-last buffer-last

pub trip_of_calls : TripOfCalls
trip_of_calls = record {
  there = λ kind n m a buffer back w last by z r Back-last read. read_back kind n m a buffer back by z read;
  again = λ bytes table buffer b h table-last read w buffer-last by. read_and_written bytes table buffer b read by;
}
