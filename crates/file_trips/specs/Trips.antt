-- What the two calls leave, one after the other, for either kind: a table written and read back, and a file read and written
-- again by the writer of its kind. A refusal of the first is that of both; behind an accepted first one the second can be refused
-- for the length of what it was lent alone.
use Rattle.std.specs.Prelude.{◌≡◌, List, ◌++◌, ℕ, zero, suc, ltb, length, drop, take, Ok}
use Rattle.definitions.specs.Refusals.{word_if, or_else, table_word, after, value_after}
use Rattle.definitions.specs.Files.{Kind, full, writer_number, reader_number}
use Rattle.refusals.specs.Words.{word_of, value_of}
use Rattle.table_header.specs.HeaderAnswers.{AnswerIs, kind_is}
use Rattle.table_file.specs.Entries.{ReadBy}
use Rattle.table_writer.specs.Writing.{WrittenBy}
use Rattle.file_trips.specs.declared.Trip.{Trip}

-- ---- written into a buffer of b bytes, then read into a table of k entries that held `back`

abbrev pub there_number : Kind → ℕ → ℕ → List ℕ → ℕ → ℕ → ℕ
there_number kind n m a b k = or_else (writer_number kind n m a b) (table_word n k)

-- the kind that is answered beside a number; `full` beside a refusal
abbrev pub kind_after : ℕ → Kind → Kind
kind_after zero kind = kind
kind_after (suc k) kind = full

module _ (kind : Kind) (n m : ℕ) (a buffer back : List ℕ) where
  pub record WrittenThenRead (r : Trip) (buffer-last Back-last : List ℕ) : Type 0 where
    -- what each call promised
    pub written : WrittenBy kind n m a (writer_number kind n m a (length buffer)) buffer r.written buffer-last
    pub read : word_of r.written ≡ 0 → ReadBy (take (value_of r.written) buffer-last) back r.answer Back-last
    -- both together
    pub answer : AnswerIs (there_number kind n m a (length buffer) (length back))
        (kind_after (there_number kind n m a (length buffer) (length back)) kind)
        (value_after (there_number kind n m a (length buffer) (length back)) n)
        (value_after (there_number kind n m a (length buffer) (length back)) m) r.answer
    pub same_table : Back-last ≡ after (there_number kind n m a (length buffer) (length back)) a back

-- ---- read, then written into a buffer that held `buffer`

abbrev pub again_number : List ℕ → ℕ → ℕ → ℕ
again_number bytes long b = or_else (reader_number bytes long) (word_if (ltb b (length bytes)) 10)

module _ (bytes table buffer : List ℕ) where
  pub record ReadThenWritten (r : Trip) (table-last buffer-last : List ℕ) : Type 0 where
    -- what each call promised; the writer is that of the kind that was answered
    pub read : ReadBy bytes table r.answer table-last
    pub written : (h : _) → r.answer ≡ Ok h →
        WrittenBy (kind_is h.kind) h.n h.m table-last (writer_number (kind_is h.kind) h.n h.m table-last (length buffer)) buffer r.written buffer-last
    -- both together
    pub number_is : word_of r.written ≡ again_number bytes (length table) (length buffer)
    pub count_is : value_of r.written ≡ value_after (again_number bytes (length table) (length buffer)) (length bytes)
    pub same_bytes : buffer-last ≡ after (again_number bytes (length table) (length buffer)) (bytes ++ drop (length bytes) buffer) buffer
