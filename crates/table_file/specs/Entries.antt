-- What the reader's steps give behind a header: an entry and the entries of a full file, a table of either kind with the end
-- behind it, and the table's length before them. And what a call of the reader answers and leaves.
use Rattle.std.specs.Prelude.{◌≡◌, Result, not, List, ℕ, ltb, length}
use Rattle.definitions.specs.Outcomes.{Outcome, accepted, and_then, unless, number_of}
use Rattle.definitions.specs.Refusals.{word_if, table_word}
use Rattle.definitions.specs.Groups as groups
use Rattle.definitions.specs.Files.{Kind, Header, Entries, TableFile, read_entries, read_contents, read_body, reader_number, reader_kind, reader_controls, reader_modulus, table_read}
use Rattle.refusals.specs.declared.Refusal.{Refusal}
use Rattle.table_header.specs.Ends.{to_end}
use Rattle.table_header.specs.HeaderAnswers.{AnswerIs}
use Rattle.table_header.specs.declared.Header as code

-- an entry: a number (8) below m (5)
abbrev pub below_modulus : ℕ → groups.Numeral → Outcome groups.Numeral
below_modulus m x = unless (word_if (not (ltb x.value m)) 5) (accepted x)

abbrev pub read_entry : ℕ → List ℕ → Outcome groups.Numeral
read_entry m bytes = and_then (groups.read_number bytes) (below_modulus m)

-- so many entries, and then nothing
abbrev pub entries_to_end : ℕ → ℕ → List ℕ → Outcome Entries
entries_to_end k m bytes = and_then (read_entries k m bytes) to_end

-- what the reader does behind a header
abbrev pub behind_header : Header → ℕ → Outcome TableFile
behind_header h long = unless (table_word h.controls long) (read_body h)

-- the number of the table of so many entries behind m, and of the end behind it
abbrev pub contents_number : Kind → ℕ → ℕ → List ℕ → ℕ
contents_number kind long m bytes = number_of (and_then (read_contents kind long m bytes) to_end)

-- what a call of the reader answers and leaves in a table that held `old`
pub record ReadBy (bytes old : List ℕ) (r : Result code.Header Refusal) (table : List ℕ) : Type 0 where
  pub answer : AnswerIs (reader_number bytes (length old)) (reader_kind bytes (length old)) (reader_controls bytes (length old)) (reader_modulus bytes (length old)) r
  pub filled : table ≡ table_read bytes old
