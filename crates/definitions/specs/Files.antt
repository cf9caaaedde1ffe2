-- Table files, of two kinds. The full file: n, then m, then the 2 ^ n entries in rising code, then nothing. The sparse file:
-- 32 + n, then m, then how many entries are not 0, then for each of these in rising code its gap and its value, then nothing.
-- How they are written, and what reading one gives, in file order.
use Rattle.std.specs.Prelude.{not, cond, ℕ, zero, suc, ◌+◌, ◌-◌, ◌*◌, ◌^◌, ltb, eqb, length, drop}
use mathlib.Core.List.{List, [], ◌∷◌, ◌++◌, flat_map}
use Rattle.definitions.specs.Limits.{most_controls, sparse_mark}
use Rattle.definitions.specs.Outcomes.{Outcome, accepted, and_then, unless, number_of, value_or}
use Rattle.definitions.specs.Refusals.{word_if, first_word, panel_word, modulus_word, table_word, entry_word, buffer_word, after, value_after}
use Rattle.definitions.specs.Groups.{Numeral, groups, read_number}

-- ---- kinds

pub data Kind : Type 0 where
  full : Kind
  sparse : Kind

-- the first number of a file of n controls
abbrev pub first_number : Kind → ℕ → ℕ
first_number full n = n
first_number sparse n = sparse_mark + n

-- ---- writing

-- how many entries are not 0
unfoldable pub nonzero_count : List ℕ → ℕ
nonzero_count [] = 0
nonzero_count (zero ∷ a) = nonzero_count a
nonzero_count (suc v ∷ a) = suc (nonzero_count a)

-- gap and value of each entry that is not 0, in rising code. The gap: the codes skipped since the previous one, or since the
-- start. The first argument says how many are skipped already
unfoldable pub pairs_from : ℕ → List ℕ → List ℕ
pairs_from skipped [] = []
pairs_from skipped (zero ∷ a) = pairs_from (suc skipped) a
pairs_from skipped (suc v ∷ a) = skipped ∷ suc v ∷ pairs_from 0 a

-- the numbers of a file behind m
abbrev pub numbers_of : Kind → List ℕ → List ℕ
numbers_of full a = a
numbers_of sparse a = nonzero_count a ∷ pairs_from 0 a

unfoldable pub file_of : Kind → ℕ → ℕ → List ℕ → List ℕ
file_of kind n m a = groups (first_number kind n) ++ (groups m ++ flat_map groups (numbers_of kind a))

-- the number of the writer of a kind, whose buffer has b bytes
unfoldable pub writer_number : Kind → ℕ → ℕ → List ℕ → ℕ → ℕ
writer_number kind n m a b =
    first_word
    (panel_word n
    ∷ modulus_word m
    ∷ table_word n (length a)
    ∷ entry_word m a
    ∷ buffer_word b (length (file_of kind n m a))
    ∷ [])

-- how many bytes are written
abbrev pub written_count : Kind → ℕ → ℕ → List ℕ → ℕ → ℕ
written_count kind n m a b = value_after (writer_number kind n m a b) (length (file_of kind n m a))

-- the buffer starts with the file, and the bytes behind it are unchanged
abbrev pub written_buffer : Kind → ℕ → ℕ → List ℕ → List ℕ → List ℕ
written_buffer kind n m a old =
    after (writer_number kind n m a (length old)) (file_of kind n m a ++ drop (length (file_of kind n m a)) old) old

-- ---- the header

-- what the first number of a file says: a kind and n
pub record First : Type 0 where
  pub kind : Kind
  pub controls : ℕ

-- below 32 the file is full and the number is n, from 32 on it is sparse and n is 32 less
unfoldable pub first_says : ℕ → First
first_says v = cond (ltb v sparse_mark) (record { kind = full; controls = v }) (record { kind = sparse; controls = v - sparse_mark })

-- 1 if n is above the most controls that are taken
unfoldable pub first_of : ℕ → ℕ → Outcome First
first_of most v = unless (word_if (ltb most (first_says v).controls) 1) (accepted (first_says v))

pub record Header : Type 0 where
  pub kind : Kind
  pub controls : ℕ
  pub modulus : ℕ
  pub rest : List ℕ

-- the first number (8, then 1), m (8, then 2)
unfoldable pub read_header : ℕ → List ℕ → Outcome Header
read_header most bytes =
    and_then (read_number bytes) (λ v.
    and_then (first_of most v.value) (λ first.
    and_then (read_number v.rest) (λ second.
    unless (modulus_word second.value)
    (accepted (record { kind = first.kind; controls = first.controls; modulus = second.value; rest = second.rest })))))

-- the header check's number, kind, n and m
abbrev pub header_number : List ℕ → ℕ
header_number bytes = number_of (read_header most_controls bytes)

abbrev pub header_kind : List ℕ → Kind
header_kind bytes = value_or full (λ h. h.kind) (read_header most_controls bytes)

abbrev pub header_controls : List ℕ → ℕ
header_controls bytes = value_or 0 (λ h. h.controls) (read_header most_controls bytes)

abbrev pub header_modulus : List ℕ → ℕ
header_modulus bytes = value_or 0 (λ h. h.modulus) (read_header most_controls bytes)

-- the one number that the host gets: n · 2 ^ 32 + m, or 2 ^ 40 times the refusal number
abbrev pub packed : ℕ → ℕ → ℕ → ℕ
packed n m number = n * 2 ^ 32 + m + 2 ^ 40 * number

-- ---- the table

pub record Entries : Type 0 where
  pub entries : List ℕ
  pub rest : List ℕ

abbrev pub entry_in_front : ℕ → Entries → Outcome Entries
entry_in_front v x = accepted (record { entries = v ∷ x.entries; rest = x.rest })

-- so many entries: each 8, then 5
unfoldable pub read_entries : ℕ → ℕ → List ℕ → Outcome Entries
read_entries zero m bytes = accepted (record { entries = []; rest = bytes })
read_entries (suc k) m bytes =
    and_then (read_number bytes) (λ x.
    unless (word_if (not (ltb x.value m)) 5) (and_then (read_entries k m x.rest) (entry_in_front x.value)))

-- a gap: a number (8) that leads to one of the codes that are left (15). At the start 2 ^ n are left, and behind a code c
-- 2 ^ n - (c + 1), so the gap is below that exactly if it leads to a code c + 1 + gap below 2 ^ n
abbrev pub leads_on : ℕ → Numeral → Outcome Numeral
leads_on left x = unless (word_if (not (ltb x.value left)) 15) (accepted x)

unfoldable pub read_gap : ℕ → List ℕ → Outcome Numeral
read_gap left bytes = and_then (read_number bytes) (leads_on left)

-- a value: a number (8), not 0 (16), below m (5)
abbrev pub counts : ℕ → Numeral → Outcome Numeral
counts m x = unless (word_if (eqb x.value 0) 16) (unless (word_if (not (ltb x.value m)) 5) (accepted x))

unfoldable pub read_value : ℕ → List ℕ → Outcome Numeral
read_value m bytes = and_then (read_number bytes) (counts m)

pub record Pair : Type 0 where
  pub gap : ℕ
  pub value : ℕ
  pub rest : List ℕ

unfoldable pub read_pair : ℕ → ℕ → List ℕ → Outcome Pair
read_pair left m bytes =
    and_then (read_gap left bytes) (λ gap.
    and_then (read_value m gap.rest) (λ x. accepted (record { gap = gap.value; value = x.value; rest = x.rest })))

unfoldable pub zeros : ℕ → List ℕ
zeros zero = []
zeros (suc k) = 0 ∷ zeros k

abbrev pub pair_in_front : Pair → Entries → Outcome Entries
pair_in_front p x = accepted (record { entries = zeros p.gap ++ (p.value ∷ x.entries); rest = x.rest })

-- so many pairs, and the entries of all codes that are left: 0 but for these
unfoldable pub read_pairs : ℕ → ℕ → ℕ → List ℕ → Outcome Entries
read_pairs zero left m bytes = accepted (record { entries = zeros left; rest = bytes })
read_pairs (suc k) left m bytes =
    and_then (read_pair left m bytes) (λ p. and_then (read_pairs k (left - (p.gap + 1)) m p.rest) (pair_in_front p))

-- the table of so many entries behind m: entry by entry; or a count (8) and so many pairs
abbrev pub read_contents : Kind → ℕ → ℕ → List ℕ → Outcome Entries
read_contents full long m bytes = read_entries long m bytes
read_contents sparse long m bytes = and_then (read_number bytes) (λ count. read_pairs count.value long m count.rest)

-- 9, tail: bytes after the last entry, or after the last label of a sheet
abbrev pub tail_word : List ℕ → ℕ
tail_word rest = word_if (not (eqb (length rest) 0)) 9

pub record TableFile : Type 0 where
  pub kind : Kind
  pub controls : ℕ
  pub modulus : ℕ
  pub entries : List ℕ

-- the table behind a header, of either kind, then nothing
abbrev pub read_body : Header → Outcome TableFile
read_body h =
    and_then (read_contents h.kind (2 ^ h.controls) h.modulus h.rest) (λ x.
    unless (tail_word x.rest)
    (accepted (record { kind = h.kind; controls = h.controls; modulus = h.modulus; entries = x.entries })))

-- the reader, for a table of so many entries: header, table length (3), entries, end (9)
unfoldable pub read_table : List ℕ → ℕ → Outcome TableFile
read_table bytes long =
    and_then (read_header most_controls bytes) (λ h. unless (table_word h.controls long) (read_body h))

abbrev pub reader_number : List ℕ → ℕ → ℕ
reader_number bytes long = number_of (read_table bytes long)

abbrev pub reader_kind : List ℕ → ℕ → Kind
reader_kind bytes long = value_or full (λ t. t.kind) (read_table bytes long)

abbrev pub reader_controls : List ℕ → ℕ → ℕ
reader_controls bytes long = value_or 0 (λ t. t.controls) (read_table bytes long)

abbrev pub reader_modulus : List ℕ → ℕ → ℕ
reader_modulus bytes long = value_or 0 (λ t. t.modulus) (read_table bytes long)

-- the lent table: the entries of the file, or what it held
abbrev pub table_read : List ℕ → List ℕ → List ℕ
table_read bytes old = value_or old (λ t. t.entries) (read_table bytes (length old))
