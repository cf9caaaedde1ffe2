-- 01's examples of numbers, files and printed lines; files of the sparse kind, first numbers, words of the reader and of the
-- writers, and what they leave, worked by hand.
use Rattle.std.specs.Prelude.{◌≡◌, refl}
use mathlib.Core.List.{[], ◌∷◌, flat_map}
use Rattle.std.specs.Int.Count.{ones}
use Rattle.definitions.specs.Sums.{tabulate}
use Rattle.definitions.specs.Outcomes.{refused}
use Rattle.definitions.specs.Groups.{groups, groups_in, read_number}
use Rattle.definitions.specs.Partitions.{all_below}
use Rattle.definitions.specs.Files.{Kind, full, sparse, nonzero_count, pairs_from, file_of, writer_number, written_count, written_buffer}
use Rattle.definitions.specs.Files.{first_says, first_of, read_header, header_number, header_kind, header_controls, header_modulus, packed}
use Rattle.definitions.specs.Files.{read_entries, read_gap, read_value, read_pair, read_pairs, zeros, read_table, reader_number, reader_kind, reader_controls, reader_modulus, table_read}
use Rattle.definitions.specs.Show.{digits_in, entry_line, table_text, refusal_text, read_shown, shown}

pub three_hundred : groups 300 ≡ 0xAC ∷ 0x02 ∷ []
unfolding groups_in
three_hundred = refl

pub largest_value : groups 4294967295 ≡ 0xFF ∷ 0xFF ∷ 0xFF ∷ 0xFF ∷ 0x0F ∷ []
unfolding groups_in
largest_value = refl

pub too_long : read_number (0x80 ∷ 0x00 ∷ []) ≡ refused 8
unfolding read_number
too_long = refl

pub too_large : read_number (0x80 ∷ 0x80 ∷ 0x80 ∷ 0x80 ∷ 0x10 ∷ []) ≡ refused 8
unfolding read_number
too_large = refl

pub empty_file : header_number [] ≡ 8
unfolding read_header read_number
empty_file = refl

-- "2 7", "1 1 3", "3 2 5", each ended by a line feed
pub shown_file : shown (2 ∷ 7 ∷ 0 ∷ 3 ∷ 0 ∷ 5 ∷ [])
    ≡ 50 ∷ 32 ∷ 55 ∷ 10 ∷ 49 ∷ 32 ∷ 49 ∷ 32 ∷ 51 ∷ 10 ∷ 51 ∷ 32 ∷ 50 ∷ 32 ∷ 53 ∷ 10 ∷ []
unfolding read_shown read_header read_number first_of first_says read_entries table_text entry_line digits_in tabulate flat_map ones
shown_file = refl

-- ---- the sparse kind

-- the same table: 34, 7, two entries; gap 1 and value 3, gap 1 and value 5
pub sparse_file : file_of sparse 2 7 (0 ∷ 3 ∷ 0 ∷ 5 ∷ []) ≡ 34 ∷ 7 ∷ 2 ∷ 1 ∷ 3 ∷ 1 ∷ 5 ∷ []
unfolding file_of groups_in nonzero_count pairs_from flat_map
sparse_file = refl

pub shown_sparse : shown (34 ∷ 7 ∷ 2 ∷ 1 ∷ 3 ∷ 1 ∷ 5 ∷ []) ≡ shown (2 ∷ 7 ∷ 0 ∷ 3 ∷ 0 ∷ 5 ∷ [])
unfolding read_shown read_header read_number first_of first_says read_entries read_gap read_value read_pair read_pairs zeros table_text entry_line digits_in tabulate flat_map ones
shown_sparse = refl

-- a table of zeros, one entry at the last code, all entries nonzero
pub sparse_edges :
    (file_of sparse 2 7 (0 ∷ 0 ∷ 0 ∷ 0 ∷ []) ≡ 34 ∷ 7 ∷ 0 ∷ [])
    × (file_of sparse 2 7 (0 ∷ 0 ∷ 0 ∷ 6 ∷ []) ≡ 34 ∷ 7 ∷ 1 ∷ 3 ∷ 6 ∷ [])
    × (file_of sparse 1 7 (4 ∷ 2 ∷ []) ≡ 33 ∷ 7 ∷ 2 ∷ 0 ∷ 4 ∷ 0 ∷ 2 ∷ [])
unfolding file_of groups_in nonzero_count pairs_from flat_map
sparse_edges = (refl, refl, refl)

-- a first number says the kind and n; 17, 31 and 49 are word 1, before m is read
pub first_numbers :
    (header_kind (16 ∷ 7 ∷ []) ≡ full) × (header_controls (16 ∷ 7 ∷ []) ≡ 16)
    × (header_kind (32 ∷ 7 ∷ []) ≡ sparse) × (header_controls (32 ∷ 7 ∷ []) ≡ 0)
    × (header_kind (48 ∷ 7 ∷ []) ≡ sparse) × (header_controls (48 ∷ 7 ∷ []) ≡ 16)
    × (header_number (17 ∷ []) ≡ 1) × (header_number (31 ∷ []) ≡ 1) × (header_number (49 ∷ []) ≡ 1)
unfolding read_header read_number first_of first_says
first_numbers = (refl, refl, refl, refl, refl, refl, refl, refl, refl)

-- m behind it: none (8), 1 (2), the lowest and the largest; beside a refusal n and m are 0
pub header_moduli :
    (header_number (34 ∷ []) ≡ 8) × (header_number (34 ∷ 1 ∷ []) ≡ 2) × (header_number (34 ∷ 2 ∷ []) ≡ 0)
    × (header_number (34 ∷ 0xFF ∷ 0xFF ∷ 0xFF ∷ 0xFF ∷ 0x0F ∷ []) ≡ 0)
    × (header_modulus (34 ∷ 7 ∷ []) ≡ 7) × (header_controls (34 ∷ 1 ∷ []) ≡ 0) × (header_modulus (34 ∷ 1 ∷ []) ≡ 0)
unfolding read_header read_number first_of first_says
header_moduli = (refl, refl, refl, refl, refl, refl, refl)

-- 2 and 7 as a host gets them, and word 8
pub host_numbers : (packed 2 7 0 ≡ 0x200000007) × (packed 0 0 8 ≡ 0x80000000000)
host_numbers = (refl, refl)

-- `panelshow`: 9 and 41 are word 1; 8 and 40 are not, so that m is looked for
pub shown_first : (shown (9 ∷ []) ≡ refusal_text 1) × (shown (41 ∷ []) ≡ refusal_text 1) × (shown (8 ∷ []) ≡ refusal_text 8) × (shown (40 ∷ []) ≡ refusal_text 8)
unfolding read_shown read_header read_number first_of first_says
shown_first = (refl, refl, refl, refl)

-- "refused 15", ended by a line feed
pub shown_refusal : shown (34 ∷ 7 ∷ 1 ∷ 4 ∷ 3 ∷ []) ≡ 114 ∷ 101 ∷ 102 ∷ 117 ∷ 115 ∷ 101 ∷ 100 ∷ 32 ∷ 49 ∷ 53 ∷ 10 ∷ []
unfolding read_shown read_header read_number first_of first_says read_gap read_pair read_pairs refusal_text digits_in
shown_refusal = refl

-- the table's length is tested after m (8, 2, then 3) and before the count is read (3, then 8)
pub length-between :
    (reader_number (34 ∷ []) 3 ≡ 8) × (reader_number (34 ∷ 1 ∷ []) 3 ≡ 2)
    × (reader_number (34 ∷ 7 ∷ []) 3 ≡ 3) × (reader_number (34 ∷ 7 ∷ []) 4 ≡ 8)
unfolding read_table read_header read_number first_of first_says
length-between = (refl, refl, refl, refl)

-- what the reader answers and leaves in a table of nines: the entries, of either kind, or the nines
pub reader_leaves :
    (table_read (2 ∷ 7 ∷ 6 ∷ 0 ∷ 0 ∷ 0 ∷ []) (9 ∷ 9 ∷ 9 ∷ 9 ∷ []) ≡ 6 ∷ 0 ∷ 0 ∷ 0 ∷ [])
    × (table_read (34 ∷ 7 ∷ 1 ∷ 0 ∷ 6 ∷ []) (9 ∷ 9 ∷ 9 ∷ 9 ∷ []) ≡ 6 ∷ 0 ∷ 0 ∷ 0 ∷ [])
    × (table_read (34 ∷ 7 ∷ 1 ∷ 0 ∷ 6 ∷ 0 ∷ []) (9 ∷ 9 ∷ 9 ∷ 9 ∷ []) ≡ 9 ∷ 9 ∷ 9 ∷ 9 ∷ [])
    × (reader_kind (34 ∷ 7 ∷ 0 ∷ []) 4 ≡ sparse) × (reader_controls (34 ∷ 7 ∷ 0 ∷ []) 4 ≡ 2) × (reader_modulus (34 ∷ 7 ∷ 0 ∷ []) 4 ≡ 7)
    × (reader_controls (34 ∷ 7 ∷ []) 4 ≡ 0) × (reader_modulus (34 ∷ 7 ∷ []) 4 ≡ 0)
unfolding read_table read_header read_number first_of first_says read_entries read_gap read_value read_pair read_pairs zeros
reader_leaves = (refl, refl, refl, refl, refl, refl, refl, refl)

-- a count that is too large meets the end of the bytes (8) or a gap to code 4 (15) as its entries are read, if no other word comes
-- first, also where it is above 4; one that is too small leaves bytes (9)
pub wrong-counts :
    (reader_number (34 ∷ 7 ∷ 3 ∷ 1 ∷ 3 ∷ 1 ∷ 5 ∷ []) 4 ≡ 8)
    × (reader_number (34 ∷ 7 ∷ 3 ∷ 1 ∷ 3 ∷ 1 ∷ 5 ∷ 0 ∷ []) 4 ≡ 15)
    × (reader_number (34 ∷ 7 ∷ 1 ∷ 1 ∷ 3 ∷ 1 ∷ 5 ∷ []) 4 ≡ 9)
    × (reader_number (34 ∷ 7 ∷ 0 ∷ 0 ∷ []) 4 ≡ 9)
    × (reader_number (34 ∷ 7 ∷ 5 ∷ []) 4 ≡ 8)
    × (reader_number (34 ∷ 7 ∷ 5 ∷ 1 ∷ 0 ∷ []) 4 ≡ 16)
unfolding read_table read_header read_number first_of first_says read_gap read_value read_pair read_pairs zeros
wrong-counts = (refl, refl, refl, refl, refl, refl)

-- each where it is met: a gap to code 4 (15) before its value, a value of 0 (16), a value of m (5); in a full file an entry of m (5)
pub wrong_entries :
    (reader_number (34 ∷ 7 ∷ 1 ∷ 4 ∷ []) 4 ≡ 15)
    × (reader_number (34 ∷ 7 ∷ 2 ∷ 1 ∷ 3 ∷ 2 ∷ 0 ∷ []) 4 ≡ 15)
    × (reader_number (34 ∷ 7 ∷ 2 ∷ 1 ∷ 0 ∷ 2 ∷ 5 ∷ []) 4 ≡ 16)
    × (reader_number (34 ∷ 7 ∷ 2 ∷ 1 ∷ 7 ∷ 2 ∷ 5 ∷ []) 4 ≡ 5)
    × (reader_number (2 ∷ 7 ∷ 0 ∷ 3 ∷ 0 ∷ 7 ∷ []) 4 ≡ 5)
unfolding read_table read_header read_number first_of first_says read_entries read_gap read_value read_pair read_pairs
wrong_entries = (refl, refl, refl, refl, refl)

-- 16 comes before 5. No file shows it, for a value of 0 is below every m that is taken; a value read under m = 0 does
pub zero_first : read_value 0 (0 ∷ []) ≡ refused 16
unfolding read_value read_number
zero_first = refl

-- ---- the writers

-- their words in order: each where all behind it apply too
pub writer_words : (kind : Kind) →
    (writer_number kind 17 1 (9 ∷ []) 0 ≡ 1)
    × (writer_number kind 2 1 (9 ∷ []) 0 ≡ 2)
    × (writer_number kind 2 7 (9 ∷ []) 0 ≡ 3)
    × (writer_number kind 2 7 (0 ∷ 3 ∷ 0 ∷ 7 ∷ []) 0 ≡ 5)
unfolding writer_number all_below
writer_words kind = (refl, refl, refl, refl)

-- a buffer that is one byte short (10), and one that just fits
pub writer_room :
    (writer_number full 2 7 (0 ∷ 3 ∷ 0 ∷ 5 ∷ []) 5 ≡ 10) × (writer_number full 2 7 (0 ∷ 3 ∷ 0 ∷ 5 ∷ []) 6 ≡ 0)
    × (writer_number sparse 2 7 (0 ∷ 3 ∷ 0 ∷ 5 ∷ []) 6 ≡ 10) × (writer_number sparse 2 7 (0 ∷ 3 ∷ 0 ∷ 5 ∷ []) 7 ≡ 0)
unfolding writer_number all_below file_of groups_in nonzero_count pairs_from flat_map
writer_room = (refl, refl, refl, refl)

-- what they leave in a buffer of nines, and how many bytes they count
pub writer_leaves :
    (written_buffer full 0 7 (3 ∷ []) (9 ∷ 9 ∷ 9 ∷ 9 ∷ []) ≡ 0 ∷ 7 ∷ 3 ∷ 9 ∷ [])
    × (written_buffer sparse 0 7 (3 ∷ []) (9 ∷ 9 ∷ 9 ∷ 9 ∷ 9 ∷ 9 ∷ []) ≡ 32 ∷ 7 ∷ 1 ∷ 0 ∷ 3 ∷ 9 ∷ [])
    × (written_buffer sparse 0 7 (3 ∷ []) (9 ∷ 9 ∷ 9 ∷ 9 ∷ []) ≡ 9 ∷ 9 ∷ 9 ∷ 9 ∷ [])
    × (written_count sparse 0 7 (3 ∷ []) 6 ≡ 5)
    × (written_count sparse 0 7 (3 ∷ []) 4 ≡ 0)
unfolding writer_number all_below file_of groups_in nonzero_count pairs_from flat_map
writer_leaves = (refl, refl, refl, refl, refl)
