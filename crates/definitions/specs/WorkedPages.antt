-- Sheets, lines, headings and pages worked by hand, and the call's words, count and buffer.
use Rattle.std.specs.Prelude.{◌≡◌, refl, cond, ℕ, ◌+◌, ◌*◌, ◌/◌, ◌%◌, ◌^◌, eqb, length, replicate}
use mathlib.Core.List.{List, [], ◌∷◌, ◌++◌, map, flat_map}
use Rattle.std.specs.Int.Count.{ones, ones_in}
use Rattle.definitions.specs.Sums.{tabulate, keep}
use Rattle.definitions.specs.Partitions.{all_below}
use Rattle.definitions.specs.Outcomes.{accepted}
use Rattle.definitions.specs.Groups.{read_number}
use Rattle.definitions.specs.Show.{decimal, digits_in}
use Rattle.definitions.specs.Sheets.{alphanumeric, read_bytes, read_label, read_labels, same, among, twice, read_sheet, sheet_number}
use Rattle.definitions.specs.Pages.{blanks, filled, aligned, Layout, behind_column, line_of, heading_text, heading}
use Rattle.definitions.specs.Pages.{nonzero_codes, pages_for, on_page, lines_of, page_text, pages_text, controls_of, joined}
use Rattle.definitions.specs.Pages.{labelled, label_layout, wall_pages, pages_number, pages_written, pages_buffer}

-- ---- filling and aligning

-- to a width of 5, and a text that is longer than its width
pub worked_widths :
    (filled 5 (97 ∷ 98 ∷ []) ≡ 97 ∷ 98 ∷ 32 ∷ 32 ∷ 32 ∷ []) × (aligned 5 (97 ∷ 98 ∷ []) ≡ 32 ∷ 32 ∷ 32 ∷ 97 ∷ 98 ∷ [])
    × (filled 1 (97 ∷ 98 ∷ []) ≡ 97 ∷ 98 ∷ []) × (aligned 1 (97 ∷ 98 ∷ []) ≡ 97 ∷ 98 ∷ [])
unfolding filled aligned
worked_widths = (refl, refl, refl, refl)

-- ---- sheets

-- all bytes that a label may have: digits, capital and small letters
pub letters_and_digits :
    keep alphanumeric (tabulate 256 (λ b. b)) ≡ tabulate 10 (λ i. 48 + i) ++ (tabulate 26 (λ i. 65 + i) ++ tabulate 26 (λ i. 97 + i))
unfolding alphanumeric tabulate keep
letters_and_digits = refl

-- `gate`, `bar`, and c to p
abbrev gate : List ℕ
gate = 103 ∷ 97 ∷ 116 ∷ 101 ∷ []

abbrev bar : List ℕ
bar = 98 ∷ 97 ∷ 114 ∷ []

abbrev others : List ℕ
others = 99 ∷ 100 ∷ 101 ∷ 102 ∷ 103 ∷ 104 ∷ 105 ∷ 106 ∷ 107 ∷ 108 ∷ 109 ∷ 110 ∷ 111 ∷ 112 ∷ []

abbrev park : List ℕ
park = 4 ∷ (gate ++ (3 ∷ (bar ++ flat_map (λ b. 1 ∷ b ∷ []) others)))

abbrev park_labels : List (List ℕ)
park_labels = gate ∷ bar ∷ map (λ b. b ∷ []) others

-- sixteen labels of eight bytes: `A0000000` to `P0000000`
abbrev long_label : ℕ → List ℕ
long_label i = (65 + i) ∷ replicate 7 48

abbrev long_park : List ℕ
long_park = flat_map (λ i. 8 ∷ long_label i) (tabulate 16 (λ i. i))

abbrev long_labels : List (List ℕ)
long_labels = map long_label (tabulate 16 (λ i. i))

-- two labels of each length from 1 to 8, where the shorter begin as the longer do
abbrev of_each_length : List (List ℕ)
of_each_length = flat_map (λ k. replicate (1 + k) 65 ∷ replicate (1 + k) 97 ∷ []) (tabulate 8 (λ k. k))

-- labels of eight bytes that differ in the last one alone, or in its case
abbrev last_differs : ℕ → List ℕ
last_differs i = replicate 7 48 ++ ((65 + i % 8 + 32 * (i / 8)) ∷ [])

pub worked_sheets :
    (read_sheet park ≡ accepted park_labels) × (read_sheet long_park ≡ accepted long_labels)
    × (read_sheet (flat_map (λ l. length l ∷ l) of_each_length) ≡ accepted of_each_length)
    × (sheet_number (flat_map (λ i. 8 ∷ last_differs i) (tabulate 16 (λ i. i))) ≡ 0)
unfolding read_sheet read_labels read_label read_bytes read_number alphanumeric twice among same tabulate flat_map
worked_sheets = (refl, refl, refl, refl)

-- so many labels of one byte, from a on
abbrev letters_to : ℕ → List ℕ
letters_to k = flat_map (λ i. 1 ∷ (97 + i) ∷ []) (tabulate k (λ i. i))

-- a length: none, 80 00, 0, 9, 128 and 257 in two groups, 4294967295 and 4294967296 in five; 8, and nothing behind it
pub length_words_lem :
    (sheet_number [] ≡ 8) × (sheet_number (128 ∷ 0 ∷ []) ≡ 8) × (sheet_number (0 ∷ []) ≡ 17) × (sheet_number (9 ∷ []) ≡ 17)
    × (sheet_number (128 ∷ 1 ∷ []) ≡ 17) × (sheet_number (129 ∷ 2 ∷ []) ≡ 17)
    × (sheet_number (255 ∷ 255 ∷ 255 ∷ 255 ∷ 15 ∷ []) ≡ 17) × (sheet_number (128 ∷ 128 ∷ 128 ∷ 128 ∷ 16 ∷ []) ≡ 8)
    × (sheet_number (8 ∷ []) ≡ 8)
unfolding read_sheet read_labels read_label read_bytes read_number
length_words_lem = (refl, refl, refl, refl, refl, refl, refl, refl, refl)

-- a byte: + as the first and as the second of three, where the sheet ends behind it, and an early end without it; the same with
-- `-` in the sixteenth label
pub byte_words :
    (sheet_number (3 ∷ 43 ∷ []) ≡ 17) × (sheet_number (3 ∷ 97 ∷ 43 ∷ []) ≡ 17) × (sheet_number (3 ∷ 97 ∷ 98 ∷ []) ≡ 8)
    × (sheet_number (letters_to 15 ++ (1 ∷ 45 ∷ [])) ≡ 17) × (sheet_number (letters_to 15 ++ (1 ∷ [])) ≡ 8)
unfolding read_sheet read_labels read_label read_bytes read_number alphanumeric tabulate flat_map
byte_words = (refl, refl, refl, refl, refl)

-- the end: a label too few and one too many, a byte behind the longest sheet; equal labels, with a tail and without, and with a bad byte behind them; labels that
-- differ in case alone, or where one begins as the other
pub end_words :
    (sheet_number (letters_to 15) ≡ 8) × (sheet_number (letters_to 16) ≡ 0) × (sheet_number (letters_to 17) ≡ 9)
    × (sheet_number (long_park ++ (0 ∷ [])) ≡ 9)
    × (sheet_number (letters_to 15 ++ (1 ∷ 97 ∷ 0 ∷ [])) ≡ 9) × (sheet_number (letters_to 15 ++ (1 ∷ 97 ∷ [])) ≡ 18)
    × (sheet_number (letters_to 15 ++ (1 ∷ 111 ∷ [])) ≡ 18) × (sheet_number (letters_to 2 ++ (letters_to 13 ++ (1 ∷ 32 ∷ []))) ≡ 17)
    × (sheet_number (letters_to 15 ++ (1 ∷ 65 ∷ [])) ≡ 0) × (sheet_number (letters_to 15 ++ (2 ∷ 97 ∷ 97 ∷ [])) ≡ 0)
unfolding read_sheet read_labels read_label read_bytes read_number alphanumeric twice among same tabulate flat_map
end_words = (refl, refl, refl, refl, refl, refl, refl, refl, refl, refl)

-- the letters, but the label of control j is that of control i
abbrev again : ℕ → ℕ → List ℕ
again i j = flat_map (λ k. 1 ∷ (97 + cond (eqb k j) i k) ∷ []) (tabulate 16 (λ k. k))

-- each two of sixteen labels made equal; two equal labels of two bytes
pub equal_pairs :
    (flat_map (λ j. map (λ i. sheet_number (again i j)) (tabulate j (λ i. i))) (tabulate 16 (λ j. j)) ≡ replicate 120 18)
    × (sheet_number (letters_to 14 ++ (2 ∷ 97 ∷ 98 ∷ 2 ∷ 97 ∷ 98 ∷ [])) ≡ 18)
unfolding read_sheet read_labels read_label read_bytes read_number alphanumeric twice among same tabulate flat_map
equal_pairs = (refl, refl)

-- ---- lines and headings

-- `-` and 142 blanks, ` `, ` 0`, ` `, 9 blanks and `7`
abbrev of_no_control : List ℕ
of_no_control = 45 ∷ (blanks 142 ++ (32 ∷ 32 ∷ 48 ∷ 32 ∷ (blanks 9 ++ (55 ∷ 10 ∷ []))))

-- `gate` and 139 blanks, `p` and 142, ` `, ` 1`, ` `, 9 blanks and `9`
abbrev of_control : List ℕ → ℕ → List ℕ
of_control text k = text ++ (blanks k ++ (32 ∷ 32 ∷ 49 ∷ 32 ∷ (blanks 9 ++ (57 ∷ 10 ∷ []))))

-- `gate+bar+d` and 133 blanks, ` `, ` 3`, ` `, 8 blanks and `12`
abbrev of_three_controls : List ℕ
of_three_controls = gate ++ (43 ∷ (bar ++ (43 ∷ 100 ∷ (blanks 133 ++ (32 ∷ 32 ∷ 51 ∷ 32 ∷ (blanks 8 ++ (49 ∷ 50 ∷ 10 ∷ [])))))))

-- `A0000000+..+P0000000 16 4294967294`
abbrev of_all_controls : List ℕ
of_all_controls =
    long_label 0
    ++ (flat_map (λ i. 43 ∷ long_label (1 + i)) (tabulate 15 (λ i. i))
    ++ (32 ∷ 49 ∷ 54 ∷ 32 ∷ 52 ∷ 50 ∷ 57 ∷ 52 ∷ 57 ∷ 54 ∷ 55 ∷ 50 ∷ 57 ∷ 52 ∷ 10 ∷ []))

pub worked_lines :
    (line_of (label_layout park_labels) 0 7 ≡ of_no_control)
    × (line_of (label_layout park_labels) 1 9 ≡ of_control gate 139) × (line_of (label_layout park_labels) 32768 9 ≡ of_control (112 ∷ []) 142)
    × (line_of (label_layout park_labels) 11 12 ≡ of_three_controls)
    × (line_of (label_layout long_labels) 65535 4294967294 ≡ of_all_controls)
unfolding line_of filled aligned behind_column labelled joined controls_of digits_in tabulate keep flat_map ones ones_in
worked_lines = (refl, refl, refl, refl, refl)

-- each control alone shows its own label
pub each_alone : map (λ i. labelled park_labels (2 ^ i)) (tabulate 16 (λ i. i)) ≡ park_labels
unfolding labelled joined controls_of tabulate keep
each_alone = refl

-- `page 1 of 1` and 146 blanks
abbrev first_of-one : List ℕ
first_of-one = 112 ∷ 97 ∷ 103 ∷ 101 ∷ 32 ∷ 49 ∷ 32 ∷ 111 ∷ 102 ∷ 32 ∷ 49 ∷ (blanks 146 ++ (10 ∷ []))

-- `page 10 of 1311` and 142 blanks
abbrev tenth_of_many : List ℕ
tenth_of_many = 112 ∷ 97 ∷ 103 ∷ 101 ∷ 32 ∷ 49 ∷ 48 ∷ 32 ∷ 111 ∷ 102 ∷ 32 ∷ 49 ∷ 51 ∷ 49 ∷ 49 ∷ (blanks 142 ++ (10 ∷ []))

pub worked_headings : (heading 157 1 1 ≡ first_of-one) × (heading 157 10 1311 ≡ tenth_of_many)
unfolding heading heading_text filled digits_in
worked_headings = (refl, refl)

-- ---- pages

-- a table of zeros; one with 7 at the empty set and 12 at {0, 1, 3}
pub worked_pages :
    (wall_pages park (0 ∷ 0 ∷ []) ≡ first_of-one)
    × (wall_pages park (7 ∷ 0 ∷ 0 ∷ 0 ∷ 0 ∷ 0 ∷ 0 ∷ 0 ∷ 0 ∷ 0 ∷ 0 ∷ 12 ∷ 0 ∷ 0 ∷ 0 ∷ 0 ∷ []) ≡ first_of-one ++ (of_no_control ++ of_three_controls))
unfolding read_sheet read_labels read_label read_bytes read_number alphanumeric twice among same filled aligned behind_column line_of heading_text heading nonzero_codes pages_for lines_of page_text pages_text controls_of labelled joined tabulate keep digits_in flat_map ones ones_in
worked_pages = (refl, refl)

-- how many pages so many lines fill
pub page_counts :
    (pages_for 0 ≡ 1) × (pages_for 1 ≡ 1) × (pages_for 49 ≡ 1) × (pages_for 50 ≡ 1) × (pages_for 51 ≡ 2)
    × (pages_for 100 ≡ 2) × (pages_for 101 ≡ 3) × (pages_for 65536 ≡ 1311)
unfolding pages_for
page_counts = (refl, refl, refl, refl, refl, refl, refl, refl)

-- 130 entries that are not 0: the sets of the first and of the third page
pub page_sets :
    (on_page (tabulate 130 (λ S. 1)) 0 ≡ tabulate 50 (λ i. i)) × (on_page (tabulate 130 (λ S. 1)) 2 ≡ tabulate 30 (λ i. 100 + i))
unfolding nonzero_codes tabulate keep
page_sets = (refl, refl)

-- every second entry of 7 controls is not 0, at code 2 i the value i + 101: 64 lines on two pages, in a narrow layout, whose column is
-- the code in decimal
abbrev every_second : List ℕ
every_second = tabulate 128 (λ S. (S / 2 + 101) * ((S + 1) % 2))

abbrev narrow : Layout
narrow = record { column = decimal; column_width = 4; heading_width = 12 }

abbrev lines_from : ℕ → ℕ → List ℕ
lines_from first count = flat_map (λ i. line_of narrow (2 * i) (i + 101)) (tabulate count (λ k. first + k))

pub two_pages :
    pages_text narrow every_second ≡ (heading 12 1 2 ++ lines_from 0 50) ++ ((heading 12 2 2 ++ lines_from 50 14) ++ [])
unfolding nonzero_codes pages_for lines_of page_text pages_text tabulate keep flat_map
two_pages = refl

-- ---- the call

-- its words in order: each where all behind it apply too, those of the sheet among themselves as above; 16 controls are not word 1,
-- and the sheet counts for a table of zeros too
pub page_words :
    (pages_number 17 1 (9 ∷ []) [] 0 ≡ 1)
    × (pages_number 2 1 (9 ∷ []) [] 0 ≡ 2)
    × (pages_number 16 7 (9 ∷ []) [] 0 ≡ 3)
    × (pages_number 3 7 (0 ∷ 3 ∷ 0 ∷ 5 ∷ 0 ∷ 0 ∷ 0 ∷ 7 ∷ []) [] 0 ≡ 5)
    × (pages_number 0 7 (6 ∷ []) [] 0 ≡ 8) × (pages_number 0 7 (0 ∷ []) [] 0 ≡ 8)
    × (pages_number 0 7 (6 ∷ []) (9 ∷ []) 0 ≡ 17)
    × (pages_number 0 7 (6 ∷ []) (letters_to 17) 0 ≡ 9)
    × (pages_number 0 7 (6 ∷ []) (letters_to 15 ++ (1 ∷ 97 ∷ [])) 0 ≡ 18)
unfolding pages_number all_below read_sheet read_labels read_label read_bytes read_number alphanumeric twice among same filled aligned behind_column line_of heading_text heading nonzero_codes pages_for lines_of page_text pages_text controls_of labelled joined tabulate keep digits_in flat_map ones ones_in
page_words = (refl, refl, refl, refl, refl, refl, refl, refl, refl)

-- sixteen labels whatever n is: as many as the panel has controls are too few
pub sixteen_labels :
    map (λ n. pages_number n 7 (tabulate (2 ^ n) (λ S. 1)) (letters_to n) 0) (tabulate 5 (λ n. n)) ≡ replicate 5 8
unfolding pages_number all_below read_sheet read_labels read_label read_bytes read_number alphanumeric tabulate flat_map
sixteen_labels = refl

-- a heading and a line, under the lowest modulus: 315 bytes are too few, 316 are enough; so are 158 for a heading alone
pub page_room :
    (pages_number 0 2 (1 ∷ []) park 315 ≡ 10) × (pages_number 0 2 (1 ∷ []) park 316 ≡ 0)
    × (pages_number 0 7 (0 ∷ []) park 157 ≡ 10) × (pages_number 0 7 (0 ∷ []) park 158 ≡ 0)
unfolding pages_number all_below read_sheet read_labels read_label read_bytes read_number alphanumeric twice among same filled aligned behind_column line_of heading_text heading nonzero_codes pages_for lines_of page_text pages_text controls_of labelled joined tabulate keep digits_in flat_map ones ones_in
page_room = (refl, refl, refl, refl)

-- sheets that are refused by 8, 17, 9 and 18
abbrev bad_sheets : List (List ℕ)
bad_sheets = [] ∷ (0 ∷ park) ∷ letters_to 17 ∷ (letters_to 15 ++ (1 ∷ 97 ∷ [])) ∷ []

-- what it leaves in a buffer that counts from 0, and how many bytes it counts: the pages and the bytes behind them; where it is
-- refused, for room, for an entry, for a length or for the sheet, the buffer
pub page_leaves :
    (pages_buffer 0 7 (0 ∷ []) park (tabulate 160 (λ i. i)) ≡ first_of-one ++ (158 ∷ 159 ∷ []))
    × (pages_buffer 0 7 (0 ∷ []) park (tabulate 157 (λ i. i)) ≡ tabulate 157 (λ i. i))
    × (pages_buffer 0 7 (7 ∷ []) park (tabulate 316 (λ i. i)) ≡ tabulate 316 (λ i. i))
    × (pages_buffer 1 7 (6 ∷ []) park (tabulate 316 (λ i. i)) ≡ tabulate 316 (λ i. i))
    × (map (λ sheet. pages_buffer 0 7 (6 ∷ []) sheet (tabulate 316 (λ i. i))) bad_sheets ≡ replicate 4 (tabulate 316 (λ i. i)))
    × (pages_written 0 7 (0 ∷ []) park 160 ≡ 158) × (pages_written 0 7 (6 ∷ []) park 400 ≡ 316)
    × (pages_written 0 7 (0 ∷ []) park 157 ≡ 0) × (pages_written 0 7 (7 ∷ []) park 316 ≡ 0)
    × (map (λ sheet. pages_written 0 7 (6 ∷ []) sheet 316) bad_sheets ≡ replicate 4 0)
unfolding pages_number all_below read_sheet read_labels read_label read_bytes read_number alphanumeric twice among same filled aligned behind_column line_of heading_text heading nonzero_codes pages_for lines_of page_text pages_text controls_of labelled joined tabulate keep digits_in flat_map ones ones_in
page_leaves = (refl, refl, refl, refl, refl, refl, refl, refl, refl, refl)
