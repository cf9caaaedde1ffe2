-- 02's pages for the training room wall, as bytes: a line for each nonzero entry of a table, 50 to a page, each page under its
-- heading. First for any layout, which is the text of the set column, its width and the width of the heading; then with the labels
-- of a sheet, and the call that writes them to a lent buffer.
use Rattle.std.specs.Prelude.{Bool, cond, not, ℕ, ◌+◌, ◌*◌, ◌-◌, ◌/◌, ◌%◌, ◌^◌, max, eqb, length, take, drop, replicate}
use mathlib.Core.List.{List, [], ◌∷◌, ◌++◌, map, flat_map}
use Rattle.definitions.specs.Limits.{most_controls}
use Rattle.definitions.specs.Sums.{tabulate, keep, at}
use Rattle.definitions.specs.Sets.{size}
use Rattle.definitions.specs.Refusals.{first_word, panel_word, modulus_word, table_word, entry_word, buffer_word, after, value_after}
use Rattle.definitions.specs.Show.{decimal}
use Rattle.definitions.specs.Sheets.{label_of, sheet_number, sheet_labels}

-- ---- filling and aligning

abbrev pub blanks : ℕ → List ℕ
blanks k = replicate k 32

-- a text filled with blanks to a width, and one aligned to the right in it; a longer one stays as it is
unfoldable pub filled : ℕ → List ℕ → List ℕ
filled width text = text ++ blanks (width - length text)

unfoldable pub aligned : ℕ → List ℕ → List ℕ
aligned width text = blanks (width - length text) ++ text

-- ---- lines and headings

-- how pages are laid out: the text of the set column by the set's code, the width of that column, and that of the heading
pub record Layout : Type 0 where
  pub column : ℕ → List ℕ
  pub column_width : ℕ
  pub heading_width : ℕ

-- behind the set column: one blank, the size right-aligned in 2, one blank, the value right-aligned in 10, and a line feed
unfoldable pub behind_column : ℕ → ℕ → List ℕ
behind_column k v = 32 ∷ (aligned 2 (decimal k) ++ (32 ∷ (aligned 10 (decimal v) ++ (10 ∷ []))))

-- the line of the set S, whose value is v
unfoldable pub line_of : Layout → ℕ → ℕ → List ℕ
line_of y S v = filled y.column_width (y.column S) ++ behind_column (size S) v

-- "page", the number of the page, "of" and the number of pages, single blanks between
unfoldable pub heading_text : ℕ → ℕ → List ℕ
heading_text number pages =
    112 ∷ 97 ∷ 103 ∷ 101 ∷ 32 ∷ (decimal number ++ (32 ∷ 111 ∷ 102 ∷ 32 ∷ decimal pages))

-- filled to the width, and a line feed
unfoldable pub heading : ℕ → ℕ → ℕ → List ℕ
heading width number pages = filled width (heading_text number pages) ++ (10 ∷ [])

-- ---- pages

-- the sets that have a line: the codes of the nonzero entries, in rising order
unfoldable pub nonzero_codes : List ℕ → List ℕ
nonzero_codes A = keep (λ S. not (eqb (at A S) 0)) (tabulate (length A) (λ S. S))

-- the lines of a full page
abbrev pub page_lines : ℕ
page_lines = 50

-- how many pages so many lines fill: only the last may have fewer than 50, and there is one at least
unfoldable pub pages_for : ℕ → ℕ
pages_for k = max 1 ((k + 49) / page_lines)

abbrev pub page_count : List ℕ → ℕ
page_count A = pages_for (length (nonzero_codes A))

-- the codes on page i, where the first page is page 0
abbrev pub on_page : List ℕ → ℕ → List ℕ
on_page A i = take page_lines (drop (page_lines * i) (nonzero_codes A))

unfoldable pub lines_of : Layout → List ℕ → List ℕ → List ℕ
lines_of y A codes = flat_map (λ S. line_of y S (at A S)) codes

-- page i, where the first page is page 0: its heading, which numbers the pages from 1, and its lines
unfoldable pub page_text : Layout → List ℕ → ℕ → List ℕ
page_text y A i = heading y.heading_width (i + 1) (page_count A) ++ lines_of y A (on_page A i)

unfoldable pub pages_text : Layout → List ℕ → List ℕ
pages_text y A = flat_map (page_text y A) (tabulate (page_count A) (λ i. i))

-- ---- labels

-- control i is in the set if bit i of its code is 1
abbrev pub has : ℕ → ℕ → Bool
has S i = eqb (S / 2 ^ i % 2) 1

-- the controls of a set, in rising order
unfoldable pub controls_of : ℕ → List ℕ
controls_of S = keep (has S) (tabulate most_controls (λ i. i))

-- `-` for the empty set, and of any other set its text
abbrev pub or_dash : ℕ → List ℕ → List ℕ
or_dash S text = cond (eqb S 0) (45 ∷ []) text

-- some texts joined by +
unfoldable pub joined : List (List ℕ) → List ℕ
joined [] = []
joined (x ∷ []) = x
joined (x ∷ y ∷ ys) = x ++ (43 ∷ joined (y ∷ ys))

-- the labels of a set's controls, in rising order
abbrev pub labels_of : List (List ℕ) → ℕ → List (List ℕ)
labels_of ls S = map (label_of ls) (controls_of S)

unfoldable pub labelled : List (List ℕ) → ℕ → List ℕ
labelled ls S = or_dash S (joined (labels_of ls S))

abbrev pub label_layout : List (List ℕ) → Layout
label_layout ls = record { column = labelled ls; column_width = 143; heading_width = 157 }

-- ---- the call, which takes the bytes of a sheet, and whose buffer has b bytes

-- the pages of a table, with the labels of the sheet
abbrev pub wall_pages : List ℕ → List ℕ → List ℕ
wall_pages sheet A = pages_text (label_layout (sheet_labels sheet)) A

unfoldable pub pages_number : ℕ → ℕ → List ℕ → List ℕ → ℕ → ℕ
pages_number n m A sheet b =
    first_word
    (panel_word n
    ∷ modulus_word m
    ∷ table_word n (length A)
    ∷ entry_word m A
    ∷ sheet_number sheet
    ∷ buffer_word b (length (wall_pages sheet A))
    ∷ [])

-- how many bytes are written
abbrev pub pages_written : ℕ → ℕ → List ℕ → List ℕ → ℕ → ℕ
pages_written n m A sheet b = value_after (pages_number n m A sheet b) (length (wall_pages sheet A))

-- the buffer starts with the pages, and the bytes behind them are unchanged
abbrev pub pages_buffer : ℕ → ℕ → List ℕ → List ℕ → List ℕ → List ℕ
pages_buffer n m A sheet old =
    after (pages_number n m A sheet (length old)) (wall_pages sheet A ++ drop (length (wall_pages sheet A)) old) old
