-- What the parts of pages need and leave, for any layout.
use Rattle.std.specs.Prelude.{◌≡◌, List, ℕ, ◌+◌, ◌*◌, ◌^◌, ◌<◌, ◌≤◌, length, take, drop}
use Rattle.definitions.specs.Limits.{most_controls}
use Rattle.definitions.specs.Pages.{Layout, nonzero_codes, page_lines, page_count, lines_of, pages_text}
use Rattle.text_pieces.specs.Text.{Writes}
use Rattle.page_theory.specs.Codes.{codes_from}
use Rattle.page_text.specs.declared.Place.{Place}

-- the code of a set, and room for a text of so many bytes
pub record Room (S long at : ℕ) (out : List ℕ) : Type 0 where
  pub code : S < 2 ^ most_controls
  pub room : at + long ≤ length out

-- how many lines a table has
pub record Counted (A : List ℕ) (lines : ℕ) : Type 0 where
  pub lines_is : lines ≡ length (nonzero_codes A)
  pub few : lines ≤ length A

-- the codes of one page, from a place of the table on
abbrev pub page_from : List ℕ → ℕ → List ℕ
page_from A c = take page_lines (codes_from A c)

-- a table, and room for the lines of that page, of L bytes each
pub record LinesRoom (L : ℕ) (A : List ℕ) (c at : ℕ) (out : List ℕ) : Type 0 where
  pub small : length A ≤ 2 ^ most_controls
  pub from : c ≤ length A
  pub room : at + L * length (page_from A c) ≤ length out

-- the lines of that page are written, and the others are those from the answered code on
pub record LinesWritten (y : Layout) (A : List ℕ) (c : ℕ) (old : List ℕ) (at : ℕ) (r : Place) (last : List ℕ) : Type 0 where
  pub writes : Writes old at (lines_of y A (page_from A c)) r.next last
  pub others : codes_from A r.code ≡ drop page_lines (codes_from A c)
  pub inside : r.code ≤ length A

-- a table with its number of pages, and room for all of them
pub record PagesRoom (y : Layout) (A : List ℕ) (pages : ℕ) (out : List ℕ) : Type 0 where
  pub small : length A ≤ 2 ^ most_controls
  pub count : pages ≡ page_count A
  pub room : length (pages_text y A) ≤ length out
