-- What 02 says of lines and pages, of any layout: the statement, and the text page by page. Its proof is in proofs/Paged.
use Rattle.std.specs.Prelude.{◌≡◌, refl, cond, ◌≢◌, ℕ, ◌+◌, ◌<◌, ◌≤◌, length}
use mathlib.Core.List.{List, ◌++◌, flat_map}
use Rattle.definitions.specs.Sums.{tabulate, at}
use Rattle.definitions.specs.Pages.{Layout, line_of, heading, nonzero_codes, page_count, on_page, lines_of, page_text, pages_text}
use Rattle.page_theory.specs.Codes.{nonzero, times}

abbrev pub page_of : Layout → List ℕ → ℕ → List ℕ
page_of y A i = heading y.heading_width (i + 1) (page_count A) ++ flat_map (λ S. line_of y S (at A S)) (on_page A i)

pub record Paged (y : Layout) (A : List ℕ) : Type 0 where
  -- each nonzero entry has exactly one line, and no other has: how often a code is among those that have a line
  pub once : (S : ℕ) → times S (nonzero_codes A) ≡ cond (nonzero A S) 1 0
  -- in rising code
  pub rising : (i j : ℕ) → i < j → j < length (nonzero_codes A) → at (nonzero_codes A) i < at (nonzero_codes A) j
  -- this is the text: page by page a heading, numbered from 1, and a line for each code of the page
  pub text : pages_text y A ≡ flat_map (page_of y A) (tabulate (page_count A) (λ i. i))
  -- and these are the codes of all pages, one page after the other
  pub together : flat_map (on_page A) (tabulate (page_count A) (λ i. i)) ≡ nonzero_codes A
  -- every page but the last has 50
  pub full : (i : ℕ) → i + 1 < page_count A → length (on_page A i) ≡ 50
  -- the last 1 to 50, if some entry is not 0
  pub last : (S : ℕ) → at A S ≢ 0 → (i : ℕ) → i + 1 ≡ page_count A → (1 ≤ length (on_page A i)) × (length (on_page A i) ≤ 50)
  -- and a table of zeros has one page with only its heading
  pub zeros : ((S : ℕ) → at A S ≡ 0) → pages_text y A ≡ heading y.heading_width 1 1

pub by_pages : (y : Layout) (A : List ℕ) → pages_text y A ≡ flat_map (page_of y A) (tabulate (page_count A) (λ i. i))
unfolding pages_text page_text lines_of
by_pages y A = refl
