-- Which entries have a line, in which order, and how many lines a page has, of any layout.
use Rattle.std.specs.Prelude.{ℕ}
use mathlib.Core.List.{List}
use Rattle.definitions.specs.Pages.{Layout}
use Rattle.page_theory.specs.Codes.{codes_once, codes_rise, codes_none, codes_some}
use Rattle.page_theory.specs.Paging.{full_page, last_page, only_heading, all_lines}
use Rattle.page_theory.specs.PageLaws.{Paged, by_pages}

pub paged : (y : Layout) (A : List ℕ) → Paged y A
paged y A = record {
  once = codes_once A;
  rising = (codes_rise A).rises;
  text = by_pages y A;
  together = all_lines A;
  full = full_page A;
  last = λ S d i e. last_page A i (codes_some A S d) e;
  zeros = λ h. only_heading y A (codes_none A h);
}
