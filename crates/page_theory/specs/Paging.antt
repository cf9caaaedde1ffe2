-- Pages: how many lines each has, that they have all lines in their order, and how long the whole is.
--   pages_none, enough, pages_mono         how many pages
--   full_page, last_page, only_heading     the lines of a page
--   all_lines                              the pages' codes, one after the other, are the codes of the nonzero entries
--   pages_length                           L · (lines + pages)
use Rattle.std.specs.Prelude.{◌≡◌, refl, ℕ, zero, suc, ◌+◌, ◌*◌, ◌-◌, ◌^◌, ◌<◌, ◌≤◌, min, length, take, drop, get_or}
use Rattle.std.proofs.Common.{sym, ◌∙◌, ap, ap₂, add-one, mul-add, length-take, length-drop, take-add, take_all, get_or-take, get_or-drop}
use mathlib.Core.List.{List, [], ◌∷◌, ◌++◌, flat_map, append-nil}
use native.Mathlib.Omega.{arith}
use Rattle.std.proofs.Math.ListN.{length-append}
use Rattle.definitions.specs.Limits.{most_controls}
use Rattle.definitions.specs.Sums.{tabulate, at}
use Rattle.definitions.specs.Pages.{Layout, line_of, heading, nonzero_codes, pages_for, page_count, on_page, lines_of, page_text, pages_text}
use Rattle.text_pieces.specs.TextLaws.{flat_map_one}
use Rattle.page_theory.specs.Widths.{Fits, line-length, heading-length}
use Rattle.page_theory.specs.Codes.{codes_rise}

-- ---- how many pages

pub pages_none : pages_for 0 ≡ 1
unfolding pages_for
pages_none = refl

-- q pages are enough for k lines, and if there are any, the last page has one
pub record Enough (k q : ℕ) : Type 0 where
  pub room : k ≤ 50 * q
  pub close : 50 * q ≤ k + 50
  pub used : 0 < k → 50 * q < k + 50

pub enough : (k : ℕ) → Enough k (pages_for k)
unfolding pages_for
enough k = record { room = omega arith; close = omega arith; used = λ h. omega arith }

pub pages_mono : {j k : ℕ} → j ≤ k → pages_for j ≤ pages_for k
unfolding pages_for
pages_mono h = omega arith

-- ---- the lines of each page

module _ (A : List ℕ) (i : ℕ) where
  page_long : length (on_page A i) ≡ min 50 (length (nonzero_codes A) - 50 * i)
  page_long = length-take 50 (drop (50 * i) (nonzero_codes A)) ∙ ap (min 50) (length-drop (50 * i) (nonzero_codes A))

  -- every page but the last has 50 lines
  pub full_page : i + 1 < page_count A → length (on_page A i) ≡ 50
  full_page h = let e = enough (length (nonzero_codes A)) in omega (arith, page_long, e.close)

  -- the last has 1 to 50
  pub last_page : 0 < length (nonzero_codes A) → i + 1 ≡ page_count A → (1 ≤ length (on_page A i)) × (length (on_page A i) ≤ 50)
  last_page h l = let e = enough (length (nonzero_codes A)) in (omega (arith, page_long, e.used h), omega (arith, page_long))

-- ---- so many pages

unfoldable pub pages_to : Layout → List ℕ → ℕ → List ℕ
pages_to y A j = flat_map (page_text y A) (tabulate j (λ i. i))

pub to_none : (y : Layout) (A : List ℕ) → pages_to y A 0 ≡ []
unfolding pages_to flat_map tabulate
to_none y A = refl

pub to_more : (y : Layout) (A : List ℕ) (j : ℕ) → pages_to y A (j + 1) ≡ pages_to y A j ++ page_text y A j
unfolding pages_to tabulate
to_more y A j = rw (add-one j) (flat_map_one (page_text y A) (tabulate j (λ i. i)) j)

pub to_all : (y : Layout) (A : List ℕ) → pages_to y A (page_count A) ≡ pages_text y A
unfolding pages_to pages_text
to_all y A = refl

first_page : (y : Layout) (A : List ℕ) → pages_to y A 1 ≡ page_text y A 0
unfolding pages_to flat_map tabulate
first_page y A = append-nil (page_text y A 0)

page_zero : (y : Layout) (A : List ℕ) → page_count A ≡ 1 → nonzero_codes A ≡ [] → page_text y A 0 ≡ heading y.heading_width 1 1
unfolding page_text lines_of flat_map
page_zero y A one e =
    ap₂ (λ (q : ℕ) (l : List ℕ). heading y.heading_width 1 q ++ lines_of y A (take 50 l)) one e ∙ append-nil (heading y.heading_width 1 1)

-- a table of zeros has one page with only its heading
pub only_heading : (y : Layout) (A : List ℕ) → nonzero_codes A ≡ [] → pages_text y A ≡ heading y.heading_width 1 1
only_heading y A e =
    let one : page_count A ≡ 1 = ap (λ (l : List ℕ). pages_for (length l)) e ∙ pages_none in
    sym (to_all y A) ∙ ap (pages_to y A) one ∙ first_page y A ∙ page_zero y A one e

-- ---- all lines

one_page : (j : ℕ) → 50 * j + 50 ≡ 50 * suc j
one_page j = omega arith

lines_to_lem : (A : List ℕ) (j : ℕ) → flat_map (on_page A) (tabulate j (λ i. i)) ≡ take (50 * j) (nonzero_codes A)
unfolding flat_map tabulate
lines_to_lem A zero = refl
lines_to_lem A (suc j) =
    flat_map_one (on_page A) (tabulate j (λ i. i)) j
    ∙ ap (λ (l : List ℕ). l ++ on_page A j) (lines_to_lem A j)
    ∙ sym (take-add (50 * j) 50 (nonzero_codes A))
    ∙ ap (λ (k : ℕ). take k (nonzero_codes A)) (one_page j)

pub all_lines : (A : List ℕ) → flat_map (on_page A) (tabulate (page_count A) (λ i. i)) ≡ nonzero_codes A
all_lines A = lines_to_lem A (page_count A) ∙ take_all (50 * page_count A) (nonzero_codes A) (enough (length (nonzero_codes A))).room

-- ---- how long the whole is

module _ {y : Layout} {L : ℕ} (f : Fits y L) (A : List ℕ) (small : length A ≤ 2 ^ most_controls) where
  pub lines_length : (codes : List ℕ) → ((i : ℕ) → i < length codes → at codes i < length A) → length (lines_of y A codes) ≡ L * length codes
  unfolding lines_of flat_map
  lines_length [] h = omega arith
  lines_length (S ∷ codes) h =
      omega (arith, length-append (line_of y S (at A S)) (lines_of y A codes), line-length f S (at A S) (omega (arith, h 0 (omega arith))), lines_length codes (λ i k. h (suc i) (omega arith)))

  pub page_below : (i j : ℕ) → j < length (on_page A i) → at (on_page A i) j < length A
  page_below i j h =
      let l = page_long A i in
      rw (get_or-take 50 (drop (50 * i) (nonzero_codes A)) j 0 (omega arith), get_or-drop (50 * i) (nonzero_codes A) j 0)
      ((codes_rise A).below (50 * i + j) (omega arith))

  pub page_length : (i : ℕ) → length (page_text y A i) ≡ L * (1 + length (on_page A i))
  unfolding page_text
  page_length i =
      omega (arith, length-append (heading y.heading_width (i + 1) (page_count A)) (lines_of y A (on_page A i)), heading-length f (i + 1) (page_count A), lines_length (on_page A i) (page_below i))

  pub to_length : (j : ℕ) → length (pages_to y A j) ≡ L * (j + length (take (50 * j) (nonzero_codes A)))
  to_length zero = rw (to_none y A) (omega arith)
  to_length (suc j) =
      let more : length (take (50 * suc j) (nonzero_codes A)) ≡ length (take (50 * j) (nonzero_codes A)) + length (on_page A j) =
      ap (λ (k : ℕ). length (take k (nonzero_codes A))) (sym (one_page j)) ∙ ap length (take-add (50 * j) 50 (nonzero_codes A)) ∙ length-append (take (50 * j) (nonzero_codes A)) (on_page A j) in
      let t = length (take (50 * j) (nonzero_codes A)) in
      let p = length (on_page A j) in
      let count : suc j + length (take (50 * suc j) (nonzero_codes A)) ≡ (j + t) + (1 + p) = omega arith in
      let all : length (pages_to y A (suc j)) ≡ L * (j + t) + L * (1 + p) =
      ap (λ (k : ℕ). length (pages_to y A k)) (sym (add-one j)) ∙ ap length (to_more y A j) ∙ length-append (pages_to y A j) (page_text y A j)
      ∙ ap₂ ◌+◌ (to_length j) (page_length j) in
      all ∙ sym (mul-add L (j + t) (1 + p)) ∙ ap (λ (k : ℕ). L * k) (sym count)

  pub pages_length : length (pages_text y A) ≡ L * (length (nonzero_codes A) + page_count A)
  pages_length =
      let k = length (nonzero_codes A) in
      let all : length (take (50 * page_count A) (nonzero_codes A)) ≡ k = ap length (take_all (50 * page_count A) (nonzero_codes A) (enough k).room) in
      let count : page_count A + length (take (50 * page_count A) (nonzero_codes A)) ≡ k + page_count A = omega arith in
      sym (ap length (to_all y A)) ∙ to_length (page_count A) ∙ ap (λ (i : ℕ). L * i) count
