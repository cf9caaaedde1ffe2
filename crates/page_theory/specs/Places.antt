-- Where lines and headings stand in the text of all pages.
--   Stands, stands_take, stands_in   a piece of a text behind so many bytes
--   line_at                          behind the headings of its own page and of those before it, and behind the lines before it
--   heading-at                       behind 50 lines and a heading for each page before it
use Rattle.std.specs.Prelude.{◌≡◌, refl, ℕ, suc, ◌+◌, ◌*◌, ◌-◌, ◌/◌, ◌%◌, ◌^◌, ◌<◌, ◌≤◌, length, take, drop}
use Rattle.std.proofs.Common.{sym, ◌∙◌, ap, mul-add, arith, length-append, length-take, length-drop, take_at, drop_at, length-take-le, get_or-take, get_or-drop}
use mathlib.Core.List.{List, [], ◌∷◌, ◌++◌, flat_map, append_assoc, append-nil}
use Rattle.std.proofs.Math.Seq.{split_at}
use Rattle.definitions.specs.Limits.{most_controls}
use Rattle.definitions.specs.Sums.{tabulate, at}
use Rattle.definitions.specs.Pages.{Layout, line_of, heading, nonzero_codes, page_count, on_page, lines_of, page_text, pages_text}
use Rattle.theory.specs.Lists.{length-tabulate, at-tabulate, tabulate-append}
use Rattle.page_theory.specs.Widths.{Fits, line-length, heading-length}
use Rattle.page_theory.specs.Codes.{codes_rise}
use Rattle.page_theory.specs.Paging.{enough, pages_to, lines_length, page_below, to_length}

-- ---- a piece of a text

-- the piece stands in the text behind `place` bytes
pub record Stands (text : List ℕ) (place : ℕ) (piece : List ℕ) : Type 0 where
  pub before : List ℕ
  pub behind : List ℕ
  pub split : text ≡ before ++ (piece ++ behind)
  pub long : length before ≡ place

pub stands_take : {text piece : List ℕ} {place : ℕ} (L : ℕ) → length piece ≡ L → Stands text place piece → take L (drop place text) ≡ piece
stands_take {piece = piece} {place = place} L l s =
    ap (λ (t : List ℕ). take L (drop place t)) s.split
    ∙ ap (take L) (drop_at s.before (piece ++ s.behind) place s.long)
    ∙ take_at piece s.behind L l

-- a piece of a piece
pub stands_in : {text outer piece : List ℕ} {a b : ℕ} → Stands text a outer → Stands outer b piece → Stands text (a + b) piece
stands_in s t = record {
  before = s.before ++ t.before;
  behind = t.behind ++ s.behind;
  split = s.split ∙ ap (λ (l : List ℕ). s.before ++ (l ++ s.behind)) t.split ∙ simp append_assoc;
  long = omega (arith, length-append s.before t.before);
}

flat_map_two : (f : ℕ → List ℕ) (xs ys : List ℕ) → flat_map f (xs ++ ys) ≡ flat_map f xs ++ flat_map f ys
unfolding flat_map
flat_map_two f [] ys = refl
flat_map_two f (x ∷ xs) ys = ap (λ (l : List ℕ). f x ++ l) (flat_map_two f xs ys) ∙ sym (append_assoc (f x) (flat_map f xs) (flat_map f ys))

-- the text of one of some numbers, in the texts of all of them
one_stands : (f : ℕ → List ℕ) (xs : List ℕ) (j : ℕ) → j < length xs → Stands (flat_map f xs) (length (flat_map f (take j xs))) (f (at xs j))
unfolding flat_map
one_stands f xs j h = record {
  before = flat_map f (take j xs);
  behind = flat_map f (drop (suc j) xs);
  split = ap (flat_map f) (split_at xs j 0 h) ∙ flat_map_two f (take j xs) (at xs j ∷ drop (suc j) xs);
  long = refl;
}

-- ---- a page

take-tabulate : (i n : ℕ) → i ≤ n → take i (tabulate n (λ p. p)) ≡ tabulate i (λ p. p)
take-tabulate i n h =
    let all : n ≡ i + (n - i) = omega arith in
    ap (λ (k : ℕ). take i (tabulate k (λ p. p))) all
    ∙ ap (take i) (tabulate-append i (n - i) (λ p. p))
    ∙ take_at (tabulate i (λ p. p)) (tabulate (n - i) (λ p. i + p)) i (length-tabulate i (λ p. p))

page_stands : (y : Layout) (A : List ℕ) (i : ℕ) → i < page_count A → Stands (pages_text y A) (length (pages_to y A i)) (page_text y A i)
unfolding pages_text pages_to
page_stands y A i h =
    rw (take-tabulate i (page_count A) (omega arith), at-tabulate (page_count A) (λ p. p) i h)
    at (one_stands (page_text y A) (tabulate (page_count A) (λ p. p)) i (omega (arith, length-tabulate (page_count A) (λ p. p))))

heading_first : (y : Layout) (A : List ℕ) (i : ℕ) → Stands (page_text y A i) 0 (heading y.heading_width (i + 1) (page_count A))
unfolding page_text
heading_first y A i = record { before = []; behind = lines_of y A (on_page A i); split = refl; long = refl }

lines_second : {y : Layout} {L : ℕ} → Fits y L → (A : List ℕ) (i : ℕ) → Stands (page_text y A i) L (lines_of y A (on_page A i))
unfolding page_text
lines_second {y} f A i = record {
  before = heading y.heading_width (i + 1) (page_count A);
  behind = [];
  split = ap (λ (l : List ℕ). heading y.heading_width (i + 1) (page_count A) ++ l) (sym (append-nil (lines_of y A (on_page A i))));
  long = heading-length f (i + 1) (page_count A);
}

line-among : (y : Layout) (A codes : List ℕ) (j : ℕ) → j < length codes →
    Stands (lines_of y A codes) (length (lines_of y A (take j codes))) (line_of y (at codes j) (at A (at codes j)))
unfolding lines_of
line-among y A codes j h = one_stands (λ S. line_of y S (at A S)) codes j h

on_page_lem : (A : List ℕ) (i j : ℕ) → j < 50 → at (on_page A i) j ≡ at (nonzero_codes A) (50 * i + j)
on_page_lem A i j h = get_or-take 50 (drop (50 * i) (nonzero_codes A)) j 0 h ∙ get_or-drop (50 * i) (nonzero_codes A) j 0

-- ---- where lines and headings stand

module _ {y : Layout} {L : ℕ} (f : Fits y L) (A : List ℕ) (small : length A ≤ 2 ^ most_controls) where
  -- full pages
  full_length : (i : ℕ) → 50 * i ≤ length (nonzero_codes A) → length (pages_to y A i) ≡ L * (51 * i)
  full_length i h =
      let all : i + length (take (50 * i) (nonzero_codes A)) ≡ 51 * i = omega (arith, length-take-le (50 * i) (nonzero_codes A) h) in
      to_length f A small i ∙ ap (λ (k : ℕ). L * k) all

  pub heading-at : (i : ℕ) → i < page_count A → take L (drop (L * (51 * i)) (pages_text y A)) ≡ heading y.heading_width (i + 1) (page_count A)
  heading-at i h =
      let e = enough (length (nonzero_codes A)) in
      let place : length (pages_to y A i) + 0 ≡ L * (51 * i) = omega (arith, full_length i (omega arith)) in
      stands_take L (heading-length f (i + 1) (page_count A)) (rw place at (stands_in (page_stands y A i h) (heading_first y A i)))

  -- the first lines of a page
  first_length : (i j : ℕ) → j ≤ length (on_page A i) → length (lines_of y A (take j (on_page A i))) ≡ L * j
  first_length i j h =
      let all : length (take j (on_page A i)) ≡ j = length-take-le j (on_page A i) h in
      lines_length f A small (take j (on_page A i))
      (λ t k. rw (get_or-take j (on_page A i) t 0 (omega arith)) (page_below f A small i t (omega arith)))
      ∙ ap (λ (k : ℕ). L * k) all

  -- line j of page i
  line_stands : (i j : ℕ) → j < 50 → 50 * i + j < length (nonzero_codes A) →
      let S = at (nonzero_codes A) (50 * i + j) in Stands (pages_text y A) (L * (51 * i + 1 + j)) (line_of y S (at A S))
  line_stands i j b h =
      let e = enough (length (nonzero_codes A)) in
      let many : j < length (on_page A i) = simp (length-take, length-drop) (omega arith) in
      let place : length (pages_to y A i) + (L + length (lines_of y A (take j (on_page A i)))) ≡ L * (51 * i + 1 + j) =
      omega (arith, full_length i (omega arith), first_length i j (omega arith), mul-add L (51 * i + 1) j, mul-add L (51 * i) 1) in
      rw (place, on_page_lem A i j b)
      at (stands_in (page_stands y A i (omega arith)) (stands_in (lines_second f A i) (line-among y A (on_page A i) j many)))

  pub line_at : (k : ℕ) → k < length (nonzero_codes A) →
      take L (drop (L * (k + k / 50 + 1)) (pages_text y A)) ≡ line_of y (at (nonzero_codes A) k) (at A (at (nonzero_codes A) k))
  line_at k h =
      let same : 50 * (k / 50) + k % 50 ≡ k = omega arith in
      let place : 51 * (k / 50) + 1 + k % 50 ≡ k + k / 50 + 1 = omega arith in
      let S = at (nonzero_codes A) k in
      stands_take L (line-length f S (at A S) (omega (arith, (codes_rise A).below k h)))
      (rw (place, same) at (line_stands (k / 50) (k % 50) (omega arith) (omega arith)))
