-- The steps of writing pages, for any layout: a line, the lines of a page, all pages; and how many bytes these have.
use Rattle.std.specs.Prelude.{◌≡◌, refl, ℕ, zero, suc, ◌+◌, ◌*◌, ◌-◌, ◌^◌, ◌<◌, ◌≤◌, length, take, drop}
use Rattle.std.proofs.Common.{sym, ◌∙◌, ap, subst, mul-add, mul-one, mul-suc, mul-le-mul_left, arith, length-append, length-take, length-drop, drop_of_length-le, drop-drop, take_all}
use Rattle.std.proofs.Math.Path.{ap₂}
use mathlib.Core.List.{List, [], ◌∷◌, ◌++◌, flat_map}
use Rattle.definitions.specs.Limits.{most_controls}
use Rattle.definitions.specs.Sums.{at}
use Rattle.definitions.specs.Sets.{size}
use Rattle.theory.specs.Tests.{zero_is_not_one}
use Rattle.text_pieces.specs.Text.{Writes}
use Rattle.text_pieces.specs.TextLaws.{writes_append, writes_none, writes_same, writes_length, flat_map_one}
use Rattle.definitions.specs.Pages.{filled, Layout, behind_column, line_of, heading, nonzero_codes, pages_for, page_count, on_page, lines_of, page_text, pages_text}
use Rattle.nonzero_entries.specs.Entries.{ZerosAt, NextEntry}
use Rattle.nonzero_entries.specs.EntryLaws.{skipped_zeros}
use Rattle.page_theory.specs.Widths.{Fits, line-length}
use Rattle.page_theory.specs.Codes.{codes_from, from_start, from_none, from_skip, from-take}
use Rattle.page_theory.specs.Paging.{pages_to, to_none, to_more, to_all, to_length, pages_length, page_length, enough}
use Rattle.page_text.specs.PageParts.{page_from, LinesRoom, LinesWritten, PagesRoom, Counted}
use Rattle.page_text.specs.declared.Place.{Place}

-- ---- a line

pub line-written : (y : Layout) (S v : ℕ) {old mid last : List ℕ} {at i r k : ℕ} → k ≡ size S →
    Writes old at (filled y.column_width (y.column S)) i mid → Writes mid i (behind_column k v) r last → Writes old at (line_of y S v) r last
unfolding line_of
line-written y S v {old} {mid} {last} {at} {i} {r} e a b =
    writes_append a (subst (λ (j : ℕ). Writes mid i (behind_column j v) r last) e b)

-- ---- the lines of a page

-- behind its first k members a list goes on with x and xs
record Next (l : List ℕ) (k x : ℕ) (xs : List ℕ) : Type 0 where
  taken : take (suc k) l ≡ take k l ++ (x ∷ [])
  left : drop (suc k) l ≡ xs
  inside : k < length l

next : (l : List ℕ) (k x : ℕ) (xs : List ℕ) → drop k l ≡ x ∷ xs → Next l k x xs
next [] zero x xs e = absurd (zero_is_not_one (cc))
next [] (suc k) x xs e = absurd (zero_is_not_one (cc))
next (a ∷ l) zero x xs e = record {
  taken = let f : a ≡ x = cc in ap (λ (b : ℕ). b ∷ []) f;
  left = cc;
  inside = omega arith;
}
next (a ∷ l) (suc k) x xs e =
    let n = next l k x xs e in
    record { taken = ap (λ (m : List ℕ). a ∷ m) n.taken; left = n.left; inside = omega (arith, n.inside) }

lines_one : (y : Layout) (A codes : List ℕ) (S : ℕ) → lines_of y A (codes ++ (S ∷ [])) ≡ lines_of y A codes ++ line_of y S (at A S)
unfolding lines_of
lines_one y A codes S = flat_map_one (λ c. line_of y c (at A c)) codes S

lines_none : (y : Layout) (A : List ℕ) → lines_of y A [] ≡ []
unfolding lines_of flat_map
lines_none y A = refl

-- zeros have no line, so the codes from a place on are those from the next entry on that is not 0
codes_skip : (A : List ℕ) (from k : ℕ) → from + k ≤ length A → ZerosAt A from k → codes_from A (from + k) ≡ codes_from A from
codes_skip A from zero h z = ap (codes_from A) (let e : from + 0 ≡ from = omega arith in e)
codes_skip A from (suc k) h z =
    ap (codes_from A) (let e : from + suc k ≡ from + k + 1 = omega arith in e)
    ∙ sym (from_skip A (from + k) (omega arith) (z k (omega arith)))
    ∙ codes_skip A from k (omega arith) (λ i l. z i (omega arith))

codes_next : {A : List ℕ} {from r : ℕ} → NextEntry A from r → codes_from A r ≡ codes_from A from
codes_next {A} {from} {r} n =
    let s = n.zeros_before in
    let e : r ≡ from + (r - from) = omega (arith, s.behind) in
    ap (codes_from A) e ∙ codes_skip A from (r - from) (omega (arith, s.behind, s.inside)) (skipped_zeros A from r s)

-- so many lines of a page are written; the others are those from the code on, which is the next code that has a line
pub record LinesSoFar (y : Layout) (L : ℕ) (A : List ℕ) (c : ℕ) (old : List ℕ) (i : ℕ) (out : List ℕ) (place code left : ℕ) : Type 0 where
  pub few : left ≤ 50
  pub writes : Writes old i (lines_of y A (take (50 - left) (codes_from A c))) place out
  pub others : codes_from A code ≡ drop (50 - left) (codes_from A c)
  pub ends : place ≡ i + L * (50 - left)
  pub inside : code ≤ length A
  pub found : code < length A → 0 < at A code

pub lines_start : (y : Layout) (L : ℕ) (A : List ℕ) (c : ℕ) (old : List ℕ) (i : ℕ) {code : ℕ} → i ≤ length old → NextEntry A c code →
    LinesSoFar y L A c old i old i code 50
lines_start y L A c old i h n = record {
  few = omega arith;
  writes = writes_same (sym (lines_none y A)) (writes_none old i h);
  others = codes_next n;
  ends = omega arith;
  inside = n.zeros_before.inside;
  found = n.found;
}

module _ {y : Layout} {L : ℕ} {A : List ℕ} {c : ℕ} {old : List ℕ} {i : ℕ} {out : List ℕ} {place code left : ℕ}
    (s : LinesSoFar y L A c old i out place code left) where
  module _ (h : code < length A) (l : 0 < left) where
    line-next : Next (codes_from A c) (50 - left) code (codes_from A (code + 1))
    line-next =
        next (codes_from A c) (50 - left) code (codes_from A (code + 1))
        (sym s.others ∙ from-take A code h (λ (e : at A code ≡ 0). omega (arith, s.found h)))

    pub line_room : LinesRoom L A c i old → place + L ≤ length out
    line_room r =
        let n = line-next in
        let k = 50 - left in
        let long : suc k ≤ length (page_from A c) = omega (arith, length-take 50 (codes_from A c), n.inside) in
        let most : L * suc k ≤ L * length (page_from A c) = mul-le-mul_left L long in
        let one : L * suc k ≡ L * k + L = mul-suc L k in
        omega (arith, s.ends, r.room, writes_length s.writes)

    pub line_more : {place' code' : ℕ} {last : List ℕ} → Fits y L → length A ≤ 2 ^ most_controls →
        Writes out place (line_of y code (at A code)) place' last → NextEntry A (code + 1) code' →
        LinesSoFar y L A c old i last place' code' (left - 1)
    line_more f small w e =
        let n = line-next in
        let k : suc (50 - left) ≡ 50 - (left - 1) = omega (arith, s.few) in
        record {
          few = omega (arith, s.few);
          writes =
              writes_same
              (sym (lines_one y A (take (50 - left) (codes_from A c)) code)
              ∙ ap (lines_of y A) (sym n.taken ∙ ap (λ (j : ℕ). take j (codes_from A c)) k))
              (writes_append s.writes w);
          others = codes_next e ∙ sym n.left ∙ ap (λ (j : ℕ). drop j (codes_from A c)) k;
          ends =
              omega
              (arith, w.next_is, s.ends, line-length f code (at A code) (omega arith), mul-suc L (50 - left), ap (λ (j : ℕ). L * j) k);
          inside = e.zeros_before.inside;
          found = e.found;
        }

  -- the page is full
  pub lines_full : left ≡ 0 → LinesWritten y A c old i (record { next = place; code = code }) out
  lines_full e =
      let k : 50 - left ≡ 50 = omega arith in
      record {
        writes = writes_same (ap (λ (j : ℕ). lines_of y A (take j (codes_from A c))) k) s.writes;
        others = s.others ∙ ap (λ (j : ℕ). drop j (codes_from A c)) k;
        inside = s.inside;
      }

  -- the table ends
  pub lines_end : length A ≤ code → LinesWritten y A c old i (record { next = place; code = code }) out
  lines_end h =
      let l = codes_from A c in
      let none : drop (50 - left) l ≡ [] = sym s.others ∙ from_none A code h in
      let short : length l ≤ 50 - left = omega (arith, ap length none, length-drop (50 - left) l) in
      record {
        writes = writes_same (ap (lines_of y A) (take_all (50 - left) l short ∙ sym (take_all 50 l (omega arith)))) s.writes;
        others = from_none A code h ∙ sym (drop_of_length-le l {i = 50} (omega arith));
        inside = s.inside;
      }

-- ---- all pages

pub record PagesSoFar (y : Layout) (A : List ℕ) (old out : List ℕ) (place code page : ℕ) : Type 0 where
  pub writes : Writes old 0 (pages_to y A page) place out
  pub others : codes_from A code ≡ drop (50 * page) (nonzero_codes A)
  pub inside : code ≤ length A

pub pages_start : (y : Layout) (A old : List ℕ) → PagesSoFar y A old old 0 0 0
pages_start y A old = record {
  writes = writes_same (sym (to_none y A)) (writes_none old 0 (omega arith));
  others = from_start A;
  inside = omega arith;
}

page_from_lem : (A : List ℕ) (code page : ℕ) → codes_from A code ≡ drop (50 * page) (nonzero_codes A) → page_from A code ≡ on_page A page
page_from_lem A code page e = ap (take 50) e

module _ {y : Layout} {L : ℕ} (f : Fits y L) {A old out : List ℕ} {place code page pages : ℕ}
    (s : PagesSoFar y A old out place code page) (r : PagesRoom y A pages old) (h : page < pages) where
  -- what is written and this page are within the whole
  to_next : place + L * (1 + length (on_page A page)) ≤ length out
  to_next =
      let small = r.small in
      let more : length (pages_to y A (page + 1)) ≡ length (pages_to y A page) + L * (1 + length (on_page A page)) =
      ap length (to_more y A page) ∙ length-append (pages_to y A page) (page_text y A page)
      ∙ ap (λ (k : ℕ). length (pages_to y A page) + k) (page_length f A small page) in
      let all : length (pages_to y A (page + 1)) ≤ length (pages_text y A) =
      rw (to_length f A small (page + 1), pages_length f A small)
      (mul-le-mul_left L (omega (arith, r.count, length-take (50 * (page + 1)) (nonzero_codes A)))) in
      omega (arith, s.writes.next_is, r.room, writes_length s.writes)

  pub heading_room : place + L ≤ length out
  heading_room = omega (arith, to_next, mul-add L 1 (length (on_page A page)), mul-one L)

  -- behind a heading
  pub lines_room : {at : ℕ} {mid : List ℕ} → at ≡ place + L → length mid ≡ length out → LinesRoom L A code at mid
  lines_room e k = record {
    small = r.small;
    from = s.inside;
    room =
        omega (
          arith,
          to_next,
          mul-add L 1 (length (on_page A page)),
          mul-one L,
          ap (λ (l : List ℕ). L * length l) (page_from_lem A code page s.others),
        );
  }

  this_page : heading y.heading_width (page + 1) pages ++ lines_of y A (page_from A code) ≡ page_text y A page
  unfolding page_text
  this_page =
      ap₂ (λ (q : ℕ) (cs : List ℕ). heading y.heading_width (page + 1) q ++ lines_of y A cs) r.count
      (page_from_lem A code page s.others)

  pub pages_more : {at : ℕ} {mid last : List ℕ} {p : Place} → Writes out place (heading y.heading_width (page + 1) pages) at mid →
      LinesWritten y A code mid at p last → PagesSoFar y A old last p.next p.code (page + 1)
  pages_more w l = record {
    writes =
        writes_same (ap (λ (t : List ℕ). pages_to y A page ++ t) this_page ∙ sym (to_more y A page))
        (writes_append s.writes (writes_append w l.writes));
    others =
        l.others ∙ ap (drop 50) s.others ∙ drop-drop 50 (50 * page) (nonzero_codes A)
        ∙ ap (λ (k : ℕ). drop k (nonzero_codes A)) (one_page page);
    inside = l.inside;
  }
    where
      one_page : (j : ℕ) → 50 * j + 50 ≡ 50 * (j + 1)
      one_page j = omega arith

pub pages_all : {y : Layout} {A old out : List ℕ} {place code page pages : ℕ} → PagesSoFar y A old out place code page → PagesRoom y A pages old →
    page ≡ pages → Writes old 0 (pages_text y A) place out
pages_all {y} {A} s r e = writes_same (ap (pages_to y A) (e ∙ r.count) ∙ to_all y A) s.writes

-- ---- how many bytes

module _ {y : Layout} {L : ℕ} (f : Fits y L) {A : List ℕ} {lines pages : ℕ} (small : length A ≤ 2 ^ most_controls)
    (k : Counted A lines) (p : pages ≡ pages_for lines) where
  pub pages_is : pages ≡ page_count A
  pages_is = p ∙ ap pages_for k.lines_is

  pub few_pages : pages ≤ 1 + lines
  few_pages = let e = enough lines in omega (arith, e.close, p)

  pub count_is : L * (lines + pages) ≡ length (pages_text y A)
  count_is = sym (pages_length f A small ∙ ap₂ (λ (i j : ℕ). L * (i + j)) (sym k.lines_is) (sym pages_is))
