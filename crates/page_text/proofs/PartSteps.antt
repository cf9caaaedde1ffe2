-- The steps of counting lines and pages, of the rest of a line, and of a heading.
use mathlib.Core.Path.{◌≡◌, refl, sym, ◌∙◌, ap}
use mathlib.Core.Bool.{Bool, not, cond}
use mathlib.Core.List.{List, [], ◌∷◌}
use Prim.Native.Nat.{ℕ, zero, suc, ◌+◌, ◌/◌, ◌%◌, ◌<◌, max, min}
use lib.Dec.{eqb, eqb-suc-zero}
use Rattle.std.specs.List.{count_by}
use Rattle.std.proofs.lemmas.List.Sums.{count_by-le-length, sum_by-drop_more}
use native.Mathlib.Omega.{arith}
use lib.ListN.{length, drop, drop_of_length-le}
use Rattle.definitions.specs.Sums.{at}
use Rattle.definitions.specs.Show.{decimal}
use Rattle.definitions.specs.Pages.{filled, aligned, behind_column, heading_text, heading, pages_for}
use Rattle.text_pieces.specs.Text.{Writes}
use Rattle.text_pieces.specs.TextLaws.{writes_append}
use Rattle.page_theory.specs.Codes.{codes_from, from_start, from_none, from_skip, from-take}
use Rattle.page_text.specs.PageParts.{Counted}

-- ---- counting

abbrev pub some : ℕ → Bool
some value = not (eqb value 0)

module _ (A : List ℕ) where
  abbrev one_if : ℕ → ℕ
  one_if value = cond (some value) 1 0

  -- one entry more in front of what is counted
  counted_more : (c : ℕ) → c < length A → length (codes_from A (c + 1)) ≡ count_by some (drop (c + 1) A) →
      (v : ℕ) → at A c ≡ v → length (codes_from A c) ≡ count_by some (drop c A)
  counted_more c h e zero f =
      omega (arith, e, ap length (from_skip A c h f), sum_by-drop_more one_if A c 0 h, ap one_if f)
  counted_more c h e (suc v) f =
      let one : one_if (at A c) ≡ 1 = ap one_if f ∙ ap (λ (b : Bool). cond (not b) 1 0) (eqb-suc-zero v) in
      omega (arith, e, ap length (from-take A c h (λ (z : at A c ≡ 0). omega arith)), sum_by-drop_more one_if A c 0 h)

  counted_from : (n c : ℕ) → c + n ≡ length A → length (codes_from A c) ≡ count_by some (drop c A)
  counted_from zero c e = rw (from_none A c (omega arith), drop_of_length-le A {i = c} (omega arith))
  counted_from (suc n) c e = counted_more c (omega arith) (counted_from n (c + 1) (omega arith)) (at A c) refl

  pub counted : {lines : ℕ} → lines ≡ count_by some A → Counted A lines
  counted e = record {
    lines_is = e ∙ sym (sym (ap length (from_start A)) ∙ counted_from (length A) 0 (omega arith));
    few = omega (arith, e, count_by-le-length some A);
  }

pub pages_are : (k : ℕ) → max (k / 50 + min 1 (k % 50)) 1 ≡ pages_for k
unfolding pages_for
pages_are k = omega arith

-- ---- the rest of a line

pub behind_written : (k v : ℕ) {old a b c d last : List ℕ} {at i1 i2 i3 i4 r : ℕ} →
    Writes old at (32 ∷ []) i1 a → Writes a i1 (aligned 2 (decimal k)) i2 b → Writes b i2 (32 ∷ []) i3 c →
    Writes c i3 (aligned 10 (decimal v)) i4 d → Writes d i4 (10 ∷ []) r last → Writes old at (behind_column k v) r last
unfolding behind_column
behind_written k v p q s t u = writes_append p (writes_append q (writes_append s (writes_append t u)))

-- ---- the heading

pub heading_text_lem : (p q : ℕ) {old a b c d : List ℕ} {at i1 i2 i3 i4 : ℕ} →
    Writes old at (112 ∷ 97 ∷ 103 ∷ 101 ∷ 32 ∷ []) i1 a → Writes a i1 (decimal p) i2 b → Writes b i2 (32 ∷ 111 ∷ 102 ∷ 32 ∷ []) i3 c →
    Writes c i3 (decimal q) i4 d → Writes old at (heading_text p q) i4 d
unfolding heading_text
heading_text_lem p q u v w x = writes_append u (writes_append v (writes_append w x))

pub heading-written : (w p q at : ℕ) {old mid last : List ℕ} {i r : ℕ} →
    Writes old at (filled w (heading_text p q)) i mid → Writes mid i (10 ∷ []) r last → Writes old at (heading w p q) r last
unfolding heading
heading-written w p q at a b = writes_append a b
