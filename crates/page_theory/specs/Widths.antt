-- How long lines and headings are.
--   length-filled, length-aligned   a text that fits its width
--   line-length, heading-length     of a layout that fits (Fits)
--   dash_few                        a text that fits, or `-` for the empty set, fits
use Rattle.std.specs.Prelude.{◌≡◌, Bool, true, false, cond, List, [], ◌∷◌, ◌++◌, ℕ, ◌+◌, ◌-◌, ◌/◌, ◌%◌, ◌^◌, ◌<◌, ◌≤◌, eqb, length, replicate}
use Rattle.std.proofs.Common.{sym, ◌∙◌, ap, ⊎_elim}
use native.Mathlib.Omega.{arith}
use Rattle.std.proofs.lemmas.Nat.{ones-le}
use Rattle.std.proofs.Math.ListN.{length-append}
use Rattle.std.proofs.lemmas.List.{length-replicate}
use Rattle.definitions.specs.Limits.{most_controls}
use Rattle.definitions.specs.Sets.{size}
use Rattle.definitions.specs.Show.{decimal}
use Rattle.theory.specs.Tests.{below_or}
use Rattle.text_pieces.specs.TextLaws.{decimal-last, decimal_more, decimal_few}
use Rattle.definitions.specs.Pages.{filled, aligned, Layout, behind_column, line_of, heading_text, heading}
use Rattle.definitions.specs.Pages.{or_dash}

-- ---- widths

pub length-filled : (w : ℕ) (text : List ℕ) → length text ≤ w → length (filled w text) ≡ w
unfolding filled
length-filled w text h = simp (length-append, length-replicate) (omega arith)

pub length-aligned : (w : ℕ) (text : List ℕ) → length text ≤ w → length (aligned w text) ≡ w
unfolding aligned
length-aligned w text h = simp (length-append, length-replicate) (omega arith)

pub decimal_two : (v : ℕ) → v < 100 → length (decimal v) ≤ 2
decimal_two v h = ⊎_elim
    (λ (l : v < 10). omega (arith, ap length (decimal-last v l)))
    (λ (l : 10 ≤ v).
    omega
    (arith, ap length (decimal_more v l (omega arith)), length-append (decimal (v / 10)) ((48 + v % 10) ∷ []), ap length (decimal-last (v / 10) (omega arith))))
    (below_or v 10)

pub size_two : (S : ℕ) → S < 2 ^ most_controls → length (decimal (size S)) ≤ 2
size_two S h = decimal_two (size S) (omega (arith, ones-le most_controls S h))

-- ---- lines and headings

-- a layout in which every line and every heading has L bytes: a set's text fits its column, and the text of a heading, at most 29
-- bytes, its width
pub record Fits (y : Layout) (L : ℕ) : Type 0 where
  pub columns : (S : ℕ) → S < 2 ^ most_controls → length (y.column S) ≤ y.column_width
  pub line_long : L ≡ y.column_width + 15
  pub heading_long : L ≡ y.heading_width + 1
  pub wide : 29 ≤ y.heading_width

pub length_behind : (k v : ℕ) → length (decimal k) ≤ 2 → length (behind_column k v) ≡ 15
unfolding behind_column
length_behind k v h =
    omega (
      arith,
      length-append (aligned 2 (decimal k)) (32 ∷ (aligned 10 (decimal v) ++ (10 ∷ []))),
      length-append (aligned 10 (decimal v)) (10 ∷ []),
      length-aligned 2 (decimal k) h,
      length-aligned 10 (decimal v) (decimal_few v),
    )

pub heading_few : (p q : ℕ) → length (heading_text p q) ≤ 29
unfolding heading_text
heading_few p q = omega (arith, length-append (decimal p) (32 ∷ 111 ∷ 102 ∷ 32 ∷ decimal q), decimal_few p, decimal_few q)

pub length-heading : (w p q : ℕ) → 29 ≤ w → length (heading w p q) ≡ w + 1
unfolding heading
length-heading w p q h =
    omega (arith, length-append (filled w (heading_text p q)) (10 ∷ []), length-filled w (heading_text p q) (omega (arith, heading_few p q)))

module _ {y : Layout} {L : ℕ} (f : Fits y L) where
  pub line-length : (S v : ℕ) → S < 2 ^ most_controls → length (line_of y S v) ≡ L
  unfolding line_of
  line-length S v h =
      omega (
        arith,
        length-append (filled y.column_width (y.column S)) (behind_column (size S) v),
        length-filled y.column_width (y.column S) (f.columns S h),
        length_behind (size S) v (size_two S h),
        f.line_long,
      )

  pub heading-length : (p q : ℕ) → length (heading y.heading_width p q) ≡ L
  heading-length p q = length-heading y.heading_width p q f.wide ∙ sym f.heading_long

-- ---- the empty set's column

pub dash_few : (S : ℕ) (text : List ℕ) (k : ℕ) → length text ≤ k → 1 ≤ k → length (or_dash S text) ≤ k
dash_few S text k h l = by (eqb S 0)
  where
    by : (t : Bool) → length (cond t (45 ∷ []) text) ≤ k
    by true = l
    by false = h
