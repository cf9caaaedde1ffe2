-- The product inside the workspace, whose rows in front and tables behind them are lent apart.
use mathlib.Core.Path.{◌≡◌, sym, ap, ap₂, subst, ◌∙◌}
use mathlib.Core.List.{List, ◌++◌}
use mathlib.Core.Logic.{◌⊎◌, inl, inr, ⊎_elim}
use Prim.Native.Nat.{ℕ, ◌+◌, ◌-◌, ◌^◌, ◌<◌, ◌≤◌}
use native.Mathlib.Omega.{arith}
use lib.ListN.{length, take, drop, get_or-append}
use lib.Seq.{length-take-le, get_or-take, get_or-drop, get_or-append-add, drop_at, drop-drop}
use Rattle.std.proofs.Common.{length-append, length-drop}
use borrow.Rule.Slice.PartMut.{post_of, put_mid, take_put, drop_put}
use Rattle.definitions.specs.Sums.{at}
use Rattle.theory.specs.Parts.{at_part}
use Rattle.theory.specs.Tests.{below_or}
use Rattle.definitions.specs.Products.{subset_table}
use Rattle.ranked_theory.specs.Rows.{Placed}
use Rattle.ranked_theory.specs.Layout.{rows_length}
use Rattle.ranked_theory.specs.Recursion.{LaidBoth, BothReady, ProductOfBoth}
use Rattle.ranked_theory.specs.Tables.{laid_ready}
use Rattle.ranked_within.specs.Within.{table_at, WithinReady, WithinMade}

-- what stands behind a front of u numbers
behind : (u : ℕ) (front rest : List ℕ) → length front ≡ u → (x : ℕ) → u ≤ x → at (front ++ rest) x ≡ at rest (x - u)
behind u front rest long x l =
    let place : length front + (x - u) ≡ x = omega arith in
    ap (at (front ++ rest)) (sym place) ∙ get_or-append-add front rest (x - u) 0

-- a part of a list that was lent and has come back
pub part_placed : (start end : ℕ) (l new : List ℕ) → start ≤ end → end ≤ length l → length new ≡ end - start
    → Placed (at new) start (end - start) l (put_mid start (end - start) l new)
part_placed start end l new ordered inside long =
    let put : List ℕ = put_mid start (end - start) l new in
    let rest : List ℕ = post_of start (end - start) l in
    let front : length (take start l) ≡ start = length-take-le start l (omega arith) in
    record {
      inside = λ i h.
          ap (λ (k : ℕ). at put (k + i)) (sym front) ∙ get_or-append-add (take start l) (new ++ rest) i 0
          ∙ get_or-append new rest 0 i (omega arith);
      outside = λ j o. ⊎_elim
          (λ (h : j < start).
          sym (get_or-take start put j 0 h) ∙ ap (λ (u : List ℕ). at u j) (take_put start (end - start) l new (omega arith)) ∙ get_or-take start l j 0 h)
          (λ (h : start + (end - start) ≤ j).
          let place : end + (j - end) ≡ j = omega arith in
          ap (at put) (sym place) ∙ sym (get_or-drop end put (j - end) 0)
          ∙ ap (λ (u : List ℕ). at u (j - end)) (drop_put start end l new ordered inside long)
          ∙ get_or-drop end l (j - end) 0 ∙ ap (at l) place)
          o;
    }

-- a table of n numbers at a place, as it is lent: of the tables, which stand behind u numbers
abbrev lent : ℕ → ℕ → ℕ → List ℕ → List ℕ
lent place u n tables = take (place - u + n - (place - u)) (drop (place - u) tables)

module _ {m k source target u n : ℕ} {b w : List ℕ} (rows tables : List ℕ) (d : WithinReady m k source target b w) (is_u : u ≡ rows_length k)
    (is_n : n ≡ 2 ^ k) (whole : w ≡ rows ++ tables) (front : length rows ≡ u) where
  lent_is : lent source u n tables ≡ table_at k source w
  lent_is =
      let count : source - u + n - (source - u) ≡ 2 ^ k = omega arith in
      let place : u + (source - u) ≡ source = omega (arith, d.from.behind) in
      let back : tables ≡ drop u w = sym (ap (drop u) whole ∙ drop_at rows tables u front) in
      ap₂ (λ (i : ℕ) (l : List ℕ). take i l) count
      (ap (drop (source - u)) back ∙ drop-drop (source - u) u w ∙ ap (λ (x : ℕ). drop x w) place)

  pub lent_below : (h : ℕ) → h < 2 ^ k → at (lent source u n tables) h < m
  lent_below h l =
      subst (λ (x : List ℕ). at x h < m) (sym lent_is) (subst (λ (x : ℕ). x < m) (sym (at_part source (2 ^ k) w h l)) (d.left_below h l))

  pub both_ready : {a laid : List ℕ} → ((h : ℕ) → h < 2 ^ k → at a h < m) → length laid ≡ length rows → LaidBoth k a b laid → BothReady m k laid
  both_ready left same laid = laid_ready d.from.few (omega arith) laid left d.right_below

  pub made : {laid : List ℕ} (left r : List ℕ) → LaidBoth k (lent source u n tables) b laid → ProductOfBoth m k laid r → length left ≡ length rows
      → length r ≡ length (lent target u n tables) → WithinMade m k source target b w (left ++ put_mid (target - u) (target - u + n - (target - u)) tables r)
  made left r both product same long =
      let to : ℕ = target - u in
      let put : List ℕ = put_mid to (to + n - to) tables r in
      let behind-rows : length w ≡ length rows + length tables = ap length whole ∙ length-append rows tables in
      let fits : to + n ≤ length tables = omega (arith, d.to.inside, d.to.behind) in
      let count : length (lent target u n tables) ≡ to + n - to = length-take-le (to + n - to) (drop to tables) (omega (arith, length-drop to tables)) in
      let placed : Placed (at r) to (to + n - to) tables put = part_placed to (to + n) tables r (omega arith) fits (long ∙ count) in
      record {
        there = λ h l.
            let place : target + h - u ≡ to + h = omega (arith, d.to.behind) in
            behind u left put (same ∙ front) (target + h) (omega (arith, d.to.behind)) ∙ ap (at put) place ∙ placed.inside h (omega arith)
            ∙ ap (λ (t : List ℕ). at t h) (product (lent source u n tables) b both ∙ ap (λ (a : List ℕ). subset_table k m a b) lent_is);
        rest = λ x l no.
            let apart : (x - u < to) ⊎ (to + (to + n - to) ≤ x - u) =
            ⊎_elim (λ (f : x < target). inl (omega arith))
            (λ (g : target ≤ x).
            ⊎_elim (λ (f : x < target + n). absurd (no (x - target) (omega arith) (omega arith))) (λ (g' : target + n ≤ x). inr (omega arith))
            (below_or x (target + n))) (below_or x target) in
            behind u left put (same ∙ front) x (omega arith) ∙ placed.outside (x - u) apart
            ∙ sym (ap (λ (t : List ℕ). at t x) whole ∙ behind u rows tables front x (omega arith));
      }
