-- Tables in rows: laying a factor out, and reading the product off.
--   Laying, LayingBoth, Reading  the invariants of the loops; read-product: what was read off
--   root_ready, root_product     what the recursion takes and leaves at the root
--   laid_ready, still_laid       two tables of residues, laid out at once or one after the other, may be multiplied
use Rattle.std.specs.Prelude.{◌≡◌, refl, List, ℕ, zero, suc, ◌+◌, ◌-◌, ◌^◌, ◌≤◌, ◌<◌, length, set}
use Rattle.std.proofs.Math.Path.{sym, ap, subst}
use Rattle.std.proofs.Common.{◌∙◌, not-suc-le-zero, length-set, get_or-set_same, get_or-set_other}
use native.Mathlib.Omega.{arith}
use Rattle.definitions.specs.Sums.{at}
use Rattle.definitions.specs.Products.{subset_sum}
use Rattle.theory.specs.Lists.{at-residues, residues_of}
use Rattle.ranked_theory.specs.Layout.{rows_length, place, result_place, place_in, place_apart}
use Rattle.ranked_theory.specs.Recursion.{Laid, LaidOut, LaidBoth, BothReady, RowsMultiplied, ReadOff, ProductOfBoth}
use Rattle.ranked_theory.specs.Places.{at_next}

-- ---- laying out

pub record Laying (n side : ℕ) (A xs ys : List ℕ) (H : ℕ) : Type 0 where
  pub turn : H ≤ 2 ^ n
  pub long : length ys ≡ length xs
  pub laid : (h : ℕ) → h < H → at ys (place n side h) ≡ at A h
  pub other : (j : ℕ) → ((h : ℕ) → h < H → j ≡ place n side h → ⊥) → at ys j ≡ at xs j

pub laying_none : (n side : ℕ) (A xs : List ℕ) → Laying n side A xs xs 0
laying_none n side A xs =
    record { turn = omega arith; long = refl; laid = λ h l. absurd (not-suc-le-zero l); other = λ j no. refl }

-- another set has another place
earlier : (n side g H p : ℕ) → side ≤ 1 → H < 2 ^ n → p ≡ place n side H → g < H → place n side g ≡ p → ⊥
earlier n side g H p one h e l q = omega (arith, (place_apart n side g side H one one (omega arith) h (q ∙ e)).1)

pub laying_more : {n side : ℕ} {A xs ys : List ℕ} {H : ℕ} → Laying n side A xs ys H → side ≤ 1 → H < 2 ^ n → rows_length n ≤ length xs
    → (p x : ℕ) → p ≡ place n side H → x ≡ at A H → Laying n side A xs (set ys p x) (H + 1)
laying_more {n} {side} {A} {xs} {ys} {H} h one l room p x ep ex =
    record {
      turn = omega arith;
      long = length-set ys p x ∙ h.long;
      laid = λ g lg.
          at_next (λ k. at (set ys p x) (place n side k) ≡ at A k) H g lg
          (λ lt. get_or-set_other ys p (place n side g) x 0 (earlier n side g H p one l ep lt) ∙ h.laid g lt)
          (ap (at (set ys p x)) (sym ep) ∙ get_or-set_same ys p x 0 (omega (arith, h.long, place_in n side H one l)) ∙ ex);
      other = λ j no.
          get_or-set_other ys p j x 0 (λ q. no H (omega arith) (q ∙ ep)) ∙ h.other j (λ g lt. no g (omega arith));
    }

pub laying_all : {n side : ℕ} {A xs ys : List ℕ} {H : ℕ} → Laying n side A xs ys H → 2 ^ n ≤ H → LaidOut n side A xs ys
laying_all h l = record { laid = λ g lg. h.laid g (omega arith); other = λ j no. h.other j (λ g lt. no g (omega (arith, h.turn))) }

-- ---- laying both out

pub record LayingBoth (n : ℕ) (A B xs ys : List ℕ) (H : ℕ) : Type 0 where
  pub turn : H ≤ 2 ^ n
  pub long : length ys ≡ length xs
  pub left : (h : ℕ) → h < H → at ys (place n 0 h) ≡ at A h
  pub right : (h : ℕ) → h < H → at ys (place n 1 h) ≡ at B h
  pub behind : (x : ℕ) → rows_length n ≤ x → at ys x ≡ at xs x

pub laying_both_none : (n : ℕ) (A B xs : List ℕ) → LayingBoth n A B xs xs 0
laying_both_none n A B xs =
    record {
      turn = omega arith;
      long = refl;
      left = λ h l. absurd (not-suc-le-zero l);
      right = λ h l. absurd (not-suc-le-zero l);
      behind = λ x l. refl;
    }

-- the two factors have places apart
sides : (n g H : ℕ) → g < 2 ^ n → H < 2 ^ n → place n 0 g ≡ place n 1 H → ⊥
sides n g H l h q = omega (arith, (place_apart n 0 g 1 H (omega arith) (omega arith) l h q).0)

pub laying_both_more : {n : ℕ} {A B xs ys : List ℕ} {H : ℕ} → LayingBoth n A B xs ys H → H < 2 ^ n → rows_length n ≤ length xs
    → (p q x y : ℕ) → p ≡ place n 0 H → q ≡ place n 1 H → x ≡ at A H → y ≡ at B H → LayingBoth n A B xs (set (set ys p x) q y) (H + 1)
laying_both_more {n} {A} {B} {xs} {ys} {H} h l room p q x y ep eq ex ey =
    let once = set ys p x in
    let n₁ = length-set ys p x in
    let left_in = place_in n 0 H (omega arith) l in
    let right-in = place_in n 1 H (omega arith) l in
    record {
      turn = omega arith;
      long = length-set once q y ∙ n₁ ∙ h.long;
      left = λ g lg.
          at_next (λ k. at (set once q y) (place n 0 k) ≡ at A k) H g lg
          (λ lt.
          get_or-set_other once q (place n 0 g) y 0 (λ e. sides n g H (omega arith) l (e ∙ eq))
          ∙ get_or-set_other ys p (place n 0 g) x 0 (earlier n 0 g H p (omega arith) l ep lt) ∙ h.left g lt)
          (get_or-set_other once q (place n 0 H) y 0 (λ e. sides n H H l l (e ∙ eq))
          ∙ ap (at once) (sym ep) ∙ get_or-set_same ys p x 0 (omega (arith, h.long)) ∙ ex);
      right = λ g lg.
          at_next (λ k. at (set once q y) (place n 1 k) ≡ at B k) H g lg
          (λ lt.
          get_or-set_other once q (place n 1 g) y 0 (earlier n 1 g H q (omega arith) l eq lt)
          ∙ get_or-set_other ys p (place n 1 g) x 0 (λ e. sides n H g l (omega arith) (sym (e ∙ ep))) ∙ h.right g lt)
          (ap (at (set once q y)) (sym eq) ∙ get_or-set_same once q y 0 (omega (arith, h.long)) ∙ ey);
      behind = λ z lz.
          get_or-set_other once q z y 0 (λ e. omega arith) ∙ get_or-set_other ys p z x 0 (λ e. omega arith) ∙ h.behind z lz;
    }

pub laying_both_all : {n : ℕ} {A B xs ys : List ℕ} {H : ℕ} → LayingBoth n A B xs ys H → 2 ^ n ≤ H → LaidBoth n A B ys
laying_both_all h l = record { left = λ g lg. h.left g (omega arith); right = λ g lg. h.right g (omega arith) }

-- ---- reading off

pub record Reading (n : ℕ) (xs r₀ r : List ℕ) (H : ℕ) : Type 0 where
  pub turn : H ≤ 2 ^ n
  pub long : length r ≡ length r₀
  pub done : (h : ℕ) → h < H → at r h ≡ at xs (result_place n h)

pub reading_none : (n : ℕ) (xs r : List ℕ) → Reading n xs r r 0
reading_none n xs r = record { turn = omega arith; long = refl; done = λ h l. absurd (not-suc-le-zero l) }

pub reading_more : {n : ℕ} {xs r₀ r : List ℕ} {H : ℕ} → Reading n xs r₀ r H → H < 2 ^ n → length r₀ ≡ 2 ^ n → (p x : ℕ) → p ≡ result_place n H
    → x ≡ at xs p → Reading n xs r₀ (set r H x) (H + 1)
reading_more {n} {xs} {r₀} {r} {H} h l room p x ep ex =
    record {
      turn = omega arith;
      long = length-set r H x ∙ h.long;
      done = λ g lg.
          at_next (λ k. at (set r H x) k ≡ at xs (result_place n k)) H g lg
          (λ lt. get_or-set_other r H g x 0 (λ q. omega arith) ∙ h.done g lt)
          (get_or-set_same r H x 0 (omega (arith, h.long)) ∙ ex ∙ ap (at xs) ep);
    }

pub reading_all : {n : ℕ} {xs r₀ r : List ℕ} {H : ℕ} → Reading n xs r₀ r H → 2 ^ n ≤ H → ReadOff n xs r
reading_all h l g lg = h.done g (omega arith)

-- the product that was read off is the table
pub read_product : (m n : ℕ) (xs ys r : List ℕ) → RowsMultiplied m n xs ys → ReadOff n ys r → length r ≡ 2 ^ n → ProductOfBoth m n xs r
read_product m n xs ys r made read long A B laid =
    residues_of n m r (subset_sum n (at A) (at B)) long (λ h l. read h l ∙ made.product A B laid h l ∙ at-residues n m _ h l)

-- ---- the root

-- ---- two tables of residues, laid out

either : (P : ℕ → Type 0) → P 0 → P 1 → (side : ℕ) → side ≤ 1 → P side
either P a b zero l = a
either P a b (suc zero) l = b
either P a b (suc (suc side)) l = let no : ⊥ = omega arith in absurd no

pub laid_ready : {m n : ℕ} {A B xs : List ℕ} → n ≤ 16 → rows_length n ≤ length xs → LaidBoth n A B xs → ((h : ℕ) → h < 2 ^ n → at A h < m)
    → ((h : ℕ) → h < 2 ^ n → at B h < m) → BothReady m n xs
laid_ready {m} {n} {xs = xs} few long laid left right =
    record {
      few = few;
      long = long;
      below = λ h side l one.
          either (λ t. at xs (place n t h) < m) (subst (λ (x : ℕ). x < m) (sym (laid.left h l)) (left h l))
          (subst (λ (x : ℕ). x < m) (sym (laid.right h l)) (right h l)) side one;
    }

-- a factor stays where it is while the other one is laid out
pub still_laid : {n side side' : ℕ} (A : List ℕ) {B xs ys : List ℕ} → Laid n side A xs → LaidOut n side' B xs ys → side ≤ 1 → side' ≤ 1 → (side ≡ side' → ⊥)
    → Laid n side A ys
still_laid {n} {side} {side'} A laid out one one' apart h l =
    out.other (place n side h) (λ g lg e. apart (place_apart n side h side' g one one' l lg e).0) ∙ laid h l
