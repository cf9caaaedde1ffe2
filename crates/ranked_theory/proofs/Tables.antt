-- The rows of two factors, laid out, and what the whole recursion makes of them.
use Rattle.std.specs.Prelude.{◌≡◌, List, ◌++◌, ℕ, ◌+◌, ◌-◌, ◌*◌, ◌%◌, ◌^◌, ◌≤◌, ◌<◌, length, take, drop}
use Rattle.std.proofs.Math.Path.{sym, ap, subst}
use Rattle.std.proofs.Common.{◌∙◌, get_or-take, get_or-drop, get_or-append-add, length-take-le}
use Rattle.std.proofs.Math.Nat.{mod-eq_of_lt}
use native.Mathlib.Omega.{arith}
use Rattle.std.proofs.Math.ListN.{get_or-append}
use Rattle.definitions.specs.Sums.{at}
use Rattle.definitions.specs.Sets.{size}
use Rattle.definitions.specs.Products.{subset_sum}
use Rattle.theory.specs.Lists.{at-residues}
use Rattle.ranked_theory.specs.Cover.{cover}
use Rattle.ranked_theory.specs.Lowest.{ranked, ranked_on, ranked_ranks, cover-ranked}
use Rattle.ranked_theory.specs.Layout.{width, rows_length, place, result_place}
use Rattle.ranked_theory.specs.Recursion.{Ready, Factor, Worked, Laid, LaidBoth, BothReady, RowsMultiplied}
use Rattle.ranked_theory.specs.Places.{row_in}

module _ (m n : ℕ) (xs : List ℕ) (ready : BothReady m n xs) (used : ℕ) (all : used ≡ rows_length n) where
  row_within : (u k : ℕ) → u < 2 ^ n → k < width n → u * width n + k < used
  unfolding rows_length
  row_within u k lu lk = omega (arith, row_in u (2 ^ n) (width n) lu, all)

  at_front : (u k : ℕ) → u < 2 ^ n → k < width n → at (take used xs) (u * width n + k) ≡ at xs (u * width n + k)
  at_front u k lu lk = get_or-take used xs (u * width n + k) 0 (row_within u k lu lk)

  pub part_fits : used ≤ length xs
  part_fits = omega (arith, ready.long)

  pub part_long : length (take used xs) ≡ used
  part_long = length-take-le used xs part_fits

  pub root_ready : Ready m n n 0 (take used xs)
  unfolding place rows_length
  root_ready =
      record {
        few = ready.few;
        room = omega arith;
        long = part_long ∙ all;
        filled = λ u k lu h. subst (λ (x : ℕ). x < m) (sym (at_front u k lu (omega arith))) (ready.below u k lu (omega arith));
      }

  root_factor : (side : ℕ) → side ≤ 1 → (A : List ℕ) → Laid n side A xs → Factor m n side n 0 (take used xs) (ranked (at A))
  unfolding place
  root_factor side one A h u k lu lo hi =
      let e : side ≡ 2 * (size u + 0 - k) + side = omega arith in
      let l : at A u < m = subst (λ (x : ℕ). x < m) (h u lu) (ready.below u side lu one) in
      subst (λ (t : ℕ). at (take used xs) (u * width n + t) ≡ ranked (at A) u k % m) e
      (at_front u side lu (omega arith) ∙ h u lu ∙ sym (ap (λ (x : ℕ). x % m) (ranked_on (at A) u k (omega arith)) ∙ mod-eq_of_lt l))

  module _ (l : List ℕ) (worked : Worked m n n 0 (take used xs) l) (l_long : length l ≡ length (take used xs)) where
    rows_product : (A B : List ℕ) → LaidBoth n A B xs → (u : ℕ) → u < 2 ^ n
        → at (l ++ drop used xs) (result_place n u) ≡ subset_sum n (at A) (at B) u % m
    unfolding result_place
    rows_product A B h u lu =
        let k : size u + 0 + 0 ≡ size u = omega arith in
        let z : 2 * n ≡ 2 * n - 0 = omega arith in
        get_or-append l (drop used xs) 0 (u * width n + 2 * n) (omega (arith, row_within u (2 * n) lu (omega arith), part_long))
        ∙ ap (λ (i : ℕ). at l (u * width n + i)) z
        ∙ worked.product (ranked (at A)) (ranked (at B)) (ranked_ranks n (at A)) (ranked_ranks n (at B)) (root_factor 0 (omega arith) A h.left)
        (root_factor 1 (omega arith) B h.right) u 0 lu (omega arith) (omega arith)
        ∙ ap (λ (x : ℕ). cover n (ranked (at A)) (ranked (at B)) u x % m) k
        ∙ ap (λ (x : ℕ). x % m) (cover-ranked n (at A) (at B) u lu)

    pub root_product : RowsMultiplied m n xs (l ++ drop used xs)
    root_product =
        record {
          product = λ A B h u lu. rows_product A B h u lu ∙ sym (at-residues n m _ u lu);
          behind = λ x h.
              let back : used + (x - used) ≡ x = omega arith in
              let e : length l ≡ used = l_long ∙ part_long in
              ap (at (l ++ drop used xs)) (sym back) ∙ ap (λ (i : ℕ). at (l ++ drop used xs) (i + (x - used))) (sym e)
              ∙ get_or-append-add l (drop used xs) (x - used) 0 ∙ get_or-drop used xs (x - used) 0 ∙ ap (at xs) back;
        }
