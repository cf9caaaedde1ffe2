-- What lists of changes keep, and the law of boards.
--   Sound, fresh_sound           E is the exponential of A
--   product, run-product         the product of E and I, on any three accepted tables
--   board_law, fresh_numbers     the law, for every list; none is refused but for its set or its weight
--   law_determines               no other board meets the law
use Rattle.std.specs.Prelude.{◌≡◌}
use Rattle.std.proofs.Math.Path.{refl, ap, ap₂}
use Rattle.std.proofs.Common.{sym, subst, ◌∙◌, mod-eq_of_lt, zero-add, pow_pos}
use mathlib.Core.List.{List, [], ◌∷◌, map}
use Prim.Native.Nat.{ℕ, ◌+◌, ◌-◌, ◌%◌, ◌^◌}
use Rattle.std.proofs.Math.Nat.{mod-add-mod, zero-mod}
use native.Mathlib.Omega.{arith}
use Rattle.definitions.specs.Sums.{tabulate, at}
use Rattle.definitions.specs.Products.{residues, subset_table}
use Rattle.definitions.specs.Partitions.{exponential_table, unit, IsInverse}
use Rattle.definitions.specs.Boards.{Board, raised_over, fresh_board}
use Rattle.definitions.specs.Boards.{Change, next, run, run_numbers, adds_at, takes_at, total, BoardLaw}
use Rattle.theory.specs.Lists.{at-tabulate, tabulate_ext, tabulate_self}
use Rattle.theory.specs.Entries.{at_below}
use Rattle.theory.specs.Remainders.{mod-sub}
use Rattle.theory.specs.Tables.{product-unit}
use Rattle.theory.specs.Inverse.{unit_table, inverse_unique}
use Rattle.checks.specs.Accepted.{InRange, IsTable, table_accepts, table_accepted}
use Rattle.laws_theory.specs.Accepting.{residues_table}
use Rattle.board_theory.specs.Raised.{exponential_fresh, product_kept, added_first}
use Rattle.board_theory.specs.Accepted.{IsBoard, own_number, own_number_lem}
use Rattle.board_theory.specs.Moves.{table_by_table, moved, place, amount, opposite, IsMove, is_move}
use Rattle.board_theory.specs.Runs.{next_keeps, next-board, moved_board, run_weight}
use Rattle.board_theory.proofs.Raised.{exponential_raised}

module _ (n m : ℕ) where
  -- what holds of a fresh board, and is kept
  pub record Sound (b : Board) : Type 0 where
    pub board : IsBoard n m b
    pub first : at b.weights 0 ≡ 0
    pub is : exponential_table n m b.weights ≡ b.exponential

  moved_sound : (S c d : ℕ) (b : Board) → IsMove n m S c d → Sound b → Sound (moved n m S c d b)
  moved_sound S c d b k h = record {
    board = moved_board n m S c d b h.board;
    first = added_first n m S c k.some b.weights h.first;
    is = exponential_raised n m S c k.some k.code b.weights ∙ ap (raised_over n m S c) h.is;
  }

  next_sound : (b : Board) (x : Change) → Sound b → Sound (next n m b x)
  next_sound b x h = next_keeps n m Sound b x h (λ e. moved_sound (place n m x) (amount n m x) (opposite n m x) b (is_move n m b x e) h)

  -- ---- the product of E and I

  abbrev pub product : Board → List ℕ
  product b = subset_table n m b.exponential b.inverse

  next-product : (b : Board) (x : Change) → IsBoard n m b → product (next n m b x) ≡ product b
  next-product b x h = next_keeps n m (λ (c : Board). product c ≡ product b) b x refl (λ e.
      let k = is_move n m b x e in
      product_kept n m (place n m x) (amount n m x) (opposite n m x) k.some k.code k.back b.exponential b.inverse h.inverse)

  -- on any three accepted tables
  pub run-product : (b : Board) (xs : List Change) → IsBoard n m b → product (run n m b xs) ≡ product b
  unfolding run
  run-product b [] h = refl
  run-product b (x ∷ xs) h = run-product (next n m b x) xs (next-board n m b x h) ∙ next-product b x h

  -- ---- lists

  run_sound : (b : Board) (xs : List Change) → Sound b → Sound (run n m b xs)
  unfolding run
  run_sound b [] h = h
  run_sound b (x ∷ xs) h = run_sound (next n m b x) xs (next_sound b x h)

  module _ (r : InRange n m) where
    zeros_table : residues n m (λ S. 0) ≡ tabulate (2 ^ n) (λ S. 0)
    unfolding residues
    zeros_table = tabulate_ext (2 ^ n) _ _ (λ S h. zero-mod m)

    fresh_unit : IsTable n m (tabulate (2 ^ n) unit)
    fresh_unit = subst (IsTable n m) (unit_table n m r.lowest) (residues_table r unit)

    pub fresh_sound : Sound (fresh_board n)
    fresh_sound = record {
      board = record {
        range = r;
        weights = subst (IsTable n m) zeros_table (residues_table r (λ S. 0));
        exponential = fresh_unit;
        inverse = fresh_unit;
      };
      first = at-tabulate (2 ^ n) (λ S. 0) 0 (pow_pos n);
      is = exponential_fresh n m r.lowest;
    }

    -- I is the inverse of E
    run_inverse : (xs : List Change) → IsInverse n m (run n m (fresh_board n) xs).exponential (run n m (fresh_board n) xs).inverse
    run_inverse xs =
        let i : IsTable n m (run n m (fresh_board n) xs).inverse = (run_sound (fresh_board n) xs fresh_sound).board.inverse in
        record {
          long = i.size;
          below = at_below m _ (λ S h. i.below S);
          product = run-product (fresh_board n) xs fresh_sound.board
              ∙ product-unit n m (tabulate (2 ^ n) unit) fresh_unit.size (λ S h. fresh_unit.below S);
        }

    -- the law, for every list of changes
    pub board_law : (xs : List Change) → BoardLaw n m xs (run n m (fresh_board n) xs)
    board_law xs =
        let s = run_sound (fresh_board n) xs fresh_sound in
        record {
          weights_accepted = table_accepts n m _ r s.board.weights;
          exponential_accepted = table_accepts n m _ r s.board.exponential;
          inverse_accepted = table_accepts n m _ r s.board.inverse;
          first = s.first;
          exponential_is = sym s.is;
          inverse_is = run_inverse xs;
          weight_is = λ S h.
              let W : ℕ = at (run n m (fresh_board n) xs).weights S in
              let t : ℕ = total n m (takes_at S) (fresh_board n) xs in
              let a : ℕ = total n m (adds_at S) (fresh_board n) xs in
              let same : (t + W) % m ≡ a % m =
              ap (λ (k : ℕ). k % m) (let e : t + W ≡ W + t = omega arith in e)
              ∙ run_weight n m S h (fresh_board n) xs ∙ ap (λ (k : ℕ). (k + a) % m) (at-tabulate (2 ^ n) (λ S. 0) S h) ∙ ap (λ (k : ℕ). k % m) (zero-add a) in
              sym (mod-eq_of_lt (s.board.weights.below S)) ∙ sym (mod-sub m (omega (arith, r.lowest)) W t)
              ∙ ap (λ (k : ℕ). (k + (m - t % m)) % m) same ∙ mod-add-mod a m (m - t % m);
        }

    -- only this board meets it
    pub law_determines : (xs : List Change) (b c : Board) → BoardLaw n m xs b → BoardLaw n m xs c → b ≡ c
    law_determines xs b c h k = table_by_table weights exponential inverse where
      weights : b.weights ≡ c.weights
      weights =
          sym (tabulate_self (2 ^ n) b.weights (table_accepted n m b.weights h.weights_accepted).1.size)
          ∙ tabulate_ext (2 ^ n) _ _ (λ S s. h.weight_is S s ∙ sym (k.weight_is S s))
          ∙ tabulate_self (2 ^ n) c.weights (table_accepted n m c.weights k.weights_accepted).1.size

      exponential : b.exponential ≡ c.exponential
      exponential = h.exponential_is ∙ ap (exponential_table n m) weights ∙ sym k.exponential_is

      inverse : b.inverse ≡ c.inverse
      inverse = inverse_unique n m c.exponential b.inverse c.inverse
          (subst (λ (E : List ℕ). IsInverse n m E b.inverse) exponential h.inverse_is) k.inverse_is

    -- and the number of each change is its own
    pub fresh_numbers : (xs : List Change) → run_numbers n m (fresh_board n) xs ≡ map (own_number n m) xs
    unfolding run_numbers
    fresh_numbers xs = by (fresh_board n) xs fresh_sound.board where
      by : (b : Board) (xs : List Change) → IsBoard n m b → run_numbers n m b xs ≡ map (own_number n m) xs
      by b [] h = refl
      by b (x ∷ xs) h = ap₂ ◌∷◌ (own_number_lem n m b x h) (by (next n m b x) xs (next-board n m b x h))
