-- The order of changes, and changes that undo each other, on any three accepted tables.
--   taking_undoes, adding_undoes     what was added is taken out again, and the other way round: the board is as it was
--   taking_is_adding                 taking out c is adding m - c, modulo m
--   order_of_changes                 the same changes in another order give the same board
use Rattle.std.specs.Prelude.{◌≡◌, ℕ, zero, suc, ◌+◌, ◌<◌}
use Rattle.std.proofs.Math.Path.{refl, ap, ap₂}
use Rattle.std.proofs.Common.{sym, ◌∙◌}
use mathlib.Core.List.{List, [], ◌∷◌, Permᴰ}
use Rattle.definitions.specs.Refusals.{AcceptedTable}
use Rattle.definitions.specs.Boards.{Board, board_add, board_take, lacking, change_number, Change, adds, takes, number_on, next, run}
use Rattle.board_theory.specs.Raised.{added_comm, raised_comm, added_twice, raised_twice, added_nothing, raised_nothing, raised_lowered}
use Rattle.board_theory.specs.Accepted.{IsBoard, accepted_board, change_accepted, same_number}
use Rattle.board_theory.specs.Moves.{table_by_table, moved, place, amount, opposite, move, IsMove, is_move}
use Rattle.board_theory.specs.Runs.{next_moved, next_refused, next-board}

module _ (n m : ℕ) where
  -- two changes that b accepts: the first does not refuse the second
  next_two : (b : Board) (x y : Change) → IsBoard n m b → number_on n m b x ≡ 0 → number_on n m b y ≡ 0
      → next n m (next n m b x) y ≡ move n m y (move n m x b)
  next_two b x y h e f =
      next_moved n m (next n m b x) y (same_number n m (next n m b x) b y (next-board n m b x h) h ∙ f) ∙ ap (move n m y) (next_moved n m b x e)

  -- ---- undone

  moved_back : (S c d : ℕ) (b : Board) → IsMove n m S c d → IsBoard n m b → moved n m S d c (moved n m S c d b) ≡ b
  moved_back S c d b k h = table_by_table
      (added_twice n m S c d b.weights ∙ added_nothing n m S (c + d) b.weights k.whole h.weights)
      (raised_twice n m S c d k.some b.exponential ∙ raised_nothing n m S (c + d) b.exponential k.whole h.exponential)
      (raised_twice n m S d c k.some b.inverse ∙ raised_nothing n m S (d + c) b.inverse k.back h.inverse)

  -- on any board on which the change is accepted
  module _ (S c : ℕ) (b : Board) (e : change_number n m S c b ≡ 0) where
    h : IsBoard n m b
    h = (change_accepted n m S c b e).board

    pub taking_undoes : run n m b (adds S c ∷ takes S c ∷ []) ≡ b
    unfolding run
    taking_undoes = next_two b (adds S c) (takes S c) h e e ∙ moved_back S c (lacking m c) b (is_move n m b (adds S c) e) h

    pub adding_undoes : run n m b (takes S c ∷ adds S c ∷ []) ≡ b
    unfolding run
    adding_undoes = next_two b (takes S c) (adds S c) h e e ∙ moved_back S (lacking m c) c b (is_move n m b (takes S c) e) h

  -- 02: taking out c does the same with m - c, modulo m
  pub taking_is_adding : (S c : ℕ) → c < m → (b : Board) → board_take n m S c b ≡ board_add n m S (lacking m c) b
  taking_is_adding S c h b = table_by_table refl refl (raised_lowered n m S c h b.inverse)

  -- ---- another order

  move_comm : (b : Board) (x y : Change) → number_on n m b x ≡ 0 → number_on n m b y ≡ 0 → move n m y (move n m x b) ≡ move n m x (move n m y b)
  move_comm b x y e f =
      let s = (is_move n m b x e).code in
      let r = (is_move n m b y f).code in
      table_by_table
      (added_comm n m (place n m x) (amount n m x) (place n m y) (amount n m y) b.weights)
      (raised_comm n m (place n m x) (amount n m x) (place n m y) (amount n m y) s r b.exponential)
      (raised_comm n m (place n m x) (opposite n m x) (place n m y) (opposite n m y) s r b.inverse)

  next_comm : (b : Board) (x y : Change) → IsBoard n m b → next n m (next n m b x) y ≡ next n m (next n m b y) x
  next_comm b x y h = by (number_on n m b x) (number_on n m b y) refl refl where
    later : (x y : Change) {k : ℕ} → number_on n m b y ≡ k → number_on n m (next n m b x) y ≡ k
    later x y e = same_number n m (next n m b x) b y (next-board n m b x h) h ∙ e

    by : (j k : ℕ) → number_on n m b x ≡ j → number_on n m b y ≡ k → next n m (next n m b x) y ≡ next n m (next n m b y) x
    by zero zero e f = next_two b x y h e f ∙ move_comm b x y e f ∙ sym (next_two b y x h f e)
    by j (suc k) e f = next_refused n m (next n m b x) y k (later x y f) ∙ sym (ap (λ (c : Board). next n m c x) (next_refused n m b y k f))
    by (suc j) zero e f = ap (λ (c : Board). next n m c y) (next_refused n m b x j e) ∙ sym (next_refused n m (next n m b y) x j (later y x e))

  reordered : (b : Board) {xs ys : List Change} → IsBoard n m b → Permᴰ xs ys → run n m b xs ≡ run n m b ys
  unfolding run
  reordered b h Permᴰ.nil = refl
  reordered b h (Permᴰ.cons {a = x} {l₂ = ys} e d) =
      reordered (next n m b x) (next-board n m b x h) d ∙ ap (λ (z : Change). run n m (next n m b z) ys) e
  reordered b h (Permᴰ.swap {a = x} {b = y} {l = l} e f) =
      ap (λ (c : Board). run n m c l) (next_comm b x y h) ∙ ap₂ (λ (v w : Change). run n m (next n m (next n m b v) w) l) f e
  reordered b h (Permᴰ.trans d e) = reordered b h d ∙ reordered b h e

  -- the same changes in another order, refused ones included
  pub order_of_changes : (b : Board) → AcceptedTable n m b.weights → AcceptedTable n m b.exponential → AcceptedTable n m b.inverse
      → {xs ys : List Change} → Permᴰ xs ys → run n m b xs ≡ run n m b ys
  order_of_changes b p q r = reordered b (accepted_board n m b p q r)
