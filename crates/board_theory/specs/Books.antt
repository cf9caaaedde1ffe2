-- A book of exercises that is put on any board and also on one of its own, by which it is divided out again.
--   run_factor     what it does to a product; that it divides is in proofs/Books
use Rattle.std.specs.Prelude.{◌≡◌, refl, ℕ, zero, suc}
use Rattle.std.proofs.Common.{sym, ap, ◌∙◌}
use mathlib.Core.List.{List, [], ◌∷◌}
use Rattle.definitions.specs.Products.{subset_table}
use Rattle.definitions.specs.Boards.{Board, raised_over, Change, number_on, next, run}
use Rattle.board_theory.specs.Raised.{raised_factor}
use Rattle.board_theory.specs.Accepted.{IsBoard, same_number}
use Rattle.board_theory.specs.Moves.{place, amount, is_move}
use Rattle.board_theory.specs.Runs.{next_moved, next_refused, next-board}

module _ (n m : ℕ) where
  -- the same change of two boards, where the first E is D times the second
  module _ (D : List ℕ) (b c : Board) (h : IsBoard n m b) (k : IsBoard n m c) (p : b.exponential ≡ subset_table n m D c.exponential) where
    next_factor : (x : Change) → (next n m b x).exponential ≡ subset_table n m D (next n m c x).exponential
    next_factor x = by (number_on n m b x) refl where
      by : (j : ℕ) → number_on n m b x ≡ j → (next n m b x).exponential ≡ subset_table n m D (next n m c x).exponential
      by zero e =
          ap (λ (o : Board). o.exponential) (next_moved n m b x e) ∙ ap (raised_over n m (place n m x) (amount n m x)) p
          ∙ raised_factor n m (place n m x) (amount n m x) (is_move n m b x e).code D c.exponential
          ∙ ap (λ (o : Board). subset_table n m D o.exponential) (sym (next_moved n m c x (same_number n m c b x k h ∙ e)))
      by (suc j) e =
          ap (λ (o : Board). o.exponential) (next_refused n m b x j e) ∙ p
          ∙ ap (λ (o : Board). subset_table n m D o.exponential) (sym (next_refused n m c x j (same_number n m c b x k h ∙ e)))

  pub run_factor : (D : List ℕ) (b c : Board) (xs : List Change) → IsBoard n m b → IsBoard n m c
      → b.exponential ≡ subset_table n m D c.exponential → (run n m b xs).exponential ≡ subset_table n m D (run n m c xs).exponential
  unfolding run
  run_factor D b c [] h k p = p
  run_factor D b c (x ∷ xs) h k p =
      run_factor D (next n m b x) (next n m c x) xs (next-board n m b x h) (next-board n m c x k) (next_factor D b c h k p x)
