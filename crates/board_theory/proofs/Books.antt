-- A book of exercises is divided out of any board by its own.
use Rattle.std.specs.Prelude.{◌≡◌, ℕ}
use Rattle.std.proofs.Common.{sym, ap, ◌∙◌}
use mathlib.Core.List.{List}
use Rattle.definitions.specs.Products.{subset_table}
use Rattle.definitions.specs.Boards.{Board, fresh_board, Change, run}
use Rattle.theory.specs.Tables.{product_assoc, product-unit}
use Rattle.board_theory.specs.Accepted.{IsBoard}
use Rattle.board_theory.specs.Books.{run_factor}
use Rattle.board_theory.proofs.Runs.{fresh_sound, board_law}

module _ (n m : ℕ) where
  -- on any three accepted tables, refused changes included
  pub book_taken_out : (b : Board) (book : List Change) → IsBoard n m b
      → subset_table n m (run n m b book).exponential (run n m (fresh_board n) book).inverse ≡ b.exponential
  book_taken_out b book h =
      let E : List ℕ = b.exponential in
      let F : Board = run n m (fresh_board n) book in
      let alone : subset_table n m E (fresh_board n).exponential ≡ E = product-unit n m E h.exponential.size (λ S k. h.exponential.below S) in
      ap (λ (t : List ℕ). subset_table n m t F.inverse) (run_factor n m E b (fresh_board n) book h (fresh_sound n m h.range).board (sym alone))
      ∙ product_assoc n m E F.exponential F.inverse
      ∙ ap (subset_table n m E) (board_law n m h.range book).inverse_is.product ∙ alone
