-- The law follows from what each call promises by itself.
use Rattle.std.proofs.Common.{sym, ap, subst, ◌∙◌}
use Rattle.std.specs.Prelude.{ℕ}
use Rattle.definitions.specs.Boards.{fresh_board, board_after, run, BoardLaw}
use Rattle.board_theory.specs.Accepted.{fresh_accepted}
use Rattle.board_theory.proofs.Runs.{board_law}
use Rattle.board_laws.specs.Law.{Calls, Run, Lawful}

pub lawful : (n m : ℕ) (c : Calls) → Run n m c → Lawful n m c
lawful n m c h = record {
  run = h;
  law = λ z. subst (BoardLaw n m c.changes)
      (sym (h.changes.board ∙ ap (λ (k : ℕ). run n m (board_after k (fresh_board n) c.found) c.changes) z))
      (board_law n m (fresh_accepted n m c.found (sym h.fresh ∙ z)).range c.changes);
}
