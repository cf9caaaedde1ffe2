use Rattle.board_laws.specs.Theorem.{lawful}
use Rattle.board_laws.proofs.Turns.{fresh_run}
use Rattle.board_laws.proofs.board_law.Goals as goal

pub returns : goal.returns
returns c = let s = c.args in
    let f = c.board_fresh-fresh.ensures in
    lawful s.n s.m _ (fresh_run s.n s.m _ f.value f.a_after f.e_after f.i_after c.make_changes.ensures)
