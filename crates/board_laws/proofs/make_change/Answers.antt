use Rattle.std.proofs.Common.{sym, ◌∙◌}
use Rattle.definitions.specs.Boards.{board}
use Rattle.board_laws.proofs.Turns.{made_add, made_take}
use Rattle.board_laws.proofs.make_change.Goals as goal

pub returns-in-Add : goal.returns-in-Add
returns-in-Add c = let s = c.args in
    let r = c.board_add.ensures in
    made_add s.n s.m s.kind s.set s.weight (board s.a.now s.e.now s.i.now) r.value (sym c.from.ensures ∙ c.in-Add.is) r.a_after r.e_after r.i_after

pub returns-in-Take : goal.returns-in-Take
returns-in-Take c = let s = c.args in
    let r = c.board_take.ensures in
    made_take s.n s.m s.kind s.set s.weight (board s.a.now s.e.now s.i.now) r.value (sym c.from.ensures ∙ c.in-Take.is) r.a_after r.e_after r.i_after
