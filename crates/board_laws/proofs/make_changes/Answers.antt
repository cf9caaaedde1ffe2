use Rattle.std.proofs.Common.{rules, arith}
use Rattle.definitions.specs.Boards.{board}
use Rattle.board_laws.proofs.Turns.{none_made, one_more_made, all_made}
use Rattle.board_laws.proofs.make_changes.Goals as goal

pub loop-k-init : goal.loop-k-init
loop-k-init c = let s = c.args in
    let none = none_made s.kinds.now s.sets.now s.weights.now s.n s.m (board s.a.now s.e.now s.i.now) s.numbers.now in
    (search rules, search rules, search rules, search rules, none)

pub loop-k-preserved : goal.loop-k-preserved
loop-k-preserved c = let l = c.loop-k in
    let s = c.args in (
      search rules,
      search rules,
      search rules,
      search rules,
      one_more_made s.kinds.now s.sets.now s.weights.now s.n s.m (board s.a.now s.e.now s.i.now) s.numbers.now l.k
          l.invariant.4 c.make_change-change.ensures c.number.ensures c.keep.ensures,
    )

pub returns : goal.returns
returns c = let s = c.args in
    let l = c.loop-k in
    all_made s.kinds.now s.sets.now s.weights.now s.n s.m (board s.a.now s.e.now s.i.now) s.numbers.now
    (omega (arith, c.min.ensures, c.min-count.ensures)) l.invariant.4
