use Rattle.std.proofs.Common.{◌≡◌, length}
use Rattle.definitions.specs.Boards.{board}
use Rattle.board_laws.proofs.Turns.{Turn}
use Rattle.board_laws.proofs.make_changes.Given as goal

abbrev pub invariant-loop-k : goal.invariant-loop-k
invariant-loop-k l = (length l.numbers ≡ length l.initial.numbers) × (length l.a ≡ length l.initial.a) × (length l.e ≡ length l.initial.e) × (length l.i ≡ length l.initial.i)
    × Turn l.kinds l.sets l.weights l.n l.m (board l.initial.a l.initial.e l.initial.i) l.initial.numbers l.k l.numbers (board l.a l.e l.i)
