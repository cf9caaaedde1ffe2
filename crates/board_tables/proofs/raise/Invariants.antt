use Prim.Native.Nat.{◌-◌}
use Rattle.board_tables.proofs.Raising.{Raising}
use Rattle.board_tables.proofs.raise.Given as goal

abbrev pub invariant-loop-t : goal.invariant-loop-t
invariant-loop-t l = Raising l.n l.modulus.value l.set l.weight l.initial.table l.t l.table

abbrev pub decreases-loop-t : goal.decreases-loop-t
decreases-loop-t l = l.long - l.t
