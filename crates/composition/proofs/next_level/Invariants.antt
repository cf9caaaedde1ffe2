use Rattle.composition.proofs.Levels.{Raising}
use Rattle.composition.proofs.next_level.Given as goal

abbrev pub invariant-loop-i : goal.invariant-loop-i
invariant-loop-i l = Raising l.n l.k l.modulus.value l.start l.a l.initial.workspace l.i l.workspace
