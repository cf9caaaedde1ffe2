use Rattle.projection.proofs.Levels.{Turning}
use Rattle.projection.proofs.next_level.Given as goal

abbrev pub invariant-loop-i : goal.invariant-loop-i
invariant-loop-i l = Turning l.modulus.value l.n l.k l.source l.target l.b l.fn.workspace l.initial.workspace l.i l.workspace
