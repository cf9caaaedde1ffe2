use Rattle.composition.proofs.Levels.{Composing}
use Rattle.composition.proofs.composition_table.Given as goal

abbrev pub invariant-loop-k : goal.invariant-loop-k
invariant-loop-k l = Composing l.n l.modulus.value l.start l.a l.f l.initial.workspace l.k l.workspace
