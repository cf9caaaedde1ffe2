use Rattle.definitions.specs.Sums.{at}
use Rattle.pointwise.specs.Filling.{Filling}
use Rattle.pointwise.proofs.copy.Given as goal

abbrev pub invariant-loop-i : goal.invariant-loop-i
invariant-loop-i l = Filling (at l.from) l.initial.to l.i l.to
