use Rattle.transform_passes.specs.Steps.{Halves}
use Rattle.transform_passes.proofs.halved.Given as goal

abbrev pub invariant-loop-i : goal.invariant-loop-i
invariant-loop-i l = Halves l._i l.modulus.value l.r
