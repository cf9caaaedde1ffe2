use Prim.Native.Nat.{◌*◌, ◌%◌}
use Rattle.definitions.specs.Sums.{at}
use Rattle.pointwise.specs.Filling.{Filling}
use Rattle.pointwise.proofs.scale.Given as goal

abbrev pub invariant-loop-x : goal.invariant-loop-x
invariant-loop-x l = Filling (λ S. l.factor * at l.initial.table S % l.modulus.value) l.initial.table l.x-index l.table
