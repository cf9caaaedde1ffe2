use Prim.Native.Nat.{◌*◌, ◌%◌}
use Rattle.definitions.specs.Sums.{at}
use Rattle.pointwise.specs.Filling.{Filling}
use Rattle.pointwise.proofs.multiply.Given as goal

abbrev pub invariant-loop-i : goal.invariant-loop-i
invariant-loop-i l = Filling (λ S. at l.initial.table S * at l.other S % l.modulus.value) l.initial.table l.i l.table
