use Rattle.transform_passes.proofs.Fours.{Crossing}
use Rattle.transform_passes.proofs.first_two.Given as goal

abbrev pub invariant-loop-block : goal.invariant-loop-block
invariant-loop-block g l = Crossing l.modulus.value g.T.Transform.step l.n l.block-end l.initial.table l.block l.table
