use Rattle.transform_passes.proofs.Controls.{Remaining}
use Rattle.transform_passes.proofs.remaining.Given as goal

abbrev pub invariant-loop-i : goal.invariant-loop-i
invariant-loop-i g l = Remaining l.modulus.value g.T.Transform.step l.n l.from l.initial.table l.i l.table
