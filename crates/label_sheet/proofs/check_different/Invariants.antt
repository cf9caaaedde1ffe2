use Rattle.label_sheet.proofs.ArraySteps.{DifferentSoFar}
use Rattle.label_sheet.proofs.check_different.Given as goal

abbrev pub invariant-loop-control : goal.invariant-loop-control
invariant-loop-control l = DifferentSoFar l.labels l.control
