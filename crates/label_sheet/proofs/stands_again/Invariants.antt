use Rattle.label_sheet.proofs.ArraySteps.{NoneSoFar}
use Rattle.label_sheet.proofs.stands_again.Given as goal

abbrev pub invariant-loop-other : goal.invariant-loop-other
invariant-loop-other l = NoneSoFar l.labels l.control l.other
