use Rattle.label_sheet.proofs.SheetSteps.{LabelsSoFar}
use Rattle.label_sheet.proofs.read_labels.Given as goal

abbrev pub invariant-loop-control : goal.invariant-loop-control
invariant-loop-control l = LabelsSoFar l.sheet l.labels l.place l.control
