use Rattle.label_sheet.proofs.SheetSteps.{BytesSoFar}
use Rattle.label_sheet.proofs.read_bytes.Given as goal

abbrev pub invariant-loop-i : goal.invariant-loop-i
invariant-loop-i l = BytesSoFar l.sheet l.at l.length l.name l.place l.i
