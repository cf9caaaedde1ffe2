use Rattle.label_column.proofs.ColumnSteps.{ColumnSoFar}
use Rattle.label_column.proofs.write_column.Given as goal

abbrev pub invariant-loop-rest : goal.invariant-loop-rest
invariant-loop-rest l = ColumnSoFar l.code l.labels.labels.now l.at l.initial.out l.out l.rest l.place l.size

abbrev pub decreases-loop-rest : goal.decreases-loop-rest
decreases-loop-rest l = l.rest
