use Rattle.table_writer.proofs.WriterSteps.{Counted}
use Rattle.table_writer.proofs.file_length.Given as goal

abbrev pub invariant-loop-x : goal.invariant-loop-x
invariant-loop-x l = Counted l.n l.m l.table l.count l.x-index
