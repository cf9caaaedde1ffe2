use Rattle.table_writer.proofs.WriterSteps.{EntriesLeft}
use Rattle.table_writer.proofs.write_entries.Given as goal

abbrev pub invariant-loop-x : goal.invariant-loop-x
invariant-loop-x l = EntriesLeft l.table l.at l.initial.buffer l.buffer l.place l.x-index
