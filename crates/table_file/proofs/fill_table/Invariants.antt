use Rattle.table_file.proofs.ReaderSteps.{FillingTable}
use Rattle.table_file.proofs.fill_table.Given as goal

abbrev pub invariant-loop-entry : goal.invariant-loop-entry
invariant-loop-entry l = FillingTable l.bytes l.at l.initial.table l.table l.entry-index l.place
