use Rattle.table_show.proofs.TextSteps.{LinesWritten}
use Rattle.table_show.proofs.text.write_entries.Given as goal

abbrev pub invariant-loop-code : goal.invariant-loop-code
invariant-loop-code l = LinesWritten l.table l.at l.initial.out l.out l.place l.code
