use Rattle.nonzero_entries.specs.Entries.{Skipped}
use Rattle.nonzero_entries.proofs.next_entry.Given as goal

abbrev pub invariant-loop-code : goal.invariant-loop-code
invariant-loop-code l = Skipped l.table l.from l.code
