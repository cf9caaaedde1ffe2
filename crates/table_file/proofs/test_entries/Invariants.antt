use mathlib.Core.Path.{◌≡◌}
use Prim.Native.Nat.{◌-◌}
use lib.ListN.{drop}
use Rattle.definitions.specs.Outcomes.{number_of}
use Rattle.table_file.specs.Entries.{entries_to_end}
use Rattle.table_file.proofs.test_entries.Given as goal

abbrev pub invariant-loop : goal.invariant-loop
invariant-loop l = number_of (entries_to_end l.count l.m (drop l.at l.bytes)) ≡ number_of (entries_to_end (l.count - l.counter) l.m (drop l.place l.bytes))
