use Prim.Native.Nat.{◌-◌}
use lib.ListN.{length}
use Rattle.sparse_file.proofs.PairSteps.{Filling}
use Rattle.sparse_file.proofs.fill_pairs.Given as goal

abbrev pub invariant-loop : goal.invariant-loop
invariant-loop l = Filling l.count l.bytes l.at (length l.initial.table) l.table l.place l.next (l.count - l.counter)
