use mathlib.Core.Path.{◌≡◌}
use Prim.Native.Nat.{◌-◌}
use lib.ListN.{drop}
use Rattle.sparse_file.proofs.PairSteps.{pairs_number}
use Rattle.sparse_file.proofs.test_pairs.Given as goal

abbrev pub invariant-loop : goal.invariant-loop
invariant-loop l = pairs_number l.count l.long l.m (drop l.at l.bytes) ≡ pairs_number (l.count - l.counter) l.left l.m (drop l.place l.bytes)
