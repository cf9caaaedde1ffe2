use Prim.Native.Nat.{◌-◌}
use lib.ListN.{length}
use Rattle.sparse_writer.proofs.SizeSteps.{Writing}
use Rattle.sparse_writer.proofs.write_pairs.Given as goal

abbrev pub invariant-loop-code : goal.invariant-loop-code
invariant-loop-code l = Writing l.table l.at l.initial.buffer l.buffer l.place l.from l.code

abbrev pub decreases-loop-code : goal.decreases-loop-code
decreases-loop-code l = length l.table - l.from
