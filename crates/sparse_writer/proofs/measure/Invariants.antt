use Prim.Native.Nat.{◌-◌}
use lib.ListN.{length}
use Rattle.sparse_writer.proofs.SizeSteps.{Measuring}
use Rattle.sparse_writer.proofs.measure.Given as goal

abbrev pub invariant-loop-code : goal.invariant-loop-code
invariant-loop-code l = Measuring l.m l.table l.entries l.bytes l.from l.code

abbrev pub decreases-loop-code : goal.decreases-loop-code
decreases-loop-code l = length l.table - l.from
