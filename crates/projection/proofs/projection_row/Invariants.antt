use lib.ListN.{length}
use Rattle.projection.proofs.Levels.{Projecting}
use Rattle.projection.proofs.projection_row.Given as goal

abbrev pub invariant-loop-k : goal.invariant-loop-k
invariant-loop-k l = Projecting l.modulus.value l.n l.a l.b (length l.fn.workspace) l.k l.source l.target l.workspace
