use Rattle.ranked_theory.specs.Rows.{Placed}
use Rattle.projection.specs.Places.{sum_at}
use Rattle.projection.proofs.add_table.Given as goal

abbrev pub invariant-loop-i : goal.invariant-loop-i
invariant-loop-i l = Placed (sum_at l.modulus.value l.source l.target l.initial.workspace) l.target l.i l.initial.workspace l.workspace
