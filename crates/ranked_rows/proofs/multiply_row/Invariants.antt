use Rattle.ranked_theory.specs.Leaf.{Multiplying}
use Rattle.ranked_rows.proofs.multiply_row.Given as goal

abbrev pub invariant-loop-e : goal.invariant-loop-e
invariant-loop-e l = Multiplying l.modulus.value l.n l.d.0 l.initial.row l.row l.e
