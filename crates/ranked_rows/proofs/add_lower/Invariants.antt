use Rattle.ranked_theory.specs.Rows.{Added}
use Rattle.ranked_theory.specs.RowSteps.{Passing}
use Rattle.ranked_rows.proofs.add_lower.Given as goal

abbrev pub invariant-loop-u : goal.invariant-loop-u
invariant-loop-u l = Passing (λ v. Added l.modulus.value l.d.0) 2 l.w l.p l.half l.mid l.initial.rows l.rows l.u
