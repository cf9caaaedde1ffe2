use Rattle.ranked_theory.specs.Runs.{Running}
use Rattle.ranked_runs.proofs.few.Given as goal

abbrev pub invariant-loop-i : goal.invariant-loop-i
invariant-loop-i g l = Running (g.S.Step.op l.modulus.value) l.lo l.hi l.count l.initial.rows l.rows l.i
