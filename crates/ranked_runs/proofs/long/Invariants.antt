use Prim.Native.Nat.{◌+◌, ◌-◌}
use Rattle.ranked_theory.specs.Runs.{Running}
use Rattle.ranked_runs.proofs.long.Given as goal

abbrev pub invariant-loop-i : goal.invariant-loop-i
invariant-loop-i g l = Running (g.S.Step.op l.modulus.value) l.lo l.hi (l.last + 4) l.initial.rows l.rows l.i

abbrev pub decreases-loop-i : goal.decreases-loop-i
decreases-loop-i g l = l.last + 4 - l.i
