use Prim.Native.Nat.{◌+◌, ◌-◌, ◌≤◌}
use Rattle.residues.specs.Accumulated.{Holds}
use Rattle.ranked_theory.specs.Leaf.{term}
use Rattle.ranked_rows.proofs.product_rank.Given as goal

abbrev pub invariant-loop-j : goal.invariant-loop-j
invariant-loop-j l = (l.j ≤ l.top + 1) × Holds (term l.top l.row) l.j l.total

abbrev pub decreases-loop-j : goal.decreases-loop-j
decreases-loop-j l = l.top + 1 - l.j
