use mathlib.Core.Path.{◌≡◌}
use lib.ListN.{length}
use Rattle.definitions.specs.Sums.{at}
use Rattle.ranked_theory.specs.Rows.{Placed}
use Rattle.ranked_runs.proofs.store_four.Given as goal

abbrev pub invariant-loop-i : goal.invariant-loop-i
invariant-loop-i l = (length l.rows ≡ length l.initial.rows) × Placed (at l.values) l.to l.i l.initial.rows l.rows
