use lib.ListN.{length}
use mathlib.Core.Path.{◌≡◌}
use Rattle.composition.specs.Slots.{Copied}
use Rattle.composition.proofs.copy_table.Given as goal

abbrev pub invariant-loop-i : goal.invariant-loop-i
invariant-loop-i l = (length l.workspace ≡ length l.initial.workspace) × Copied l.i l.source l.target l.initial.workspace l.workspace
