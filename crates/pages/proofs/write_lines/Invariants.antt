use Prim.Native.Nat.{◌-◌}
use lib.ListN.{length}
use Rattle.page_text.specs.PageSteps.{LinesSoFar}
use Rattle.label_column.specs.Columns.{layout_of}
use Rattle.pages.proofs.write_lines.Given as goal

abbrev pub invariant-loop-code : goal.invariant-loop-code
invariant-loop-code l = LinesSoFar (layout_of l.labels) 158 l.table l.first l.initial.out l.at l.out l.place l.code l.left

abbrev pub decreases-loop-code : goal.decreases-loop-code
decreases-loop-code l = length l.table - l.code
