use Rattle.page_text.specs.PageSteps.{PagesSoFar}
use Rattle.label_column.specs.Columns.{layout_of}
use Rattle.pages.proofs.write_all.Given as goal

abbrev pub invariant-loop-page : goal.invariant-loop-page
invariant-loop-page l = PagesSoFar (layout_of l.labels) l.table l.initial.out l.out l.place l.code l.page
