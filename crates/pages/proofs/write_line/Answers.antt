use Rattle.page_text.specs.PageSteps.{line-written}
use Rattle.label_column.specs.Columns.{layout_of}
use Rattle.pages.proofs.write_line.Goals as goal

pub returns : goal.returns
returns c = let column = c.write_column-size.ensures in
    line-written (layout_of c.args.labels.now) _ _ column.value column.writes c.write_behind.ensures
