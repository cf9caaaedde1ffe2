use native.Mathlib.Omega.{arith}
use Rattle.text_pieces.specs.TextLaws.{writes_length}
use Rattle.label_theory.specs.Columns.{labels_fit}
use Rattle.page_text.specs.PageSteps.{pages_start, heading_room, lines_room, pages_more, pages_all}
use Rattle.pages.proofs.write_all.Goals as goal

pub loop-page-init : goal.loop-page-init
loop-page-init c = pages_start _ _ _

pub write_heading-lines-requires-clause-width_in_bounds : goal.write_heading-lines-requires-clause-width_in_bounds
write_heading-lines-requires-clause-width_in_bounds c =
    omega (arith, heading_room (labels_fit _ c.args.labels.now.ready.good) c.loop-page.invariant c.requires c.loop-page-test.true)

pub write_lines-end-requires : goal.write_lines-end-requires
write_lines-end-requires c = lines_room (labels_fit _ c.args.labels.now.ready.good) c.loop-page.invariant c.requires c.loop-page-test.true
    (omega (arith, c.write_heading-lines.ensures.value)) (writes_length c.write_heading-lines.ensures.writes)

pub loop-page-preserved : goal.loop-page-preserved
loop-page-preserved c = pages_more (labels_fit _ c.args.labels.now.ready.good) c.loop-page.invariant c.requires c.loop-page-test.true
    c.write_heading-lines.ensures.writes c.write_lines-end.ensures

pub returns : goal.returns
returns c = pages_all c.loop-page.invariant c.requires (omega arith)
