use native.Mathlib.Omega.{arith}
use borrow.Author.Tests.{ltb-true, ltb-false}
use Rattle.label_theory.specs.Columns.{labels_fit}
use Rattle.page_text.specs.PageSteps.{lines_start, line_room, line_more, lines_full, lines_end}
use Rattle.label_column.specs.Columns.{layout_of}
use Rattle.pages.proofs.write_lines.Goals as goal

pub loop-code-init : goal.loop-code-init
loop-code-init c = lines_start (layout_of c.args.labels.now) 158 _ _ _ _ (omega (arith, c.requires.room)) c.next_entry-code.ensures

pub write_line-place-requires : goal.write_line-place-requires
write_line-place-requires c = record {
  code = omega (arith, c.requires.small, c.loop-code-test.true);
  room = line_room c.loop-code.invariant c.loop-code-test.true (ltb-true 0 _ c.if-left-gt0.true-raw) c.requires;
}

pub loop-code-preserved : goal.loop-code-preserved
loop-code-preserved c = line_more c.loop-code.invariant c.loop-code-test.true (ltb-true 0 _ c.if-left-gt0.true-raw) (labels_fit _ c.args.labels.now.ready.good) c.requires.small
    c.write_line-place.ensures c.next_entry-code-in-loop-code.ensures

pub returns-else-left-gt0 : goal.returns-else-left-gt0
returns-else-left-gt0 c = lines_full c.loop-code.invariant (omega (arith, ltb-false 0 c.loop-code.left c.if-left-gt0.false-raw))

pub returns-after-loop-code : goal.returns-after-loop-code
returns-after-loop-code c = lines_end c.loop-code.invariant c.loop-code-test.false
