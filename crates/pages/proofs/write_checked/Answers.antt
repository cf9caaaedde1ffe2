use native.Mathlib.Omega.{arith}
use Rattle.definitions.specs.Pages.{pages_text}
use Rattle.table_writer.specs.WritingLaws.{text_short, text_long}
use Rattle.label_theory.specs.Columns.{labels_fit}
use Rattle.page_text.specs.PageSteps.{pages_is, few_pages, count_is}
use Rattle.label_column.specs.Columns.{layout_of}
use Rattle.pages.proofs.write_checked.Goals as goal

pub overflow_add-count : goal.overflow_add-count
overflow_add-count c = let lines = c.count_lines-lines.ensures in
    omega (arith, c.requires, lines.few, few_pages (labels_fit _ c.args.labels.now.ready.good) c.requires lines c.count_pages-pages.ensures)

pub overflow_mul-count : goal.overflow_mul-count
overflow_mul-count c = let lines = c.count_lines-lines.ensures in
    omega (arith, c.requires, lines.few, few_pages (labels_fit _ c.args.labels.now.ready.good) c.requires lines c.count_pages-pages.ensures)

pub returns-then-buffer-count : goal.returns-then-buffer-count
returns-then-buffer-count c =
    text_short (pages_text (layout_of c.args.labels.now) c.args.table.now) c.args.buffer.now
    (count_is (labels_fit _ c.args.labels.now.ready.good) c.requires c.count_lines-lines.ensures c.count_pages-pages.ensures)
    c.if-buffer-count.true

pub write_all-requires : goal.write_all-requires
write_all-requires c = let lines = c.count_lines-lines.ensures in record {
  small = c.requires;
  count = pages_is (labels_fit _ c.args.labels.now.ready.good) c.requires lines c.count_pages-pages.ensures;
  room = omega (arith, c.if-buffer-count.false, count_is (labels_fit _ c.args.labels.now.ready.good) c.requires lines c.count_pages-pages.ensures);
}

pub returns : goal.returns
returns c = text_long (pages_text (layout_of c.args.labels.now) c.args.table.now) c.args.buffer.now
    (count_is (labels_fit _ c.args.labels.now.ready.good) c.requires c.count_lines-lines.ensures c.count_pages-pages.ensures)
    c.if-buffer-count.false c.write_all.ensures.text_is
