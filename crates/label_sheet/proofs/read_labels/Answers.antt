use borrow.Author.Rules.{rules}
use native.Mathlib.Omega.{arith}
use Rattle.number_groups.specs.NumberAnswers.{handed_on}
use Rattle.label_sheet.proofs.SheetSteps.{labels_handed, labels_start, labels_stop, labels_more, with_tail, labels_all}
use Rattle.label_sheet.proofs.read_labels.Goals as goal

pub loop-control-init : goal.loop-control-init
loop-control-init c = labels_start _ _ (search rules)

pub returns-in_err-read : goal.returns-in_err-read
returns-in_err-read c =
    labels_handed _ _ (handed_on _ c.from_residual.ensures.1) (labels_stop c.loop-control.invariant c.loop-control-test.true c.in_err-read.ensures)

pub loop-control-preserved : goal.loop-control-preserved
loop-control-preserved c = labels_more c.loop-control.invariant c.loop-control-test.true c.in_ok-read.ensures

pub returns-then-place-sheet : goal.returns-then-place-sheet
returns-then-place-sheet c = with_tail c.loop-control.invariant c.loop-control-test.false (omega arith) c.if-place-sheet.true

pub returns : goal.returns
returns c = labels_all c.loop-control.invariant c.loop-control-test.false (omega arith) c.if-place-sheet.false
