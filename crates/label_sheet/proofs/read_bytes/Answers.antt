use mathlib.Core.Path.{sym, subst}
use native.Mathlib.Omega.{arith}
use Rattle.number_groups.specs.NumberAnswers.{handed_on}
use Rattle.label_sheet.specs.SheetAnswers.{LabelRead}
use Rattle.label_sheet.proofs.SheetSteps.{bytes_start, bytes_stop, bytes_more, bytes_all}
use Rattle.label_sheet.proofs.read_bytes.Goals as goal

pub loop-i-init : goal.loop-i-init
loop-i-init c = bytes_start _ _ _

pub returns-in_err-name : goal.returns-in_err-name
returns-in_err-name c =
    subst (LabelRead _ _) (sym (handed_on _ c.from_residual.ensures.1)) (bytes_stop c.loop-i.invariant c.loop-i-test.true c.in_err-name.ensures)

pub loop-i-preserved : goal.loop-i-preserved
loop-i-preserved c = bytes_more c.loop-i.invariant c.loop-i-test.true c.requires c.in_ok-name.ensures

pub returns : goal.returns
returns c = bytes_all c.loop-i.invariant (omega arith)
