use mathlib.Core.Path.{sym, subst}
use Rattle.number_groups.specs.NumberAnswers.{handed_on}
use Rattle.label_sheet.specs.SheetAnswers.{LabelRead}
use Rattle.label_sheet.proofs.SheetSteps.{no_length, length_none, length_large, length_right}
use Rattle.label_sheet.proofs.read_label.Goals as goal

pub returns-in_err-length : goal.returns-in_err-length
returns-in_err-length c = subst (LabelRead _ _) (sym (handed_on _ c.from_residual.ensures.1)) (no_length c.in_err-length.ensures)

pub returns-then-count-lt1 : goal.returns-then-count-lt1
returns-then-count-lt1 c = length_none c.in_ok-length.ensures c.if-count-lt1.true

pub returns-then-count-gt-LONGEST_LABEL : goal.returns-then-count-gt-LONGEST_LABEL
returns-then-count-gt-LONGEST_LABEL c = length_large c.in_ok-length.ensures c.if-count-lt1.false c.if-count-gt-LONGEST_LABEL.true

pub returns : goal.returns
returns c = rw (← length_right c.in_ok-length.ensures c.if-count-lt1.false c.if-count-gt-LONGEST_LABEL.false) c.read_bytes.ensures
