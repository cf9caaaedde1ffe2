use mathlib.Core.Path.{sym, ◌∙◌}
use Rattle.refusals.specs.Handed.{never_accepts}
use Rattle.number_groups.specs.NumberAnswers.{handed_on}
use Rattle.label_sheet.proofs.ArraySteps.{sheet_handed, sheet_stops, sheet_by, sheet_ready}
use Rattle.label_sheet.proofs.read_sheet.Goals as goal

pub returns-in_err-read_labels : goal.returns-in_err-read_labels
returns-in_err-read_labels c =
    let handed = handed_on _ c.from_residual.ensures.1 in
    record {
      outcome = sheet_handed _ _ handed (sheet_stops _ c.in_err-read_labels.ensures);
      ready = λ z. absurd (never_accepts handed z);
    }

pub check_different-requires : goal.check_different-requires
check_different-requires c = c.in_ok-read_labels.ensures.held

pub returns : goal.returns
returns c = record {
  outcome = sheet_by _ c.in_ok-read_labels.ensures _ c.check_different.ensures;
  ready = λ z. sheet_ready _ c.in_ok-read_labels.ensures (sym z ∙ c.check_different.ensures);
}
