use Rattle.std.proofs.lemmas.Result.{err_from_is_err_and}
use Rattle.pages.proofs.CallSteps.{as_loaded, not_loaded}
use Rattle.pages.proofs.write_labelled.Goals as goal

pub returns-in_err-read_sheet : goal.returns-in_err-read_sheet
returns-in_err-read_sheet c =
    let w = not_loaded c.args.sheet.now c.args.table.now c.args.buffer.now c.in_err-read_sheet.ensures.outcome in
    let p = err_from_is_err_and c.from_residual.result c.from_residual.ensures.1 in
    rw (p.1, p.2) w

pub returns : goal.returns
returns c = as_loaded c.args.sheet.now c.args.table.now c.args.buffer.now _ c.in_ok-read_sheet.ensures.outcome c.write_checked.ensures
