use Rattle.pages.proofs.CallSteps.{as_written}
use Rattle.pages.proofs.write_pages.Goals as goal

pub returns : goal.returns
returns c =
    let w = as_written c.args.n c.args.m c.args.table.now c.args.sheet.now c.args.buffer.now
    c.check_table.ensures c.in_ok-check_table.was c.write_labelled.ensures in
    record { number_value = w.number_is; count_value = w.count_is; buffer_after = w.buffer_is }
