use Rattle.std.proofs.lemmas.Result.{err_from_is_err_and}
use Rattle.sparse_writer.proofs.SizeSteps.{no_entries, as_written}
use Rattle.sparse_writer.proofs.write_sparse.Goals as goal

pub returns-in_err-sizes : goal.returns-in_err-sizes
returns-in_err-sizes c =
    let w = no_entries c.args.n c.args.m c.args.table.now c.args.buffer.now
    c.check_length.ensures c.in_ok-check_length.was c.in_err-sizes.ensures in
    let p = err_from_is_err_and c.from_residual-in_err-sizes.result c.from_residual-in_err-sizes.ensures.1 in
    rw (p.1, p.2) (record { number_value = w.number_is; count_value = w.count_is; buffer_after = w.buffer_is })

pub returns : goal.returns
returns c =
    let w = as_written c.args.n c.args.m c.args.table.now c.args.buffer.now
    c.check_length.ensures c.in_ok-check_length.was c.in_ok-sizes.ensures c.write_measured.ensures in
    record { number_value = w.number_is; count_value = w.count_is; buffer_after = w.buffer_is }
