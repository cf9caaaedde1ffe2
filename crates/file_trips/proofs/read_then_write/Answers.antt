use native.Mathlib.Omega.{arith}
use Rattle.theory.specs.Entries.{at_below}
use Rattle.file_trips.specs.TripLaws.{not_read, read_and_written}
use Rattle.file_trips.proofs.read_then_write.Goals as goal

pub returns-in-Ok : goal.returns-in-Ok
returns-in-Ok c =
    read_and_written c.args.bytes.now c.args.table.now c.args.buffer.now
    (at_below 256 c.args.bytes.now (λ i h. omega (arith, c.shared_slice_known-1.given i)))
    (record { answer = c.in-Ok.ensures.answer_is; filled = c.in-Ok.ensures.table_after }) c.write_kind-written.ensures

pub returns-in-Err : goal.returns-in-Err
returns-in-Err c =
    not_read c.args.bytes.now c.args.table.now c.args.buffer.now
    (at_below 256 c.args.bytes.now (λ i h. omega (arith, c.shared_slice_known-1.given i)))
    (record { answer = c.in-Err.ensures.answer_is; filled = c.in-Err.ensures.table_after })
