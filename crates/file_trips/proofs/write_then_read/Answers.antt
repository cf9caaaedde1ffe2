use mathlib.Core.Path.{refl}
use Rattle.table_header.specs.HeaderAnswers.{kind_is}
use Rattle.file_trips.specs.TripLaws.{not_written, part_fits, read_back}
use Rattle.file_trips.proofs.write_then_read.Goals as goal

pub slice_bounds-read_table-end : goal.slice_bounds-read_table-end
slice_bounds-read_table-end c =
    part_fits (kind_is c.args.kind) c.args.n c.args.m c.args.table.now c.args.buffer.now c.args.back.now c.in-Ok.ensures refl

pub returns-in-Ok : goal.returns-in-Ok
returns-in-Ok c = let read = c.read_table-answer.ensures in
    read_back (kind_is c.args.kind) c.args.n c.args.m c.args.table.now c.args.buffer.now c.args.back.now c.in-Ok.ensures refl
    (record { answer = read.answer_is; filled = read.table_after })

pub returns-in-Err : goal.returns-in-Err
returns-in-Err c =
    not_written (kind_is c.args.kind) c.args.n c.args.m c.args.table.now c.args.buffer.now c.args.back.now c.in-Err.ensures
