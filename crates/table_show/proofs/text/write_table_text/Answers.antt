use Prim.Native.Nat.{◌+◌, ◌*◌}
use native.Mathlib.Omega.{arith}
use lib.ListN.{length}
use Rattle.text_pieces.specs.TextLaws.{writes_room}
use Rattle.table_show.specs.TextLaws.{field_few}
use Rattle.table_show.proofs.TextSteps.{text-written}
use Rattle.table_show.proofs.text.write_table_text.Goals as goal

pub write_field-entries-requires : goal.write_field-entries-requires
write_field-entries-requires c = writes_room 11 c.write_field-second.ensures (omega (arith, c.requires.room, field_few c.args.n 32))

pub write_entries-requires : goal.write_entries-requires
write_entries-requires c =
    let long = length c.args.table.now in
    let second = writes_room (11 + 33 * long) c.write_field-second.ensures (omega (arith, c.requires.room, field_few c.args.n 32)) in
    record {
      table_len_bound = c.requires.few;
      table_in_bounds = writes_room (33 * long) c.write_field-entries.ensures (omega (arith, second, field_few c.args.m 10));
    }

pub returns : goal.returns
returns c = text-written _ _
    c.args.table.now
    c.write_field-second.ensures
    c.write_field-entries.ensures c.write_entries.ensures
