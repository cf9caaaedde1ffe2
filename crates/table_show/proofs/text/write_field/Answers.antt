use native.Mathlib.Omega.{arith}
use Rattle.text_pieces.specs.TextLaws.{decimal_few, writes_room, writes_append}
use Rattle.table_show.proofs.text.write_field.Goals as goal

pub write_decimal-end-requires : goal.write_decimal-end-requires
write_decimal-end-requires c = omega (arith, c.requires, decimal_few c.args.value)

pub write_byte-requires : goal.write_byte-requires
write_byte-requires c = omega (arith, writes_room 1 c.write_decimal-end.ensures (omega (arith, c.requires, decimal_few c.args.value)))

pub returns : goal.returns
returns c = writes_append c.write_decimal-end.ensures c.write_byte.ensures
