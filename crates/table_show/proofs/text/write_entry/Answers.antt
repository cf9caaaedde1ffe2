use native.Mathlib.Omega.{arith}
use Rattle.sets.specs.Sizes.{size-le}
use Rattle.text_pieces.specs.TextLaws.{writes_room}
use Rattle.table_show.specs.TextLaws.{field_few}
use Rattle.table_show.proofs.TextSteps.{no_line, a_line}
use Rattle.table_show.proofs.text.write_entry.Goals as goal

pub returns-then-value-eq0 : goal.returns-then-value-eq0
returns-then-value-eq0 c = no_line _ _ _ _ c.if-value-eq0.true (omega (arith, c.requires.at_in_bounds))

pub overflow_cast-size : goal.overflow_cast-size
overflow_cast-size c = omega
    (arith, size-le 24 c.requires.code_lt_code_limit c.size-size.ensures)

pub write_field-third-requires : goal.write_field-third-requires
write_field-third-requires c = writes_room 11 c.write_field-second.ensures (omega (arith, c.requires.at_in_bounds, field_few c.args.code 32))

pub write_field-requires : goal.write_field-requires
write_field-requires c =
    let second = writes_room 22 c.write_field-second.ensures (omega (arith, c.requires.at_in_bounds, field_few c.args.code 32)) in
    writes_room 11 c.write_field-third.ensures (omega (arith, second, field_few c.size-size.result.0 32))

pub returns : goal.returns
returns c = a_line _ _ _ _
    c.if-value-eq0.false
    c.size-size.ensures
    c.write_field-second.ensures
    c.write_field-third.ensures c.write_field.ensures
