use native.Mathlib.Omega.{arith}
use Rattle.text_pieces.specs.TextLaws.{decimal-last, writes_length}
use Rattle.text_pieces.proofs.PieceSteps.{one_digit, digits_above, last_written}
use Rattle.text_pieces.proofs.+write_decimal.Goals as goal

pub write_byte-requires : goal.write_byte-requires
write_byte-requires t c = omega (arith, c.requires, one_digit c.args.value c.if-value-lt10.true)

pub returns-then-value-lt10 : goal.returns-then-value-lt10
returns-then-value-lt10 t c = rw (decimal-last _ c.if-value-lt10.true) c.write_byte.ensures

pub write_decimal-last-requires : goal.write_decimal-last-requires
write_decimal-last-requires t c = (omega arith, omega (arith, c.requires, digits_above c.args.value c.if-value-lt10.false (omega (arith, c.ranges))))

pub write_byte-requires-2 : goal.write_byte-requires-2
write_byte-requires-2 t c = let above = c.write_decimal-last.ensures in
    omega (arith, above.next_is, writes_length above, c.requires, digits_above c.args.value c.if-value-lt10.false (omega (arith, c.ranges)))

pub returns : goal.returns
returns t c = last_written _ c.if-value-lt10.false (omega (arith, c.ranges)) c.write_decimal-last.ensures c.write_byte-2.ensures
