use native.Mathlib.Omega.{arith}
use Rattle.text_pieces.specs.TextLaws.{decimal_few, writes_room}
use Rattle.page_text.proofs.PartSteps.{heading_text_lem}
use Rattle.page_text.proofs.write_heading_text.Goals as goal

pub write_decimal-middle-requires : goal.write_decimal-middle-requires
write_decimal-middle-requires c = omega (arith, writes_room 10 c.write_bytes-number.ensures (omega (arith, c.requires)), decimal_few c.args.page)

pub write_bytes-count-requires : goal.write_bytes-count-requires
write_bytes-count-requires c = let second-room = writes_room 24 c.write_bytes-number.ensures (omega (arith, c.requires)) in
    writes_room 4 c.write_decimal-middle.ensures (omega (arith, second-room, decimal_few c.args.page))

pub write_decimal-requires : goal.write_decimal-requires
write_decimal-requires c = let second-room = writes_room 24 c.write_bytes-number.ensures (omega (arith, c.requires)) in
    let third-room = writes_room 14 c.write_decimal-middle.ensures (omega (arith, second-room, decimal_few c.args.page)) in
    omega (arith, writes_room 10 c.write_bytes-count.ensures (omega (arith, third-room)), decimal_few c.args.pages)

pub returns : goal.returns
returns c = heading_text_lem _ _ c.write_bytes-number.ensures c.write_decimal-middle.ensures c.write_bytes-count.ensures
    c.write_decimal.ensures
