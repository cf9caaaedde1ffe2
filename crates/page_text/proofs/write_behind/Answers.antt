use native.Mathlib.Omega.{arith}
use Rattle.definitions.specs.Show.{decimal}
use Rattle.text_pieces.specs.TextLaws.{decimal_few, writes_room}
use Rattle.page_theory.specs.Widths.{length-aligned, decimal_two}
use Rattle.page_text.proofs.PartSteps.{behind_written}
use Rattle.page_text.proofs.write_behind.Goals as goal

pub write_aligned-third-requires : goal.write_aligned-third-requires
write_aligned-third-requires c = record {
  some = omega arith;
  digits = c.requires.size_bound;
  room = writes_room 2 c.write_byte-second.ensures (omega (arith, c.requires.at_in_bounds));
}

pub write_byte-fourth-requires : goal.write_byte-fourth-requires
write_byte-fourth-requires c = let size-wide = length-aligned 2 (decimal c.args.size) (decimal_two c.args.size c.requires.size_bound) in
    let second-room = writes_room 3 c.write_byte-second.ensures (omega (arith, c.requires.at_in_bounds)) in
    omega (arith, writes_room 1 c.write_aligned-third.ensures (omega (arith, second-room, size-wide)))

pub write_aligned-fifth-requires : goal.write_aligned-fifth-requires
write_aligned-fifth-requires c = let size-wide = length-aligned 2 (decimal c.args.size) (decimal_two c.args.size c.requires.size_bound) in
    let second-room = writes_room 13 c.write_byte-second.ensures (omega (arith, c.requires.at_in_bounds)) in
    let third-room = writes_room 11 c.write_aligned-third.ensures (omega (arith, second-room, size-wide)) in
    record {
      some = omega arith;
      digits = omega (arith, c.ranges);
      room = writes_room 10 c.write_byte-fourth.ensures (omega (arith, third-room));
    }

pub write_byte-requires : goal.write_byte-requires
write_byte-requires c = let size-wide = length-aligned 2 (decimal c.args.size) (decimal_two c.args.size c.requires.size_bound) in
    let value-wide = length-aligned 10 (decimal c.args.value) (decimal_few c.args.value) in
    let second-room = writes_room 14 c.write_byte-second.ensures (omega (arith, c.requires.at_in_bounds)) in
    let third-room = writes_room 12 c.write_aligned-third.ensures (omega (arith, second-room, size-wide)) in
    let fourth-room = writes_room 11 c.write_byte-fourth.ensures (omega (arith, third-room)) in
    omega (arith, writes_room 1 c.write_aligned-fifth.ensures (omega (arith, fourth-room, value-wide)))

pub returns : goal.returns
returns c = behind_written _ _ c.write_byte-second.ensures c.write_aligned-third.ensures c.write_byte-fourth.ensures
    c.write_aligned-fifth.ensures c.write_byte.ensures
