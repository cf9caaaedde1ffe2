use native.Mathlib.Omega.{arith}
use Rattle.text_pieces.specs.TextLaws.{filled-written, writes_length}
use Rattle.page_theory.specs.Widths.{heading_few}
use Rattle.page_text.proofs.PartSteps.{heading-written}
use Rattle.page_text.proofs.write_heading.Goals as goal

pub write_blanks-end-requires : goal.write_blanks-end-requires
write_blanks-end-requires c =
    let text = c.write_heading_text-text.ensures in
    let short = heading_few c.args.page c.args.pages in
    let same = writes_length text in
    record { at_le_end = omega (arith, text.next_is, c.requires.le_width); end_in_bounds = omega (arith, c.requires.width_in_bounds) }

pub write_byte-requires : goal.write_byte-requires
write_byte-requires c =
    let text = c.write_heading_text-text.ensures in
    let blank = c.write_blanks-end.ensures in
    let short = heading_few c.args.page c.args.pages in
    let same = writes_length blank.writes in
    omega (arith, text.next_is, c.requires.le_width, c.requires.width_in_bounds, writes_length text, blank.value)

pub returns : goal.returns
returns c =
    let blank = c.write_blanks-end.ensures in
    let short = heading_few c.args.page c.args.pages in
    record {
      value = omega (arith, c.write_byte.ensures.next_is, blank.value);
      writes = heading-written _ _ _ _
          (filled-written c.args.width c.args.at (omega (arith, short, c.requires.le_width)) c.write_heading_text-text.ensures blank.writes)
          c.write_byte.ensures;
    }
