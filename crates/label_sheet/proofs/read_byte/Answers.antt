use mathlib.Core.Path.{◌≡◌, sym, ◌∙◌}
use Prim.Native.Nat.{◌<◌}
use lib.ListN.{length, get_or}
use borrow.Author.Rules.{rules}
use Rattle.label_sheet.proofs.SheetSteps.{letter_read, other_read}
use Rattle.label_sheet.proofs.read_byte.Goals as goal

pub returns-then-is_ascii_alphanumeric : goal.returns-then-is_ascii_alphanumeric
returns-then-is_ascii_alphanumeric c =
    let inside : c.args.at < length c.args.sheet.now = search rules in
    let byte : c.in_ok-byte.field-0.now ≡ get_or c.args.sheet.now c.args.at 0 = search rules in
    letter_read _ _ inside byte (sym c.is_ascii_alphanumeric.ensures.value ∙ c.if-is_ascii_alphanumeric.true)

pub returns-else-is_ascii_alphanumeric : goal.returns-else-is_ascii_alphanumeric
returns-else-is_ascii_alphanumeric c =
    let inside : c.args.at < length c.args.sheet.now = search rules in
    let byte : c.in_ok-byte.field-0.now ≡ get_or c.args.sheet.now c.args.at 0 = search rules in
    other_read _ _ inside byte (sym c.is_ascii_alphanumeric.ensures.value ∙ c.if-is_ascii_alphanumeric.false)
