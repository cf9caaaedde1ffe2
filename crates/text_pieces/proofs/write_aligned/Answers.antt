use native.Mathlib.Omega.{arith}
use Rattle.text_pieces.proofs.PieceSteps.{tenth_fits, all_aligned}
use Rattle.text_pieces.proofs.write_aligned.Goals as goal

pub write_left-requires : goal.write_left-requires
write_left-requires c = record { number_bound = tenth_fits _ _ _ (omega (arith, c.ranges)) c.requires; at_le_end = omega (arith, c.requires.some); end_in_bounds = omega (arith, c.requires.some, c.requires.room) }

pub returns : goal.returns
returns c = all_aligned _ _ _ (omega (arith, c.ranges)) c.requires c.write_left.ensures c.write_byte.ensures
