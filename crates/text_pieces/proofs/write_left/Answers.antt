use native.Mathlib.Omega.{arith}
use Rattle.text_pieces.proofs.PieceSteps.{left_none, left_more, left_all}
use Rattle.text_pieces.proofs.write_left.Goals as goal

pub loop-place-init : goal.loop-place-init
loop-place-init c = left_none _ _ _ _ (omega (arith, c.ranges)) c.requires.number_bound c.requires.at_le_end c.requires.end_in_bounds

pub loop-place-preserved : goal.loop-place-preserved
loop-place-preserved c = rw c.digit_or_blank.ensures (left_more c.loop-place.invariant c.loop-place-test.true)

pub returns : goal.returns
returns c = left_all c.loop-place.invariant c.loop-place-test.false
