use Rattle.text_pieces.proofs.PieceSteps.{Aligning}
use Rattle.text_pieces.proofs.write_left.Given as goal

abbrev pub invariant-loop-place : goal.invariant-loop-place
invariant-loop-place l = Aligning l.number l.at l.end l.initial.out l.out l.place l.rest
