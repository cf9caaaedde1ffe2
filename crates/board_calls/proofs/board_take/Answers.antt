use Rattle.std.proofs.Common.{arith, refl}
use Rattle.board_calls.specs.Accepted.{ready, ready_for}
use Rattle.board_calls.proofs.board_take.Goals as goal

pub subtract-lacking-requires : goal.subtract-lacking-requires
subtract-lacking-requires c = let weight = (ready _ _ _ _ c.in_ok-modulus.ensures refl).change.weight in record { first = omega (arith, weight); second = weight }

pub change-requires : goal.change-requires
change-requires c = let h = c.in_ok-modulus.ensures in
    let weight = (ready _ _ _ _ h refl).change.weight in
    let lacking = c.subtract-lacking.ensures.below in
    ready_for _ _ _ _ h refl (omega (arith, lacking, weight)) (omega (arith, lacking, weight))
