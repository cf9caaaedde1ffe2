use Rattle.std.proofs.Common.{ℕ, arith, refl, ap, ◌∙◌}
use Rattle.definitions.specs.Boards.{lowered_over}
use Rattle.board_calls.specs.Accepted.{ready, ready_for, lowered_table}
use Rattle.board_calls.proofs.board_add.Goals as goal

pub subtract-lacking-requires : goal.subtract-lacking-requires
subtract-lacking-requires c = let weight = (ready _ _ _ _ c.in_ok-modulus.ensures refl).change.weight in record { first = omega (arith, weight); second = weight }

pub change-requires : goal.change-requires
change-requires c = let h = c.in_ok-modulus.ensures in
    let weight = (ready _ _ _ _ h refl).change.weight in
    let lacking = c.subtract-lacking.ensures.below in
    ready_for _ _ _ _ h refl (omega (arith, lacking, weight)) (omega (arith, lacking, weight))

pub returns-clause-i_after : goal.returns-clause-i_after
returns-clause-i_after c = let s = c.args in
    let h = c.in_ok-modulus.ensures in
    lowered_table s.n s.set s.weight s.i.now (ready _ _ _ _ h refl).change.weight c.subtract-lacking.ensures c.change.ensures.i_after
    ∙ ap (λ (m : ℕ). lowered_over s.n m s.set s.weight s.i.now) (h.stands _ refl).value_is
