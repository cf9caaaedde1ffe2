use Rattle.std.proofs.Common.{ℕ, refl}
use Rattle.definitions.specs.Partitions.{unit}
use Rattle.board_calls.specs.Accepted.{room, not-empty, long_enough}
use Rattle.board_calls.proofs.board_fresh.Goals as goal

pub fill_unit-requires : goal.fill_unit-requires
fill_unit-requires c = not-empty _ (room _ _ c.in_ok-check_fresh.ensures refl).exponential

pub fill_unit-requires-2 : goal.fill_unit-requires-2
fill_unit-requires-2 c = not-empty _ (room _ _ c.in_ok-check_fresh.ensures refl).inverse

pub returns-clause-a_after : goal.returns-clause-a_after
returns-clause-a_after c = long_enough (λ (S : ℕ). 0) c.fill_zeros.ensures (room _ _ c.in_ok-check_fresh.ensures refl).weights

pub returns-clause-e_after : goal.returns-clause-e_after
returns-clause-e_after c = long_enough unit c.fill_unit.ensures (room _ _ c.in_ok-check_fresh.ensures refl).exponential

pub returns-clause-i_after : goal.returns-clause-i_after
returns-clause-i_after c = long_enough unit c.fill_unit-2.ensures (room _ _ c.in_ok-check_fresh.ensures refl).inverse
