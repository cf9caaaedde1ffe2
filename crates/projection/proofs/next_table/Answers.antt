use mathlib.Core.Path.{refl}
use native.Mathlib.Omega.{arith}
use Rattle.projection.proofs.Turns.{add_ready, within_ready, turn_made}
use Rattle.projection.proofs.next_table.Goals as goal

pub add_table-requires : goal.add_table-requires
add_table-requires c = add_ready c.power_of_two-size.ensures c.requires (omega arith) (omega arith, omega arith)

pub multiply_within-requires : goal.multiply_within-requires
multiply_within-requires c = let size = c.power_of_two-size.ensures in
    let add = c.add_table in within_ready size c.requires (omega arith) add.ensures add.auto.workspace _ _ (omega arith, omega arith) refl (omega arith)

pub returns : goal.returns
returns c = let size = c.power_of_two-size.ensures in
    let add = c.add_table in
    turn_made size c.requires add.ensures c.multiply_within.ensures
