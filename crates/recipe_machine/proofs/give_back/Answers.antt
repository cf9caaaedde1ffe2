use native.Mathlib.Omega.{arith}
use Rattle.recipe_machine.proofs.Places.{place_in}
use Rattle.recipe_machine.proofs.Steps.{held_given, none_held}
use Rattle.recipe_machine.proofs.give_back.Goals as goal

pub restore-requires : goal.restore-requires
restore-requires c = let space = c.requires in
    omega (arith, place_in c.args.n 0 (omega arith) space.room, c.place_of.ensures, space.long)

pub returns-then-height-gt0 : goal.returns-then-height-gt0
returns-then-height-gt0 c = held_given _ c.args.height _ _ (omega (arith, c.if-height-gt0.true)) (rw (c.place_of.ensures, c.requires.long) at c.restore.ensures)

pub returns-else-height-gt0 : goal.returns-else-height-gt0
returns-else-height-gt0 c = none_held _ _ _ _ c.if-height-gt0.false
