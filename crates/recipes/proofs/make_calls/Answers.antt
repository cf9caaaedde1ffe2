use native.Mathlib.Nat.{le_refl}
use Rattle.checks.specs.Ends.{part_long, front_cleared}
use Rattle.recipes.proofs.Accepted.{usable, front_ready}
use Rattle.recipes.proofs.make_calls.Goals as goal

pub slice_bounds-work-end-2 : goal.slice_bounds-work-end-2
slice_bounds-work-end-2 c = part_long (usable c.requires.ready c.recipe_pad_length-used.ensures) (le_refl _)

pub work-done-requires : goal.work-done-requires
work-done-requires c = record { ready = front_ready c.requires.ready c.recipe_pad_length-used.ensures; lettered = c.requires.lettered; fits = c.requires.fits }

pub returns : goal.returns
returns c = let made = c.work-done in
    let pad = usable c.requires.ready c.recipe_pad_length-used.ensures in record { worked = made.ensures; pad_after = front_cleared pad (le_refl _) made.new.pad made.auto.pad c.clear.ensures }
