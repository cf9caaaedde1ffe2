use Rattle.recipe_operations.specs.Places.{saved_as}
use Rattle.recipe_operations.proofs.save.Goals as goal

pub returns : goal.returns
returns c = saved_as _ _ _ _ c.copy.ensures c.requires
