use Rattle.definitions.specs.Limits.{recipe_pad_length}
use Rattle.recipes.proofs.recipe_pad_length.Goals as goal

pub returns : goal.returns
unfolding recipe_pad_length
returns c = c.place_of.ensures
