use Rattle.recipe_operations.proofs.Signs.{within_ready, multiplied}
use Rattle.recipe_operations.proofs.multiply_at.Goals as goal

pub multiply_within-requires : goal.multiply_within-requires
multiply_within-requires c = within_ready c.requires

pub returns : goal.returns
returns c = multiplied c.requires c.multiply_within.auto.workspace c.multiply_within.ensures c.restore.ensures
