use Rattle.std.proofs.Common.{◌∙◌}
use Rattle.sps.proofs.sps_recipe.Goals as goal

pub returns-clause-value : goal.returns-clause-value
returns-clause-value c = λ read line by. c.number.ensures ∙ c.recipe.ensures.value read line by
