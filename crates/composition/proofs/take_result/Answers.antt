use mathlib.Core.Path.{refl, ◌∙◌}
use Rattle.composition.proofs.Levels.{result_taken}
use Rattle.composition.proofs.take_result.Goals as goal

pub returns : goal.returns
returns c = c.copy.ensures ∙ result_taken c.rows_length-start.ensures c.requires refl
