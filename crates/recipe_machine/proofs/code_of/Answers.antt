use Rattle.recipe_machine.proofs.Codes.{last_code}
use Rattle.recipe_machine.proofs.code_of.Goals as goal

pub returns-in_default : goal.returns-in_default
returns-in_default c = last_code _ c.in_default.in_default-own.rest c.requires
