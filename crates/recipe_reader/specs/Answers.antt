-- What the reader of a line answers.
use Rattle.std.specs.Prelude.{◌≡◌, List, ℕ, Result, Ok, Err, length, take}
use Rattle.definitions.specs.Outcomes.{accepted, refused}
use Rattle.definitions.specs.Recipes.{Tree, sum, ReadAs}
use Rattle.recipe_theory.specs.Postfix.{postfix}
use Rattle.refusals.specs.declared.Refusal.{Refusal}
use Rattle.refusals.specs.Words.{word}

-- the code of the line's recipe stands in the first so many bytes
pub record Coded (line : List ℕ) (used : ℕ) (code : List ℕ) : Type 0 where
  pub tree : Tree sum
  pub recipe : ReadAs line (accepted tree)
  pub count : used ≡ length (postfix tree)
  pub written : take used code ≡ postfix tree

-- the code of the recipe, or the refusal
pub record RecipeReads (line : List ℕ) (r : Result ℕ Refusal) (code : List ℕ) : Type 0 where
  pub coded : (used : ℕ) → r ≡ Ok used → Coded line used code
  pub refuses : (refusal : Refusal) → r ≡ Err refusal → ReadAs line (refused (word refusal))
