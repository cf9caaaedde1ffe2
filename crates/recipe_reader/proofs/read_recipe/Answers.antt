use mathlib.Core.Path.{sym, subst, ◌∙◌}
use native.Mathlib.Omega.{arith}
use Rattle.recipe_reader.specs.Answers.{RecipeReads}
use Rattle.recipe_reader.proofs.Recipes.{read_place, read_refused, handed_on, too_long, outside, refused_at_end, accepts}
use Rattle.recipe_reader.proofs.read_recipe.Goals as goal

pub returns-then-too_long : goal.returns-then-too_long
returns-then-too_long c = too_long (sym c.too_long.ensures ∙ c.if-too_long.true)

pub returns-in_err-place : goal.returns-in_err-place
returns-in_err-place c =
    let none = read_refused _ c.in_err-place.ensures.value in
    rw (handed_on _ c.from_residual.ensures.1, none.1) (outside (sym c.too_long.ensures ∙ c.if-too_long.false) (c.read_level.ensures.refuses none.0))

pub overflow_sub-line : goal.overflow_sub-line
overflow_sub-line c = omega (arith, (c.read_level.ensures.taken _ (read_place _ c.in_ok-place.ensures.value)).stands)

pub returns-in_err-check_end : goal.returns-in_err-check_end
returns-in_err-check_end c =
    rw (handed_on _ c.from_residual-in_err-check_end.ensures.1)
    (refused_at_end (sym c.too_long.ensures ∙ c.if-too_long.false) (c.read_level.ensures.taken _ (read_place _ c.in_ok-place.ensures.value)) c.in_err-check_end.ensures)

pub returns : goal.returns
returns c =
    accepts (sym c.too_long.ensures ∙ c.if-too_long.false) (c.read_level.ensures.taken _ (read_place _ c.in_ok-place.ensures.value)) c.in_ok-check_end.ensures
