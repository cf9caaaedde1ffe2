use Rattle.recipe_words.proofs.Factors.{not_closed_end, not-closed}
use Rattle.recipe_words.proofs.closed.Goals as goal

pub returns-in_err-get : goal.returns-in_err-get
returns-in_err-get c = rw c.from_residual.ensures (not_closed_end _ _ c.in_err-get.ensures.lookup.3)

pub returns-then-branch-ne41 : goal.returns-then-branch-ne41
returns-then-branch-ne41 c = let x = c.in_ok-get.ensures.lookup in not-closed _ _ x.3.0 (rw (x.3.1 0) at c.if-branch-ne41.true)
