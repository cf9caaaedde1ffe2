use mathlib.Core.Path.{◌∙◌}
use borrow.Author.Rules.{rules}
use Rattle.board_tables.proofs.Fresh.{zeros}
use Rattle.board_tables.proofs.fill_zeros.Goals as goal

pub returns : goal.returns
returns c = c.fill.ensures.after (λ y e. search rules) ∙ zeros _
