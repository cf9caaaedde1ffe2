use mathlib.Core.Path.{◌≡◌}
use borrow.Author.Rules.{rules}
use Rattle.std.specs.List.{count_by}
use Rattle.page_text.proofs.PartSteps.{some, counted}
use Rattle.page_text.proofs.count_lines.Goals as goal

pub returns : goal.returns
returns c = let sum : c.sum.result ≡ count_by some c.args.table.now = search rules in counted _ sum
