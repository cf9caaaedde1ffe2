use borrow.Author.Rules.{rules}
use Rattle.theory.specs.Lists.{tabulate_of}
use Rattle.entrywise.proofs.add_entries.Goals as goal

pub returns : goal.returns
returns c = tabulate_of _ _ _ c.combine.ensures.res_len (λ i h. let e = c.combine.ensures.entries i h in search rules)
