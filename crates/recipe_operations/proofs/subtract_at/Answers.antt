use Rattle.definitions.specs.Sums.{tabulate}
use Rattle.definitions.specs.Products.{residues}
use Rattle.entrywise.specs.Rules.{difference_at}
use Rattle.recipe_operations.proofs.Signs.{pair_inputs, pair_made, pair_ready, subtracted}
use Rattle.recipe_operations.proofs.subtract_at.Goals as goal

pub subtract_entries-requires : goal.subtract_entries-requires
subtract_entries-requires c = pair_inputs (pair_ready c.requires c.save.auto.pad c.save.ensures)

pub returns : goal.returns
unfolding residues
returns c = let value = c.args.modulus.value in
    let ready = pair_ready c.requires c.save.auto.pad c.save.ensures in
    subtracted c.requires c.save.auto.pad c.save.ensures (pair_made ready (λ k a b. tabulate k (difference_at value a b)) c.subtract_entries.ensures)
