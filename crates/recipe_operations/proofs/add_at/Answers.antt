use Rattle.definitions.specs.Sums.{tabulate}
use Rattle.definitions.specs.Products.{residues}
use Rattle.entrywise.specs.Rules.{sum_at}
use Rattle.recipe_operations.proofs.Signs.{pair_inputs, pair_made, pair_ready, added}
use Rattle.recipe_operations.proofs.add_at.Goals as goal

pub add_entries-requires : goal.add_entries-requires
add_entries-requires c = pair_inputs (pair_ready c.requires c.save.auto.pad c.save.ensures)

pub returns : goal.returns
unfolding residues
returns c = let value = c.args.modulus.value in
    let ready = pair_ready c.requires c.save.auto.pad c.save.ensures in
    added c.requires c.save.auto.pad c.save.ensures (pair_made ready (λ k a b. tabulate k (sum_at value a b)) c.add_entries.ensures)
