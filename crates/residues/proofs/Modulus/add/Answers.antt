use Rattle.std.proofs.Common.{refl, rules}
use Rattle.residues.proofs.Reduce.{once, reduced}
use Rattle.residues.proofs.Modulus.add.Goals as goal

pub returns-then-a-lacking : goal.returns-then-a-lacking
returns-then-a-lacking c = once _ _ (search rules) (search rules) (search rules)

pub returns-else-a-lacking : goal.returns-else-a-lacking
returns-else-a-lacking c = reduced _ _ refl (search rules)
