use Rattle.std.proofs.Common.{refl, mod-lt, rules}
use Rattle.residues.proofs.Reduce.{fits_residue}
use Rattle.residues.proofs.Modulus.reduce.Goals as goal

pub overflow_cast-result : goal.overflow_cast-result
overflow_cast-result c = fits_residue _ (search rules) (search rules)

pub returns : goal.returns
returns c = record { same = refl; below = mod-lt _ (search rules) }
