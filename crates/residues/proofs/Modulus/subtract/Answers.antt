use Rattle.std.proofs.Common.{arith}
use Rattle.residues.proofs.Reduce.{back_covers, back_below, back_residue}
use Rattle.residues.proofs.Modulus.subtract.Goals as goal

pub overflow_sub-result : goal.overflow_sub-result
overflow_sub-result c = back_covers _ _ _ _ c.requires c.back.ensures

pub overflow_cast-result-2 : goal.overflow_cast-result-2
overflow_cast-result-2 c = let l = back_below _ _ _ _ c.requires c.back.ensures in record { fits = omega (arith, c.args.self.valid.largest) }

pub returns : goal.returns
returns c = back_residue _ _ _ _ c.requires c.back.ensures
