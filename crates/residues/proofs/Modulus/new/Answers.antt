use Rattle.std.proofs.Common.{arith}
use Rattle.residues.proofs.Carries.{two_64}
use Rattle.residues.proofs.Modulus.new.Goals as goal

pub invariant_of-result : goal.invariant_of-result
invariant_of-result c = record { valid = record { lowest = omega arith; largest = omega arith; two_64_is = two_64 c.args.m } }
