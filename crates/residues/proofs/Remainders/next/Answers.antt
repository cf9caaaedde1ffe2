use Rattle.std.proofs.Common.{refl, rules}
use Rattle.residues.proofs.Euclid.{quotient_below}
use Rattle.residues.proofs.Remainders.next.Goals as goal

pub multiply-taken-requires : goal.multiply-taken-requires
multiply-taken-requires c = quotient_below {pair = c.args.self} (search rules) (search rules)

pub returns : goal.returns
returns c = record { larger_is = refl; smaller_is = refl; of_larger_is = refl; of_smaller_is = rw c.multiply-taken.ensures.same at c.subtract.ensures }
