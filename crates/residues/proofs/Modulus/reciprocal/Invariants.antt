use Rattle.residues.proofs.Euclid.{Bezout}
use Rattle.residues.proofs.Modulus.reciprocal.Given as goal

abbrev pub invariant-loop-pair : goal.invariant-loop-pair
invariant-loop-pair l = Bezout l.self.value l.a l.pair

abbrev pub decreases-loop-pair : goal.decreases-loop-pair
decreases-loop-pair l = l.pair.smaller
