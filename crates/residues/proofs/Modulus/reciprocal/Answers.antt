use Rattle.std.proofs.Common.{rules}
use Rattle.residues.proofs.Euclid.{first, next, falls, is_reciprocal, is_common}
use Rattle.residues.proofs.Modulus.reciprocal.Goals as goal

pub loop-pair-init : goal.loop-pair-init
loop-pair-init c = first (search rules) (search rules)

pub loop-pair-smaller : goal.loop-pair-smaller
loop-pair-smaller c = falls c.next-pair.ensures (search rules)

pub loop-pair-preserved : goal.loop-pair-preserved
loop-pair-preserved c = next c.loop-pair.invariant c.loop-pair-test.true c.next-pair.ensures

pub returns-then-pair-eq1 : goal.returns-then-pair-eq1
returns-then-pair-eq1 c = is_reciprocal c.loop-pair.invariant c.if-pair-eq1.true

pub returns-else-pair-eq1 : goal.returns-else-pair-eq1
returns-else-pair-eq1 c = is_common c.loop-pair.invariant (search rules)
