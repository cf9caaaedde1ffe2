use Rattle.number_groups.proofs.GroupWrites.{one_less}
use Rattle.number_groups.proofs.write_number.Goals as goal

pub loop-rest-preserved : goal.loop-rest-preserved
loop-rest-preserved c = one_less _ _ _ _ _ _ c.loop-rest.invariant c.loop-rest-test.true
