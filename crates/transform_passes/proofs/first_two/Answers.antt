use native.Mathlib.Omega.{arith}
use Rattle.transform_passes.proofs.Fours.{start, end, room, can_cross, turn}
use Rattle.transform_passes.proofs.first_two.Goals as goal

pub loop-block-init : goal.loop-block-init
loop-block-init g c = start c.requires.lt_n c.power-block-end.ensures c.requires.ready.table

pub overflow_mul-block : goal.overflow_mul-block
overflow_mul-block g c = omega (arith, room c.loop-block.invariant (omega arith))

pub cross_four-requires : goal.cross_four-requires
cross_four-requires g c = can_cross c.loop-block.invariant (omega arith)

pub loop-block-preserved : goal.loop-block-preserved
loop-block-preserved g c = turn c.loop-block.invariant (omega arith) c.cross_four.ensures

pub returns : goal.returns
returns g c = end c.loop-block.invariant g.met.T.Transform.keeps (omega arith)
