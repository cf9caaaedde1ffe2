use native.Mathlib.Omega.{arith}
use Rattle.theory.specs.PassLoops.{passing_start, passing_length, block_fits, lent-size, lent_below, passing_turn, passing_end}
use Rattle.transform_passes.proofs.pass.Goals as goal

pub loop-block-init : goal.loop-block-init
loop-block-init g c = passing_start c.requires.i_lt_n c.power-half.ensures c.power-block-end.ensures c.requires.ready.table.size

pub overflow_mul-start : goal.overflow_mul-start
overflow_mul-start g c = omega (arith, block_fits c.loop-block.invariant (omega arith), passing_length c.loop-block.invariant)

pub overflow_add-end : goal.overflow_add-end
overflow_add-end g c = omega (arith, block_fits c.loop-block.invariant (omega arith), passing_length c.loop-block.invariant)

pub slice_bounds-cross-end : goal.slice_bounds-cross-end
slice_bounds-cross-end g c = omega (arith, block_fits c.loop-block.invariant (omega arith), passing_length c.loop-block.invariant)

pub cross-requires : goal.cross-requires
cross-requires g c = let so_far = c.loop-block.invariant in record { size = lent-size so_far (omega arith); below = lent_below so_far (omega arith) c.requires.ready.table.below }

pub loop-block-preserved : goal.loop-block-preserved
loop-block-preserved g c = passing_turn c.loop-block.invariant (omega arith) c.cross.ensures

pub returns : goal.returns
returns g c = passing_end c.loop-block.invariant (omega arith)
