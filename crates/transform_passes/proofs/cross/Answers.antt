use native.Mathlib.Omega.{arith}
use Rattle.theory.specs.PassLoops.{crossing_start, lower_read, upper_read, crossing_turn, crossing_end}
use Rattle.transform_passes.proofs.cross.Goals as goal

pub loop-t-init : goal.loop-t-init
loop-t-init g c = crossing_start c.requires.size

pub lower-requires : goal.lower-requires
lower-requires g c = let more = c.loop-t.invariant in
    let below = c.requires.below in record { first = rw (lower_read more (omega arith)) (below _); second = rw (upper_read more (omega arith)) (below _) }

pub upper-requires : goal.upper-requires
upper-requires g c = let more = c.loop-t.invariant in
    let below = c.requires.below in record { first = rw (lower_read more (omega arith)) (below _); second = rw (upper_read more (omega arith)) (below _) }

pub loop-t-preserved : goal.loop-t-preserved
loop-t-preserved g c = crossing_turn c.loop-t.invariant (omega arith) c.lower.ensures.same c.upper.ensures.same

pub returns : goal.returns
returns g c = crossing_end c.loop-t.invariant (omega arith)
