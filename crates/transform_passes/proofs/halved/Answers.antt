use native.Mathlib.Omega.{arith}
use Rattle.transform_passes.proofs.Halving.{none, one_more}
use Rattle.transform_passes.proofs.halved.Goals as goal

pub loop-i-init : goal.loop-i-init
loop-i-init c = none _ c.requires (omega arith)

pub multiply-r-requires : goal.multiply-r-requires
multiply-r-requires c = record { first = c.loop-i.invariant.below; second = omega arith }

pub loop-i-preserved : goal.loop-i-preserved
loop-i-preserved c = one_more _ c.requires c.loop-i.invariant (omega arith) c.multiply-r.ensures
