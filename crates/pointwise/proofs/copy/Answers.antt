use mathlib.Core.Path.{refl, ◌∙◌}
use native.Mathlib.Omega.{arith}
use Rattle.theory.specs.Lists.{tabulate_self}
use Rattle.pointwise.specs.Filling.{fresh, next, full}
use Rattle.pointwise.proofs.copy.Goals as goal

pub loop-i-init : goal.loop-i-init
loop-i-init c = fresh

pub loop-i-preserved : goal.loop-i-preserved
loop-i-preserved c = next c.loop-i.invariant refl (omega arith)

pub returns : goal.returns
returns c = full c.loop-i.invariant (omega arith) ∙ tabulate_self _ _ c.requires
