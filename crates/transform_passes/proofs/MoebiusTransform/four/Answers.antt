use mathlib.Core.Path.{refl, ◌∙◌}
use native.Mathlib.Omega.{arith}
use Rattle.transform_passes.proofs.Fours.{excluded}
use Rattle.transform_passes.proofs.MoebiusTransform.four.Goals as goal

pub returns : goal.returns
returns c = let below = c.requires in record {
  neither = refl;
  first = c.subtract.ensures.same;
  second = c.subtract-2.ensures.same;
  both = c.subtract-3.ensures.same ∙ excluded (omega (arith, below.neither)) below c.add-whole.ensures.same c.add-parts.ensures.same;
}
