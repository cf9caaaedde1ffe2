use Rattle.transform_passes.proofs.Steps.{multiplied, convolved}
use Rattle.transform_passes.proofs.convolve_in_place.Goals as goal

pub apply-requires-3 : goal.apply-requires-3
apply-requires-3 g c = multiplied c.requires.ready _ _ c.multiply.ensures

pub returns : goal.returns
returns g c = convolved c.apply.ensures c.apply-2.ensures (rw c.multiply.ensures at c.apply-3.ensures)
