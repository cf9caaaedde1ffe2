use Rattle.transform_passes.proofs.Fours.{four_stored}
use Rattle.transform_passes.proofs.cross_four.Goals as goal

pub returns : goal.returns
returns g c = four_stored _ _ _ _ c.four-y.ensures
