use Rattle.degrees.specs.Parts.{part_eight}
use Rattle.degrees.proofs.degree_of_eight.Goals as goal

pub returns : goal.returns
returns c = rw part_eight cc
