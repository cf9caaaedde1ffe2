use Rattle.residues.specs.Accumulated.{held}
use Rattle.std.proofs.Common.{refl}
use Rattle.residues.proofs.Accumulator.start.Goals as goal

pub returns : goal.returns
unfolding held
returns c = record { counted = refl; empty = refl }
