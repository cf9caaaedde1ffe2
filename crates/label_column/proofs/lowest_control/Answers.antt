use native.Mathlib.Omega.{arith}
use lib.Count.{trailing_le}
use Rattle.label_column.proofs.ControlSteps.{lowest}
use Rattle.label_column.proofs.lowest_control.Goals as goal

pub overflow_cast-result : goal.overflow_cast-result
overflow_cast-result c = omega (arith, trailing_le 64 c.args.code)

pub returns : goal.returns
returns c = lowest 64 _ c.requires.0 (omega (arith, c.requires.1))
