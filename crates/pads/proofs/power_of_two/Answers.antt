use mathlib.Core.Path.{◌∙◌}
use native.Mathlib.Nat.{one-mul}
use native.Mathlib.Omega.{arith}
use lib.Dec.{lit<}
use lib.Pow.{shl_exact}
use Rattle.pads.proofs.power_of_two.Goals as goal

pub returns : goal.returns
returns c = shl_exact 1 c.args.k 64 (lit< tt) (omega arith) ∙ one-mul _
