use mathlib.Core.Path.{sym}
use native.Mathlib.Omega.{arith}
use lib.Seq.{set_out}
use Rattle.board_laws.proofs.keep.Goals as goal

pub returns-else-k-numbers : goal.returns-else-k-numbers
returns-else-k-numbers c = let s = c.args in sym (set_out s.numbers.now s.k s.number (omega arith))
