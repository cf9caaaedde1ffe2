use native.Mathlib.Omega.{arith}
use Rattle.transform_passes.proofs.Controls.{begun, pass_more, all}
use Rattle.transform_passes.proofs.remaining.Goals as goal

pub loop-i-init : goal.loop-i-init
loop-i-init g c = begun c.requires.from_le_n c.requires.ready.table

pub pass-requires : goal.pass-requires
pass-requires g c = record { ready = record { few = c.requires.ready.few; table = c.loop-i.invariant.table }; i_lt_n = omega arith }

pub loop-i-preserved : goal.loop-i-preserved
loop-i-preserved g c = pass_more g.met.T.Transform.keeps c.loop-i.invariant (omega arith) c.pass.ensures

pub returns : goal.returns
returns g c = λ xs h. all (c.loop-i.invariant.applying xs h) (omega arith)
