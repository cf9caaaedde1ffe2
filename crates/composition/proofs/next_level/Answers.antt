use native.Mathlib.Omega.{arith}
use Rattle.composition.proofs.Levels.{raising_none, turn_ready, raising_more, raised}
use Rattle.composition.proofs.next_level.Goals as goal

pub loop-i-init : goal.loop-i-init
loop-i-init c = raising_none c.requires

pub next_table-requires : goal.next_table-requires
next_table-requires c = let v = c.loop-i in turn_ready c.requires c.loop-i-test.true v.invariant (omega (arith, c.args.modulus.valid.lowest))

pub loop-i-preserved : goal.loop-i-preserved
loop-i-preserved c = let v = c.loop-i in
    let made = c.next_table in
    raising_more c.requires c.loop-i-test.true v.invariant
    made.new.workspace made.ensures made.auto.workspace

pub returns : goal.returns
returns c = let v = c.loop-i in
    raised c.requires (omega arith) v.invariant
