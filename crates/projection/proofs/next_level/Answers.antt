use mathlib.Core.Path.{refl}
use native.Mathlib.Omega.{arith}
use Rattle.projection.proofs.Levels.{zeros_in, zeros_fit, turning_none, turn_ready, turning_more, level_made}
use Rattle.projection.proofs.next_level.Goals as goal

pub slice_bounds-clear-end : goal.slice_bounds-clear-end
slice_bounds-clear-end c = zeros_in c.requires c.power_of_two-size.ensures refl

pub clear-requires : goal.clear-requires
clear-requires c = zeros_fit c.requires c.power_of_two-size.ensures refl

pub loop-i-init : goal.loop-i-init
loop-i-init c =
    turning_none c.requires c.power_of_two-size.ensures refl c.clear.ensures c.clear.auto.workspace (omega (arith, c.args.modulus.valid.lowest))

pub next_table-requires : goal.next_table-requires
next_table-requires c = turn_ready c.power_of_two-size.ensures c.loop-i.invariant c.loop-i-test.true

pub loop-i-preserved : goal.loop-i-preserved
loop-i-preserved c =
    turning_more c.power_of_two-size.ensures c.loop-i.invariant c.loop-i-test.true (omega (arith, c.args.modulus.valid.lowest)) c.next_table.ensures
    c.next_table.auto.workspace

pub returns : goal.returns
returns c = level_made c.requires c.loop-i.invariant (omega arith)
