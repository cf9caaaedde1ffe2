use Prim.Native.Nat.{◌^◌, ◌<◌}
use native.Mathlib.Omega.{arith}
use Rattle.board_tables.proofs.Supersets.{next_nearer}
use Rattle.board_tables.proofs.Raising.{raising_none, small, raising_more, raising_all}
use Rattle.board_tables.proofs.raise.Goals as goal

pub loop-t-init : goal.loop-t-init
loop-t-init c = raising_none c.requires

pub add_product-requires : goal.add_product-requires
add_product-requires c = let h = c.requires in
    let p = c.loop-t.invariant in record { below = record { first = h.weight; second = small h p _ }; x_lt_value = small h p _ }

pub loop-t-smaller : goal.loop-t-smaller
loop-t-smaller c = next_nearer _ _ _ (omega (arith, c.loop-t-test.true))

pub loop-t-preserved : goal.loop-t-preserved
loop-t-preserved c =
    let below : c.loop-t.t < 2 ^ c.args.n = omega (arith, c.loop-t-test.true, c.power-long.ensures) in raising_more c.requires c.loop-t.invariant (below) c.add_product.ensures.same

pub returns : goal.returns
returns c = raising_all c.requires c.loop-t.invariant (omega (arith, c.loop-t-test.false, c.power-long.ensures))
