use mathlib.Core.Path.{refl}
use native.Mathlib.Omega.{arith}
use Prim.Native.Nat.{◌+◌}
use Rattle.ranked_theory.specs.Places.{placed_as}
use Rattle.ranked_theory.specs.Runs.{running_more, later_ready, piece_ready, run_over}
use Rattle.ranked_runs.proofs.long.Goals as goal

pub four-back-requires : goal.four-back-requires
four-back-requires g c = piece_ready _ _ _ _ 4 _ _ c.requires (omega arith)

pub four-next-requires : goal.four-next-requires
four-next-requires g c = let v = c.loop-i.invariant in
    later_ready (g.S.Step.op c.args.modulus.value) _ _ _ _ 4 _ c.args.rows.now _ c.requires v.done v.long (omega (arith, c.loop-i-test.true))

pub loop-i-preserved : goal.loop-i-preserved
loop-i-preserved g c =
    let a = c.args in
    let at = c.loop-i in
    running_more (g.S.Step.op a.modulus.value) a.modulus.value a.lo a.hi (a.last + 4) a.rows.now _ _ at.i 4 c.requires at.invariant
    (placed_as c.store_four.ensures refl c.four-next.ensures)
    c.store_four.auto.rows
    (omega (arith, c.loop-i-test.true))

pub returns : goal.returns
returns g c =
    let a = c.args in
    let at = c.loop-i in
    run_over (g.S.Step.op a.modulus.value) a.lo a.hi at.i a.last a.rows.now _ _ at.invariant.done
    (placed_as c.store_four-2.ensures refl c.four-back.ensures)
    (omega (arith, c.loop-i-test.false))
    at.invariant.turn
