use mathlib.Core.Path.{refl}
use native.Mathlib.Omega.{arith}
use Rattle.projection.proofs.Levels.{projecting_first, level_ready, projecting_more, row_in, row_fits, projected}
use Rattle.projection.proofs.projection_row.Goals as goal

pub loop-k-init : goal.loop-k-init
loop-k-init c = projecting_first c.requires c.rows_length-first.ensures c.power_of_two-size.ensures refl c.copy.ensures

pub next_level-requires : goal.next_level-requires
next_level-requires c = level_ready c.requires c.loop-k.invariant (omega (arith, c.loop-k-test.true))

pub loop-k-preserved : goal.loop-k-preserved
loop-k-preserved c =
    rw (c.swap.ensures.x_after, c.swap.ensures.y_after)
    (projecting_more c.requires c.loop-k.invariant (omega (arith, c.loop-k-test.true)) c.next_level.ensures c.next_level.auto.workspace)

pub slice_bounds-copy-end-2 : goal.slice_bounds-copy-end-2
slice_bounds-copy-end-2 c = row_in c.requires c.loop-k.invariant refl

pub copy-requires-2 : goal.copy-requires-2
copy-requires-2 c = row_fits c.requires c.loop-k.invariant refl

pub returns : goal.returns
returns c = projected c.requires c.loop-k.invariant refl c.loop-k-test.false c.copy-2.ensures
