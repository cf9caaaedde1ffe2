use mathlib.Core.Path.{refl}
use native.Mathlib.Omega.{arith}
use Rattle.composition.proofs.Levels.{row_in, composing_first, level_ready, composing_more, composed}
use Rattle.composition.proofs.composition_table.Goals as goal

pub slice_bounds-copy-end-2 : goal.slice_bounds-copy-end-2
slice_bounds-copy-end-2 c = omega (arith, row_in c.rows_length-start.ensures c.requires.ready c.requires.row_ready refl)

pub loop-k-init : goal.loop-k-init
loop-k-init c = composing_first c.rows_length-start.ensures c.requires.ready c.requires.row_ready refl c.copy.ensures

pub next_level-requires : goal.next_level-requires
next_level-requires c = level_ready c.rows_length-start.ensures c.requires.ready c.requires.row_ready c.loop-k.invariant c.loop-k-test.true

pub loop-k-preserved : goal.loop-k-preserved
loop-k-preserved c = let made = c.next_level in
    composing_more c.rows_length-start.ensures c.requires.ready c.requires.row_ready c.loop-k.invariant _ c.loop-k-test.true
    made.ensures made.auto.workspace

pub returns : goal.returns
returns c = composed c.rows_length-start.ensures c.requires.ready c.requires.row_ready c.loop-k.invariant c.loop-k-test.false
