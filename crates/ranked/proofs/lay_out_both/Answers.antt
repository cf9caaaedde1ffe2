use mathlib.Core.Path.{refl}
use native.Mathlib.Omega.{arith}
use lib.ListN.{length-set}
use Rattle.ranked_theory.specs.Layout.{place_in}
use Rattle.ranked_theory.specs.Tables.{laying_both_more}
use Rattle.ranked.proofs.lay_out_both.Goals as goal

pub bounds-rows-place-in-loop-h : goal.bounds-rows-place-in-loop-h
bounds-rows-place-in-loop-h c =
    simp length-set (omega (arith, c.place-in-loop-h.ensures, place_in c.args.n 1 c.loop-h.h (omega arith) (omega arith)))

pub loop-h-preserved : goal.loop-h-preserved
loop-h-preserved c =
    laying_both_more c.loop-h.invariant (omega arith) c.requires.room.long _ _ _ _ c.place.ensures c.place-in-loop-h.ensures refl refl
