use mathlib.Core.Path.{refl}
use native.Mathlib.Omega.{arith}
use Rattle.ranked_theory.specs.Tables.{laying_more}
use Rattle.ranked.proofs.lay_out.Goals as goal

pub loop-h-preserved : goal.loop-h-preserved
loop-h-preserved c = let s = c.requires in laying_more c.loop-h.invariant s.side_bound (omega arith) s.room.long _ _ c.place.ensures refl
