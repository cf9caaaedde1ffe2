use Prim.Native.Nat.{◌-◌}
use lib.ListN.{length}
use Rattle.ranked_theory.specs.Tables.{Laying}
use Rattle.ranked.proofs.lay_out.Given as goal

abbrev pub invariant-loop-h : goal.invariant-loop-h
invariant-loop-h l = Laying l.n l.side l.a l.initial.rows l.rows l.h
