use Prim.Native.Nat.{◌-◌}
use lib.ListN.{length}
use Rattle.ranked_theory.specs.Tables.{LayingBoth}
use Rattle.ranked.proofs.lay_out_both.Given as goal

abbrev pub invariant-loop-h : goal.invariant-loop-h
invariant-loop-h l = LayingBoth l.n l.a l.b l.initial.rows l.rows l.h
