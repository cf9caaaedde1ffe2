use Prim.Native.Nat.{◌-◌}
use lib.ListN.{length}
use Rattle.ranked_theory.specs.Tables.{Reading}
use Rattle.ranked.proofs.read_off.Given as goal

abbrev pub invariant-loop-h : goal.invariant-loop-h
invariant-loop-h l = Reading l.n l.rows l.initial.res l.res l.h
