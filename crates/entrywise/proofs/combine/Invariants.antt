use Prim.Native.Nat.{ℕ, ◌<◌}
use Rattle.definitions.specs.Sums.{at}
use Rattle.entrywise.proofs.combine.Given as goal

abbrev pub invariant-loop-i : goal.invariant-loop-i
invariant-loop-i g l = (k : ℕ) → k < l.i → goal.F-post g l.operation (at l.a k) (at l.b k) (at l.res k)
