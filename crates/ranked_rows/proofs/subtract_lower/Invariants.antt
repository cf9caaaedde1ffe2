use mathlib.Core.Path.{◌≡◌}
use Prim.Native.Nat.{◌+◌}
use Rattle.definitions.specs.Sets.{size}
use Rattle.ranked_theory.specs.Rows.{Subtracted}
use Rattle.ranked_theory.specs.RowSteps.{Passing}
use Rattle.ranked_rows.proofs.subtract_lower.Given as goal

abbrev pub invariant-loop-u : goal.invariant-loop-u
invariant-loop-u l = (l.low.0 ≡ size l.u) × Passing (λ v. Subtracted l.modulus.value l.w l.e.0 (size v + l.d.0)) 1 l.w l.p l.half l.mid l.initial.rows l.rows l.u
