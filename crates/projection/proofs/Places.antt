-- What stands at the places of a list after some of them were written.
--   untouched     a place that is not among those written
use mathlib.Core.Path.{◌≡◌}
use mathlib.Core.List.{List}
use mathlib.Core.Logic.{inl, inr, ⊎_elim}
use Prim.Native.Nat.{ℕ, ◌+◌, ◌-◌, ◌<◌, ◌≤◌}
use native.Mathlib.Omega.{arith}
use Rattle.definitions.specs.Sums.{at}
use Rattle.theory.specs.Tests.{below_or}
use Rattle.ranked_theory.specs.Rows.{Placed}

pub untouched : {v : ℕ → ℕ} {base count : ℕ} {xs ys : List ℕ} → Placed v base count xs ys
    → (x : ℕ) → ((y : ℕ) → y < count → x ≡ base + y → ⊥) → at ys x ≡ at xs x
untouched {v} {base} {count} p x o =
    ⊎_elim (λ (l : x < base). p.outside x (inl l))
    (λ (g : base ≤ x).
    ⊎_elim (λ (l : x < base + count). absurd (o (x - base) (omega arith) (omega arith)))
    (λ (h : base + count ≤ x). p.outside x (inr h)) (below_or x (base + count)))
    (below_or x base)
