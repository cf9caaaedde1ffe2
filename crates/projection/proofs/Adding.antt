-- One table added to another: what is read has not been overwritten.
use mathlib.Core.Path.{◌≡◌, sym, subst}
use mathlib.Core.List.{List}
use mathlib.Core.Logic.{inr}
use Prim.Native.Nat.{ℕ, ◌+◌, ◌<◌}
use native.Mathlib.Nat.{le_refl}
use native.Mathlib.Omega.{arith}
use Rattle.definitions.specs.Sums.{at}
use Rattle.residues.specs.Moduli.{Below}
use Rattle.ranked_theory.specs.Rows.{Placed}
use Rattle.projection.specs.Places.{AddReady, sum_at}
use Rattle.projection.proofs.Places.{untouched}

module _ {m size source target : ℕ} {xs ys : List ℕ} (d : AddReady m size source target xs) {i : ℕ} (l : i < size)
    (p : Placed (sum_at m source target xs) target i xs ys) where
  pub at_target : at ys (target + i) ≡ at xs (target + i)
  at_target = p.outside (target + i) (inr (le_refl (target + i)))

  pub at_source : at ys (source + i) ≡ at xs (source + i)
  at_source = untouched p (source + i) (λ y h e. d.apart i y l (omega arith) e)

  pub both_below : Below m (at ys (target + i)) (at ys (source + i))
  both_below = record {
    first = subst (λ (x : ℕ). x < m) (sym at_target) (d.target_below i l);
    second = subst (λ (x : ℕ). x < m) (sym at_source) (d.source_below i l);
  }
