-- The loop of a transform over the controls of a table: what is left so far, one more control, and the end. Entries stay residues.
use mathlib.Core.Path.{◌≡◌, sym, ap, ◌∙◌}
use mathlib.Core.Bool.{Bool, true, false, cond}
use mathlib.Core.List.{List}
use mathlib.Core.Logic.{⊎_elim}
use Prim.Native.Nat.{ℕ, zero, suc, ◌+◌, ◌-◌, ◌/◌, ◌%◌, ◌^◌, ◌<◌, ◌≤◌}
use native.Mathlib.Numerals.{add-one}
use native.Mathlib.Omega.{arith}
use lib.Dec.{eqb}
use lib.ListN.{get_or-eq_default}
use Rattle.definitions.specs.Sums.{tabulate, at}
use Rattle.theory.specs.Tests.{below_or}
use Rattle.theory.specs.Lists.{length-tabulate, at-tabulate}
use Rattle.theory.specs.Passes.{pass, passes, passes_none, passes_more}
use Rattle.theory.specs.Convolution.{transformed}
use Rattle.checks.specs.Accepted.{IsTable}
use Rattle.transform_passes.specs.Steps.{Step, KeepsResidues, Applying, Transformed}

-- ---- residues stay residues

either_below : {m x y : ℕ} (b : Bool) → x < m → y < m → cond b x y < m
either_below true p q = p
either_below false p q = q

pub tabulated : {m : ℕ} (n : ℕ) {f : ℕ → ℕ} → ((S : ℕ) → f S < m) → IsTable n m (tabulate (2 ^ n) f)
tabulated {m} n {f} h =
    record {
      size = length-tabulate (2 ^ n) f;
      below = λ S. ⊎_elim (λ g. rw (at-tabulate (2 ^ n) f S g) (h S))
          (λ (g : 2 ^ n ≤ S). rw (get_or-eq_default (tabulate (2 ^ n) f) 0 {n = S} (omega (arith, length-tabulate (2 ^ n) f))) (omega (arith, h 0)))
          (below_or S (2 ^ n));
    }

module _ (m : ℕ) {t : Step} (keeps : KeepsResidues t) where
  pub pass_below : (i : ℕ) (f : ℕ → ℕ) → ((S : ℕ) → f S < m) → (S : ℕ) → pass (t.lower m) (t.upper m) i f S < m
  unfolding pass
  pass_below i f h S =
      either_below (eqb (S / 2 ^ i % 2) 1) (keeps.upper m _ _ (h (S - 2 ^ i)) (h S)) (keeps.lower m _ _ (h S) (h (S + 2 ^ i)))

  pub passes_below : (i : ℕ) (f : ℕ → ℕ) → ((S : ℕ) → f S < m) → (S : ℕ) → passes (t.lower m) (t.upper m) i f S < m
  unfolding passes
  passes_below zero f h S = h S
  passes_below (suc i) f h S = pass_below i _ (passes_below i f h) S

-- ---- the loop

module _ {m : ℕ} {t : Step} {n : ℕ} {xs : List ℕ} where
  pub none : IsTable n m xs → Applying m t n xs 0 xs
  none h =
      record {
        within = omega arith;
        size = h.size;
        table = h;
        is = passes_none (t.lower m) (t.upper m) n xs h.size;
      }

  module _ {i : ℕ} {l : List ℕ} (h : Applying m t n xs i l) where
    pub one_more : KeepsResidues t → i < n → {new : List ℕ} → new ≡ tabulate (2 ^ n) (pass (t.lower m) (t.upper m) i (at l)) → Applying m t n xs (i + 1) new
    one_more keeps k {new} e =
        let p = t.lower m in
        let q = t.upper m in
        record {
          within = omega arith;
          size = h.size;
          table = rw e (tabulated n (pass_below m keeps i (at l) h.table.below));
          is = e ∙ ap (λ (u : List ℕ). tabulate (2 ^ n) (pass p q i (at u))) h.is ∙ passes_more p q n i (at xs) k
              ∙ ap (λ (j : ℕ). tabulate (2 ^ n) (passes p q j (at xs))) (sym (add-one i));
        }

    pub all : n ≤ i → Transformed m t n xs l
    unfolding transformed
    all k =
        let e : i ≡ n = omega (arith, h.within) in
        record {
          is = h.is ∙ ap (λ (j : ℕ). tabulate (2 ^ n) (passes (t.lower m) (t.upper m) j (at xs))) e;
          table = h.table;
        }

-- what the loop from a control on has of the table k so far
pub record Remaining (m : ℕ) (t : Step) (n from : ℕ) (k : List ℕ) (i : ℕ) (l : List ℕ) : Type 0 where
  pub within : i ≤ n
  pub table : IsTable n m l
  pub applying : (xs : List ℕ) → Applying m t n xs from k → Applying m t n xs i l

module _ {m : ℕ} {t : Step} {n from : ℕ} {k : List ℕ} where
  pub begun : from ≤ n → IsTable n m k → Remaining m t n from k from k
  begun e h = record { within = e; table = h; applying = λ xs a. a }

  pub pass_more : KeepsResidues t → {i : ℕ} {l : List ℕ} → Remaining m t n from k i l → i < n → {new : List ℕ}
      → new ≡ tabulate (2 ^ n) (pass (t.lower m) (t.upper m) i (at l)) → Remaining m t n from k (i + 1) new
  pass_more keeps {i} {l} h lt e =
      record {
        within = omega arith;
        table = rw e (tabulated n (pass_below m keeps i (at l) h.table.below));
        applying = λ xs a. one_more (h.applying xs a) keeps lt e;
      }
