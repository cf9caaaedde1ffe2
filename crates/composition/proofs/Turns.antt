-- One step of the composition: slots i and i + 1 of 2 ^ k numbers become slot i of 2 ^ (k + 1), which is slots 2i and 2i + 1.
use mathlib.Core.Path.{◌≡◌, sym, ap, ◌∙◌}
use mathlib.Core.List.{List}
use mathlib.Core.Logic.{⊎_elim}
use Prim.Native.Nat.{ℕ, zero, suc, ◌+◌, ◌*◌, ◌%◌, ◌^◌, ◌<◌, ◌≤◌}
use native.Mathlib.Nat.{mod-mod, mul-le-mul_right, eq-or-lt_of_le}
use native.Mathlib.Omega.{arith}
use Rattle.definitions.specs.Sums.{at}
use Rattle.definitions.specs.Partitions.{composition_sum}
use Rattle.theory.specs.Lists.{at-residues}
use Rattle.theory.specs.Parts.{at_part}
use Rattle.theory.specs.Powers.{two_slots}
use Rattle.theory.specs.Codes.{by_top}
use Rattle.theory.specs.Halves.{Row, from, from_next}
use Rattle.theory.specs.Composition.{composition_lo}
use Rattle.ranked_within.specs.Within.{table_at}
use Rattle.composition.specs.Slots.{Slots, Turned}
use Rattle.composition.proofs.Upper.{composition_upper}

module _ (m k : ℕ) (f : ℕ → ℕ) (a r s : List ℕ) where
  -- what is still to be read stands
  pub turned_old : (i : ℕ) → Turned k i m a r s → Slots m k 0 (suc (suc i)) f (at a) r → Slots m k 0 (suc i) f (at a) s
  turned_old zero t o = record {
    slot = λ j S l h c.
        let z : j ≡ 0 = omega arith in
        rw z ((let e : 2 * (0 * 2 ^ k) + S ≡ 0 * 2 ^ k + S = omega arith in rw e at (t.lower S c)) ∙ o.slot 0 S (omega arith) (omega arith) c);
  }
  turned_old (suc i) t o = record {
    slot = λ j S l h c.
        let b : j * 2 ^ k ≤ suc i * 2 ^ k = mul-le-mul_right (2 ^ k) (omega arith) in
        t.before (j * 2 ^ k + S) (omega arith) ∙ o.slot j S l (omega arith) c;
  }

  pub turned_new : (i high : ℕ) → Turned k i m a r s → Slots m k 0 (suc (suc i)) f (at a) r → Slots m (suc k) (suc i) high f (at a) r
      → Slots m (suc k) i high f (at a) s
  turned_new i high t o w = record {
    slot = λ j S l h c. ⊎_elim
        (λ (e : i ≡ j). rw (sym e) (here S c))
        (λ (g : i < j).
        let b : suc i * 2 ^ suc k ≤ j * 2 ^ suc k = mul-le-mul_right (2 ^ suc k) g in
        t.behind (j * 2 ^ suc k + S) (omega (arith, two_slots (suc i) k)) ∙ w.slot j S g h c)
        (eq-or-lt_of_le l);
  }
    where
      here : (S : ℕ) → S < 2 ^ suc k → at s (i * 2 ^ suc k + S) ≡ composition_sum (suc k) (from i f) (at a) S % m
      here S c = by_top k S (λ x. at s (i * 2 ^ suc k + x) ≡ composition_sum (suc k) (from i f) (at a) x % m) c
          (λ h.
          let e : i * 2 ^ suc k + S ≡ 2 * (i * 2 ^ k) + S = omega (arith, two_slots i k) in
          rw e (t.lower S h ∙ o.slot i S (omega arith) (omega arith) h ∙ ap (λ (x : ℕ). x % m) (sym (composition_lo k (from i f) (at a) S h))))
          (λ R h.
          let e : i * 2 ^ suc k + (2 ^ k + R) ≡ 2 * (i * 2 ^ k) + 2 ^ k + R = omega (arith, two_slots i k) in
          rw e (t.upper R h ∙ at-residues k m _ R h
          ∙ composition_upper k m (from i f) (at a) (table_at k (suc i * 2 ^ k) r) (table_at k (2 ^ k) a)
          (λ S g. ap (λ (x : ℕ). x % m) (at_part (suc i * 2 ^ k) (2 ^ k) r S g ∙ o.slot (suc i) S (omega arith) (omega arith) g) ∙ mod-mod _ m
          ∙ ap (λ (g : Row). composition_sum k g (at a) S % m) (from_next i f))
          (λ S g. at_part (2 ^ k) (2 ^ k) a S g) R h))
