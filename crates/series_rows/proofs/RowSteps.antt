-- The row of inverses, entry after entry modulo m, and what the composition with it is.
use mathlib.Core.Path.{◌≡◌, refl, sym, ap, subst, ◌∙◌}
use mathlib.Core.List.{List}
use mathlib.Core.Logic.{⊎_elim}
use Prim.Native.Nat.{ℕ, zero, suc, ◌+◌, ◌-◌, ◌*◌, ◌%◌, ◌<◌, ◌≤◌}
use native.Mathlib.Nat.{mod-mod, mod-eq_of_lt, mod-lt, zero-add, zero-mod}
use native.Mathlib.Numerals.{add-one, one-add}
use native.Mathlib.Omega.{arith}
use lib.ListN.{set, replicate, length-set, length-replicate, get_or-replicate}
use lib.Seq.{get_or-set_same, get_or-set_other}
use Rattle.definitions.specs.Sums.{at}
use Rattle.definitions.specs.Partitions.{composition_table}
use Rattle.residues.specs.Moduli.{Residue}
use Rattle.theory.specs.Tests.{below_or}
use Rattle.theory.specs.Lists.{residues_ext}
use Rattle.theory.specs.Remainders.{mod-mul}
use Rattle.theory.specs.Series.{composition_mod}
use Rattle.theory.specs.Rows.{inverse_row, inverse_row_first, inverse_row-next, logarithm_row}
use Rattle.theory.specs.Logarithm.{logarithm_of}
use Rattle.theory.specs.Inverse.{inverse_of}
use Rattle.composition.specs.Ready.{RowReady}
use Rattle.series_rows.specs.InverseRows.{row_space, InverseRow}

-- ---- one entry

-- the product of residues is that of the numbers
pub three_products : (m k u entry : ℕ) {count t product c r : ℕ} → Residue m (k + 1) count → Residue m (u * entry) t → Residue m (count * t) product
    → Residue m (0 + (m - 1)) c → Residue m (c * product) r → Residue m ((m - 1) * ((k + 1) * (u * entry))) r
three_products m k u entry {count} {t} {product} {c} {r} a b d minus e = record {
  below = e.below;
  same = e.same ∙ mod-mul m c product (m - 1) ((k + 1) * (u * entry)) (reduced (0 + (m - 1)) minus ∙ ap (λ (x : ℕ). x % m) (zero-add (m - 1)))
      (reduced (count * t) d ∙ mod-mul m count t (k + 1) (u * entry) (reduced (k + 1) a) (reduced (u * entry) b));
} where
  reduced : (x : ℕ) {y : ℕ} → Residue m x y → y % m ≡ x % m
  reduced x s = ap (λ (z : ℕ). z % m) s.same ∙ mod-mod x m

module _ (m u start : ℕ) where
  -- the loop's first turn, with u at hand
  pub first_entry : u < m → u ≡ inverse_row m u (start - start) % m
  first_entry h =
      let z : start - start ≡ 0 = omega arith in
      sym (ap (λ (k : ℕ). inverse_row m u k % m) z ∙ ap (λ (x : ℕ). x % m) (inverse_row_first m u) ∙ mod-eq_of_lt h)

  pub no_entries : start ≤ 1 → InverseRow m u start start (replicate row_space 0)
  no_entries h = record {
    long = length-replicate {A = ℕ} row_space 0;
    before = λ i l. get_or-replicate row_space i 0 0 (omega arith);
    entries = λ k l. omega arith;
  }

  module _ (i entry : ℕ) (r : List ℕ) (past : start ≤ i) (e : entry ≡ inverse_row m u (i - start) % m) where
    pub one_more : i < row_space → InverseRow m u start i r → InverseRow m u start (i + 1) (set r i entry)
    one_more h o = record {
      long = length-set r i entry ∙ o.long;
      before = λ j l. get_or-set_other r i j entry 0 (λ q. omega arith) ∙ o.before j l;
      entries = λ k l. ⊎_elim
          (λ (s : start + k < i). get_or-set_other r i (start + k) entry 0 (λ q. omega arith) ∙ o.entries k s)
          (λ (s : i ≤ start + k).
          let place : start + k ≡ i = omega arith in
          let count : i - start ≡ k = omega arith in
          rw place (get_or-set_same r i entry 0 (omega (arith, o.long)) ∙ e ∙ ap (λ (x : ℕ). inverse_row m u x % m) count))
          (below_or (start + k) i);
    }

    pub next_entry : (x : ℕ) → x ≡ (m - 1) * ((i - start + 1) * (u * entry)) % m → x ≡ inverse_row m u (i + 1 - start) % m
    next_entry x s =
        let k = i - start in
        let more : suc k ≡ i + 1 - start = omega arith in
        s ∙ mod-mul m (m - 1) _ (m - 1) (suc k * (u * inverse_row m u k)) refl
        (mod-mul m (k + 1) (u * entry) (suc k) (u * inverse_row m u k) (ap (λ (x : ℕ). x % m) (add-one k))
        (mod-mul m u entry u (inverse_row m u k) refl (ap (λ (x : ℕ). x % m) e ∙ mod-mod (inverse_row m u k) m)))
        ∙ ap (λ (x : ℕ). x % m) (sym (inverse_row-next m u k)) ∙ ap (λ (x : ℕ). inverse_row m u x % m) more

-- ---- the compositions

-- a row of residues, whatever it is the inverse of and wherever it starts
pub row_ready : {n m u start : ℕ} {f : List ℕ} → n < row_space → 0 < m → InverseRow m u start row_space f → RowReady n m f
row_ready {m = m} {start = start} {f = f} few pos h = record {
  long = omega (arith, h.long);
  below = λ k l. ⊎_elim
      (λ (c : k < start). rw (h.before k c) pos)
      (λ (c : start ≤ k).
      let place : start + (k - start) ≡ k = omega arith in
      subst (λ (j : ℕ). at f j < m) place (rw (h.entries (k - start) (omega arith)) (mod-lt _ pos)))
      (below_or k start);
}

module _ (n m : ℕ) (f A : List ℕ) (few : n < row_space) where
  pub inverse_by_row : {u : ℕ} {r : List ℕ} → r ≡ composition_table n m f A → InverseRow m u 0 row_space f → r ≡ inverse_of n m u A
  unfolding inverse_of
  inverse_by_row {u} e h = e ∙ residues_ext n m _ _ (composition_mod n m (at f) (inverse_row m u) (at A) (at A)
      (λ k l. ap (λ (x : ℕ). x % m) (ap (at f) (sym (zero-add k)) ∙ h.entries k (omega arith)) ∙ mod-mod _ m) (λ S c. refl))

  -- 0, then the row of inverses of 1
  row_at : InverseRow m 1 1 row_space f → (k : ℕ) → k ≤ n → at f k ≡ logarithm_row m k % m
  unfolding logarithm_row
  row_at h zero l = h.before 0 (omega arith) ∙ sym (zero-mod m)
  row_at h (suc k) l = ap (at f) (sym (one-add k)) ∙ h.entries k (omega arith)

  pub logarithm_by_row : {r : List ℕ} → r ≡ composition_table n m f A → InverseRow m 1 1 row_space f → r ≡ logarithm_of n m A
  unfolding logarithm_of
  logarithm_by_row e h = e ∙ residues_ext n m _ _ (composition_mod n m (at f) (logarithm_row m) (at A) (at A)
      (λ k l. ap (λ (x : ℕ). x % m) (row_at h k l) ∙ mod-mod _ m) (λ S c. refl))
