-- The recursion of source 001 section 4, a level at a time: with k controls left there are some tables, table i paired with the row
-- from its entry i on. A level has the same value as the one above, whatever the row.
--   paired_all                   the value of a level: tables side by side
--   Same, same_tables           two levels have the same value for every row
--   turn_none                   one level from the one above, before its first turn; a turn is in proofs/Turns
--   top, bottom                 the first level, and the last: its entries are the projection's
use Rattle.std.specs.Prelude.{◌≡◌, Bool, cond, List}
use Rattle.std.proofs.Common.{sym, ◌∙◌, zero-add, add-zero, mul-zero, mul-one, mod-eq_of_lt, ne_eqb, eq-eqb}
use Rattle.std.proofs.Math.Path.{ap}
use Prim.Native.Nat.{ℕ, suc, ◌+◌, ◌*◌, ◌%◌, ◌^◌, ◌<◌, ◌≤◌}
use native.Mathlib.Omega.{arith}
use Rattle.definitions.specs.Sums.{sum, at}
use Rattle.definitions.specs.Projection.{one_at, projection_entry}
use Rattle.theory.specs.Sums.{sum_ext, sum-mod, sum_only}
use Rattle.theory.specs.Halves.{Row, from, from_none}
use Rattle.projection_theory.specs.Pairing.{paired, paired_zero, paired-mod, paired_none_left, entry_is}

-- c tables of k controls
unfoldable pub paired_all : ℕ → ℕ → (ℕ → ℕ → ℕ) → Row → (ℕ → ℕ) → ℕ
paired_all k c G f B = sum c (λ i. paired k (G i) (from i f) B)

-- c tables of k controls have the value of d tables of l controls, whatever the row
pub record Same (m k c : ℕ) (G : ℕ → ℕ → ℕ) (l d : ℕ) (H : ℕ → ℕ → ℕ) (B : ℕ → ℕ) : Type 0 where
  pub same : (f : Row) → paired_all k c G f B % m ≡ paired_all l d H f B % m

-- and so of tables with equal entries
pub same_tables : {m k c : ℕ} {G : ℕ → ℕ → ℕ} {l d : ℕ} {H J : ℕ → ℕ → ℕ} {B : ℕ → ℕ} → Same m k c G l d H B
    → ((i S : ℕ) → i < d → S < 2 ^ l → H i S ≡ J i S) → Same m k c G l d J B
unfolding paired_all
same_tables {m} {l = l} {d} {H} {J} {B} s h = record {
  same = λ f.
      s.same f
      ∙ sum-mod m d (λ i. paired l (H i) (from i f) B) (λ i. paired l (J i) (from i f) B)
      (λ i b. paired-mod l (from i f) B m (H i) (J i) (λ S t. ap (λ (x : ℕ). x % m) (h i S b t)));
}

-- ---- one level from the one above, G

module _ (m k : ℕ) (B : ℕ → ℕ) (G : ℕ → ℕ → ℕ) where
  -- before the first turn table 0 is all zeros
  pub turn_none : (Y : ℕ → ℕ → ℕ) → ((S : ℕ) → S < 2 ^ k → Y 0 S ≡ 0) → Same m k 1 Y (suc k) 0 G B
  unfolding paired_all sum
  turn_none Y z = record {
    same = λ f.
        ap (λ (x : ℕ). x % m) (zero-add _)
        ∙ paired-mod k (from 0 f) B m (Y 0) (λ S. 0) (λ S h. ap (λ (x : ℕ). x % m) (z S h))
        ∙ ap (λ (x : ℕ). x % m) (paired_zero k (from 0 f) B);
  }

-- ---- all levels

-- the first one has one table
pub top : (n : ℕ) (G : ℕ → ℕ → ℕ) (f : Row) (B : ℕ → ℕ) → paired_all n 1 G f B ≡ paired n (G 0) f B
unfolding paired_all sum
top n G f B = zero-add _ ∙ ap (λ (r : Row). paired n (G 0) r B) (from_none f)

-- the last one has the entries: take the row that is 1 at i
pub bottom : (n m : ℕ) (A B : List ℕ) (R : ℕ → ℕ → ℕ) → ((f : Row) → paired_all 0 (suc n) R f (at B) % m ≡ paired n (at A) f (at B) % m)
    → (i : ℕ) → i ≤ n → R i 0 < m → R i 0 ≡ projection_entry n m A B i
unfolding paired_all
bottom n m A B R same i l below =
    let one : R i 0 * one_at i (i + 0) ≡ R i 0 = ap (λ (t : Bool). R i 0 * cond t 1 0) (eq-eqb (i + 0) i (add-zero i)) ∙ mul-one (R i 0) in
    let all : paired_all 0 (suc n) R (one_at i) (at B) ≡ R i 0 =
    sum_ext (suc n) _ _ (λ j k. paired_none_left (R j) (from j (one_at i)) (at B))
    ∙ sum_only (suc n) i (λ j. R j 0 * one_at i (j + 0)) (omega arith)
    (λ j k d. ap (λ (t : Bool). R j 0 * cond t 1 0) (ne_eqb (j + 0) i (λ e. d (sym (add-zero j) ∙ e))) ∙ mul-zero (R j 0))
    ∙ one in
    sym (mod-eq_of_lt below) ∙ ap (λ (x : ℕ). x % m) (sym all) ∙ same (one_at i) ∙ sym (entry_is n m A B i)
