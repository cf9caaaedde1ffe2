-- The pairing of Halves on functions of codes, and modulo m.
--   paired k G f B                        the whole-panel entry of G · f(B), k controls
--   paired-plus, paired_zero, paired-mod  in G
--   paired_none_left                      with no controls: G[0] · f[0]
--   entry_paired, entry_is                of the definitions
use Rattle.std.specs.Prelude.{◌≡◌, refl, List}
use Rattle.std.proofs.Common.{sym, ◌∙◌, zero-mul, arith, pow_pos}
use Rattle.std.proofs.Math.Path.{ap, ap₂}
use Rattle.std.proofs.Math.Bool.{cond}
use Prim.Native.Nat.{ℕ, ◌+◌, ◌-◌, ◌*◌, ◌%◌, ◌^◌, ◌<◌, ◌≤◌}
use Rattle.definitions.specs.Sums.{at}
use Rattle.definitions.specs.Sets.{inside}
use Rattle.definitions.specs.Products.{subset_sum, subset_table}
use Rattle.definitions.specs.Partitions.{composition_sum, composition_table}
use Rattle.definitions.specs.Projection.{one_at, one_row, whole_entry, projection_entry}
use Rattle.theory.specs.Sums.{sum_zero}
use Rattle.theory.specs.Tests.{guard_zero}
use Rattle.theory.specs.Lists.{at-residues, at-tabulate}
use Rattle.theory.specs.Halves.{Table, Row, mul, tab}
use Rattle.theory.specs.Product.{tab-mul, subset_empty}
use Rattle.theory.specs.Composition.{tab-comp, composition_empty}
use Rattle.theory.specs.Series.{subset_comm, subset_plus, subset_mod, composition_mod}
use Rattle.theory.specs.Tables.{at-mod}
use Rattle.projection_theory.specs.Halves.{last, tab-last, pairing}

unfoldable pub paired : ℕ → (ℕ → ℕ) → Row → (ℕ → ℕ) → ℕ
paired k G f B = subset_sum k G (composition_sum k f B) (2 ^ k - 1)

-- the code of the whole panel
whole_in : (k : ℕ) → 2 ^ k - 1 < 2 ^ k
whole_in k = omega (arith, pow_pos k)

pub paired-tab : (k : ℕ) (G : ℕ → ℕ) (f : Row) (B : ℕ → ℕ) → paired k G f B ≡ pairing k (tab k G) f (tab k B)
unfolding paired pairing
paired-tab k G f B =
    sym (tab-last k (subset_sum k G (composition_sum k f B))) ∙ ap (last k) (sym (tab-mul k G (composition_sum k f B)))
    ∙ ap (λ (t : Table k). last k (mul k (tab k G) t)) (sym (tab-comp k f B))

module _ (k : ℕ) (f : Row) (B : ℕ → ℕ) where
  abbrev C : ℕ → ℕ
  C = composition_sum k f B

  pub paired-plus : (G H : ℕ → ℕ) → paired k (λ S. G S + H S) f B ≡ paired k G f B + paired k H f B
  unfolding paired
  paired-plus G H =
      let w = whole_in k in
      subset_comm k (λ S. G S + H S) C _ w ∙ subset_plus k C G H _ w ∙ ap₂ ◌+◌ (subset_comm k C G _ w) (subset_comm k C H _ w)

  pub paired_zero : paired k (λ S. 0) f B ≡ 0
  unfolding paired subset_sum
  paired_zero =
      sum_zero (2 ^ k) _ (λ L h. ap (λ (x : ℕ). cond (inside L (2 ^ k - 1)) x 0) (zero-mul _) ∙ guard_zero (inside L (2 ^ k - 1)))

  pub paired-mod : (m : ℕ) (G H : ℕ → ℕ) → ((S : ℕ) → S < 2 ^ k → G S % m ≡ H S % m) → paired k G f B % m ≡ paired k H f B % m
  unfolding paired
  paired-mod m G H h = subset_mod k m G C H C h (λ S l. refl) _ (whole_in k)

pub paired_none_left : (G : ℕ → ℕ) (f : Row) (B : ℕ → ℕ) → paired 0 G f B ≡ G 0 * f 0
unfolding paired
paired_none_left G f B = subset_empty 0 G (composition_sum 0 f B) ∙ ap (λ (x : ℕ). G 0 * x) (composition_empty 0 f B)

-- ---- the definitions

module _ (n m : ℕ) (A B : List ℕ) where
  -- the row counts up to n
  pub entry_paired : (f : List ℕ) (g : Row) → ((k : ℕ) → k ≤ n → at f k ≡ g k)
      → whole_entry n (subset_table n m A (composition_table n m f B)) ≡ paired n (at A) g (at B) % m
  unfolding whole_entry paired
  entry_paired f g h =
      at-residues n m _ _ (whole_in n)
      ∙ subset_mod n m _ _ (at A) (composition_sum n g (at B)) (λ S l. refl)
      (λ S l. at-mod n m _ S l ∙ composition_mod n m (at f) g (at B) (at B) (λ k j. ap (λ (x : ℕ). x % m) (h k j)) (λ T j. refl) S l)
      _ (whole_in n)

  pub entry_is : (i : ℕ) → projection_entry n m A B i ≡ paired n (at A) (one_at i) (at B) % m
  unfolding projection_entry one_row
  entry_is i = entry_paired (one_row n i) (one_at i) (λ k h. at-tabulate (n + 1) (one_at i) k (omega arith))
