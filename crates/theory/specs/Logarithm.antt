-- The logarithm is a composition, with the row 0, 1, -1, 2!, -3!, ..
--   logarithm_of n m E      the logarithm of E
--   logarithm_is           it is a logarithm; its exponential is E
--   logarithm_only, logarithm_unique                there is but one
--   exponential_logarithm, logarithm_exponential    exp (log E) = E and log (exp A) = A
use Rattle.std.specs.Prelude.{◌≡◌, true, List, length}
use Rattle.std.proofs.Math.Path.{refl, ap}
use Rattle.std.proofs.Common.{sym, ◌∙◌, arith, pow_pos}
use Prim.Native.Nat.{ℕ, zero, suc, ◌%◌, ◌^◌, ◌<◌}
use Rattle.std.proofs.Math.Nat.{zero-mod}
use Rattle.definitions.specs.Sums.{at}
use Rattle.definitions.specs.Products.{residues}
use Rattle.definitions.specs.Partitions.{composition_sum, exponential_table, all_ones, all_below, IsLogarithm}
use Rattle.theory.specs.Lists.{length-residues, at-residues, residues_ext, residues_self}
use Rattle.theory.specs.Entries.{below_at, below_residues, below_positive}
use Rattle.theory.specs.Semiring.{both}
use Rattle.theory.specs.Halves.{Table, Row, comp, laws, empty, empty-comp, tab, tab-empty}
use Rattle.theory.specs.Composition.{composition_empty, tab-comp}
use Rattle.theory.specs.Congruence.{red, mul-same, same_at}
use Rattle.theory.specs.Tables.{composition_residues}
use Rattle.theory.specs.Rows.{logarithm_row}
use Rattle.theory.specs.Inverse.{comp_inverts, cancel}

-- ---- by halves: the upper halves cancel, since the row's shift inverts

module _ (m : ℕ) (pos : 0 < m) where
  exp_log : (n : ℕ) (E : Table n) → empty n E ≡ 1 → red m n (comp n all_ones (comp n (logarithm_row m) E)) ≡ red m n E
  unfolding red comp empty logarithm_row
  exp_log zero E e = ap (λ (x : ℕ). x % m) (sym e)
  exp_log (suc n) E e = both (exp_log n E.0 e)
      (mul-same m n _ _ E.0 _ (exp_log n E.0 e) refl
      ∙ cancel m pos n _ _ _ (ap (red m n) ((laws n).mul_comm _ _) ∙ comp_inverts m pos n 1 E.0 (rw e)))

  log_exp : (n : ℕ) (A : Table n) → empty n A ≡ 0 → red m n (comp n (logarithm_row m) (comp n all_ones A)) ≡ red m n A
  unfolding red comp empty logarithm_row
  log_exp zero A e = ap (λ (x : ℕ). x % m) (sym e)
  log_exp (suc n) A e = both (log_exp n A.0 e)
      (cancel m pos n _ _ _ (comp_inverts m pos n 1 (comp n all_ones A.0) (rw (empty-comp n all_ones A.0))))

-- ---- on tables

unfoldable pub logarithm_of : ℕ → ℕ → List ℕ → List ℕ
logarithm_of n m E = residues n m (composition_sum n (logarithm_row m) (at E))

module _ (n m : ℕ) where
  -- a composition with the row g of one with the row f, which together give back the table
  undone : (f g : Row) (A : List ℕ) → length A ≡ 2 ^ n → all_below m A ≡ true
      → red m n (comp n g (comp n f (tab n (at A)))) ≡ red m n (tab n (at A))
      → residues n m (composition_sum n g (at (residues n m (composition_sum n f (at A))))) ≡ A
  undone f g A l b e =
      composition_residues n m g _
      ∙ residues_ext n m _ (at A) (same_at m n (composition_sum n g (composition_sum n f (at A))) (at A)
      (rw (← tab-comp n g (composition_sum n f (at A)), ← tab-comp n f (at A)) e))
      ∙ residues_self n m A l (λ S h. below_at m A b S (omega arith))

  pub exponential_logarithm : (E : List ℕ) → length E ≡ 2 ^ n → all_below m E ≡ true → at E 0 ≡ 1 → exponential_table n m (logarithm_of n m E) ≡ E
  unfolding logarithm_of
  exponential_logarithm E l b e = undone (logarithm_row m) all_ones E l b
      (exp_log m (below_positive n m E l b) n (tab n (at E)) (tab-empty n (at E) ∙ e))

  pub logarithm_exponential : (A : List ℕ) → length A ≡ 2 ^ n → all_below m A ≡ true → at A 0 ≡ 0 → logarithm_of n m (exponential_table n m A) ≡ A
  unfolding logarithm_of
  logarithm_exponential A l b e = undone all_ones (logarithm_row m) A l b
      (log_exp m (below_positive n m A l b) n (tab n (at A)) (tab-empty n (at A) ∙ e))

  pub logarithm_is : (E : List ℕ) → length E ≡ 2 ^ n → all_below m E ≡ true → at E 0 ≡ 1 → IsLogarithm n m E (logarithm_of n m E)
  unfolding logarithm_of logarithm_row
  logarithm_is E l b e = record {
    long = length-residues n m _;
    below = below_residues n m _ (below_positive n m E l b);
    first = at-residues n m _ 0 (pow_pos n) ∙ ap (λ (k : ℕ). k % m) (composition_empty n (logarithm_row m) (at E)) ∙ zero-mod m;
    exponential = exponential_logarithm E l b e;
  }

  pub logarithm_only : (E A : List ℕ) → IsLogarithm n m E A → A ≡ logarithm_of n m E
  logarithm_only E A a =
      sym (logarithm_exponential A a.long a.below a.first) ∙ ap (logarithm_of n m) a.exponential

  pub logarithm_unique : (E A B : List ℕ) → IsLogarithm n m E A → IsLogarithm n m E B → A ≡ B
  logarithm_unique E A B a b = logarithm_only E A a ∙ sym (logarithm_only E B b)
