-- Raising the exponential over a set is adding at it.
use Rattle.std.specs.Prelude.{◌≡◌, List}
use Rattle.std.proofs.Math.Path.{sym, ap}
use Rattle.std.proofs.Common.{◌∙◌}
use Prim.Native.Nat.{ℕ, ◌+◌, ◌-◌, ◌%◌, ◌^◌, ◌<◌}
use Rattle.definitions.specs.Sums.{at}
use Rattle.definitions.specs.Products.{residues}
use Rattle.definitions.specs.Partitions.{composition_sum, exponential_table, all_ones}
use Rattle.definitions.specs.Boards.{added_at, raised_over}
use Rattle.theory.specs.Lists.{residues_ext}
use Rattle.theory.specs.Series.{exponential_plus, subset_mod}
use Rattle.theory.specs.Tables.{at-mod, composition_residues}
use Rattle.board_theory.specs.Single.{single, single_exponential}
use Rattle.board_theory.specs.Raised.{one_and, raised_product}

module _ (n m : ℕ) (S c : ℕ) (some : 0 < S) where
  pub exponential_raised : S < 2 ^ n → (A : List ℕ) → exponential_table n m (added_at n m S c A) ≡ raised_over n m S c (exponential_table n m A)
  unfolding added_at
  exponential_raised code A =
      composition_residues n m all_ones (λ T. at A T + single S c T)
      ∙ residues_ext n m _ _ (λ T h.
      ap (λ (x : ℕ). x % m) (exponential_plus n (at A) (single S c) T h)
      ∙ subset_mod n m _ _ (at (exponential_table n m A)) (at (residues n m (one_and n m S c)))
      (λ R k. sym (at-mod n m (composition_sum n all_ones (at A)) R k))
      (λ R k. ap (λ (x : ℕ). x % m) (single_exponential n S c some R k) ∙ sym (at-mod n m (one_and n m S c) R k)) T h)
      ∙ sym (raised_product n m S c code (exponential_table n m A))
