-- What two tables of residues become: the union product by sums over subsets, the xor product by Walsh's transform.
use Rattle.std.specs.Prelude.{◌≡◌, List, ℕ, ◌*◌}
use Rattle.std.proofs.Common.{ap, ◌∙◌, arith}
use Rattle.definitions.specs.Sums.{at}
use Rattle.definitions.specs.Products.{residues, union_table, xor_table}
use Rattle.theory.specs.Convolution.{union_by_zeta, xor_halved}
use Rattle.checks.specs.Accepted.{IsTable}
use Rattle.transform_passes.specs.Steps.{zeta, moebius, walsh, Transformed, products, Halves}

module _ {n m : ℕ} {a b : List ℕ} (first : IsTable n m a) (second : IsTable n m b) where
  pub union_made : {l : List ℕ} → Transformed m moebius n (products n m zeta a b) l → l ≡ union_table n m a b
  union_made e =
      let below = first.below in
      e.is ∙ union_by_zeta m (omega (arith, below 0)) n a b (λ S k. below S) (λ S k. second.below S)

  -- with the factor that the transform made twice multiplied by taken out
  pub xor_made : {k l : List ℕ} {u : ℕ} → Transformed m walsh n (products n m walsh a b) k → Halves n m u
      → l ≡ residues n m (λ S. u * at k S) → l ≡ xor_table n m a b
  xor_made {u = u} e half f =
      let below = first.below in
      f ∙ ap (λ (k : List ℕ). residues n m (λ S. u * at k S)) e.is
      ∙ xor_halved m (omega (arith, below 0)) n a b (λ S k. below S) (λ S k. second.below S) u half.one
