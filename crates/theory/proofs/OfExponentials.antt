-- What follows from the exponential of a sum.
--   inverse_of_exponential   the inverse of exp A is exp (0 - A)
--   logarithm_of_product     log (E · F) = log E + log F
use Rattle.std.specs.Prelude.{◌≡◌, List, length}
use Rattle.std.proofs.Common.{sym, ap, ◌∙◌, arith}
use Prim.Native.Nat.{ℕ, ◌^◌, ◌<◌, ◌≤◌}
use Rattle.definitions.specs.Sums.{at}
use Rattle.definitions.specs.Products.{subset_table, difference_table}
use Rattle.definitions.specs.Partitions.{exponential_table, IsInverse}
use Rattle.theory.specs.Lists.{length-residues}
use Rattle.theory.specs.Entries.{below_residues}
use Rattle.theory.specs.Tables.{product_comm, sum_of_difference, exponential_of_sum, exponential_of_zeros}
use Rattle.std.proofs.Common.{ap₂}
use Rattle.definitions.specs.Products.{sum_table}
use Rattle.definitions.specs.Partitions.{IsLogarithm}
use Rattle.theory.specs.Entries.{below_positive}
use Rattle.theory.specs.Tables.{sum_first}
use Rattle.theory.specs.Inverse.{unit_table}

-- exp A · exp (0 - A) = exp 0 = 1
pub inverse_of_exponential : (n m : ℕ) → 2 ≤ m → (A Z : List ℕ) → ((S : ℕ) → S < 2 ^ n → at A S < m) → length Z ≡ 2 ^ n
    → ((S : ℕ) → S < 2 ^ n → at Z S ≡ 0) → IsInverse n m (exponential_table n m A) (exponential_table n m (difference_table n m Z A))
inverse_of_exponential n m two A Z a l z = record {
  long = length-residues n m _;
  below = below_residues n m _ (omega arith);
  product =
      product_comm n m (exponential_table n m A) (exponential_table n m (difference_table n m Z A))
      ∙ sym (exponential_of_sum n m (difference_table n m Z A) A)
      ∙ ap (exponential_table n m) (sum_of_difference n m Z A l (λ S h. omega (arith, z S h)) a)
      ∙ exponential_of_zeros n m Z z ∙ unit_table n m two;
}

module _ (n m : ℕ) where
  -- exp (A + B) = exp A · exp B
  pub logarithm_of_product : (E F A B : List ℕ) → IsLogarithm n m E A → IsLogarithm n m F B → IsLogarithm n m (subset_table n m E F) (sum_table n m A B)
  logarithm_of_product E F A B a b = record {
    long = length-residues n m _;
    below = below_residues n m _ (below_positive n m A a.long a.below);
    first = sum_first n m A B a.first b.first;
    exponential = exponential_of_sum n m A B ∙ ap₂ (subset_table n m) a.exponential b.exponential;
  }
