-- 02: logarithms add up, and the inverse of A's exponential is the exponential of 0 - A. One statement about nine calls under one
-- n and m, in this order: the calls, what each promises, the two laws.
use Rattle.std.specs.Prelude.{◌≡◌, List, ℕ, ◌^◌, ◌<◌, length}
use Rattle.definitions.specs.Sums.{at}
use Rattle.definitions.specs.Products.{difference_table}
use Rattle.definitions.specs.Partitions.{IsInverse}
use Rattle.definitions.specs.Refusals.{table_word, AcceptedTable, sum_number, inverse_number}
use Rattle.laws_theory.specs.Calls.{Call, Done, Made, MadeInPad, lent_word, Sum, Product, Exponential, Logarithm}

-- ---- the calls

-- Each reads what is named beside it: as it was given, or as it stands in an earlier call's result, which is what that call
-- returned if it was accepted, and else what it was lent.
pub record Calls : Type 0 where
  pub product : Call  -- the subset product of E and F
  pub log_product : Call  -- the logarithm of `product`
  pub log_E : Call  -- the logarithm of E
  pub log_F : Call  -- the logarithm of F
  pub sum : Call  -- the sum of `log_E` and `log_F`
  pub exp_A : Call  -- the exponential of A
  pub inverse : Call  -- the inverse of `exp_A`
  pub difference : Call  -- Z - A
  pub exp_difference : Call  -- the exponential of `difference`

-- ---- what each promises

-- the two calls that demand 3 does not name
module _ (n m : ℕ) where
  abbrev pub Difference : List ℕ → List ℕ → Call → Type 0
  Difference A B c = Made (sum_number n m A B (length c.lent)) (λ r. r ≡ difference_table n m A B) c

  abbrev pub Inverse : List ℕ → Call → Type 0
  Inverse A c = MadeInPad n (inverse_number n m A (length c.lent) (length c.pad)) (IsInverse n m A) c

-- the nine calls, each on what it reads
pub record Run (n m : ℕ) (E F A Z : List ℕ) (c : Calls) : Type 0 where
  pub product : Product n m E F c.product
  pub log_product : Logarithm n m c.product.result c.log_product
  pub log_E : Logarithm n m E c.log_E
  pub log_F : Logarithm n m F c.log_F
  pub sum : Sum n m c.log_E.result c.log_F.result c.sum
  pub exp_A : Exponential n m A c.exp_A
  pub inverse : Inverse n m c.exp_A.result c.inverse
  pub difference : Difference n m Z A c.difference
  pub exp_difference : Exponential n m c.difference.result c.exp_difference

-- ---- the laws

-- In both, no call is refused for an entry or a first entry: its number is that of the lent lengths, provided the calls that it
-- reads from returned something.

-- accepted tables E and F with first entry 1
pub record Factors (n m : ℕ) (E F : List ℕ) : Type 0 where
  pub table_E : AcceptedTable n m E
  pub first_E : at E 0 ≡ 1
  pub table_F : AcceptedTable n m F
  pub first_F : at F 0 ≡ 1

pub record LogarithmsAdd (n : ℕ) (c : Calls) : Type 0 where
  pub number_of_product : c.product.number ≡ lent_word n c.product
  pub log_product_number : Done c.product → c.log_product.number ≡ lent_word n c.log_product
  pub log_E_number : c.log_E.number ≡ lent_word n c.log_E
  pub log_F_number : c.log_F.number ≡ lent_word n c.log_F
  pub number_of_sum : Done c.log_E → Done c.log_F → c.sum.number ≡ table_word n (length c.sum.lent)
  -- The logarithm of the subset product of E and F is the sum of their logarithms.
  pub logarithm_of_product : Done c.product → Done c.log_product → Done c.log_E → Done c.log_F → Done c.sum
      → c.log_product.result ≡ c.sum.result

-- an accepted table A with first entry 0, and an accepted table Z all of whose entries are 0: Z is the 0 of 02's 0 - A
pub record Subtracted (n m : ℕ) (A Z : List ℕ) : Type 0 where
  pub table_A : AcceptedTable n m A
  pub first_A : at A 0 ≡ 0
  pub table_Z : AcceptedTable n m Z
  pub zeros_Z : (S : ℕ) → S < 2 ^ n → at Z S ≡ 0

pub record ExponentialInverts (n : ℕ) (c : Calls) : Type 0 where
  pub exp_A_number : c.exp_A.number ≡ lent_word n c.exp_A
  pub number_of_inverse : Done c.exp_A → c.inverse.number ≡ lent_word n c.inverse
  pub difference_number : c.difference.number ≡ table_word n (length c.difference.lent)
  pub exp_difference_number : Done c.difference → c.exp_difference.number ≡ lent_word n c.exp_difference
  -- The inverse of A's exponential is the exponential of the difference Z - A.
  pub inverse_of_exponential : Done c.exp_A → Done c.inverse → Done c.difference → Done c.exp_difference
      → c.inverse.result ≡ c.exp_difference.result

-- what the function that makes the calls promises: each call's own promise, whatever it was given and lent, and the laws
pub record Lawful (n m : ℕ) (E F A Z : List ℕ) (c : Calls) : Type 0 where
  pub run : Run n m E F A Z c
  pub logarithms_add : Factors n m E F → LogarithmsAdd n c
  pub exponential_inverts : Subtracted n m A Z → ExponentialInverts n c
