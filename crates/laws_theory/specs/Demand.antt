-- Demand 3, as one statement about thirteen calls under one n and m, in this order: the calls, what each promises, the demand.
use Rattle.std.specs.Prelude.{◌≡◌, List, ℕ, length}
use Rattle.definitions.specs.Sums.{at}
use Rattle.definitions.specs.Refusals.{table_word, row_word, AcceptedTable, AcceptedRow}
use Rattle.laws_theory.specs.Calls.{Call, Done, lent_word, Sum, Binomial, Product, Exponential, Logarithm, Composition}

-- ---- the calls

-- Each reads what is named beside it: as it was given, or as it stands in an earlier call's result, which is what that call
-- returned if it was accepted, and else what it was lent.
pub record Calls : Type 0 where
  pub sum : Call  -- A + B
  pub exp_sum : Call  -- the exponential of `sum`
  pub exp_A : Call  -- the exponential of A
  pub exp_B : Call  -- the exponential of B
  pub product : Call  -- the subset product of `exp_A` and `exp_B`
  pub log_exp : Call  -- the logarithm of `exp_A`
  pub log_E : Call  -- the logarithm of E
  pub exp_log : Call  -- the exponential of `log_E`
  pub binomial : Call  -- the binomial product of f and g
  pub comp_binomial : Call  -- A composed with the row `binomial`
  pub comp_f : Call  -- A composed with f
  pub comp_g : Call  -- A composed with g
  pub comp_product : Call  -- the subset product of `comp_f` and `comp_g`

-- ---- what each promises

-- the thirteen calls, each on what it reads
pub record Run (n m : ℕ) (A B E f g : List ℕ) (c : Calls) : Type 0 where
  pub sum : Sum n m A B c.sum
  pub exp_sum : Exponential n m c.sum.result c.exp_sum
  pub exp_A : Exponential n m A c.exp_A
  pub exp_B : Exponential n m B c.exp_B
  pub product : Product n m c.exp_A.result c.exp_B.result c.product
  pub log_exp : Logarithm n m c.exp_A.result c.log_exp
  pub log_E : Logarithm n m E c.log_E
  pub exp_log : Exponential n m c.log_E.result c.exp_log
  pub binomial : Binomial n m f g c.binomial
  pub comp_binomial : Composition n m A c.binomial.result c.comp_binomial
  pub comp_f : Composition n m A f c.comp_f
  pub comp_g : Composition n m A g c.comp_g
  pub comp_product : Product n m c.comp_f.result c.comp_g.result c.comp_product

-- ---- the demand

-- accepted tables A and B with first entry 0 and E with first entry 1, and accepted rows f and g
pub record Inputs (n m : ℕ) (A B E f g : List ℕ) : Type 0 where
  pub table_A : AcceptedTable n m A
  pub first_A : at A 0 ≡ 0
  pub table_B : AcceptedTable n m B
  pub first_B : at B 0 ≡ 0
  pub table_E : AcceptedTable n m E
  pub first_E : at E 0 ≡ 1
  pub row_f : AcceptedRow n m f
  pub row_g : AcceptedRow n m g

pub record Demand3 (n m : ℕ) (A B E f g : List ℕ) (c : Calls) : Type 0 where
  -- No call is refused for an entry or a first entry: its number is that of the lent lengths, provided the calls that it
  -- reads from returned something.
  pub number_of_sum : c.sum.number ≡ table_word n (length c.sum.lent)
  pub exp_sum_number : Done c.sum → c.exp_sum.number ≡ lent_word n c.exp_sum
  pub exp_A_number : c.exp_A.number ≡ lent_word n c.exp_A
  pub exp_B_number : c.exp_B.number ≡ lent_word n c.exp_B
  pub number_of_product : Done c.exp_A → Done c.exp_B → c.product.number ≡ lent_word n c.product
  pub log_exp_number : Done c.exp_A → c.log_exp.number ≡ lent_word n c.log_exp
  pub log_E_number : c.log_E.number ≡ lent_word n c.log_E
  pub exp_log_number : Done c.log_E → c.exp_log.number ≡ lent_word n c.exp_log
  pub number_of_binomial : c.binomial.number ≡ row_word n (length c.binomial.lent)
  pub comp_binomial_number : Done c.binomial → c.comp_binomial.number ≡ lent_word n c.comp_binomial
  pub comp_f_number : c.comp_f.number ≡ lent_word n c.comp_f
  pub comp_g_number : c.comp_g.number ≡ lent_word n c.comp_g
  pub comp_product_number : Done c.comp_f → Done c.comp_g → c.comp_product.number ≡ lent_word n c.comp_product
  -- The exponential of the sum A + B is the subset product of the exponentials of A and of B.
  pub exponential_of_sum : Done c.sum → Done c.exp_sum → Done c.exp_A → Done c.exp_B → Done c.product
      → c.exp_sum.result ≡ c.product.result
  -- The logarithm of the exponential of A is A.
  pub logarithm_of_exponential : Done c.exp_A → Done c.log_exp → c.log_exp.result ≡ A
  -- The exponential of the logarithm of E is E.
  pub exponential_of_logarithm : Done c.log_E → Done c.exp_log → c.exp_log.result ≡ E
  -- Composing A with the binomial product of f and g gives the subset product of two compositions, of A with f and with g.
  pub composition_of_product : Done c.binomial → Done c.comp_binomial → Done c.comp_f → Done c.comp_g → Done c.comp_product
      → c.comp_binomial.result ≡ c.comp_product.result

-- what the function that makes the calls promises: each call's own promise, whatever it was given and lent, and the demand
pub record Laws (n m : ℕ) (A B E f g : List ℕ) (c : Calls) : Type 0 where
  pub run : Run n m A B E f g c
  pub demand : Inputs n m A B E f g → Demand3 n m A B E f g c
