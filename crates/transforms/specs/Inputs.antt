-- What a product of accepted tables is given.
use Rattle.std.specs.Prelude.{◌≡◌, List, ℕ, ◌^◌, ◌≤◌}
use Rattle.definitions.specs.Limits.{pad_length}
use Rattle.residues.specs.declared.Modulus.{Modulus}
use Rattle.pointwise.specs.Tables.{Ready}

-- two tables, a result and a workspace of these lengths
pub record Inputs (n : ℕ) (modulus : Modulus) (a b : List ℕ) (result workspace : ℕ) : Type 0 where
  pub first : Ready n modulus a
  pub second : Ready n modulus b
  pub result_is : result ≡ 2 ^ n
  pub room : pad_length n ≤ workspace
