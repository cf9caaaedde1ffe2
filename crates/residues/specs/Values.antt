-- Numbers modulo m: which values a modulus has, and what a residue is.
use Rattle.std.specs.Prelude.{◌≡◌, ℕ, ◌%◌, ◌^◌, ◌<◌, ◌≤◌}
use Rattle.definitions.specs.Limits.{lowest_modulus, largest_modulus}

-- what is known of each modulus: its value, and the residue of 2 ^ 64 beside it
pub record IsModulus (value two_64 : ℕ) : Type 0 where
  pub lowest : lowest_modulus ≤ value
  pub largest : value ≤ largest_modulus
  pub two_64_is : two_64 ≡ 2 ^ 64 % value

-- two residues
pub record Below (m a b : ℕ) : Type 0 where
  pub first : a < m
  pub second : b < m

-- r is the residue of x
pub record Residue (m x r : ℕ) : Type 0 where
  pub same : r ≡ x % m
  pub below : r < m

-- with r added to a, b can be taken off: the modulus, or nothing
pub record Back (m a b r : ℕ) : Type 0 where
  pub short : a < b → r ≡ m
  pub enough : b ≤ a → r ≡ 0
