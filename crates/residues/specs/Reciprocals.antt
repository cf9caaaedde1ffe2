-- Reciprocals modulo m, and the common divisors that leave none.
use Rattle.std.specs.Prelude.{◌≡◌, ℕ, ◌+◌, ◌-◌, ◌*◌, ◌/◌, ◌%◌, ◌<◌, ◌≤◌, true, false, Result, Ok, Err}
use Rattle.std.proofs.Common.{ap, ◌∙◌, mul_comm}
use Rattle.definitions.specs.Partitions.{shares_divisor}
use Rattle.theory.specs.Divisors.{shared, coprime}
use Rattle.residues.specs.Values.{Residue}
use Rattle.residues.specs.declared.CommonDivisor.{CommonDivisor}
use Rattle.residues.specs.declared.Remainders.{Remainders}

-- u is the residue that times a is 1
pub record IsReciprocal (m a u : ℕ) : Type 0 where
  pub below : u < m
  pub one : u * a % m ≡ 1

-- d is above 1 and divides m and a
pub record IsCommonDivisor (m a d : ℕ) : Type 0 where
  pub above : 1 < d
  pub of_modulus : m % d ≡ 0
  pub of_number : a % d ≡ 0

-- what `Modulus::reciprocal` answers for a
pub record ReciprocalIs (m a : ℕ) (r : Result ℕ CommonDivisor) : Type 0 where
  pub reciprocal : (u : ℕ) → r ≡ Ok u → IsReciprocal m a u
  pub common : (d : CommonDivisor) → r ≡ Err d → IsCommonDivisor m a d.0

-- the ranges of Euclid's remainders and of their coefficients
pub record InRange (m : ℕ) (pair : Remainders) : Type 0 where
  pub falling : pair.smaller < pair.larger
  pub larger_in : pair.larger ≤ m
  pub of_larger_in : pair.of_larger < m
  pub of_smaller_in : pair.of_smaller < m

-- r is the pair after one division
pub record Next (m : ℕ) (pair r : Remainders) : Type 0 where
  pub larger_is : r.larger ≡ pair.smaller
  pub smaller_is : r.smaller ≡ pair.larger % pair.smaller
  pub of_larger_is : r.of_larger ≡ pair.of_smaller
  pub of_smaller_is : Residue m (pair.of_larger + (m - pair.larger / pair.smaller * pair.of_smaller % m)) r.of_smaller

-- ---- the definition's test for a common divisor

-- a number that has a reciprocal shares no divisor with m
pub reciprocal_shares : {m a u : ℕ} → IsReciprocal m a u → shares_divisor m a ≡ false
reciprocal_shares {m} {a} {u} h = coprime m a u (ap (λ (k : ℕ). k % m) (mul_comm a u) ∙ h.one)

-- one with a common divisor does
pub common_shares : {m a d : ℕ} → 0 < m → IsCommonDivisor m a d → shares_divisor m a ≡ true
common_shares {m} {a} {d} pos h = shared m a d pos h.above h.of_modulus h.of_number
