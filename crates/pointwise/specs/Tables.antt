-- Tables of residues, as the loops over their entries need them.
use Rattle.std.specs.Prelude.{ℕ, ◌≤◌, List}
use Rattle.definitions.specs.Limits.{most_controls}
use Rattle.residues.specs.declared.Modulus.{Modulus}
use Rattle.checks.specs.Accepted.{IsTable}

-- a table of n controls, of residues
pub record Ready (n : ℕ) (modulus : Modulus) (l : List ℕ) : Type 0 where
  pub few : n ≤ most_controls
  pub table : IsTable n modulus.value l
