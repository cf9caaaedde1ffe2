-- What an accepted change needs, of the three tables and of one.
use Rattle.std.specs.Prelude.{List, ℕ, ◌^◌, ◌<◌, ◌≤◌}
use Rattle.definitions.specs.Limits.{most_controls}
use Rattle.definitions.specs.Boards.{Board}
use Rattle.residues.specs.declared.Modulus.{Modulus}
use Rattle.checks.specs.Accepted.{IsTable}
use Rattle.board_theory.specs.Accepted.{IsChange}

-- c is to be added at S, and I to be raised by d
pub record BoardReady (n : ℕ) (modulus : Modulus) (S c d : ℕ) (b : Board) : Type 0 where
  pub change : IsChange n modulus.value S c b
  pub opposite : d < modulus.value

-- c is to be added over the nonempty set S
pub record TableReady (n : ℕ) (modulus : Modulus) (S c : ℕ) (l : List ℕ) : Type 0 where
  pub few : n ≤ most_controls
  pub some : 0 < S
  pub code : S < 2 ^ n
  pub weight : c < modulus.value
  pub table : IsTable n modulus.value l
