-- What the calls of a recipe are lent, and what they leave: in the result, and in the pad behind its workspace.
use Rattle.std.specs.Prelude.{◌≡◌, List, ℕ, ◌+◌, ◌*◌, ◌^◌, ◌<◌, ◌≤◌, length, take, drop}
use Rattle.definitions.specs.Limits.{most_controls, pad_length}
use Rattle.definitions.specs.Sums.{at}
use Rattle.definitions.specs.Outcomes.{Outcome}
use Rattle.definitions.specs.Recipes.{call_gives}
use Rattle.residues.specs.declared.Modulus.{Modulus}
use Rattle.checks.specs.Accepted.{IsTable}
use Rattle.ranked_within.specs.Within.{table_at}

-- the table at a place of the pad, behind the workspace and with room for one more behind it, and the result
pub record Operands (n : ℕ) (modulus : Modulus) (place : ℕ) (result pad : List ℕ) : Type 0 where
  pub few : n ≤ most_controls
  pub left : IsTable n modulus.value (table_at n place pad)
  pub right : IsTable n modulus.value result
  pub behind : pad_length n ≤ place
  pub inside : place + 2 * 2 ^ n ≤ length pad

-- the result alone, and a pad with a workspace
pub record Operand (n : ℕ) (modulus : Modulus) (result pad : List ℕ) : Type 0 where
  pub few : n ≤ most_controls
  pub table : IsTable n modulus.value result
  pub room : pad_length n ≤ length pad

-- a list put into another at a place; what stands before it is as it was
pub record Saved (place : ℕ) (t pad pad' : List ℕ) : Type 0 where
  pub there : take (length t) (drop place pad') ≡ t
  pub before : (x : ℕ) → x < place → at pad' x ≡ at pad x

-- the call's table in the result, or its word and the result as it came; between the workspace and a place the pad is as it was
pub record Done (n : ℕ) (call : Outcome (List ℕ)) (place : ℕ) (result pad : List ℕ) (word : ℕ) (result' pad' : List ℕ) : Type 0 where
  pub gives : call ≡ call_gives word result'
  pub kept : (word ≡ 0 → ⊥) → result' ≡ result
  pub rest : (x : ℕ) → pad_length n ≤ x → x < place → at pad' x ≡ at pad x

-- two tables side by side, and a result as long
pub record PairReady (n : ℕ) (modulus : Modulus) (place : ℕ) (pad result : List ℕ) : Type 0 where
  pub left : IsTable n modulus.value (table_at n place pad)
  pub right : IsTable n modulus.value (table_at n (place + 2 ^ n) pad)
  pub long : length result ≡ 2 ^ n
  pub inside : place + 2 * 2 ^ n ≤ length pad
