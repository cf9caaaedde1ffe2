-- The stack of the machine in lent memory. The top is the result; the values below it stand in places of the pad, the lowest one first.
-- What the result held at first is below them all, in place 0.
use Rattle.std.specs.Prelude.{◌≡◌, List, [], ◌∷◌, ℕ, zero, suc, ◌+◌, ◌*◌, ◌^◌, ◌≤◌, length}
use Rattle.definitions.specs.Limits.{most_controls, pad_length, recipe_pad_length}
use Rattle.definitions.specs.Outcomes.{Outcome, accepted, unless, number_of, value_or}
use Rattle.definitions.specs.Recipes.{Letter, tableA, tableB, tableC, tableD, Choice, lettered}
use Rattle.residues.specs.declared.Modulus.{Modulus}
use Rattle.checks.specs.Accepted.{IsTable}
use Rattle.ranked_within.specs.Within.{table_at}
use Rattle.recipe_theory.specs.Stack.{Stack, Instruction, push, combine, apply, most_values, height_after, step}
use Rattle.recipe_operations.specs.Codes.{sign_of, opening_of}
use Rattle.recipe_machine.specs.declared.Name.{Name}
use Rattle.recipe_machine.specs.declared.Name.TheVariants.{A, B, C, D}
use Rattle.recipe_machine.specs.declared.Tables.{Tables}
use Rattle.recipe_machine.specs.declared.Code.{Code}
use Rattle.recipe_machine.specs.declared.Code.TheVariants.{Push, Combine, Apply}

-- ---- codes

abbrev pub letter_of : Name → Letter
letter_of A = tableA
letter_of B = tableB
letter_of C = tableC
letter_of D = tableD

abbrev pub meant_by : Code → Instruction
meant_by (Push name) = push (letter_of name)
meant_by (Combine s) = combine (sign_of s)
meant_by (Apply f) = apply (opening_of f)

-- ---- places

-- where place k is, behind the workspace
abbrev pub place_of : ℕ → ℕ → ℕ
place_of n k = pad_length n + k * 2 ^ n

abbrev pub placed : ℕ → ℕ → List ℕ → List ℕ
placed n k pad = table_at n (place_of n k) pad

-- the values in places h, .., 1
abbrev pub values_below : ℕ → ℕ → List ℕ → Stack
values_below n zero pad = []
values_below n (suc h) pad = placed n (suc h) pad ∷ values_below n h pad

abbrev pub stack_of : ℕ → ℕ → List ℕ → List ℕ → Stack
stack_of n zero result pad = []
stack_of n (suc h) result pad = result ∷ values_below n h pad

-- what the result held at first
abbrev pub first_held : ℕ → ℕ → List ℕ → List ℕ → List ℕ
first_held n zero result pad = result
first_held n (suc h) result pad = placed n 0 pad

abbrev pub AllTables : ℕ → ℕ → Stack → Type 0
AllTables n m [] = Unit {0}
AllTables n m (v ∷ vs) = IsTable n m v × AllTables n m vs

-- ---- one instruction

-- so many values, a result as long as a table and the stated pad
pub record Space (n height : ℕ) (result pad : List ℕ) : Type 0 where
  pub few : n ≤ most_controls
  pub within : height ≤ most_values
  pub long : length result ≡ 2 ^ n
  pub room : recipe_pad_length n ≤ length pad

-- the values are tables of residues
pub record Ready (n : ℕ) (modulus : Modulus) (height : ℕ) (result pad : List ℕ) : Type 0 where
  pub space : Space n height result pad
  pub values : AllTables n modulus.value (stack_of n height result pad)

-- the lent tables, each by its letter
abbrev pub lent : Tables → Letter → List ℕ
lent tables = lettered tables.a.now tables.b.now tables.c.now tables.d.now

-- they are tables of residues
abbrev pub Lettered : ℕ → ℕ → (Letter → List ℕ) → Type 0
Lettered n m tables = (x : Letter) → IsTable n m (tables x)

-- the stack that it leaves, or the word of its refusal; what the result held at first is still there
pub record Stepped (n m : ℕ) (by : Choice n m) (tables : Letter → List ℕ) (i : Instruction) (height : ℕ) (result pad : List ℕ) (word : ℕ) (result' pad' : List ℕ) : Type 0 where
  pub gives : step n m by tables i (stack_of n height result pad) ≡ unless word (accepted (stack_of n (height_after i height) result' pad'))
  pub held : word ≡ 0 → first_held n (height_after i height) result' pad' ≡ first_held n height result pad
  pub kept : (word ≡ 0 → ⊥) → first_held n height result' pad' ≡ first_held n height result pad

-- ---- a recipe

-- its table, or the word of the first call that refuses and the result as it came
pub record Worked (outcome : Outcome (List ℕ)) (result : List ℕ) (word : ℕ) (result' : List ℕ) : Type 0 where
  pub number : word ≡ number_of outcome
  pub table : result' ≡ value_or result (λ made. made) outcome
