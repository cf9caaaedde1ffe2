-- What the readers of a line and of its parts answer, as what the reading function (`recipe_theory`, Reading) gives.
use Rattle.std.specs.Prelude.{◌≡◌, false, not, List, [], ◌∷◌, ◌++◌, ℕ, ◌+◌, ◌-◌, ◌<◌, ◌≤◌, Option, Some, None, eqb, ltb, length, take, drop, get_or}
use Rattle.std.proofs.Math.Option as math
use Rattle.definitions.specs.Limits.{deepest_nesting}
use Rattle.definitions.specs.Outcomes.{Outcome, accepted, refused}
use Rattle.definitions.specs.Refusals.{word_if, or_else}
use Rattle.definitions.specs.Recipes.{Level, factor, product, alternative, above, Tree, Sign, sign_byte, Opening, group, exponential, logarithm, inverse, opening_text, closing_byte, nesting}
use Rattle.recipe_theory.specs.Reading.{Parsed, read_level, read_factor, begins}
use Rattle.recipe_theory.specs.Postfix.{postfix}
use Rattle.recipe_words.specs.declared.Level as code
use Rattle.recipe_words.specs.declared.Level.TheVariants.{Sum, Alternative, Product}
use Rattle.recipe_words.specs.declared.Place.{Place}
use Rattle.recipe_words.specs.declared.Opening as opens

-- ---- levels

-- the level of the operands
abbrev pub operand : code.Level → Level
operand Sum = alternative
operand Alternative = product
operand Product = factor

abbrev pub level_of : code.Level → Level
level_of level = above (operand level)

-- ---- signs and openings

abbrev pub sign_answer : {l : Level} → math.Option (Sign l) → Option ℕ
sign_answer math.none = None
sign_answer (math.some s) = Some (sign_byte s)

-- the code of a function, none for plain parentheses
abbrev pub call_byte : Opening → Option ℕ
call_byte group = None
call_byte exponential = Some 101
call_byte logarithm = Some 108
call_byte inverse = Some 105

abbrev pub opening_answer : math.Option Opening → Option opens.Opening
opening_answer math.none = None
opening_answer (math.some o) = Some (record { length = length (opening_text o); call = call_byte o })

-- ---- what a reader of a level gives

-- reading some bytes gives this outcome, whatever bound on the nesting is taken, if it is large enough
pub record Gives (l : Level) (bytes : List ℕ) (o : Outcome (Parsed l)) : Type 0 where
  pub by : (k : ℕ) → length bytes ≤ k → read_level (read_factor k) l bytes ≡ o

-- a piece of code is added behind the code so far; what stands behind it is free
pub record Added (code : List ℕ) (used : ℕ) (piece : List ℕ) (code' : List ℕ) (used' : ℕ) : Type 0 where
  pub count : used' ≡ used + length piece
  pub written : take used' code' ≡ take used code ++ piece

-- there is room for code as long as what is left of the line
pub record Room (line : List ℕ) (at : ℕ) (code : List ℕ) (used : ℕ) : Type 0 where
  pub within : at ≤ length line
  pub room : used + (length line - at) ≤ length code

-- the place behind a tree that was read: inside the line, behind as many bytes as the tree has code, not less than its nesting; and its
-- depth
pub record Stands (line : List ℕ) (at : ℕ) {l : Level} (t : Tree l) (x : Place) : Type 0 where
  pub within : x.next ≤ length line
  pub ahead : at + length (postfix t) ≤ x.next
  pub shallow : nesting t ≤ x.next
  pub depth : x.depth ≡ nesting t

pub record Taken (l : Level) (line : List ℕ) (at : ℕ) (code : List ℕ) (used : ℕ) (x : Place) (code' : List ℕ) : Type 0 where
  pub tree : Tree l
  pub outcome : Gives l (drop at line) (accepted (record { tree = tree; rest = drop x.next line }))
  pub stands : Stands line at tree x
  pub added : Added code used (postfix tree) code' x.used

-- what a reader of a level answers at a place, when so many bytes of code stand there already
pub record Reads (l : Level) (line : List ℕ) (at : ℕ) (code : List ℕ) (used : ℕ) (r : Option Place) (code' : List ℕ) : Type 0 where
  pub taken : (x : Place) → r ≡ Some x → Taken l line at code used x code'
  pub refuses : r ≡ None → Gives l (drop at line) (refused 13)

-- ---- a closing parenthesis

-- the code of a function, if there is one
abbrev pub call_code : Option ℕ → List ℕ
call_code None = []
call_code (Some c) = c ∷ []

pub record Closed (line : List ℕ) (inner : Place) (call : Option ℕ) (code : List ℕ) (x : Place) (code' : List ℕ) : Type 0 where
  pub inside : inner.next < length line
  pub closing : get_or line inner.next 0 ≡ closing_byte
  pub next : x.next ≡ inner.next + 1
  pub depth : x.depth ≡ inner.depth + 1
  pub added : Added code inner.used (call_code call) code' x.used

abbrev pub Closes : List ℕ → Place → Option ℕ → List ℕ → Option Place → List ℕ → Type 0
Closes line inner call code (Some x) code' = Closed line inner call code x code'
Closes line inner call code None code' = begins (closing_byte ∷ []) (drop inner.next line) ≡ false

-- ---- the end of the line

-- what refuses a line, when so many bytes are left behind its recipe, which nests so deep
abbrev pub end_word : ℕ → ℕ → ℕ
end_word left depth = or_else (word_if (not (eqb left 0)) 13) (word_if (ltb deepest_nesting depth) 14)
