-- What a step gives, of reading or of a recipe: a value, or a word of refusal. Steps follow one another, and the first refusal counts.
use Rattle.std.specs.Prelude.{ℕ, zero, suc}

pub data Outcome (X : Type 0) : Type 0 where
  accepted : X → Outcome X
  refused : ℕ → Outcome X

module _ {X Y : Type 0} where
  -- the next step, on the value of the one before
  abbrev pub and_then : Outcome X → (X → Outcome Y) → Outcome Y
  and_then (accepted x) next = next x
  and_then (refused k) next = refused k

module _ {X : Type 0} where
  -- the outcome, unless the word in front of it is not 0
  abbrev pub unless : ℕ → Outcome X → Outcome X
  unless zero o = o
  unless (suc k) o = refused (suc k)

  -- 0 if accepted, else the word
  abbrev pub number_of : Outcome X → ℕ
  number_of (accepted x) = 0
  number_of (refused k) = k

  -- the value by this reading of it, and the other one when refused
  abbrev pub value_or : {Y : Type 0} → Y → (X → Y) → Outcome X → Y
  value_or other read (accepted x) = read x
  value_or other read (refused k) = other
