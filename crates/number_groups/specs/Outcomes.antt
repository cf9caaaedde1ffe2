-- What a call answers as an outcome of the definitions.
use Rattle.std.specs.Prelude.{Result, Ok, Err}
use Rattle.definitions.specs.Outcomes.{Outcome, accepted, refused}
pub use Rattle.refusals.specs.Handed.{handed_on}
use Rattle.refusals.specs.Words.{word}
use Rattle.refusals.specs.declared.Refusal.{Refusal}

-- the value as the definitions have it, or the word
abbrev pub outcome : {A B : Type 0} → (A → B) → Result A Refusal → Outcome B
outcome f (Ok x) = accepted (f x)
outcome f (Err r) = refused (word r)
