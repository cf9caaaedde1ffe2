-- What the calls that read a number answer, as the outcomes of the definitions.
use Rattle.std.specs.Prelude.{◌≡◌, Result, Ok, Err, cond, not, ◌&&◌, List, ℕ, ◌+◌, ◌*◌, ◌%◌, ◌^◌, ◌<◌, ◌≤◌, ltb, length, drop, get_or}
use Rattle.std.proofs.Common.{sym, ◌∙◌, ap}
use Rattle.refusals.specs.declared.Refusal.{Refusal}
use Rattle.refusals.specs.declared.Refusal.TheVariants as refusal
use Rattle.definitions.specs.Outcomes.{Outcome, accepted, and_then, unless}
use Rattle.definitions.specs.Refusals.{word_if}
use Rattle.definitions.specs.Groups as def
pub use Rattle.number_groups.specs.Outcomes.{outcome, handed_on}
use Rattle.number_groups.specs.declared.Group.{Group}
use Rattle.number_groups.specs.declared.Numeral.{Numeral}

-- a byte that stands at a place
pub record ByteIs (bytes : List ℕ) (at byte : ℕ) : Type 0 where
  pub inside : at < length bytes
  pub byte_is : byte ≡ get_or bytes at 0
  pub byte_small : byte < 256

-- the byte at a place, and the place behind it
pub record IsGroup (bytes : List ℕ) (at : ℕ) (r : Group) : Type 0 where
  pub byte_is : r.byte ≡ get_or bytes at 0
  pub byte_small : r.byte < 256
  pub next_is : r.next ≡ at + 1

-- a number of the code, with the bytes behind its place
abbrev pub placed : List ℕ → Numeral → def.Numeral
placed bytes x = record { value = x.value; rest = drop x.next bytes }

-- the value and the bytes behind it, or the word
abbrev pub outcome_of : List ℕ → Result Numeral Refusal → Outcome def.Numeral
outcome_of bytes r = outcome (placed bytes) r

-- the place behind the number, and 0 if refused
abbrev pub next_of : Result Numeral Refusal → ℕ
next_of (Ok x) = x.next
next_of (Err r) = 0

-- what stands at a place
pub record ReadsAt (bytes : List ℕ) (at : ℕ) (r : Result Numeral Refusal) : Type 0 where
  pub outcome : outcome_of bytes r ≡ def.read_number (drop at bytes)
  pub within : next_of r ≤ length bytes

pub read_as : {bytes : List ℕ} {at : ℕ} {r : Result Numeral Refusal} → ReadsAt bytes at r → (o : Result Numeral Refusal) → r ≡ o → outcome_of bytes o ≡ def.read_number (drop at bytes)
read_as {bytes} reads o e = ap (outcome_of bytes) (sym e) ∙ reads.outcome

-- groups that are worth low in front of a number, whose own groups count scale times as much
abbrev pub in_front_of : ℕ → ℕ → def.Numeral → Outcome def.Numeral
in_front_of low scale x =
    unless (word_if (not (ltb 0 x.value && ltb (low + scale * x.value) (2 ^ 32))) 8)
    (accepted (record { value = low + scale * x.value; rest = x.rest }))

-- what stands at a place, behind such groups
pub record ReadsBehind (low scale : ℕ) (bytes : List ℕ) (at : ℕ) (r : Result Numeral Refusal) : Type 0 where
  pub outcome : outcome_of bytes r ≡ and_then (def.read_number (drop at bytes)) (in_front_of low scale)
  pub within : next_of r ≤ length bytes

-- a number whose last group is this one: 8 if that is 0
abbrev pub ending_in : ℕ → ℕ → ℕ → Result Numeral Refusal
ending_in whole group next = cond (ltb 0 group) (Ok (record { value = whole; next = next })) (Err refusal.Group)

-- groups that are worth low, and a fifth one: 8 if the value is 2 ^ 32 or more or another group follows, for 2 ^ 28 · 16 = 2 ^ 32
abbrev pub fifth_group : ℕ → ℕ → ℕ → Result Numeral Refusal
fifth_group low group next = cond (ltb 15 group) (Err refusal.Group) (ending_in (low + 268435456 * group) group next)

-- something is accepted
abbrev pub Accepts : {X : Type 0} → Outcome X → Type 0
Accepts {X} o = (x : X) × (o ≡ accepted x)

-- a number that was read before: what is accepted is this
pub record ReadsAgain (o : Outcome def.Numeral) (bytes : List ℕ) (r : Numeral) : Type 0 where
  pub again : (x : def.Numeral) → o ≡ accepted x → placed bytes r ≡ x

abbrev pub cut_to32 : ℕ → ℕ → Numeral
cut_to32 whole next = record { value = whole % 2 ^ 32; next = next }
