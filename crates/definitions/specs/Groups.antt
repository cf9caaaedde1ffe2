-- Numbers in a table file or a label sheet: groups of seven bits, lowest group first, one to a byte; the top bit is 1 when another group follows.
-- The shortest form is the only one allowed, and values stay below 2 ^ 32.
use Rattle.std.specs.Prelude.{cond, ◌&&◌, not, List, [], ◌∷◌, ℕ, zero, suc, ◌+◌, ◌*◌, ◌-◌, ◌/◌, ◌%◌, ◌^◌, ltb}
use Rattle.definitions.specs.Refusals.{word_if}
use Rattle.definitions.specs.Outcomes.{Outcome, accepted, refused, and_then, unless}

-- ---- writing

-- v in at most so many groups
unfoldable pub groups_in : ℕ → ℕ → List ℕ
groups_in zero v = []
groups_in (suc k) v = cond (ltb v 128) (v ∷ []) ((128 + v % 128) ∷ groups_in k (v / 128))

-- v as it is written: a value below 2 ^ 32 has at most five groups
abbrev pub groups : ℕ → List ℕ
groups v = groups_in 5 v

-- ---- reading

-- a number that stands at the start of some bytes, and the bytes behind it
pub record Numeral : Type 0 where
  pub value : ℕ
  pub rest : List ℕ

-- the group g in front of a number: 8 if that is 0, for then the form is longer than the shortest, or if the value is 2 ^ 32 or more
abbrev pub in_front : ℕ → Numeral → Outcome Numeral
in_front g x =
    unless (word_if (not (ltb 0 x.value && ltb (g + 128 * x.value) (2 ^ 32))) 8)
    (accepted (record { value = g + 128 * x.value; rest = x.rest }))

-- no byte: the number ends early, 8; a byte below 128 is the last group; any other is a group with more to follow
unfoldable pub read_number : List ℕ → Outcome Numeral
read_number [] = refused 8
read_number (b ∷ bs) =
    cond (ltb b 128) (accepted (record { value = b; rest = bs })) (and_then (read_number bs) (in_front (b - 128)))
