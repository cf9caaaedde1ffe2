-- Text that is written at a place of a buffer.
use Rattle.std.specs.Prelude.{◌≡◌, cond, List, [], ℕ, ◌+◌, ◌%◌, ◌^◌, ◌<◌, ◌≤◌, eqb, length}
use Rattle.std.proofs.lemmas.List.Edits.{sets}
use Rattle.definitions.specs.Show.{decimal}

-- the text stands at the place, and the next place is behind it, within the buffer
pub record Writes (old : List ℕ) (at : ℕ) (text : List ℕ) (next : ℕ) (last : List ℕ) : Type 0 where
  pub next_is : next ≡ at + length text
  pub text_is : last ≡ sets old at text
  pub within : next ≤ length last

-- a number that has at most so many digits, and room for them
pub record ColumnFits (value width at : ℕ) (out : List ℕ) : Type 0 where
  pub some : 0 < width
  pub digits : value < 10 ^ width
  pub room : at + width ≤ length out

-- what is left of a number when its last digits are taken off: nothing where only zeros are left
unfoldable pub digits_left : ℕ → List ℕ
digits_left rest = cond (eqb rest 0) [] (decimal rest)

-- and the last byte of that, aligned to the right
abbrev pub digit_or_blank : ℕ → ℕ
digit_or_blank rest = cond (eqb rest 0) 32 (48 + rest % 10)
