-- The numbers of refusals and of answers, and what follows from them.
use Rattle.std.specs.Prelude.{◌≡◌, ◌≢◌, ℕ, Result, Ok, Err}
use Rattle.std.proofs.Common.{arith}
use Rattle.refusals.specs.declared.Refusal.{Refusal}
use Rattle.refusals.specs.declared.Refusal.TheVariants.{Panel, Modulus, Length, Pad, Entry, Start, Halving, Group, Tail, Short, Empty, Code, Recipe, Nesting, Gap, Zero, Label, Equal}

-- 01's and 02's number of each word
abbrev pub word : Refusal → ℕ
word Panel = 1
word Modulus = 2
word Length = 3
word Pad = 4
word Entry = 5
word Start = 6
word Halving = 7
word Group = 8
word Tail = 9
word Short = 10
word Empty = 11
word Code = 12
word Recipe = 13
word Nesting = 14
word Gap = 15
word Zero = 16
word Label = 17
word Equal = 18

-- no word has the number of what is accepted
pub word-not-zero : (refusal : Refusal) → word refusal ≢ 0
word-not-zero Panel e = cc
word-not-zero Modulus e = cc
word-not-zero Length e = cc
word-not-zero Pad e = cc
word-not-zero Entry e = cc
word-not-zero Start e = cc
word-not-zero Halving e = cc
word-not-zero Group e = cc
word-not-zero Tail e = cc
word-not-zero Short e = cc
word-not-zero Empty e = cc
word-not-zero Code e = cc
word-not-zero Recipe e = cc
word-not-zero Nesting e = cc
word-not-zero Gap e = cc
word-not-zero Zero e = cc
word-not-zero Label e = cc
word-not-zero Equal e = cc

-- the number of an answer: 0 if it is a value
abbrev pub word_of : {A : Type 0} → Result A Refusal → ℕ
word_of (Ok value) = 0
word_of (Err refusal) = word refusal

-- the value of an answer that is a number, and 0 beside a refusal
abbrev pub value_of : Result ℕ Refusal → ℕ
value_of (Ok value) = value
value_of (Err refusal) = 0
