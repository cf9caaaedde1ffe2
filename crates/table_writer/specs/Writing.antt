-- The last test of a writer, and what a write with a number leaves; of any text, and of a file of either kind. A write answers
-- how many bytes it wrote, or its refusal.
use Rattle.std.specs.Prelude.{◌≡◌, List, ◌++◌, ℕ, ◌^◌, ◌≤◌, length, drop, Result}
use Rattle.definitions.specs.Limits.{most_controls}
use Rattle.definitions.specs.Refusals.{buffer_word, after, value_after}
use Rattle.definitions.specs.Files.{Kind, file_of}
use Rattle.refusals.specs.Words.{word_of, value_of}
use Rattle.refusals.specs.declared.Refusal.{Refusal}

-- no table has more entries
abbrev pub MostEntries : ℕ → Type 0
MostEntries k = k ≤ 2 ^ most_controls

-- a write of a text that has this number
pub record TextBy (text : List ℕ) (number : ℕ) (old : List ℕ) (r : Result ℕ Refusal) (buffer : List ℕ) : Type 0 where
  pub number_is : word_of r ≡ number
  pub count_is : value_of r ≡ value_after number (length text)
  pub buffer_is : buffer ≡ after number (text ++ drop (length text) old) old

-- 10, short: b bytes are fewer than the file has
abbrev pub short_word : Kind → ℕ → ℕ → List ℕ → ℕ → ℕ
short_word kind n m a b = buffer_word b (length (file_of kind n m a))

-- a write of a file that has this number
abbrev pub WrittenBy : Kind → ℕ → ℕ → List ℕ → ℕ → List ℕ → Result ℕ Refusal → List ℕ → Type 0
WrittenBy kind n m a number old r buffer = TextBy (file_of kind n m a) number old r buffer
