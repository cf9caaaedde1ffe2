-- What the passes of the sparse writer find in a table.
use Rattle.std.specs.Prelude.{◌≡◌, ℕ, ◌*◌, ◌≤◌, length, Result, Ok, Err}
use mathlib.Core.List.{List, flat_map}
use Rattle.definitions.specs.Refusals.{entry_word}
use Rattle.refusals.specs.Words.{word}
use Rattle.refusals.specs.declared.Refusal.{Refusal}
use Rattle.definitions.specs.Groups.{groups}
use Rattle.definitions.specs.Files.{nonzero_count, pairs_from}
use Rattle.sparse_writer.specs.declared.Sizes.{Sizes}

-- the sizes of a table whose entries are all below m
pub record SizesAre (m : ℕ) (a : List ℕ) (s : Sizes) : Type 0 where
  pub tested : entry_word m a ≡ 0
  pub entries_are : s.entries ≡ nonzero_count a
  pub bytes_are : s.bytes ≡ length (flat_map groups (pairs_from 0 a))
  pub few : s.bytes ≤ 10 * length a

-- the sizes, or a refusal since the entries are not all below m
abbrev pub Measures : ℕ → List ℕ → Result Sizes Refusal → Type 0
Measures m a (Ok s) = SizesAre m a s
Measures m a (Err refusal) = word refusal ≡ entry_word m a
