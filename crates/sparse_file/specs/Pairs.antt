-- What the calls that read a sparse table answer and leave, as the outcomes of the definitions.
use Rattle.std.specs.Prelude.{◌≡◌, Result, List, ℕ, drop}
use Rattle.definitions.specs.Outcomes.{Outcome, accepted}
use Rattle.definitions.specs.Files.{Entries}
use Rattle.definitions.specs.Files as def
use Rattle.refusals.specs.declared.Refusal.{Refusal}
use Rattle.number_groups.specs.Outcomes.{outcome}
use Rattle.sparse_file.specs.declared.Pair.{Pair}

-- an entry of the code, with the bytes behind its place
abbrev pub pair_at : List ℕ → Pair → def.Pair
pair_at bytes p = record { gap = p.gap; value = p.value; rest = drop p.next bytes }

abbrev pub pair_outcome : List ℕ → Result Pair Refusal → Outcome def.Pair
pair_outcome bytes r = outcome (pair_at bytes) r

-- the entries that are accepted
pub record Fills (o : Outcome Entries) (table : List ℕ) : Type 0 where
  pub fills : (x : Entries) → o ≡ accepted x → table ≡ x.entries
