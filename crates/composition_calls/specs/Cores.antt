-- What an accepted call on one table, or on a table and a row, hands to its core.
--   started, first_is_lem              exponential and logarithm
--   composition_table_lem, row_ready   composition
--   front                          the part of the pad that is lent
--   ready, copied                  a table and that part; the table in the result
use Rattle.std.specs.Prelude.{◌≡◌, List, ℕ, length, take}
use Rattle.std.proofs.Common.{arith, le_refl}
use Rattle.definitions.specs.Sums.{at}
use Rattle.definitions.specs.Refusals.{start_word, single_number, composition_number}
use Rattle.residues.specs.declared.Modulus.{Modulus}
use Rattle.checks.specs.Words.{or_else_first, or_else_second}
use Rattle.checks.specs.Accepted.{Single, Composition, single_accepted, composition_accepted, right_start, start_number}
use Rattle.checks.specs.Answers.{Stands}
use Rattle.checks.specs.Ends.{Lent, used_in, part_long}
use Rattle.ranked_theory.specs.Layout.{rows_and_tables}
use Rattle.composition.specs.Ready as composed
use Rattle.composition.specs.Results.{Front}
use Rattle.exponential.specs.Ready as exponential

-- a call with the first entry `first`
module _ (n m : ℕ) (a : List ℕ) (r p first : ℕ) (zero : start_number n m a r p first ≡ 0) where
  pub started : Single n m a r p
  started = single_accepted n m a r p (or_else_first (single_number n m a r p) (start_word first a) zero)

  pub first_is_lem : at a 0 ≡ first
  first_is_lem = right_start first a (or_else_second (single_number n m a r p) (start_word first a) zero)

module _ (n m : ℕ) (a f : List ℕ) (r p : ℕ) (zero : composition_number n m a f r p ≡ 0) where
  both : Composition n m a f r p
  both = composition_accepted n m a f r p zero

  pub composition_table_lem : Single n m a r p
  composition_table_lem = record { range = both.range; table = both.table; result = both.result; pad = both.pad }

  pub row_ready : {modulus : Modulus} → Stands modulus m → composed.RowReady n modulus.value f
  row_ready s = record { long = omega (arith, both.row.size); below = λ k l. rw s.value_is (both.row.below k) }

-- a table, and the part of the pad that is lent
module _ {n used : ℕ} {pad : List ℕ} (l : Lent n used pad) {m r p : ℕ} {a : List ℕ} (h : Single n m a r p) where
  pub front : Front n used pad
  front = record { few = h.range.few; room = omega (arith, rows_and_tables n, l.used_is); inside = used_in l }

  long : used ≡ length (take used pad)
  long = part_long l (le_refl used)

  module _ {modulus : Modulus} (s : Stands modulus m) where
    pub ready : composed.Ready n modulus.value a (take used pad)
    ready = record { few = h.range.few; long = h.table.size; below = λ S c. rw s.value_is (h.table.below S); room = omega (arith, long, front.room) }

    -- the exponential finds the table in the result
    pub copied : (t : List ℕ) → t ≡ a → exponential.Ready n modulus.value t (take used pad)
    copied t e = rw e (record { few = h.range.few; long = h.table.size; below = ready.below; room = omega (arith, long, front.room) })
