-- What an accepted call of the subset product hands to the recursion.
use mathlib.Core.List.{List}
use Prim.Native.Nat.{ℕ}
use native.Mathlib.Omega.{arith}
use native.Mathlib.Nat.{le_refl}
use lib.ListN.{length, take}
use Rattle.residues.specs.declared.Modulus.{Modulus}
use Rattle.checks.specs.Accepted.{Product}
use Rattle.checks.specs.Answers.{Stands}
use Rattle.checks.specs.Ends.{Lent, part_long}
use Rattle.ranked_theory.specs.Layout.{rows_and_tables}
use Rattle.ranked_theory.specs.Recursion.{TablesReady}

pub tables_ready : {n m used : ℕ} {a b result pad : List ℕ} {modulus : Modulus} → Product n m a b (length result) (length pad)
    → Lent n used pad → Stands modulus m → TablesReady modulus.value n a b result (take used pad)
tables_ready {n} {used = used} h l s =
    record {
      few = h.range.few;
      left = h.first.size;
      left_below = λ i c. rw s.value_is (h.first.below i);
      right = h.second.size;
      right_below = λ i c. rw s.value_is (h.second.below i);
      result = h.result;
      long = omega (arith, part_long l {long = used} (le_refl used), rows_and_tables n, l.used_is);
    }
