-- When a projection is accepted, the facts that its tests give, and what it then hands to its core.
use Rattle.std.specs.Prelude.{◌≡◌, List, [], ◌∷◌, ℕ, ◌+◌, ◌≤◌, length, take}
use Rattle.std.proofs.Common.{arith, le_refl}
use Rattle.definitions.specs.Limits.{pad_length}
use Rattle.definitions.specs.Refusals.{panel_word, modulus_word, table_word, row_word, pad_word, entry_word, start_word, projection_number}
use Rattle.residues.specs.declared.Modulus.{Modulus}
use Rattle.checks.specs.Words.{AllZero, all_zero}
use Rattle.checks.specs.Accepted.{InRange, IsTable, in_range, entries, right_length, long_pad}
use Rattle.checks.specs.Answers.{Stands}
use Rattle.checks.specs.Ends.{Lent, part_long}
use Rattle.ranked_theory.specs.Layout.{rows_and_tables}
use Rattle.projection.specs.Levels.{Ready}

pub record Projection (n m : ℕ) (a b : List ℕ) (r p : ℕ) : Type 0 where
  pub range : InRange n m
  pub first : IsTable n m a
  pub second : IsTable n m b
  pub result : r ≡ n + 1
  pub pad : pad_length n ≤ p

-- the words behind the modulus'
abbrev pub projection_words : ℕ → ℕ → List ℕ → List ℕ → ℕ → ℕ → List ℕ
projection_words n m a b r p =
    table_word n (length a)
    ∷ table_word n (length b)
    ∷ row_word n r
    ∷ pad_word n p
    ∷ entry_word m a
    ∷ entry_word m b
    ∷ start_word 0 b
    ∷ []

module _ (n m : ℕ) (a b : List ℕ) (r p : ℕ) where
  projection_facts : AllZero (panel_word n ∷ modulus_word m ∷ projection_words n m a b r p) → Projection n m a b r p
  projection_facts (k, (q, (la, (lb, (lr, (w, (ea, (eb, s)))))))) =
      let i = in_range k q in
      record {
        range = i;
        first = entries i la ea;
        second = entries i lb eb;
        result = right_length (n + 1) r lr;
        pad = long_pad n p w;
      }

  pub projection_accepted : projection_number n m a b r p ≡ 0 → Projection n m a b r p
  unfolding projection_number
  projection_accepted e = projection_facts (all_zero (panel_word n ∷ modulus_word m ∷ projection_words n m a b r p) e)

-- the core is lent the tables, the result and that part of the pad
pub ready : {n m used : ℕ} {a b result pad : List ℕ} {modulus : Modulus} → Lent n used pad → Projection n m a b (length result) (length pad)
    → Stands modulus m → Ready modulus.value n a b result (take used pad)
ready {n} {used = used} l h s = record {
  few = h.range.few;
  left = h.first.size;
  left_below = λ S c. rw s.value_is (h.first.below S);
  right = h.second.size;
  right_below = λ S c. rw s.value_is (h.second.below S);
  row = h.result;
  room = omega (arith, part_long l (le_refl used), rows_and_tables n, l.used_is);
}
