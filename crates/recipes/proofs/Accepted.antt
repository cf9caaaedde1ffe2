-- What the tests of a recipe tell, and what it then hands to its calls.
use mathlib.Core.Path.{◌≡◌, refl, sym, ◌∙◌, ap}
use mathlib.Core.List.{List, [], ◌∷◌}
use Prim.Native.Nat.{ℕ, ◌^◌, ◌≤◌}
use native.Mathlib.Nat.{le_refl}
use native.Mathlib.Omega.{arith}
use lib.ListN.{length, take, length-take}
use borrow.Author.Tests.{ltb-false}
use lib.Dec.{ltb}
use Rattle.definitions.specs.Limits.{recipe_pad_length}
use Rattle.definitions.specs.Refusals.{panel_word, modulus_word, table_word, entry_word}
use Rattle.definitions.specs.Outcomes.{accepted}
use Rattle.definitions.specs.Recipes.{Letter, tableA, tableB, tableC, tableD, recipe_pad_word, lent_word, entries_word}
use Rattle.residues.specs.declared.Modulus.{Modulus}
use Rattle.checks.specs.Words.{AllZero, all_zero, no_word}
use Rattle.checks.specs.Accepted.{InRange, IsTable, in_range, right_length, entries}
use Rattle.checks.specs.Answers.{Stands}
use Rattle.checks.specs.Ends.{Usable, part_long}
use Rattle.recipe_theory.specs.Stack.{Fits, fits_recipe}
use Rattle.recipe_theory.specs.Lines.{nesting_within}
use Rattle.recipe_reader.specs.Answers.{Coded}
use Rattle.recipe_machine.specs.Memory.{Ready}

-- the words behind the modulus'
abbrev pub length_words : ℕ → (Letter → List ℕ) → ℕ → ℕ → List ℕ
length_words n tables r p =
    table_word n (length (tables tableA))
    ∷ table_word n (length (tables tableB))
    ∷ table_word n (length (tables tableC))
    ∷ table_word n (length (tables tableD))
    ∷ table_word n r
    ∷ recipe_pad_word n p
    ∷ []

pub long_pad : (n k : ℕ) → recipe_pad_word n k ≡ 0 → recipe_pad_length n ≤ k
long_pad n k e = ltb-false k (recipe_pad_length n) (no_word (ltb k (recipe_pad_length n)) 4 (λ z. omega arith) e)

pub record Lent (n m : ℕ) (tables : Letter → List ℕ) (r p : ℕ) : Type 0 where
  pub range : InRange n m
  pub sizes : (x : Letter) → table_word n (length (tables x)) ≡ 0
  pub result : r ≡ 2 ^ n
  pub pad : recipe_pad_length n ≤ p

module _ (n m : ℕ) (tables : Letter → List ℕ) (r p : ℕ) where
  lent_facts : AllZero (panel_word n ∷ modulus_word m ∷ length_words n tables r p) → Lent n m tables r p
  lent_facts (k, (q, (la, (lb, (lc, (ld, (lr, (w, z)))))))) =
      record { range = in_range k q; sizes = sizes; result = right_length (2 ^ n) r lr; pad = long_pad n p w }
    where
      sizes : (x : Letter) → table_word n (length (tables x)) ≡ 0
      sizes tableA = la
      sizes tableB = lb
      sizes tableC = lc
      sizes tableD = ld

  pub lent_accepted : lent_word n m tables r p ≡ 0 → Lent n m tables r p
  unfolding lent_word
  lent_accepted e = lent_facts (all_zero (panel_word n ∷ modulus_word m ∷ length_words n tables r p) e)

entries_each : (m : ℕ) (tables : Letter → List ℕ) → entries_word m tables ≡ 0 → (x : Letter) → entry_word m (tables x) ≡ 0
unfolding entries_word
entries_each m tables e x =
    by x (all_zero (entry_word m (tables tableA) ∷ entry_word m (tables tableB) ∷ entry_word m (tables tableC) ∷ entry_word m (tables tableD) ∷ []) e)
  where
    by : (x : Letter)
        → AllZero (entry_word m (tables tableA) ∷ entry_word m (tables tableB) ∷ entry_word m (tables tableC) ∷ entry_word m (tables tableD) ∷ [])
        → entry_word m (tables x) ≡ 0
    by tableA (a, rest) = a
    by tableB (a, (b, rest)) = b
    by tableC (a, (b, (c, rest))) = c
    by tableD (a, (b, (c, (d, rest)))) = d

module _ {n m : ℕ} {tables : Letter → List ℕ} {r p : ℕ} (lent : Lent n m tables r p) {modulus : Modulus} (stands : Stands modulus m) where
  pub are_tables : entries_word m tables ≡ 0 → (x : Letter) → IsTable n modulus.value (tables x)
  are_tables e x = rw stands.value_is (entries lent.range (lent.sizes x) (entries_each m tables e x))

  pub ready : {result pad : List ℕ} → length result ≡ r → length pad ≡ p → Ready n modulus 0 result pad
  ready e f =
      record {
        space = record { few = lent.range.few; within = omega arith; long = e ∙ lent.result; room = rw f lent.pad };
        values = tt;
      }

-- the stated pad, and what is lent of it
module _ {n : ℕ} {modulus : Modulus} {result pad : List ℕ} (h : Ready n modulus 0 result pad) {used : ℕ} (is : used ≡ recipe_pad_length n) where
  pub usable : Usable (recipe_pad_length n) used pad
  usable = record { used_is = is; room = h.space.room }

  pub front_ready : Ready n modulus 0 result (take used pad)
  front_ready =
      record {
        space = record { few = h.space.few; within = h.space.within; long = h.space.long; room = omega (arith, part_long usable (le_refl used), is) };
        values = tt;
      }

-- ---- the code of the line

module _ {line code : List ℕ} {used : ℕ} (h : Coded line used code) where
  pub code_long : used ≡ length (take used code)
  code_long = h.count ∙ sym (ap length h.written)

  pub code_in : used ≤ length code
  code_in = omega (arith, code_long, length-take used code)

  pub code_fits : Fits (take used code) 0
  code_fits = rw h.written (fits_recipe h.tree (nesting_within line (accepted h.tree) h.tree h.recipe refl))
