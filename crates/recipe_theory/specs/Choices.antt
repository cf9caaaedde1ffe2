-- A logarithm and an inverse for each table whose call is accepted: there is such a choice, and but one that counts, since any two agree
-- on those tables and recipes are worth the same by both.
--   the_choice, one_logarithm, one_inverse, one_worth
--   one_outcome     so number and result of the call are the same, whatever the line is read as and by whatever choice
use Rattle.std.specs.Prelude.{◌≡◌, Bool, List, [], ℕ, zero, suc, ◌^◌, ◌≤◌, ltb, length}
use Rattle.std.proofs.Math.Path.{refl, ap, ap₂}
use Rattle.std.proofs.Common.{◌∙◌, arith}
use Rattle.std.proofs.Math.Bool.{true, false}
use borrow.Author.Tests.{ltb-false, ltb-true}
use Rattle.definitions.specs.Limits.{lowest_modulus, pad_length}
use Rattle.definitions.specs.Sums.{at}
use Rattle.definitions.specs.Partitions.{IsLogarithm, IsInverse, shares_divisor}
use Rattle.definitions.specs.Refusals.{word_if, start_word, shared_start_word, single_number, logarithm_number, inverse_number}
use Rattle.definitions.specs.Outcomes.{Outcome, accepted, refused, and_then}
use Rattle.definitions.specs.Recipes.{Level, Letter, Opening, group, exponential, logarithm, inverse, Tree, table, inside, only, chain, Choice, call_gives, sign_call, opening_call, worth, sum, ReadAs, tested, recipe_outcome}
use Rattle.theory.specs.Entries.{at_below}
use Rattle.theory.specs.Logarithm as logarithms
use Rattle.theory.specs.Inverse.{inverse_exists, inverse_unique}
use Rattle.checks.specs.Words.{or_else_first, or_else_second}
use Rattle.recipe_theory.specs.Lines.{one_reading}
use Rattle.checks.specs.Accepted.{single_accepted, right_start}

-- ---- there is one

module _ (n m : ℕ) where
  -- an inverse, where the first entry and m have no common divisor above 1
  inverse_by : (A : List ℕ) (low shares : Bool) → ltb m lowest_modulus ≡ low → shares_divisor m (at A 0) ≡ shares → List ℕ
  inverse_by A false false e f = (inverse_exists n m A (ltb-false m lowest_modulus e) f).0
  inverse_by A true shares e f = []
  inverse_by A false true e f = []

  inverse_by_lem : (A : List ℕ) (low shares : Bool) (e : ltb m lowest_modulus ≡ low) (f : shares_divisor m (at A 0) ≡ shares)
      → lowest_modulus ≤ m → word_if shares 6 ≡ 0 → IsInverse n m A (inverse_by A low shares e f)
  unfolding inverse_by
  inverse_by_lem A false false e f two z = (inverse_exists n m A (ltb-false m lowest_modulus e) f).1
  inverse_by_lem A true shares e f two z = absurd (omega (arith, ltb-true m lowest_modulus e))
  inverse_by_lem A false true e f two z = absurd (omega arith)

  logarithm_found : (E : List ℕ) → logarithm_number n m E (2 ^ n) (pad_length n) ≡ 0 → IsLogarithm n m E (logarithms.logarithm_of n m E)
  unfolding logarithm_number
  logarithm_found E z =
      let single = single_number n m E (2 ^ n) (pad_length n) in
      let found = (single_accepted n m E (2 ^ n) (pad_length n) (or_else_first single (start_word 1 E) z)).table in
      logarithms.logarithm_is n m E found.size (at_below m E (λ i c. found.below i)) (right_start 1 E (or_else_second single (start_word 1 E) z))

  inverse_found : (A : List ℕ) → inverse_number n m A (2 ^ n) (pad_length n) ≡ 0 → IsInverse n m A (inverse_by A _ _ refl refl)
  unfolding inverse_number
  inverse_found A z =
      let single = single_number n m A (2 ^ n) (pad_length n) in
      inverse_by_lem A _ _ refl refl
      (single_accepted n m A (2 ^ n) (pad_length n) (or_else_first single (shared_start_word m A) z)).range.lowest
      (or_else_second single (shared_start_word m A) z)

  pub the_choice : Choice n m
  the_choice =
      record {
        logarithm_of = logarithms.logarithm_of n m;
        inverse_of = λ A. inverse_by A _ _ refl refl;
        is_logarithm = logarithm_found;
        is_inverse = inverse_found;
      }

-- ---- and only one

same_gives : (number : ℕ) (a b : List ℕ) → (number ≡ 0 → a ≡ b) → call_gives number a ≡ call_gives number b
same_gives zero a b h = ap accepted (h refl)
same_gives (suc k) a b h = refl

module _ {n m : ℕ} (first second : Choice n m) where
  pub one_logarithm : (E : List ℕ) → logarithm_number n m E (2 ^ n) (pad_length n) ≡ 0 → first.logarithm_of E ≡ second.logarithm_of E
  one_logarithm E z = logarithms.logarithm_unique n m E _ _ (first.is_logarithm E z) (second.is_logarithm E z)

  pub one_inverse : (A : List ℕ) → inverse_number n m A (2 ^ n) (pad_length n) ≡ 0 → first.inverse_of A ≡ second.inverse_of A
  one_inverse A z = inverse_unique n m A _ _ (first.is_inverse A z) (second.is_inverse A z)

  one_call : (o : Opening) (a : List ℕ) → opening_call n m first o a ≡ opening_call n m second o a
  unfolding opening_call
  one_call group a = refl
  one_call exponential a = refl
  one_call logarithm a = same_gives (logarithm_number n m a (2 ^ n) (pad_length n)) _ _ (one_logarithm a)
  one_call inverse a = same_gives (inverse_number n m a (2 ^ n) (pad_length n)) _ _ (one_inverse a)

  then_call : (o : Opening) (x : Outcome (List ℕ)) → and_then x (opening_call n m first o) ≡ and_then x (opening_call n m second o)
  then_call o (accepted a) = one_call o a
  then_call o (refused k) = refl

  pub one_worth : (tables : Letter → List ℕ) {l : Level} (t : Tree l) → worth n m first tables t ≡ worth n m second tables t
  unfolding worth
  one_worth tables (table x) = refl
  one_worth tables (inside o t) =
      ap (λ (x : Outcome (List ℕ)). and_then x (opening_call n m first o)) (one_worth tables t) ∙ then_call o (worth n m second tables t)
  one_worth tables (only t) = one_worth tables t
  one_worth tables (chain t s u) =
      ap₂ (λ (x y : Outcome (List ℕ)). and_then x (λ a. and_then y (λ b. sign_call n m s a b))) (one_worth tables t) (one_worth tables u)

  pub one_outcome : (line : List ℕ) (r p : Outcome (Tree sum)) → ReadAs line r → ReadAs line p → (tables : Letter → List ℕ) (result pad : List ℕ)
      → recipe_outcome n m r tables first result pad ≡ recipe_outcome n m p tables second result pad
  unfolding recipe_outcome
  one_outcome line r p h i tables result pad =
      ap (λ (o : Outcome (Tree sum)). and_then (tested n m o tables (length result) (length pad)) (λ t. worth n m first tables t)) (one_reading line r p h i)
      ∙ then_worth (tested n m p tables (length result) (length pad))
    where
      then_worth : (o : Outcome (Tree sum)) → and_then o (λ t. worth n m first tables t) ≡ and_then o (λ t. worth n m second tables t)
      then_worth (accepted t) = one_worth tables t
      then_worth (refused k) = refl
