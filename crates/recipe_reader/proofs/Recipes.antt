-- A line as a whole: a sum that ends where the line does.
use mathlib.Core.Path.{◌≡◌, refl, sym, ◌∙◌, ap, subst}
use mathlib.Core.Bool.{true, false, not}
use mathlib.Core.List.{List}
use Prim.Native.Nat.{ℕ, zero, suc, ◌-◌}
use native.Mathlib.Nat.{le_refl}
use native.Mathlib.Omega.{arith}
use lib.Dec.{eqb, ltb}
use lib.ListN.{length, drop, length-drop}
use Rattle.definitions.specs.Limits.{longest_recipe, deepest_nesting}
use Rattle.definitions.specs.Outcomes.{Outcome, accepted, refused, and_then, unless}
use Rattle.definitions.specs.Recipes.{Tree, sum, nesting, ReadAs}
use Rattle.definitions.specs.Refusals.{word_if, or_else}
use Rattle.recipe_theory.specs.Reading.{Parsed, at_end, tree_of, recipe_of}
use Rattle.recipe_theory.specs.Lines.{reads}
use Rattle.recipe_words.specs.Answers.{Gives, Taken, end_word}
use Rattle.recipe_words.specs.declared.Place.{Place}
use Rattle.recipe_reader.specs.Answers.{Coded, RecipeReads}
use Rattle.std.specs.Prelude.{Option, Some, None, Result, Ok, Err, IsErrAnd, ok_or}
use Rattle.refusals.specs.declared.Refusal.{Refusal}
use Rattle.refusals.specs.declared.Refusal.TheVariants.{Recipe}
use Rattle.refusals.specs.Words.{word, word-not-zero}

-- what is behind `?`: a reader's place, a reader that refused, and a refusal that is handed on
pub read_place : (r : Option Place) {x : Place} → Ok x ≡ ok_or r Recipe → r ≡ Some x
read_place None e = absurd (let w : ◌≡◌ {A = ℕ} 0 1 = cc in omega arith)
read_place (Some y) e = cc

pub read_refused : (r : Option Place) {refusal : Refusal} → Err refusal ≡ ok_or r Recipe → (r ≡ None) × (refusal ≡ Recipe)
read_refused None e = (refl, cc)
read_refused (Some y) e = absurd (let w : ◌≡◌ {A = ℕ} 0 1 = cc in omega arith)

pub handed_on : (r : Result ℕ Refusal) {refusal : Refusal} → IsErrAnd r (λ e. e ≡ refusal) → r ≡ Err refusal
handed_on (Ok used) e = absurd e
handed_on (Err e) same = ap Err same

-- two tests of a tree, one after the other
both_tests : (t : Tree sum) (word : ℕ) (deep : Tree sum → ℕ) →
    and_then (unless word (accepted t)) (λ u. unless (deep u) (accepted u)) ≡ unless (or_else word (deep t)) (accepted t)
both_tests t zero deep = refl
both_tests t (suc k) deep = refl

refused_by : {X : Type 0} (word : ℕ) (o : Outcome X) → (word ≡ 0 → ⊥) → unless word o ≡ refused word
refused_by zero o h = absurd (h refl)
refused_by (suc k) o h = refl

module _ {line code : List ℕ} where
  is_refused : {refusal : Refusal} → recipe_of line ≡ refused (word refusal) → RecipeReads line (Err refusal) code
  is_refused {refusal} e =
      record {
        coded = λ used f. absurd (let w : ◌≡◌ {A = ℕ} 0 1 = cc in omega arith);
        refuses = λ other f. let g : refusal ≡ other = cc in subst (ReadAs line) (e ∙ ap (λ (k : Refusal). refused (word k)) g) (reads line);
      }

  is_coded : {used : ℕ} → Coded line used code → RecipeReads line (Ok used) code
  is_coded {used} c =
      record {
        coded = λ other f. let g : used ≡ other = cc in subst (λ (k : ℕ). Coded line k code) g c;
        refuses = λ refusal f. absurd (let w : ◌≡◌ {A = ℕ} 0 1 = cc in omega arith);
      }

  pub too_long : ltb longest_recipe (length line) ≡ true → RecipeReads line (Err Recipe) code
  unfolding recipe_of
  too_long h = is_refused (rw h)

  module _ (short : ltb longest_recipe (length line) ≡ false) where
    pub outside : Gives sum line (refused 13) → RecipeReads line (Err Recipe) code
    unfolding recipe_of tree_of
    outside g = is_refused (rw (short, g.by (length line) (le_refl _)))

    module _ {x : Place} {old : List ℕ} (taken : Taken sum line 0 old 0 x code) where
      read : tree_of line ≡ at_end (record { tree = taken.tree; rest = drop x.next line })
      unfolding tree_of
      read = ap (λ (o : Outcome (Parsed sum)). and_then o at_end) (taken.outcome.by (length line) (le_refl _))

      ended : recipe_of line ≡ unless (end_word (length line - x.next) x.depth) (accepted taken.tree)
      unfolding recipe_of
      ended =
          rw (short, read, taken.stands.depth, ← length-drop x.next line)
          (both_tests taken.tree (word_if (not (eqb (length (drop x.next line)) 0)) 13) (λ t. word_if (ltb deepest_nesting (nesting t)) 14))

      pub refused_at_end : {refusal : Refusal} → word refusal ≡ end_word (length line - x.next) x.depth → RecipeReads line (Err refusal) code
      refused_at_end {refusal} e =
          is_refused (ended ∙ ap (λ (k : ℕ). unless k (accepted taken.tree)) (sym e) ∙ refused_by (word refusal) _ (word-not-zero refusal))

      pub accepts : 0 ≡ end_word (length line - x.next) x.depth → RecipeReads line (Ok x.used) code
      accepts h =
          is_coded
          (record {
            tree = taken.tree;
            recipe = subst (ReadAs line) (ended ∙ ap (λ (k : ℕ). unless k (accepted taken.tree)) (sym h)) (reads line);
            count = omega (arith, taken.added);
            written = taken.added.written;
          })
