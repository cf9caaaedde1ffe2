-- What a line is read as: exactly one outcome, and `recipe_of` (Reading) is it.
use Rattle.std.specs.Prelude.{◌≡◌, refl, Bool, true, false, List, ℕ, ◌≤◌, ltb, length}
use Rattle.std.proofs.Common.{sym, ◌∙◌, subst, arith, ltb-true, ltb-false}
use Rattle.definitions.specs.Limits.{longest_recipe, deepest_nesting}
use Rattle.definitions.specs.Outcomes.{Outcome, accepted, refused}
use Rattle.definitions.specs.Recipes.{Tree, sum, text, nesting, ReadAs, long, outside, deep, recipe}
use Rattle.recipe_theory.specs.Reading.{recipe_of}
use Rattle.recipe_theory.specs.ReadingLaws.{grammatical, recipe_long, recipe_outside, recipe_deep, recipe_accepted}

-- how deep the recipe of a line of at most 120 bytes nests decides between it and 14
reads_tree : (line : List ℕ) → length line ≤ longest_recipe → (t : Tree sum) → text t ≡ line → (b : Bool) → ltb deepest_nesting (nesting t) ≡ b
    → ReadAs line (recipe_of line)
reads_tree line short t e true h =
    let below = ltb-true deepest_nesting (nesting t) h in
    subst (ReadAs line) (sym (recipe_deep line short t e below)) (deep t e short below)
reads_tree line short t e false h =
    let within = ltb-false deepest_nesting (nesting t) h in
    subst (ReadAs line) (sym (recipe_accepted line short t e within)) (recipe t e short within)

reads_short : (line : List ℕ) → length line ≤ longest_recipe → Dec ((t : Tree sum) × (text t ≡ line)) → ReadAs line (recipe_of line)
reads_short line short (yes (t, e)) = reads_tree line short t e _ refl
reads_short line short (no none-such) =
    let none : (t : Tree sum) → text t ≡ line → ⊥ = λ t e. none-such (t, e) in
    subst (ReadAs line) (sym (recipe_outside line short none)) (outside none)

-- every line is read as something
pub reads : (line : List ℕ) → ReadAs line (recipe_of line)
reads line = by (ltb longest_recipe (length line)) refl
  where
    by : (b : Bool) → ltb longest_recipe (length line) ≡ b → ReadAs line (recipe_of line)
    by true h = let more = ltb-true longest_recipe (length line) h in subst (ReadAs line) (sym (recipe_long line more)) (long more)
    by false h = reads_short line (ltb-false longest_recipe (length line) h) (grammatical line)

outside_only : (line : List ℕ) → ((t : Tree sum) → text t ≡ line → ⊥) → (b : Bool) → ltb longest_recipe (length line) ≡ b → recipe_of line ≡ refused 13
outside_only line none true h = recipe_long line (ltb-true longest_recipe (length line) h)
outside_only line none false h = recipe_outside line (ltb-false longest_recipe (length line) h) none

-- and as nothing else
pub reads_only : (line : List ℕ) (o : Outcome (Tree sum)) → ReadAs line o → recipe_of line ≡ o
reads_only line (refused k) (long more) = recipe_long line more
reads_only line (refused k) (outside none) = outside_only line none _ refl
reads_only line (refused k) (deep t e short below) = recipe_deep line short t e below
reads_only line (accepted u) (recipe t e short within) = recipe_accepted line short t e within

pub one_reading : (line : List ℕ) (o p : Outcome (Tree sum)) → ReadAs line o → ReadAs line p → o ≡ p
one_reading line o p x y = sym (reads_only line o x) ∙ reads_only line p y

-- a recipe that is read nests to depth 8 at most
pub nesting_within : (line : List ℕ) (o : Outcome (Tree sum)) (t : Tree sum) → ReadAs line o → o ≡ accepted t → nesting t ≤ deepest_nesting
nesting_within line (refused k) t r f = absurd (let w : ◌≡◌ {A = ℕ} 0 1 = cc in omega arith)
nesting_within line (accepted u) t (recipe v s short within) f = let same : v ≡ t = cc in rw (← same) within
