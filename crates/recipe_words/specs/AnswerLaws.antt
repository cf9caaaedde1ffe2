-- Answers and code, put together from their parts.
use Rattle.std.specs.Prelude.{◌≡◌, refl, List, [], ◌∷◌, ℕ, ◌+◌, ◌<◌, Some, None, length, drop, set}
use Rattle.std.proofs.Common.{subst, add-one, arith, take-suc-set}
use Rattle.definitions.specs.Outcomes.{refused}
use Rattle.definitions.specs.Recipes.{Level}
use Rattle.recipe_words.specs.Answers.{Gives, Added, Taken, Reads}
use Rattle.recipe_words.specs.declared.Place.{Place}

pub added_byte : {code : List ℕ} {used : ℕ} (b : ℕ) → used < length code → Added code used (b ∷ []) (set code used b) (used + 1)
added_byte {code} {used} b h = record { count = refl; written = rw add-one (take-suc-set code used b h) }

module _ {l : Level} {line : List ℕ} {at : ℕ} {code : List ℕ} {used : ℕ} {code' : List ℕ} where
  pub is_read : {x : Place} → Taken l line at code used x code' → Reads l line at code used (Some x) code'
  is_read {x} r =
      record {
        taken = λ y e. let f : x ≡ y = cc in subst (λ (z : Place). Taken l line at code used z code') f r;
        refuses = λ e. absurd (let w : ◌≡◌ {A = ℕ} 0 1 = cc in omega arith);
      }

  pub is_refused : Gives l (drop at line) (refused 13) → Reads l line at code used None code'
  is_refused g = record { taken = λ y e. absurd (let w : ◌≡◌ {A = ℕ} 0 1 = cc in omega arith); refuses = λ e. g }
