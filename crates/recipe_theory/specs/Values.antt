-- The calls of a recipe on tables of residues: their numbers come down to what is tested of the first entry and of m, and what they
-- give is a table of residues again.
--   plus_gives, minus_gives, times_gives, union_gives, xor_gives, exponential_gives, logarithm_gives, inverse_gives
--   sign_table, opening_table     what a call gives is a table of residues
--   worth_refuses                 a call of a recipe refuses by 6 or by 7
use Rattle.std.specs.Prelude.{◌≡◌, refl, Bool, true, false, not, List, [], ◌∷◌, ◌⊎◌, ℕ, zero, suc, ◌+◌, ◌-◌, ◌%◌, ◌^◌, eqb}
use Rattle.std.proofs.Common.{sym, ◌∙◌, ap, inl, inr, le_refl, arith, le-ltb}
use Rattle.std.proofs.Math.Path.{subst}
use Rattle.std.specs.Int.Bits.{bit_or, bit_xor}
use Rattle.definitions.specs.Limits.{pad_length}
use Rattle.definitions.specs.Sums.{at}
use Rattle.definitions.specs.Products.{residues, subset_sum, pair_sum, sum_table, difference_table, subset_table, union_table, xor_table}
use Rattle.definitions.specs.Partitions.{all_ones, composition_sum, exponential_table, IsInverse, shares_divisor}
use Rattle.definitions.specs.Refusals.{word_if, first_word, table_word, pad_word, start_word, shared_start_word, halving_word, sum_number, product_number, xor_number, single_number, exponential_number, logarithm_number, inverse_number}
use Rattle.definitions.specs.Outcomes.{Outcome, accepted, refused, and_then}
use Rattle.definitions.specs.Recipes.{Level, Sign, times, union, xor, plus, minus, Opening, group, exponential, logarithm, inverse, Choice, call_gives, sign_call, opening_call, Letter, Tree, table, inside, only, chain, worth}
use Rattle.theory.specs.Entries.{below_anywhere}
use Rattle.checks.specs.Words.{or_else_go}
use Rattle.checks.specs.Accepted.{InRange, IsTable, length_right}
use Rattle.laws_theory.specs.Accepting.{number_of_sum, number_of_product, single_number_lem, residues_table, logarithm_table}

-- the lengths that the calls are lent pass
lent_pass : (n : ℕ) → first_word (table_word n (2 ^ n) ∷ pad_word n (pad_length n) ∷ []) ≡ 0
lent_pass n =
    or_else_go _ _ (length_right (2 ^ n) (2 ^ n) refl) ∙ simp (le-ltb (pad_length n) (pad_length n) (le_refl _))

same_call : {j k : ℕ} (made : List ℕ) → j ≡ k → call_gives j made ≡ call_gives k made
same_call made e = ap (λ (i : ℕ). call_gives i made) e

module _ {n m : ℕ} (range : InRange n m) where
  module _ {a b : List ℕ} (first : IsTable n m a) (second : IsTable n m b) where
    sum_passes : sum_number n m a b (2 ^ n) ≡ 0
    sum_passes = number_of_sum range first second (2 ^ n) ∙ length_right (2 ^ n) (2 ^ n) refl

    product_passes : product_number n m a b (2 ^ n) (pad_length n) ≡ 0
    product_passes = number_of_product range first second (2 ^ n) (pad_length n) ∙ lent_pass n

    pub plus_gives : sign_call n m plus a b ≡ accepted (sum_table n m a b)
    unfolding sign_call
    plus_gives = same_call (sum_table n m a b) sum_passes

    pub minus_gives : sign_call n m minus a b ≡ accepted (difference_table n m a b)
    unfolding sign_call
    minus_gives = same_call (difference_table n m a b) sum_passes

    pub times_gives : sign_call n m times a b ≡ accepted (subset_table n m a b)
    unfolding sign_call
    times_gives = same_call (subset_table n m a b) product_passes

    pub union_gives : sign_call n m union a b ≡ accepted (union_table n m a b)
    unfolding sign_call
    union_gives = same_call (union_table n m a b) product_passes

    pub xor_gives : sign_call n m xor a b ≡ call_gives (halving_word m) (xor_table n m a b)
    unfolding sign_call xor_number
    xor_gives = same_call (xor_table n m a b) (or_else_go _ (halving_word m) product_passes)

  module _ (by : Choice n m) {a : List ℕ} (is : IsTable n m a) where
    single_passes : single_number n m a (2 ^ n) (pad_length n) ≡ 0
    single_passes = single_number_lem range is (2 ^ n) (pad_length n) ∙ lent_pass n

    pub exponential_gives : opening_call n m by exponential a ≡ call_gives (start_word 0 a) (exponential_table n m a)
    unfolding opening_call exponential_number
    exponential_gives = same_call (exponential_table n m a) (or_else_go _ (start_word 0 a) single_passes)

    pub logarithm_gives : opening_call n m by logarithm a ≡ call_gives (start_word 1 a) (by.logarithm_of a)
    unfolding opening_call logarithm_number
    logarithm_gives = same_call (by.logarithm_of a) (or_else_go _ (start_word 1 a) single_passes)

    pub inverse_gives : opening_call n m by inverse a ≡ call_gives (shared_start_word m a) (by.inverse_of a)
    unfolding opening_call inverse_number
    inverse_gives = same_call (by.inverse_of a) (or_else_go _ (shared_start_word m a) single_passes)

    pub logarithm_passes : start_word 1 a ≡ 0 → logarithm_number n m a (2 ^ n) (pad_length n) ≡ 0
    unfolding logarithm_number
    logarithm_passes e = or_else_go _ (start_word 1 a) single_passes ∙ e

    pub inverse_passes : shared_start_word m a ≡ 0 → inverse_number n m a (2 ^ n) (pad_length n) ≡ 0
    unfolding inverse_number
    inverse_passes e = or_else_go _ (shared_start_word m a) single_passes ∙ e

  -- ---- what they give

  inverse_table_lem : {a i : List ℕ} → IsInverse n m a i → IsTable n m i
  inverse_table_lem h = record { size = h.long; below = below_anywhere m _ (omega (arith, range.lowest)) h.below }

  -- a call that is accepted gives what it made
  given : (number : ℕ) {made v : List ℕ} → call_gives number made ≡ accepted v → (number ≡ 0) × (made ≡ v)
  given zero e = (refl, cc)
  given (suc k) e = absurd (let w : ◌≡◌ {A = ℕ} 0 1 = cc in omega arith)

  given_table : (number : ℕ) (made : List ℕ) {v : List ℕ} → (number ≡ 0 → IsTable n m made) → call_gives number made ≡ accepted v → IsTable n m v
  given_table number made h e = let g = given number e in subst (IsTable n m) g.1 (h g.0)

  given_residues : (number : ℕ) (f : ℕ → ℕ) {v : List ℕ} → call_gives number (residues n m f) ≡ accepted v → IsTable n m v
  given_residues number f e = given_table number (residues n m f) (λ z. residues_table range f) e

  pub sign_table : {l : Level} (s : Sign l) (a b : List ℕ) {v : List ℕ} → sign_call n m s a b ≡ accepted v → IsTable n m v
  unfolding sign_call
  sign_table times a b e = given_residues (product_number n m a b (2 ^ n) (pad_length n)) (subset_sum n (at a) (at b)) e
  sign_table union a b e = given_residues (product_number n m a b (2 ^ n) (pad_length n)) (pair_sum bit_or n (at a) (at b)) e
  sign_table xor a b e = given_residues (xor_number n m a b (2 ^ n) (pad_length n)) (pair_sum bit_xor n (at a) (at b)) e
  sign_table plus a b e = given_residues (sum_number n m a b (2 ^ n)) (λ S. at a S + at b S) e
  sign_table minus a b e = given_residues (sum_number n m a b (2 ^ n)) (λ S. at a S + (m - at b S)) e

  pub opening_table : (by : Choice n m) (o : Opening) {a v : List ℕ} → IsTable n m a → opening_call n m by o a ≡ accepted v → IsTable n m v
  unfolding opening_call
  opening_table by group is e = subst (IsTable n m) (cc) is
  opening_table by exponential {a} is e = given_residues (exponential_number n m a (2 ^ n) (pad_length n)) (composition_sum n all_ones (at a)) e
  opening_table by logarithm {a} is e = given_table (logarithm_number n m a (2 ^ n) (pad_length n)) (by.logarithm_of a) (λ z. logarithm_table range (by.is_logarithm a z)) e
  opening_table by inverse {a} is e = given_table (inverse_number n m a (2 ^ n) (pad_length n)) (by.inverse_of a) (λ z. inverse_table_lem (by.is_inverse a z)) e

  -- ---- by which words they refuse

  -- a table of residues, or one of the two words
  abbrev Usual : Outcome (List ℕ) → Type 0
  Usual (accepted v) = IsTable n m v
  Usual (refused k) = (k ≡ 6) ⊎ (k ≡ 7)

  usual_six : (test : Bool) (v : List ℕ) → (word_if test 6 ≡ 0 → IsTable n m v) → Usual (call_gives (word_if test 6) v)
  usual_six true v h = inl refl
  usual_six false v h = h refl

  usual_seven : (test : Bool) (v : List ℕ) → IsTable n m v → Usual (call_gives (word_if test 7) v)
  usual_seven true v h = inr refl
  usual_seven false v h = h

  sign_usual : {l : Level} (s : Sign l) {a b : List ℕ} → IsTable n m a → IsTable n m b → Usual (sign_call n m s a b)
  sign_usual times ta tb = subst Usual (sym (times_gives ta tb)) (residues_table range _)
  sign_usual union ta tb = subst Usual (sym (union_gives ta tb)) (residues_table range _)
  sign_usual xor ta tb = subst Usual (sym (xor_gives ta tb)) (usual_seven (eqb (m % 2) 0) _ (residues_table range _))
  sign_usual plus ta tb = subst Usual (sym (plus_gives ta tb)) (residues_table range _)
  sign_usual minus ta tb = subst Usual (sym (minus_gives ta tb)) (residues_table range _)

  opening_usual : (by : Choice n m) (o : Opening) {a : List ℕ} → IsTable n m a → Usual (opening_call n m by o a)
  unfolding opening_call
  opening_usual by group ta = ta
  opening_usual by exponential {a} ta =
      subst Usual (sym (exponential_gives by ta)) (usual_six (not (eqb (at a 0) 0)) _ (λ z. residues_table range _))
  opening_usual by logarithm {a} ta =
      subst Usual (sym (logarithm_gives by ta)) (usual_six (not (eqb (at a 0) 1)) _ (λ z. logarithm_table range (by.is_logarithm a (logarithm_passes by ta z))))
  opening_usual by inverse {a} ta =
      subst Usual (sym (inverse_gives by ta)) (usual_six (shares_divisor m (at a 0)) _ (λ z. inverse_table_lem (by.is_inverse a (inverse_passes by ta z))))

  usual_then : (o : Outcome (List ℕ)) (next : List ℕ → Outcome (List ℕ)) → Usual o → ((a : List ℕ) → IsTable n m a → Usual (next a)) → Usual (and_then o next)
  usual_then (accepted a) next h more = more a h
  usual_then (refused k) next h more = h

  module _ (by : Choice n m) (tables : Letter → List ℕ) (are : (x : Letter) → IsTable n m (tables x)) where
    worth_usual : {l : Level} (t : Tree l) → Usual (worth n m by tables t)
    unfolding worth
    worth_usual (table x) = are x
    worth_usual (inside o t) = usual_then (worth n m by tables t) _ (worth_usual t) (λ a ta. opening_usual by o ta)
    worth_usual (only t) = worth_usual t
    worth_usual (chain t s u) =
        usual_then (worth n m by tables t) _ (worth_usual t) (λ a ta. usual_then (worth n m by tables u) _ (worth_usual u) (λ b tb. sign_usual s ta tb))

    pub worth_refuses : {l : Level} (t : Tree l) (k : ℕ) → worth n m by tables t ≡ refused k → (k ≡ 6) ⊎ (k ≡ 7)
    worth_refuses t k e = subst Usual e (worth_usual t)
