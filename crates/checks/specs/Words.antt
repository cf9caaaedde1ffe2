-- Laws of the words of refusal: 0 accepts, and of a list of tests the first word that is not 0 counts. Then what a refused
-- call leaves.
use Rattle.std.specs.Prelude.{◌≡◌, refl, Bool, true, false, List, [], ◌∷◌, ◌++◌, ℕ, zero, suc}
use Rattle.std.proofs.Common.{◌∙◌, ap, suc-ne-zero}
use Rattle.definitions.specs.Refusals.{word_if, or_else, first_word, after, value_after}

-- ---- two words

pub or_else_first : (j k : ℕ) → or_else j k ≡ 0 → j ≡ 0
or_else_first zero k e = refl
or_else_first (suc j) k e = e

pub or_else_second : (j k : ℕ) → or_else j k ≡ 0 → k ≡ 0
or_else_second zero k e = e
or_else_second (suc j) k e = absurd (suc-ne-zero j e)

pub or_else_stop : (j k : ℕ) → (j ≡ 0 → ⊥) → or_else j k ≡ j
or_else_stop zero k h = absurd (h refl)
or_else_stop (suc j) k h = refl

pub or_else_go : (j k : ℕ) → j ≡ 0 → or_else j k ≡ k
or_else_go j k e = ap (λ (i : ℕ). or_else i k) e

-- a test whose word is 0 fails, if its word is not 0
pub no_word : (t : Bool) (k : ℕ) → (k ≡ 0 → ⊥) → word_if t k ≡ 0 → t ≡ false
no_word true k h e = absurd (h e)
no_word false k h e = refl

-- ---- a list of words

-- every word of a list is 0
abbrev pub AllZero : List ℕ → Type 0
AllZero [] = Unit {0}
AllZero (k ∷ ks) = (k ≡ 0) × AllZero ks

pub all_zero : (ks : List ℕ) → first_word ks ≡ 0 → AllZero ks
all_zero [] e = tt
all_zero (k ∷ ks) e = (or_else_first k (first_word ks) e, all_zero ks (or_else_second k (first_word ks) e))

-- and back, test by test: `e and f and refl`
infixr 20 ◌and◌
pub ◌and◌ : {j k : ℕ} → j ≡ 0 → k ≡ 0 → or_else j k ≡ 0
◌and◌ {j} {k} e f = or_else_go j k e ∙ f

-- one more test behind some tests
pub one_more_word : (ks : List ℕ) (w : ℕ) → first_word (ks ++ (w ∷ [])) ≡ or_else (first_word ks) w
one_more_word [] zero = refl
one_more_word [] (suc w) = refl
one_more_word (zero ∷ ks) w = one_more_word ks w
one_more_word (suc k ∷ ks) w = refl

-- ---- a refused call whose number is k: memory that it was lent, and what it returns beside the number

pub refused_list : (k : ℕ) (new old : List ℕ) → (k ≡ 0 → ⊥) → old ≡ after k new old
refused_list zero new old h = absurd (h refl)
refused_list (suc k) new old h = refl

pub refused_value : (k v : ℕ) → (k ≡ 0 → ⊥) → 0 ≡ value_after k v
refused_value zero v h = absurd (h refl)
refused_value (suc k) v h = refl
