-- 02's recipes on one line: the grammar, as trees with their text; what a line is read as; what a recipe is worth,
-- by the calls made one by one; and the number, the result and the pad of the call, on every outcome.
use Rattle.std.specs.Prelude.{◌≡◌, List, [], ◌∷◌, ◌++◌, ℕ, suc, ◌^◌, ◌<◌, ◌≤◌, max, ltb, length}
use Rattle.definitions.specs.Limits.{pad_length, longest_recipe, deepest_nesting, recipe_pad_length}
use Rattle.definitions.specs.Products.{sum_table, difference_table, subset_table, union_table, xor_table}
use Rattle.definitions.specs.Partitions.{exponential_table, IsLogarithm, IsInverse}
use Rattle.definitions.specs.Refusals.{word_if, first_word, panel_word, modulus_word, table_word, entry_word, sum_number, product_number, xor_number, exponential_number, logarithm_number, inverse_number, cleared}
use Rattle.definitions.specs.Outcomes.{Outcome, accepted, refused, and_then, unless, number_of, value_or}

-- ---- the grammar

-- how tightly a part of a recipe is bound: a factor most, and each level above it by the signs of that level
pub data Level : Type 0 where
  factor : Level
  above : Level → Level

abbrev pub product : Level
product = above factor

abbrev pub alternative : Level
alternative = above product

abbrev pub sum : Level
sum = above alternative

-- the lent tables
pub data Letter : Type 0 where
  tableA tableB tableC tableD : Letter

-- the signs between two operands, each at its level: the star binds tightest, then | and ^ alike, then + and - alike
pub data Sign : Level → Type 0 where
  times : Sign product
  union xor : Sign alternative
  plus minus : Sign sum

-- how a recipe in parentheses opens: with the parenthesis alone, or with one of the three functions
pub data Opening : Type 0 where
  group exponential logarithm inverse : Opening

-- A recipe is a tree of the level sum. The left operand of a sign may have signs of the same level, the right one has none: equal
-- signs go from left to right.
pub data Tree : Level → Type 0 where
  table : Letter → Tree factor
  inside : Opening → Tree sum → Tree factor
  only : {l : Level} → Tree l → Tree (above l)
  chain : {l : Level} → Tree (above l) → Sign (above l) → Tree l → Tree (above l)

-- ---- its text

-- "A" to "D"
abbrev pub letter_byte : Letter → ℕ
letter_byte tableA = 65
letter_byte tableB = 66
letter_byte tableC = 67
letter_byte tableD = 68

-- "*", "|", "^", "+", "-"
abbrev pub sign_byte : {l : Level} → Sign l → ℕ
sign_byte times = 42
sign_byte union = 124
sign_byte xor = 94
sign_byte plus = 43
sign_byte minus = 45

-- "(", "exp(", "log(", "inv("
abbrev pub opening_text : Opening → List ℕ
opening_text group = 40 ∷ []
opening_text exponential = 101 ∷ 120 ∷ 112 ∷ 40 ∷ []
opening_text logarithm = 108 ∷ 111 ∷ 103 ∷ 40 ∷ []
opening_text inverse = 105 ∷ 110 ∷ 118 ∷ 40 ∷ []

-- ")"
abbrev pub closing_byte : ℕ
closing_byte = 41

unfoldable pub text : {l : Level} → Tree l → List ℕ
text (table x) = letter_byte x ∷ []
text (inside o t) = opening_text o ++ (text t ++ (closing_byte ∷ []))
text (only t) = text t
text (chain t s u) = text t ++ (sign_byte s ∷ text u)

-- how deep parentheses nest, those of the three functions counted
unfoldable pub nesting : {l : Level} → Tree l → ℕ
nesting (table x) = 0
nesting (inside o t) = suc (nesting t)
nesting (only t) = nesting t
nesting (chain t s u) = max (nesting t) (nesting u)

-- ---- a line

-- What a line is read as: the recipe whose text it is, or a word. 13, recipe: over 120 bytes, or outside the grammar, the text of no
-- tree. 14, nesting: beyond 8, in a line that is not 13. (`recipe_theory`, Lines: every line is read as one outcome, and no other.)
pub data ReadAs (line : List ℕ) : Outcome (Tree sum) → Type 0 where
  long : longest_recipe < length line → ReadAs line (refused 13)
  outside : ((t : Tree sum) → text t ≡ line → ⊥) → ReadAs line (refused 13)
  deep : (t : Tree sum) → text t ≡ line → length line ≤ longest_recipe → deepest_nesting < nesting t → ReadAs line (refused 14)
  recipe : (t : Tree sum) → text t ≡ line → length line ≤ longest_recipe → nesting t ≤ deepest_nesting → ReadAs line (accepted t)

-- ---- what a recipe is worth

-- a logarithm and an inverse for each table whose call is accepted (`recipe_theory`, Choices: there is such a choice, and recipes
-- are worth the same by any two)
pub record Choice (n m : ℕ) : Type 0 where
  pub logarithm_of : List ℕ → List ℕ
  pub inverse_of : List ℕ → List ℕ
  pub is_logarithm : (E : List ℕ) → logarithm_number n m E (2 ^ n) (pad_length n) ≡ 0 → IsLogarithm n m E (logarithm_of E)
  pub is_inverse : (A : List ℕ) → inverse_number n m A (2 ^ n) (pad_length n) ≡ 0 → IsInverse n m A (inverse_of A)

-- what a call gives that has this number: its table, or the number of its refusal
abbrev pub call_gives : ℕ → List ℕ → Outcome (List ℕ)
call_gives number made = unless number (accepted made)

module _ (n m : ℕ) where
  -- the call of a sign on its two operands, with a result of 2 ^ n entries and, where it takes one, a pad of W
  unfoldable pub sign_call : {l : Level} → Sign l → List ℕ → List ℕ → Outcome (List ℕ)
  sign_call times a b = call_gives (product_number n m a b (2 ^ n) (pad_length n)) (subset_table n m a b)
  sign_call union a b = call_gives (product_number n m a b (2 ^ n) (pad_length n)) (union_table n m a b)
  sign_call xor a b = call_gives (xor_number n m a b (2 ^ n) (pad_length n)) (xor_table n m a b)
  sign_call plus a b = call_gives (sum_number n m a b (2 ^ n)) (sum_table n m a b)
  sign_call minus a b = call_gives (sum_number n m a b (2 ^ n)) (difference_table n m a b)

  module _ (by : Choice n m) where
    -- the call of a function; plain parentheses are no call
    unfoldable pub opening_call : Opening → List ℕ → Outcome (List ℕ)
    opening_call group a = accepted a
    opening_call exponential a = call_gives (exponential_number n m a (2 ^ n) (pad_length n)) (exponential_table n m a)
    opening_call logarithm a = call_gives (logarithm_number n m a (2 ^ n) (pad_length n)) (by.logarithm_of a)
    opening_call inverse a = call_gives (inverse_number n m a (2 ^ n) (pad_length n)) (by.inverse_of a)

    -- the calls made one by one: what is inside before its function, the left operand before the right, and the first call to refuse
    -- gives the number
    unfoldable pub worth : (Letter → List ℕ) → {l : Level} → Tree l → Outcome (List ℕ)
    worth tables (table x) = accepted (tables x)
    worth tables (inside o t) = and_then (worth tables t) (opening_call o)
    worth tables (only t) = worth tables t
    worth tables (chain t s u) = and_then (worth tables t) (λ a. and_then (worth tables u) (λ b. sign_call s a b))

-- ---- the call

-- the four lent tables
abbrev pub lettered : List ℕ → List ℕ → List ℕ → List ℕ → Letter → List ℕ
lettered a b c d tableA = a
lettered a b c d tableB = b
lettered a b c d tableC = c
lettered a b c d tableD = d

-- 4, pad: a pad of k entries, fewer than W + 32 · 2 ^ n
abbrev pub recipe_pad_word : ℕ → ℕ → ℕ
recipe_pad_word n k = word_if (ltb k (recipe_pad_length n)) 4

-- the words before the line is read; r and p are the lengths of result and pad
unfoldable pub lent_word : ℕ → ℕ → (Letter → List ℕ) → ℕ → ℕ → ℕ
lent_word n m tables r p =
    first_word
    (panel_word n
    ∷ modulus_word m
    ∷ table_word n (length (tables tableA))
    ∷ table_word n (length (tables tableB))
    ∷ table_word n (length (tables tableC))
    ∷ table_word n (length (tables tableD))
    ∷ table_word n r
    ∷ recipe_pad_word n p
    ∷ [])

-- and those of the four tables, used or not, once it is read
unfoldable pub entries_word : ℕ → (Letter → List ℕ) → ℕ
entries_word m tables =
    first_word
    (entry_word m (tables tableA)
    ∷ entry_word m (tables tableB)
    ∷ entry_word m (tables tableC)
    ∷ entry_word m (tables tableD)
    ∷ [])

module _ (n m : ℕ) (read : Outcome (Tree sum)) (tables : Letter → List ℕ) where
  -- the recipe whose calls are made, or the word that refuses it before any call
  unfoldable pub tested : ℕ → ℕ → Outcome (Tree sum)
  tested r p = unless (lent_word n m tables r p) (and_then read (λ t. unless (entries_word m tables) (accepted t)))

  module _ (by : Choice n m) (result pad : List ℕ) where
    -- the recipe's table, or the number of its refusal
    unfoldable pub recipe_outcome : Outcome (List ℕ)
    recipe_outcome = and_then (tested (length result) (length pad)) (λ t. worth n m by tables t)

    abbrev pub recipe_number : ℕ
    recipe_number = number_of recipe_outcome

    -- the result as it came, if the recipe or one of its calls is refused
    abbrev pub recipe_result : List ℕ
    recipe_result = value_or result (λ made. made) recipe_outcome

  -- the stated pad is 0 once all tests are passed, also where a call then refuses: the one refusal that alters lent memory
  abbrev pub recipe_pad : ℕ → List ℕ → List ℕ
  recipe_pad r pad = value_or pad (λ t. cleared (recipe_pad_length n) pad) (tested r (length pad))
