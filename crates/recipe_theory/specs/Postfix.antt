-- A recipe in postfix order, a byte for each table and each call: operands before their sign, the left one first.
use Rattle.std.specs.Prelude.{List, [], ◌∷◌, ◌++◌, ℕ}
use Rattle.definitions.specs.Recipes.{Level, Tree, table, inside, only, chain, Opening, group, exponential, logarithm, inverse, letter_byte, sign_byte}

-- nothing for plain parentheses, "e", "l", "i" for the functions
abbrev pub opening_code : Opening → List ℕ
opening_code group = []
opening_code exponential = 101 ∷ []
opening_code logarithm = 108 ∷ []
opening_code inverse = 105 ∷ []

unfoldable pub postfix : {l : Level} → Tree l → List ℕ
postfix (table x) = letter_byte x ∷ []
postfix (inside o t) = postfix t ++ opening_code o
postfix (only t) = postfix t
postfix (chain t s u) = (postfix t ++ postfix u) ++ (sign_byte s ∷ [])
