-- What the program `panelshow` prints, as bytes: of a table file of at most 8 controls, a line with n and m and then a line
-- with code, size and value for each nonzero entry in rising code; of anything else `refused` and the number.
use Rattle.std.specs.Prelude.{cond, ℕ, zero, suc, ◌+◌, ◌/◌, ◌%◌, ◌^◌, ltb, eqb}
use mathlib.Core.List.{List, [], ◌∷◌, ◌++◌, flat_map}
use Rattle.definitions.specs.Limits.{most_shown}
use Rattle.definitions.specs.Sums.{tabulate, at}
use Rattle.definitions.specs.Sets.{size}
use Rattle.definitions.specs.Outcomes.{Outcome, accepted, refused, and_then}
use Rattle.definitions.specs.Files.{TableFile, read_header, read_body}

-- the decimal digits of v, at most so many
unfoldable pub digits_in : ℕ → ℕ → List ℕ
digits_in zero v = []
digits_in (suc k) v = cond (ltb v 10) ((48 + v) ∷ []) (digits_in k (v / 10) ++ ((48 + v % 10) ∷ []))

-- v in decimal: a value below 2 ^ 32 has at most ten digits
abbrev pub decimal : ℕ → List ℕ
decimal v = digits_in 10 v

-- a line: numbers in decimal with one blank between, ended by a line feed
abbrev pub line : ℕ → List ℕ → List ℕ
line v [] = decimal v ++ (10 ∷ [])
line v (w ∷ ws) = decimal v ++ (32 ∷ line w ws)

unfoldable pub entry_line : List ℕ → ℕ → List ℕ
entry_line A S = cond (eqb (at A S) 0) [] (line S (size S ∷ at A S ∷ []))

unfoldable pub table_text : TableFile → List ℕ
table_text t = line t.controls (t.modulus ∷ []) ++ flat_map (entry_line t.entries) (tabulate (2 ^ t.controls) (λ S. S))

-- the word `refused`, a blank and the number
unfoldable pub refusal_text : ℕ → List ℕ
refusal_text k = 114 ∷ 101 ∷ 102 ∷ 117 ∷ 115 ∷ 101 ∷ 100 ∷ 32 ∷ line k []

-- a larger n is refused where n is checked, before m is read
unfoldable pub read_shown : List ℕ → Outcome TableFile
read_shown bytes = and_then (read_header most_shown bytes) read_body

abbrev pub text_of : Outcome TableFile → List ℕ
text_of (accepted t) = table_text t
text_of (refused k) = refusal_text k

abbrev pub shown : List ℕ → List ℕ
shown bytes = text_of (read_shown bytes)
