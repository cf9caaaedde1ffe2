-- How a line is read, level by level. What this gives is fixed by the grammar alone: a tree is read from a line just when
-- the line is its text (`ReadingLaws`).
use Rattle.std.specs.Prelude.{Bool, true, false, cond, ◌&&◌, not, List, [], ◌∷◌, ℕ, zero, suc, eqb, ltb, length, drop}
use Rattle.std.proofs.Math.Option.{Option, some, none}
use Rattle.definitions.specs.Limits.{longest_recipe, deepest_nesting}
use Rattle.definitions.specs.Outcomes.{Outcome, accepted, refused, and_then, unless}
use Rattle.definitions.specs.Refusals.{word_if}
use Rattle.definitions.specs.Recipes.{Level, factor, above, sum, Letter, tableA, tableB, tableC, tableD, Sign, times, union, xor, plus, minus, Opening, group, exponential, logarithm, inverse, Tree, table, inside, only, chain, opening_text, closing_byte, nesting}

-- a tree, and the bytes behind it
pub record Parsed (l : Level) : Type 0 where
  pub tree : Tree l
  pub rest : List ℕ

-- ---- what a byte or a word is

abbrev pub letter_of : ℕ → Option Letter
letter_of b =
    cond (eqb b 65) (some tableA) (cond (eqb b 66) (some tableB) (cond (eqb b 67) (some tableC) (cond (eqb b 68) (some tableD) none)))

abbrev pub sign_of : (l : Level) → ℕ → Option (Sign l)
sign_of factor b = none
sign_of (above factor) b = cond (eqb b 42) (some times) none
sign_of (above (above factor)) b = cond (eqb b 124) (some union) (cond (eqb b 94) (some xor) none)
sign_of (above (above (above factor))) b = cond (eqb b 43) (some plus) (cond (eqb b 45) (some minus) none)
sign_of (above (above (above (above l)))) b = none

-- the sign of a level with which some bytes begin
abbrev pub next_sign : (l : Level) → List ℕ → Option (Sign l)
next_sign l [] = none
next_sign l (b ∷ bs) = sign_of l b

-- whether some bytes begin with a word
unfoldable pub begins : List ℕ → List ℕ → Bool
begins [] bytes = true
begins (w ∷ ws) [] = false
begins (w ∷ ws) (b ∷ bs) = eqb b w && begins ws bs

unfoldable pub opening_of : List ℕ → Option Opening
opening_of bytes =
    cond (begins (opening_text group) bytes) (some group)
    (cond (begins (opening_text exponential) bytes) (some exponential)
    (cond (begins (opening_text logarithm) bytes) (some logarithm)
    (cond (begins (opening_text inverse) bytes) (some inverse) none)))

-- ---- a factor

abbrev pub letter_by : List ℕ → Option Letter → Outcome (Parsed factor)
letter_by bytes (some x) = accepted (record { tree = table x; rest = bytes })
letter_by bytes none = refused 13

unfoldable pub read_letter : List ℕ → Outcome (Parsed factor)
read_letter [] = refused 13
read_letter (b ∷ bs) = letter_by bs (letter_of b)

-- what is read inside, and the closing parenthesis behind it
unfoldable pub close : Opening → Parsed sum → Outcome (Parsed factor)
close o x =
    cond (begins (closing_byte ∷ []) x.rest) (accepted (record { tree = inside o x.tree; rest = drop 1 x.rest })) (refused 13)

abbrev pub factor_by : (List ℕ → Outcome (Parsed sum)) → List ℕ → Option Opening → Outcome (Parsed factor)
factor_by read bytes (some o) = and_then (read (drop (length (opening_text o)) bytes)) (close o)
factor_by read bytes none = read_letter bytes

-- ---- a chain of operands of one level, with the signs of the level above

abbrev pub tail_by : {l : Level} → (Sign (above l) → Outcome (Parsed (above l))) → Outcome (Parsed (above l)) → Option (Sign (above l)) → Outcome (Parsed (above l))
tail_by more ends (some s) = more s
tail_by more ends none = ends

-- what goes on behind a tree, in at most so many signs
unfoldable pub read_tail : {l : Level} → (List ℕ → Outcome (Parsed l)) → ℕ → Tree (above l) → List ℕ → Outcome (Parsed (above l))
read_tail read zero t bytes = accepted (record { tree = t; rest = bytes })
read_tail read (suc k) t [] = accepted (record { tree = t; rest = [] })
read_tail {l} read (suc k) t (b ∷ bs) =
    tail_by (λ s. and_then (read bs) (λ x. read_tail read k (chain t s x.tree) x.rest)) (accepted (record { tree = t; rest = b ∷ bs })) (sign_of (above l) b)

abbrev read_chain : {l : Level} → (List ℕ → Outcome (Parsed l)) → List ℕ → Outcome (Parsed (above l))
read_chain read bytes = and_then (read bytes) (λ x. read_tail read (length x.rest) (only x.tree) x.rest)

unfoldable pub read_level : (List ℕ → Outcome (Parsed factor)) → (l : Level) → List ℕ → Outcome (Parsed l)
read_level read factor bytes = read bytes
read_level read (above l) bytes = read_chain (read_level read l) bytes

-- a factor whose parentheses nest less deep than this
unfoldable pub read_factor : ℕ → List ℕ → Outcome (Parsed factor)
read_factor zero bytes = refused 13
read_factor (suc k) bytes = factor_by (read_level (read_factor k) sum) bytes (opening_of bytes)

-- ---- the line

-- nothing may stand behind the recipe
abbrev pub at_end : Parsed sum → Outcome (Tree sum)
at_end x = unless (word_if (not (eqb (length x.rest) 0)) 13) (accepted x.tree)

-- the recipe whose text is the line; a line of so many bytes nests less deep than that
unfoldable pub tree_of : List ℕ → Outcome (Tree sum)
tree_of line = and_then (read_level (read_factor (length line)) sum line) at_end

-- 13: over 120 bytes, or outside the grammar; 14: nesting beyond 8
unfoldable pub recipe_of : List ℕ → Outcome (Tree sum)
recipe_of line =
    unless (word_if (ltb longest_recipe (length line)) 13)
    (and_then (tree_of line) (λ t. unless (word_if (ltb deepest_nesting (nesting t)) 14) (accepted t)))
