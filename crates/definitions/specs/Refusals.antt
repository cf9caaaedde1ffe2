-- 01's words of refusal, with those of 02, the tests behind them, and the number of each call on tables and rows: 0 if it is
-- accepted, else the lowest word that applies. (The numbers of the calls on boards are in Boards, those of files in Files, that of
-- pages in Pages, that of their label sheet in Sheets; a recipe's number, its words 4, 13 and 14, and what its pad holds are in
-- Recipes.) Also what a call leaves in the memory that it was lent.
use Rattle.std.specs.Prelude.{◌≡◌, Bool, true, false, not, List, [], ◌∷◌, ◌++◌, ℕ, zero, suc, ◌+◌, ◌%◌, ◌^◌, ltb, eqb, length, drop}
use Rattle.definitions.specs.Limits.{most_controls, lowest_modulus, largest_modulus, pad_length}
use Rattle.definitions.specs.Sums.{tabulate, at}
use Rattle.definitions.specs.Partitions.{all_below, shares_divisor}

-- the word k if the test holds, else 0
abbrev pub word_if : Bool → ℕ → ℕ
word_if true k = k
word_if false k = 0

-- the first number unless it is 0, else the second
abbrev pub or_else : ℕ → ℕ → ℕ
or_else zero k = k
or_else (suc j) k = suc j

-- the first word of a list of tests in their order, 0 if none applies
abbrev pub first_word : List ℕ → ℕ
first_word [] = 0
first_word (k ∷ ks) = or_else k (first_word ks)

-- ---- the tests, each with its word

-- 1, panel: n above 16
abbrev pub panel_word : ℕ → ℕ
panel_word n = word_if (ltb most_controls n) 1

-- 2, modulus: m below 2 or above 4294967295
abbrev pub modulus_word : ℕ → ℕ
modulus_word m = or_else (word_if (ltb m lowest_modulus) 2) (word_if (ltb largest_modulus m) 2)

-- 3, length: a table of k entries that is not one of 2 ^ n; a row of k that is not one of n + 1
abbrev pub table_word : ℕ → ℕ → ℕ
table_word n k = word_if (not (eqb k (2 ^ n))) 3

abbrev pub row_word : ℕ → ℕ → ℕ
row_word n k = word_if (not (eqb k (n + 1))) 3

-- 4, pad: a pad of k entries, fewer than W
abbrev pub pad_word : ℕ → ℕ → ℕ
pad_word n k = word_if (ltb k (pad_length n)) 4

-- 5, entry: an input entry not below m
abbrev pub entry_word : ℕ → List ℕ → ℕ
entry_word m a = word_if (not (all_below m a)) 5

-- and a weight not below m
abbrev pub weight_word : ℕ → ℕ → ℕ
weight_word m c = word_if (not (ltb c m)) 5

-- 6, start: the first entry is not the one that the call takes, or shares a divisor above 1 with m
abbrev pub start_word : ℕ → List ℕ → ℕ
start_word first a = word_if (not (eqb (at a 0) first)) 6

abbrev pub shared_start_word : ℕ → List ℕ → ℕ
shared_start_word m a = word_if (shares_divisor m (at a 0)) 6

-- 7, halving: m even
abbrev pub halving_word : ℕ → ℕ
halving_word m = word_if (eqb (m % 2) 0) 7

-- 10, short: a buffer of b bytes, for k that are to be written
abbrev pub buffer_word : ℕ → ℕ → ℕ
buffer_word b k = word_if (ltb b k) 10

-- 11, empty: a change at the empty set
abbrev pub empty_word : ℕ → ℕ
empty_word S = word_if (eqb S 0) 11

-- 12, code: a code of 2 ^ n or more
abbrev pub code_word : ℕ → ℕ → ℕ
code_word n S = word_if (not (ltb S (2 ^ n))) 12

-- ---- 01's *accepted*: none of words 1, 2, 3 and 5 applies to n, m or the table, or the row

abbrev pub AcceptedTable : ℕ → ℕ → List ℕ → Type 0
AcceptedTable n m a = first_word (panel_word n ∷ modulus_word m ∷ table_word n (length a) ∷ entry_word m a ∷ []) ≡ 0

abbrev pub AcceptedRow : ℕ → ℕ → List ℕ → Type 0
AcceptedRow n m f = first_word (panel_word n ∷ modulus_word m ∷ row_word n (length f) ∷ entry_word m f ∷ []) ≡ 0

-- ---- the number of each call; r and p are the lengths of its result and of its pad

-- sum, difference
unfoldable pub sum_number : ℕ → ℕ → List ℕ → List ℕ → ℕ → ℕ
sum_number n m a b r =
    first_word
    (panel_word n
    ∷ modulus_word m
    ∷ table_word n (length a)
    ∷ table_word n (length b)
    ∷ table_word n r
    ∷ entry_word m a
    ∷ entry_word m b
    ∷ [])

unfoldable pub binomial_number : ℕ → ℕ → List ℕ → List ℕ → ℕ → ℕ
binomial_number n m f g r =
    first_word
    (panel_word n
    ∷ modulus_word m
    ∷ row_word n (length f)
    ∷ row_word n (length g)
    ∷ row_word n r
    ∷ entry_word m f
    ∷ entry_word m g
    ∷ [])

-- subset and union product
unfoldable pub product_number : ℕ → ℕ → List ℕ → List ℕ → ℕ → ℕ → ℕ
product_number n m a b r p =
    first_word
    (panel_word n
    ∷ modulus_word m
    ∷ table_word n (length a)
    ∷ table_word n (length b)
    ∷ table_word n r
    ∷ pad_word n p
    ∷ entry_word m a
    ∷ entry_word m b
    ∷ [])

unfoldable pub xor_number : ℕ → ℕ → List ℕ → List ℕ → ℕ → ℕ → ℕ
xor_number n m a b r p = or_else (product_number n m a b r p) (halving_word m)

-- a call with one table, before its first entry is looked at
unfoldable pub single_number : ℕ → ℕ → List ℕ → ℕ → ℕ → ℕ
single_number n m a r p =
    first_word (panel_word n ∷ modulus_word m ∷ table_word n (length a) ∷ table_word n r ∷ pad_word n p ∷ entry_word m a ∷ [])

unfoldable pub exponential_number : ℕ → ℕ → List ℕ → ℕ → ℕ → ℕ
exponential_number n m a r p = or_else (single_number n m a r p) (start_word 0 a)

unfoldable pub logarithm_number : ℕ → ℕ → List ℕ → ℕ → ℕ → ℕ
logarithm_number n m e r p = or_else (single_number n m e r p) (start_word 1 e)

unfoldable pub inverse_number : ℕ → ℕ → List ℕ → ℕ → ℕ → ℕ
inverse_number n m a r p = or_else (single_number n m a r p) (shared_start_word m a)

unfoldable pub composition_number : ℕ → ℕ → List ℕ → List ℕ → ℕ → ℕ → ℕ
composition_number n m a f r p =
    first_word
    (panel_word n
    ∷ modulus_word m
    ∷ table_word n (length a)
    ∷ row_word n (length f)
    ∷ table_word n r
    ∷ pad_word n p
    ∷ entry_word m a
    ∷ entry_word m f
    ∷ start_word 0 a
    ∷ [])

-- the result is a row, and the first entry of b alone counts
unfoldable pub projection_number : ℕ → ℕ → List ℕ → List ℕ → ℕ → ℕ → ℕ
projection_number n m a b r p =
    first_word
    (panel_word n
    ∷ modulus_word m
    ∷ table_word n (length a)
    ∷ table_word n (length b)
    ∷ row_word n r
    ∷ pad_word n p
    ∷ entry_word m a
    ∷ entry_word m b
    ∷ start_word 0 b
    ∷ [])

-- ---- what is left in lent memory

-- what a slice holds after a call with this number: the new contents if it is accepted, else what it held
abbrev pub after : ℕ → List ℕ → List ℕ → List ℕ
after zero new old = new
after (suc k) new old = old

-- what is returned beside the number: the value if the call is accepted, else 0
abbrev pub value_after : ℕ → ℕ → ℕ
value_after zero value = value
value_after (suc k) value = 0

-- the first k entries 0, the rest unchanged
unfoldable pub cleared : ℕ → List ℕ → List ℕ
cleared k p = tabulate k (λ i. 0) ++ drop k p

-- a pad after a call with this number: its first W entries 0, the rest unchanged
abbrev pub pad_after : ℕ → ℕ → List ℕ → List ℕ
pad_after k n p = after k (cleared (pad_length n) p) p
