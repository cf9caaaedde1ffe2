-- 02's boards: a table A of exercises and tables E and I, to which weight is added, and from which it is taken, one set at a
-- time. What each call gives, its number, what a list of changes makes of a fresh board, and the law of such lists.
use Rattle.std.specs.Prelude.{◌≡◌, cond, List, [], ◌∷◌, ℕ, zero, suc, ◌+◌, ◌*◌, ◌-◌, ◌%◌, ◌^◌, ◌<◌, eqb, length}
use Rattle.definitions.specs.Sums.{tabulate, at}
use Rattle.definitions.specs.Sets.{inside, without}
use Rattle.definitions.specs.Products.{residues}
use Rattle.definitions.specs.Partitions.{exponential_table, unit, IsInverse}
use Rattle.definitions.specs.Refusals.{first_word, panel_word, modulus_word, table_word, entry_word, weight_word, empty_word, code_word, value_after, AcceptedTable}

-- 02's A, E and I
pub record Board : Type 0 where
  pub weights : List ℕ
  pub exponential : List ℕ
  pub inverse : List ℕ

-- the board with these three tables
abbrev pub board : List ℕ → List ℕ → List ℕ → Board
board A E I = record { weights = A; exponential = E; inverse = I }

-- ---- one table

-- A[S] raised by c
unfoldable pub added_at : ℕ → ℕ → ℕ → ℕ → List ℕ → List ℕ
added_at n m S c A = residues n m (λ T. at A T + cond (eqb T S) c 0)

-- E[T] raised by c times the old E[T without S], for each T that contains S
unfoldable pub raised_over : ℕ → ℕ → ℕ → ℕ → List ℕ → List ℕ
raised_over n m S c E = residues n m (λ T. at E T + cond (inside S T) (c * at E (without T S)) 0)

-- I[T] lowered by c times the old I[T without S], for each T that contains S, going round through m
unfoldable pub lowered_over : ℕ → ℕ → ℕ → ℕ → List ℕ → List ℕ
lowered_over n m S c I = residues n m (λ T. at I T + cond (inside S T) (m - c * at I (without T S) % m) 0)

-- ---- the three tables

-- A all 0; E equal to 1 at the empty set and 0 elsewhere; I equal to E
abbrev pub fresh_board : ℕ → Board
fresh_board n = board (tabulate (2 ^ n) (λ S. 0)) (tabulate (2 ^ n) unit) (tabulate (2 ^ n) unit)

-- weight c is added at S
abbrev pub board_add : ℕ → ℕ → ℕ → ℕ → Board → Board
board_add n m S c b =
    board (added_at n m S c b.weights) (raised_over n m S c b.exponential) (lowered_over n m S c b.inverse)

-- 02's m - c, modulo m
abbrev pub lacking : ℕ → ℕ → ℕ
lacking m c = (m - c) % m

-- weight c is taken out at S: the same with m - c for A and E, and I is raised by c
abbrev pub board_take : ℕ → ℕ → ℕ → ℕ → Board → Board
board_take n m S c b =
    board (added_at n m S (lacking m c) b.weights) (raised_over n m S (lacking m c) b.exponential) (raised_over n m S c b.inverse)

-- ---- numbers

-- a fresh board, made in the place of this one
unfoldable pub fresh_number : ℕ → ℕ → Board → ℕ
fresh_number n m b =
    first_word
    (panel_word n
    ∷ modulus_word m
    ∷ table_word n (length b.weights)
    ∷ table_word n (length b.exponential)
    ∷ table_word n (length b.inverse)
    ∷ [])

-- adding and taking: 11 and 12 come after 3 and before 5
unfoldable pub change_number : ℕ → ℕ → ℕ → ℕ → Board → ℕ
change_number n m S c b =
    first_word
    (panel_word n
    ∷ modulus_word m
    ∷ table_word n (length b.weights)
    ∷ table_word n (length b.exponential)
    ∷ table_word n (length b.inverse)
    ∷ empty_word S
    ∷ code_word n S
    ∷ entry_word m b.weights
    ∷ entry_word m b.exponential
    ∷ entry_word m b.inverse
    ∷ weight_word m c
    ∷ [])

-- what the tables hold after a call with this number: the new board if it is accepted, else the old one
abbrev pub board_after : ℕ → Board → Board → Board
board_after zero new old = new
board_after (suc k) new old = old

-- ---- lists of changes

-- one of 02's two calls: weight c is added, or taken, at S
pub data Change : Type 0 where
  adds takes : (S c : ℕ) → Change

-- its number on the board b
abbrev pub number_on : ℕ → ℕ → Board → Change → ℕ
number_on n m b (adds S c) = change_number n m S c b
number_on n m b (takes S c) = change_number n m S c b

-- the board that it makes of b, if it is accepted
abbrev pub changed : ℕ → ℕ → Board → Change → Board
changed n m b (adds S c) = board_add n m S c b
changed n m b (takes S c) = board_take n m S c b

-- the board after it: a change that is refused changes nothing
unfoldable pub next : ℕ → ℕ → Board → Change → Board
next n m b x = board_after (number_on n m b x) (changed n m b x) b

-- the board after all changes of a list, the first one first, and the number of each
unfoldable pub run : ℕ → ℕ → Board → List Change → Board
run n m b [] = b
run n m b (x ∷ xs) = run n m (next n m b x) xs

unfoldable pub run_numbers : ℕ → ℕ → Board → List Change → List ℕ
run_numbers n m b [] = []
run_numbers n m b (x ∷ xs) = number_on n m b x ∷ run_numbers n m (next n m b x) xs

-- the weight that a change adds at S, and that it takes there
abbrev pub adds_at : ℕ → Change → ℕ
adds_at S (adds R c) = cond (eqb S R) c 0
adds_at S (takes R c) = 0

abbrev pub takes_at : ℕ → Change → ℕ
takes_at S (adds R c) = 0
takes_at S (takes R c) = cond (eqb S R) c 0

-- the sum of such weights over the accepted changes of a list
unfoldable pub total : ℕ → ℕ → (Change → ℕ) → Board → List Change → ℕ
total n m weight b [] = 0
total n m weight b (x ∷ xs) = value_after (number_on n m b x) (weight x) + total n m weight (next n m b x) xs

-- ---- the law

-- what holds of the board b that these changes make of a fresh one
pub record BoardLaw (n m : ℕ) (changes : List Change) (b : Board) : Type 0 where
  pub weights_accepted : AcceptedTable n m b.weights
  pub exponential_accepted : AcceptedTable n m b.exponential
  pub inverse_accepted : AcceptedTable n m b.inverse
  -- E is the exponential of A, whose first entry is 0
  pub first : at b.weights 0 ≡ 0
  pub exponential_is : b.exponential ≡ exponential_table n m b.weights
  -- I is the inverse of E
  pub inverse_is : IsInverse n m b.exponential b.inverse
  -- A[S] is the added less the taken weight of the accepted changes at S, modulo m
  pub weight_is : (S : ℕ) → S < 2 ^ n
      → at b.weights S ≡ (total n m (adds_at S) (fresh_board n) changes + (m - total n m (takes_at S) (fresh_board n) changes % m)) % m
