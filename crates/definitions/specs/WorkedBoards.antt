-- Boards worked by hand: what some changes leave, their numbers, and the weights that count.
use Rattle.std.specs.Prelude.{◌≡◌, refl, List, [], ◌∷◌, ℕ}
use Rattle.definitions.specs.Sums.{tabulate}
use Rattle.definitions.specs.Sets.{inside}
use Rattle.definitions.specs.Products.{residues}
use Rattle.definitions.specs.Partitions.{all_below}
use Rattle.definitions.specs.Worked.{P, Q, R}
use Rattle.definitions.specs.Boards.{Board, board, added_at, raised_over, lowered_over, fresh_board, fresh_number, change_number}
use Rattle.definitions.specs.Boards.{Change, adds, takes, number_on, next, run, run_numbers, total, adds_at, takes_at}

-- a change, its number, and the tables that it leaves
pub data Step : Type 0 where
  step : (x : Change) (number : ℕ) (A E I : List ℕ) → Step

-- these steps, one after the other, from the board b
abbrev pub Follow : ℕ → ℕ → Board → List Step → Type 0
Follow n m b [] = Unit {0}
Follow n m b (step x number A E I ∷ more) =
    (number_on n m b x ≡ number) × ((next n m b x ≡ board A E I) × Follow n m (board A E I) more)

-- m = 101: weight 2 at {0}, 3 at {1}, 4 at {0, 1} give 01's R, its exponential and the inverse of that; then more is taken at {0}
-- than was added, three changes are refused, 0 is added, and m - 1 is taken
abbrev pub steps : List Step
steps =
    step (adds 1 2) 0 (0 ∷ 2 ∷ 0 ∷ 0 ∷ []) (1 ∷ 2 ∷ 0 ∷ 0 ∷ []) (1 ∷ 99 ∷ 0 ∷ 0 ∷ [])
    ∷ step (adds 2 3) 0 (0 ∷ 2 ∷ 3 ∷ 0 ∷ []) (1 ∷ 2 ∷ 3 ∷ 6 ∷ []) (1 ∷ 99 ∷ 98 ∷ 6 ∷ [])
    ∷ step (adds 3 4) 0 R (1 ∷ 2 ∷ 3 ∷ 10 ∷ []) (1 ∷ 99 ∷ 98 ∷ 2 ∷ [])
    ∷ step (takes 1 5) 0 (0 ∷ 98 ∷ 3 ∷ 4 ∷ []) (1 ∷ 98 ∷ 3 ∷ 96 ∷ []) (1 ∷ 3 ∷ 98 ∷ 88 ∷ [])
    ∷ step (adds 0 101) 11 (0 ∷ 98 ∷ 3 ∷ 4 ∷ []) (1 ∷ 98 ∷ 3 ∷ 96 ∷ []) (1 ∷ 3 ∷ 98 ∷ 88 ∷ [])
    ∷ step (adds 4 101) 12 (0 ∷ 98 ∷ 3 ∷ 4 ∷ []) (1 ∷ 98 ∷ 3 ∷ 96 ∷ []) (1 ∷ 3 ∷ 98 ∷ 88 ∷ [])
    ∷ step (takes 2 101) 5 (0 ∷ 98 ∷ 3 ∷ 4 ∷ []) (1 ∷ 98 ∷ 3 ∷ 96 ∷ []) (1 ∷ 3 ∷ 98 ∷ 88 ∷ [])
    ∷ step (adds 2 0) 0 (0 ∷ 98 ∷ 3 ∷ 4 ∷ []) (1 ∷ 98 ∷ 3 ∷ 96 ∷ []) (1 ∷ 3 ∷ 98 ∷ 88 ∷ [])
    ∷ step (takes 3 100) 0 (0 ∷ 98 ∷ 3 ∷ 5 ∷ []) (1 ∷ 98 ∷ 3 ∷ 97 ∷ []) (1 ∷ 3 ∷ 98 ∷ 87 ∷ [])
    ∷ []

pub worked_steps : Follow 2 101 (fresh_board 2) steps
unfolding next change_number added_at raised_over lowered_over residues tabulate inside all_below
worked_steps = (refl, (refl, (refl, (refl, (refl, (refl, (refl, (refl, (refl, (refl, (refl, (refl, (refl, (refl, (refl, (refl, (refl, (refl, tt))))))))))))))))))

-- any three accepted tables: 01's P and Q, and this one as I
abbrev pub downward : List ℕ
downward = 9 ∷ 8 ∷ 7 ∷ 6 ∷ []

pub worked_any : Follow 2 101 (board P Q downward) (step (adds 1 10) 0 (1 ∷ 12 ∷ 3 ∷ 4 ∷ []) (5 ∷ 56 ∷ 7 ∷ 78 ∷ []) (9 ∷ 19 ∷ 7 ∷ 37 ∷ []) ∷ [])
    × Follow 2 101 (board P Q downward) (step (takes 1 10) 0 (1 ∷ 93 ∷ 3 ∷ 4 ∷ []) (5 ∷ 57 ∷ 7 ∷ 39 ∷ []) (9 ∷ 98 ∷ 7 ∷ 76 ∷ []) ∷ [])
unfolding next change_number added_at raised_over lowered_over residues tabulate inside all_below
worked_any = ((refl, (refl, tt)), (refl, (refl, tt)))

-- three controls, a modulus that is not prime, entries m - 1, first entries of E and I that have no inverse
abbrev pub any : Board
any = board (5 ∷ 5 ∷ 5 ∷ 5 ∷ 5 ∷ 5 ∷ 5 ∷ 5 ∷ []) (2 ∷ 1 ∷ 3 ∷ 4 ∷ 5 ∷ 0 ∷ 1 ∷ 2 ∷ []) (0 ∷ 5 ∷ 4 ∷ 3 ∷ 2 ∷ 1 ∷ 0 ∷ 5 ∷ [])

pub worked_three :
    Follow 3 6 any
    (step (adds 3 5) 0 (5 ∷ 5 ∷ 5 ∷ 4 ∷ 5 ∷ 5 ∷ 5 ∷ 5 ∷ []) (2 ∷ 1 ∷ 3 ∷ 2 ∷ 5 ∷ 0 ∷ 1 ∷ 3 ∷ []) (0 ∷ 5 ∷ 4 ∷ 3 ∷ 2 ∷ 1 ∷ 0 ∷ 1 ∷ []) ∷ [])
    × Follow 3 6 any
    (step (takes 3 2) 0 (5 ∷ 5 ∷ 5 ∷ 3 ∷ 5 ∷ 5 ∷ 5 ∷ 5 ∷ []) (2 ∷ 1 ∷ 3 ∷ 0 ∷ 5 ∷ 0 ∷ 1 ∷ 4 ∷ []) (0 ∷ 5 ∷ 4 ∷ 3 ∷ 2 ∷ 1 ∷ 0 ∷ 3 ∷ []) ∷ [])
unfolding next change_number added_at raised_over lowered_over residues tabulate inside all_below
worked_three = ((refl, (refl, tt)), (refl, (refl, tt)))

-- with no control every set is 11 or 12
pub worked_none : Follow 0 5 (fresh_board 0) (step (adds 0 1) 11 (0 ∷ []) (1 ∷ []) (1 ∷ []) ∷ step (takes 1 1) 12 (0 ∷ []) (1 ∷ []) (1 ∷ []) ∷ [])
unfolding next change_number residues tabulate all_below
worked_none = (refl, (refl, (refl, (refl, tt))))

-- a list of changes, one of them refused
abbrev pub listed : List Change
listed = adds 1 2 ∷ adds 0 1 ∷ adds 2 3 ∷ adds 3 4 ∷ []

pub worked_run : (run 2 101 (fresh_board 2) listed ≡ board R (1 ∷ 2 ∷ 3 ∷ 10 ∷ []) (1 ∷ 99 ∷ 98 ∷ 2 ∷ []))
    × (run_numbers 2 101 (fresh_board 2) listed ≡ 0 ∷ 11 ∷ 0 ∷ 0 ∷ [])
unfolding run run_numbers next change_number added_at raised_over lowered_over residues tabulate inside all_below
worked_run = (refl, refl)

-- a refused weight does not count: the 101
pub worked_weights : (total 2 101 (adds_at 2) (board P Q downward) (adds 2 7 ∷ adds 2 101 ∷ adds 2 8 ∷ []) ≡ 15)
    × (total 2 101 (takes_at 2) (board P Q downward) (takes 2 8 ∷ takes 2 101 ∷ []) ≡ 8)
unfolding total next change_number added_at raised_over lowered_over residues tabulate inside all_below
worked_weights = (refl, refl)

-- what counts at {1} and at {0, 1}: neither what is at other sets, nor the other kind
abbrev pub mixed : List Change
mixed = adds 2 7 ∷ takes 2 8 ∷ adds 1 20 ∷ takes 1 30 ∷ adds 3 40 ∷ takes 3 50 ∷ adds 2 9 ∷ takes 2 1 ∷ []

pub worked_mixed : (total 2 101 (adds_at 2) (fresh_board 2) mixed ≡ 16)
    × ((total 2 101 (takes_at 2) (fresh_board 2) mixed ≡ 9)
    × ((total 2 101 (adds_at 3) (fresh_board 2) mixed ≡ 40) × (total 2 101 (takes_at 3) (fresh_board 2) mixed ≡ 50)))
unfolding total next change_number added_at raised_over lowered_over residues tabulate inside all_below
worked_mixed = (refl, (refl, (refl, refl)))

-- a fresh board takes any entries; refused are 17 controls, modulus 1, a short A, a short E, a short I
abbrev pub nines : List ℕ
nines = 9 ∷ 9 ∷ 9 ∷ 9 ∷ []

pub worked_fresh :
    fresh_number 2 7 (board nines nines nines)
    ∷ fresh_number 17 1 (board [] nines nines)
    ∷ fresh_number 2 1 (board [] [] [])
    ∷ fresh_number 2 7 (board [] nines nines)
    ∷ fresh_number 2 7 (board nines [] nines)
    ∷ fresh_number 2 7 (board nines nines [])
    ∷ []
    ≡ 0 ∷ 1 ∷ 2 ∷ 3 ∷ 3 ∷ 3 ∷ []
unfolding fresh_number
worked_fresh = refl

-- a change with many faults, and then fewer; 3 ahead of 12; 12 in the place of 11; the four faults of word 5, each alone; none
abbrev pub wrong : List ℕ
wrong = 0 ∷ 0 ∷ 0 ∷ 101 ∷ []

pub worked_refusals :
    change_number 17 1 0 101 (board [] [] [])
    ∷ change_number 2 1 0 101 (board [] [] [])
    ∷ change_number 2 101 0 101 (board [] wrong wrong)
    ∷ change_number 2 101 0 101 (board wrong [] wrong)
    ∷ change_number 2 101 0 101 (board wrong wrong [])
    ∷ change_number 2 101 4 101 (board wrong wrong [])
    ∷ change_number 2 101 0 101 (board wrong wrong wrong)
    ∷ change_number 2 101 4 101 (board wrong wrong wrong)
    ∷ change_number 2 101 3 100 (board wrong P P)
    ∷ change_number 2 101 3 100 (board P wrong P)
    ∷ change_number 2 101 3 100 (board P P wrong)
    ∷ change_number 2 101 3 101 (board P P P)
    ∷ change_number 2 101 3 100 (board P P P)
    ∷ []
    ≡ 1 ∷ 2 ∷ 3 ∷ 3 ∷ 3 ∷ 3 ∷ 11 ∷ 12 ∷ 5 ∷ 5 ∷ 5 ∷ 5 ∷ 0 ∷ []
unfolding change_number all_below
worked_refusals = refl

-- on a board that is not accepted nothing counts
pub worked_nothing : total 2 101 (adds_at 2) (board wrong P P) (adds 2 7 ∷ adds 2 8 ∷ []) ≡ 0
unfolding total next change_number added_at raised_over lowered_over residues tabulate inside all_below
worked_nothing = refl
