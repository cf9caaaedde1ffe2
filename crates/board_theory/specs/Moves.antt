-- An accepted change, by its set and two weights: A and E go by one of them, I by the other, and together they are 0 modulo m.
--   table_by_table                  boards with equal tables
--   moved, move, changed_is         the board that an accepted change makes
--   place, amount, opposite, IsMove, is_move     its set and its two weights
use Rattle.std.specs.Prelude.{◌≡◌, refl, List, ℕ, ◌+◌, ◌%◌, ◌^◌, ◌<◌}
use Rattle.definitions.specs.Boards.{Board, board, added_at, raised_over, lacking, Change, adds, takes, number_on, changed}
use Rattle.board_theory.specs.Raised.{lowered_raised, lacking-whole, with_lacking}
use Rattle.board_theory.specs.Accepted.{change_accepted}

pub table_by_table : {A B E F I J : List ℕ} → A ≡ B → E ≡ F → I ≡ J → ◌≡◌ {A = Board} (board A E I) (board B F J)
table_by_table p q r = λ i. board (p i) (q i) (r i)

module _ (n m : ℕ) where
  -- c is added at S, and I is raised over S by d
  abbrev pub moved : ℕ → ℕ → ℕ → Board → Board
  moved S c d b = board (added_at n m S c b.weights) (raised_over n m S c b.exponential) (raised_over n m S d b.inverse)

  -- the set of a change, the weight that it adds there, all told, and by how much it raises I
  abbrev pub place : Change → ℕ
  place (adds S c) = S
  place (takes S c) = S

  abbrev pub amount : Change → ℕ
  amount (adds S c) = c
  amount (takes S c) = lacking m c

  abbrev pub opposite : Change → ℕ
  opposite (adds S c) = lacking m c
  opposite (takes S c) = c

  abbrev pub move : Change → Board → Board
  move x = moved (place x) (amount x) (opposite x)

  pub changed_is : (b : Board) (x : Change) → number_on n m b x ≡ 0 → changed n m b x ≡ move x b
  changed_is b (adds S c) e = table_by_table refl refl (lowered_raised n m S c (change_accepted n m S c b e).weight b.inverse)
  changed_is b (takes S c) e = refl

  -- a set that may be changed, and two weights that together are 0 modulo m
  pub record IsMove (S c d : ℕ) : Type 0 where
    pub some : 0 < S
    pub code : S < 2 ^ n
    pub whole : (c + d) % m ≡ 0
    pub back : (d + c) % m ≡ 0

  pub is_move : (b : Board) (x : Change) → number_on n m b x ≡ 0 → IsMove (place x) (amount x) (opposite x)
  is_move b (adds S c) e =
      let a = change_accepted n m S c b e in
      record { some = a.some; code = a.code; whole = with_lacking m c a.weight; back = lacking-whole m c a.weight }
  is_move b (takes S c) e =
      let a = change_accepted n m S c b e in
      record { some = a.some; code = a.code; whole = lacking-whole m c a.weight; back = with_lacking m c a.weight }
