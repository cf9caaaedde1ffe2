-- Lists of changes of a fresh board.
--   next_moved, next_refused        one change
--   next-board                      what every change keeps: tables of residues; more is in proofs/Runs
--   run_weight                      the weight at a set after a list of changes
--   run_more, numbers_more, numbers_length     a list that grows at its end
use Rattle.std.specs.Prelude.{◌≡◌, Bool, true, false, cond, eqb, length}
use Rattle.std.proofs.Math.Path.{refl, ap}
use Rattle.std.proofs.Common.{sym, subst, ◌∙◌, add-zero}
use mathlib.Core.List.{List, [], ◌∷◌, ◌++◌}
use Prim.Native.Nat.{ℕ, zero, suc, ◌+◌, ◌-◌, ◌%◌, ◌^◌, ◌<◌}
use native.Mathlib.Omega.{arith}
use Rattle.definitions.specs.Sums.{at}
use Rattle.definitions.specs.Refusals.{value_after}
use Rattle.definitions.specs.Boards.{Board, added_at, raised_over, lacking, board_after}
use Rattle.definitions.specs.Boards.{Change, adds, takes, number_on, changed, next, run, run_numbers, adds_at, takes_at, total}
use Rattle.theory.specs.Remainders.{mod-add}
use Rattle.laws_theory.specs.Accepting.{residues_table}
use Rattle.board_theory.specs.Raised.{added_at_lem, lacking_back}
use Rattle.board_theory.specs.Accepted.{IsBoard, change_accepted}
use Rattle.board_theory.specs.Moves.{moved, place, amount, opposite, move, changed_is}

module _ (n m : ℕ) where
  -- ---- one change

  next_accepted : (b : Board) (x : Change) → number_on n m b x ≡ 0 → next n m b x ≡ changed n m b x
  unfolding next
  next_accepted b x e = ap (λ (k : ℕ). board_after k (changed n m b x) b) e

  pub next_moved : (b : Board) (x : Change) → number_on n m b x ≡ 0 → next n m b x ≡ move n m x b
  next_moved b x e = next_accepted b x e ∙ changed_is n m b x e

  pub next_refused : (b : Board) (x : Change) (k : ℕ) → number_on n m b x ≡ suc k → next n m b x ≡ b
  unfolding next
  next_refused b x k e = ap (λ (k : ℕ). board_after k (changed n m b x) b) e

  -- what an accepted change keeps, every change does
  pub next_keeps : (P : Board → Type 0) (b : Board) (x : Change) → P b → (number_on n m b x ≡ 0 → P (move n m x b)) → P (next n m b x)
  next_keeps P b x h k = by (number_on n m b x) refl where
    by : (j : ℕ) → number_on n m b x ≡ j → P (next n m b x)
    by zero e = subst P (sym (next_moved b x e)) (k e)
    by (suc j) e = subst P (sym (next_refused b x j e)) h

  pub moved_board : (S c d : ℕ) (b : Board) → IsBoard n m b → IsBoard n m (moved n m S c d b)
  unfolding added_at raised_over
  moved_board S c d b h = record {
    range = h.range;
    weights = residues_table h.range _;
    exponential = residues_table h.range _;
    inverse = residues_table h.range _;
  }

  pub next-board : (b : Board) (x : Change) → IsBoard n m b → IsBoard n m (next n m b x)
  next-board b x h = next_keeps (IsBoard n m) b x h (λ e. moved_board (place n m x) (amount n m x) (opposite n m x) b h)

  -- ---- the weight at one set, with what is taken put back

  module _ (T : ℕ) (code : T < 2 ^ n) where
    changed_weight : (b : Board) (x : Change) → number_on n m b x ≡ 0
        → (at (changed n m b x).weights T + takes_at T x) % m ≡ (at b.weights T + adds_at T x) % m
    changed_weight b (adds S c) e = ap (λ (x : ℕ). x % m) (add-zero _) ∙ added_at_lem n m S c b.weights T code
    changed_weight b (takes S c) e =
        mod-add m _ (takes_at T (takes S c)) (at b.weights T + cond (eqb T S) (lacking m c) 0) (takes_at T (takes S c))
        (added_at_lem n m S (lacking m c) b.weights T code) refl
        ∙ back (eqb T S) (at b.weights T)
      where
        back : (g : Bool) (w : ℕ) → (w + cond g (lacking m c) 0 + cond g c 0) % m ≡ (w + 0) % m
        back true w =
            lacking_back m w c (let h = (change_accepted n m S c b e).weight in omega arith) ∙ ap (λ (x : ℕ). x % m) (sym (add-zero w))
        back false w = ap (λ (x : ℕ). x % m) (add-zero (w + 0))

    -- the weight of a change, if it is accepted
    abbrev counted : (Change → ℕ) → Board → Change → ℕ
    counted weight b x = value_after (number_on n m b x) (weight x)

    next_weight : (b : Board) (x : Change)
        → (at (next n m b x).weights T + counted (takes_at T) b x) % m ≡ (at b.weights T + counted (adds_at T) b x) % m
    next_weight b x = by (number_on n m b x) refl where
      by : (k : ℕ) → number_on n m b x ≡ k
          → (at (next n m b x).weights T + value_after (number_on n m b x) (takes_at T x)) % m ≡ (at b.weights T + value_after (number_on n m b x) (adds_at T x)) % m
      by zero e = rw (next_accepted b x e, e) (changed_weight b x e)
      by (suc k) e = rw (next_refused b x k e, e) refl

    pub run_weight : (b : Board) (xs : List Change)
        → (at (run n m b xs).weights T + total n m (takes_at T) b xs) % m ≡ (at b.weights T + total n m (adds_at T) b xs) % m
    unfolding run total
    run_weight b [] = refl
    run_weight b (x ∷ xs) =
        let c : Board = next n m b x in
        let t : ℕ = counted (takes_at T) b x in
        let a : ℕ = counted (adds_at T) b x in
        let W : ℕ = at (run n m c xs).weights T in
        let ts : ℕ = total n m (takes_at T) c xs in
        let later : ℕ = total n m (adds_at T) c xs in
        ap (λ (k : ℕ). k % m) (let e : W + (t + ts) ≡ W + ts + t = omega arith in e)
        ∙ mod-add m (W + ts) t (at c.weights T + later) t (run_weight c xs) refl
        ∙ ap (λ (k : ℕ). k % m) (let e : at c.weights T + later + t ≡ at c.weights T + t + later = omega arith in e)
        ∙ mod-add m (at c.weights T + t) later (at b.weights T + a) later (next_weight b x) refl
        ∙ ap (λ (k : ℕ). k % m) (let e : at b.weights T + a + later ≡ at b.weights T + (a + later) = omega arith in e)

  -- ---- a list that grows at its end

  pub run_more : (b : Board) (xs : List Change) (x : Change) → run n m b (xs ++ (x ∷ [])) ≡ next n m (run n m b xs) x
  unfolding run
  run_more b [] x = refl
  run_more b (y ∷ xs) x = run_more (next n m b y) xs x

  pub numbers_more : (b : Board) (xs : List Change) (x : Change)
      → run_numbers n m b (xs ++ (x ∷ [])) ≡ run_numbers n m b xs ++ (number_on n m (run n m b xs) x ∷ [])
  unfolding run run_numbers
  numbers_more b [] x = refl
  numbers_more b (y ∷ xs) x = ap (λ (l : List ℕ). number_on n m b y ∷ l) (numbers_more (next n m b y) xs x)

  pub numbers_length : (b : Board) (xs : List Change) → length (run_numbers n m b xs) ≡ length xs
  unfolding run_numbers
  numbers_length b [] = refl
  numbers_length b (x ∷ xs) = ap suc (numbers_length (next n m b x) xs)
