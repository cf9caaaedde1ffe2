-- One change, the loop over the changes, and the fresh board before it.
use mathlib.Core.Path.{◌≡◌, refl, sym, ap, ap₂, subst, ◌∙◌}
use mathlib.Core.List.{List, [], ◌∷◌, ◌++◌}
use Prim.Native.Nat.{ℕ, zero, suc, ◌+◌}
use native.Mathlib.Numerals.{add-one}
use native.Mathlib.Omega.{arith}
use lib.ListN.{length, set, length-append}
use Rattle.definitions.specs.Refusals.{after}
use Rattle.definitions.specs.Sums.{at}
use Rattle.definitions.specs.Boards.{Board, board, added_at, raised_over, lowered_over, lacking, fresh_board, fresh_number, change_number, board_after, Change, number_on, changed, next, run, run_numbers}
use Rattle.board_theory.specs.Moves.{table_by_table}
use Rattle.board_theory.specs.Runs.{run_more, numbers_more, numbers_length}
use Rattle.board_laws.specs.Kinds.{kind_of}
use Rattle.board_laws.specs.declared.Kind.TheVariants.{Add, Take}
use Rattle.board_laws.specs.Law.{change_of, changes_of, Calls, ChangeMade, written, ChangesMade, Run}

-- table by table
board_after_lem : (k : ℕ) (new old : Board) {A E I : List ℕ} → A ≡ after k new.weights old.weights
    → E ≡ after k new.exponential old.exponential → I ≡ after k new.inverse old.inverse
    → ◌≡◌ {A = Board} (board A E I) (board_after k new old)
board_after_lem zero new old = table_by_table
board_after_lem (suc k) new old = table_by_table

-- ---- one change

module _ (n m : ℕ) (x : Change) (b : Board) where
  made : {r : ℕ} {A E I : List ℕ} → r ≡ number_on n m b x → A ≡ after r (changed n m b x).weights b.weights
      → E ≡ after r (changed n m b x).exponential b.exponential → I ≡ after r (changed n m b x).inverse b.inverse
      → ChangeMade n m x b r (board A E I)
  unfolding next
  made {r} e p q s = record {
    number = e;
    board = board_after_lem r (changed n m b x) b p q s ∙ ap (λ (k : ℕ). board_after k (changed n m b x) b) e;
  }

-- of a lent kind, as it was read
module _ (n m : ℕ) (kind S c : ℕ) (b : Board) {r : ℕ} {A E I : List ℕ} (e : r ≡ change_number n m S c b) where
  pub made_add : kind_of kind ≡ Add → A ≡ after r (added_at n m S c b.weights) b.weights
      → E ≡ after r (raised_over n m S c b.exponential) b.exponential → I ≡ after r (lowered_over n m S c b.inverse) b.inverse
      → ChangeMade n m (change_of kind S c) b r (board A E I)
  made_add is p q s = by kind is where
    by : (k : ℕ) → kind_of k ≡ Add → ChangeMade n m (change_of k S c) b r (board A E I)
    by zero d = made n m (change_of 0 S c) b e p q s
    by (suc k) d = cc

  pub made_take : kind_of kind ≡ Take → A ≡ after r (added_at n m S (lacking m c) b.weights) b.weights
      → E ≡ after r (raised_over n m S (lacking m c) b.exponential) b.exponential → I ≡ after r (raised_over n m S c b.inverse) b.inverse
      → ChangeMade n m (change_of kind S c) b r (board A E I)
  made_take is p q s = by kind is where
    by : (k : ℕ) → kind_of k ≡ Take → ChangeMade n m (change_of k S c) b r (board A E I)
    by zero d = cc
    by (suc k) d = made n m (change_of (suc k) S c) b e p q s

-- ---- the numbers that are kept

written_more : (numbers lent : List ℕ) (r : ℕ) → set (written numbers lent) (length numbers) r ≡ written (numbers ++ (r ∷ [])) lent
unfolding written
written_more [] [] r = refl
written_more [] (x ∷ lent) r = refl
written_more (k ∷ numbers) [] r = refl
written_more (k ∷ numbers) (x ∷ lent) r = ap (λ (l : List ℕ). k ∷ l) (written_more numbers lent r)

-- ---- the loop

module _ (kinds sets weights : List ℕ) where
  changes_length : (k : ℕ) → length (changes_of k kinds sets weights) ≡ k
  unfolding changes_of
  changes_length zero = refl
  changes_length (suc k) = length-append (changes_of k kinds sets weights) _ ∙ omega (arith, changes_length k)

  module _ (n m : ℕ) (b : Board) (lent : List ℕ) where
    -- what is so after the first i changes
    abbrev pub Turn : ℕ → List ℕ → Board → Type 0
    Turn i kept c = ChangesMade n m (changes_of i kinds sets weights) b c lent kept

    pub none_made : Turn 0 lent b
    unfolding changes_of run run_numbers written
    none_made = record { board = refl; numbers = refl }

    pub all_made : {i k : ℕ} {kept : List ℕ} {c : Board} → i ≡ k → Turn i kept c → Turn k kept c
    all_made {kept = kept} {c = c} e p = subst (λ (j : ℕ). Turn j kept c) e p

    module _ (i : ℕ) {kept : List ℕ} {c d : Board} {r : ℕ} (p : Turn i kept c) (q : ChangeMade n m (change_of (at kinds i) (at sets i) (at weights i)) c r d) where
      abbrev xs : List Change
      xs = changes_of i kinds sets weights

      abbrev x : Change
      x = change_of (at kinds i) (at sets i) (at weights i)

      numbers_kept : set kept i r ≡ written (run_numbers n m b (xs ++ (x ∷ []))) lent
      numbers_kept =
          ap₂ (λ (l : List ℕ) (k : ℕ). set l k r) p.numbers (sym (numbers_length n m b xs ∙ changes_length i))
          ∙ written_more (run_numbers n m b xs) lent r
          ∙ ap (λ (k : ℕ). written (run_numbers n m b xs ++ (k ∷ [])) lent) (q.number ∙ ap (λ (o : Board). number_on n m o x) p.board)
          ∙ ap (λ (l : List ℕ). written l lent) (sym (numbers_more n m b xs x))

      more : Turn (suc i) (set kept i r) d
      unfolding changes_of
      more = record {
        board = q.board ∙ ap (λ (o : Board). next n m o x) p.board ∙ sym (run_more n m b xs x);
        numbers = numbers_kept;
      }

      pub one_more_made : {number : ℕ} {now : List ℕ} → number ≡ r → now ≡ set kept i number → Turn (i + 1) now d
      one_more_made f e = rw (e, f, add-one i) more

-- ---- the fresh board before it

pub fresh_run : (n m : ℕ) (c : Calls) {A E I : List ℕ} → c.fresh ≡ fresh_number n m c.found
    → A ≡ after c.fresh (fresh_board n).weights c.found.weights → E ≡ after c.fresh (fresh_board n).exponential c.found.exponential
    → I ≡ after c.fresh (fresh_board n).inverse c.found.inverse
    → ChangesMade n m c.changes (board A E I) c.left c.lent c.kept → Run n m c
fresh_run n m c e p q s h = record {
  fresh = e;
  changes = subst (λ (b : Board). ChangesMade n m c.changes b c.left c.lent c.kept) (board_after_lem c.fresh (fresh_board n) c.found p q s) h;
}
