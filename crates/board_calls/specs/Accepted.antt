-- From the tests of a call on a board to its work, and from the work to what the call promises.
--   changed_by                         adding and taking as one
--   lacking_table, lowered_table      tables made with what the weight lacks to the modulus
--   ready, ready_for                  what an accepted change hands to its work, with its own weight and others
--   room, not-empty, long_enough      a fresh board's tables have 2 ^ n entries
--   accepted_board, refused_board     number and tables at the end of a call
--   accepted_change                   the same of a change, once it is known whether weight is added or taken
use Rattle.std.specs.Prelude.{◌≡◌, Bool, true, false, List, ℕ, ◌+◌, ◌-◌, ◌%◌, ◌^◌, ◌<◌, Result, Ok, Err}
use Rattle.std.proofs.Common.{sym, ap, subst, ◌∙◌, zero-add, arith, pow_pos}
use Rattle.definitions.specs.Sums.{tabulate}
use Rattle.definitions.specs.Refusals.{after}
use Rattle.definitions.specs.Boards.{Board, raised_over, lowered_over, board_add, board_take, lacking, fresh_number, change_number}
use Rattle.refusals.specs.Words.{word}
use Rattle.refusals.specs.declared.Refusal.{Refusal}
use Rattle.residues.specs.Moduli.{Residue}
use Rattle.residues.specs.declared.Modulus.{Modulus}
use Rattle.checks.specs.Answers.{IsChecked, accepted, refused, word_kept}
use Rattle.board_theory.specs.Raised.{lowered_raised}
use Rattle.board_theory.specs.Accepted.{IsChange, IsRoom, change_accepted, fresh_accepted}
use Rattle.board_tables.specs.Ready.{BoardReady}

-- the board after a change: taking, or adding
abbrev pub changed_by : Bool → ℕ → ℕ → ℕ → ℕ → Board → Board
changed_by true = board_take
changed_by false = board_add

-- a table made with what the weight c lacks to the modulus
pub lacking_table : {m : ℕ} (c : ℕ) {d : ℕ} (f : ℕ → ℕ → List ℕ) {l : List ℕ} → Residue m (0 + (m - c)) d → l ≡ f m d → l ≡ f m (lacking m c)
lacking_table {m} c f r p = p ∙ ap (f m) (r.same ∙ ap (λ (k : ℕ). k % m) (zero-add (m - c)))

-- raised by that, a table is lowered by c
pub lowered_table : (n : ℕ) {m : ℕ} (S c : ℕ) {d : ℕ} (I : List ℕ) {l : List ℕ} → c < m → Residue m (0 + (m - c)) d
    → l ≡ raised_over n m S d I → l ≡ lowered_over n m S c I
lowered_table n {m} S c I h r p = lacking_table c (λ (k d : ℕ). raised_over n k S d I) r p ∙ sym (lowered_raised n m S c h I)

-- ---- the work

module _ (n : ℕ) {m : ℕ} (S c : ℕ) (b : Board) {answer : Result Modulus Refusal} {modulus : Modulus} (h : IsChecked m (change_number n m S c b) answer) (e : answer ≡ Ok modulus) where
  pub ready : BoardReady n modulus S c c b
  ready =
      let s = h.stands modulus e in
      let change : IsChange n modulus.value S c b =
      subst (λ (k : ℕ). IsChange n k S c b) (sym s.value_is) (change_accepted n m S c b (accepted h e)) in
      record { change = change; opposite = change.weight }

  pub ready_for : {v w : ℕ} → v < modulus.value → w < modulus.value → BoardReady n modulus S v w b
  ready_for j k = let i = ready.change in record {
    change = record { board = i.board; some = i.some; code = i.code; weight = j };
    opposite = k;
  }

module _ (n : ℕ) {m : ℕ} (b : Board) {answer : Result Modulus Refusal} {modulus : Modulus} (h : IsChecked m (fresh_number n m b) answer) (e : answer ≡ Ok modulus) where
  pub room : IsRoom n m b
  room = fresh_accepted n m b (accepted h e)

pub not-empty : (n : ℕ) {long : ℕ} → long ≡ 2 ^ n → 0 < long
not-empty n e = omega (arith, e, pow_pos n)

pub long_enough : (f : ℕ → ℕ) {long N : ℕ} {l : List ℕ} → l ≡ tabulate long f → long ≡ N → l ≡ tabulate N f
long_enough f p e = p ∙ ap (λ (k : ℕ). tabulate k f) e

-- ---- the answer

module _ {m k : ℕ} {answer : Result Modulus Refusal} (h : IsChecked m k answer) where
  -- the work made the board under the modulus' value
  pub accepted_board : {modulus : Modulus} → answer ≡ Ok modulus → (new : ℕ → Board) {A E I : List ℕ}
      → A ≡ (new modulus.value).weights → E ≡ (new modulus.value).exponential → I ≡ (new modulus.value).inverse
      → (0 ≡ k) × ((A ≡ (new m).weights) × ((E ≡ (new m).exponential) × (I ≡ (new m).inverse)))
  accepted_board {modulus} e new p q r =
      let s = (h.stands modulus e).value_is in
      (sym (accepted h e), (p ∙ ap (λ (j : ℕ). (new j).weights) s, (q ∙ ap (λ (j : ℕ). (new j).exponential) s, r ∙ ap (λ (j : ℕ). (new j).inverse) s)))

  pub refused_board : {refusal : Refusal} → answer ≡ Err refusal → (new old : Board)
      → (word refusal ≡ k) × ((old.weights ≡ after (word refusal) new.weights old.weights)
      × ((old.exponential ≡ after (word refusal) new.exponential old.exponential) × (old.inverse ≡ after (word refusal) new.inverse old.inverse)))
  refused_board e new old =
      let kept = word_kept h e in
      (refused h e, (kept new.weights old.weights, (kept new.exponential old.exponential, kept new.inverse old.inverse)))

module _ (n : ℕ) {m : ℕ} (S c : ℕ) (b : Board) {answer : Result Modulus Refusal} {modulus : Modulus} (h : IsChecked m (change_number n m S c b) answer) (e : answer ≡ Ok modulus) where
  pub accepted_change : {taking kind : Bool} → taking ≡ kind → {A E I : List ℕ} → A ≡ (changed_by kind n modulus.value S c b).weights
      → E ≡ (changed_by kind n modulus.value S c b).exponential → I ≡ (changed_by kind n modulus.value S c b).inverse
      → (0 ≡ change_number n m S c b) × ((A ≡ (changed_by taking n m S c b).weights)
      × ((E ≡ (changed_by taking n m S c b).exponential) × (I ≡ (changed_by taking n m S c b).inverse)))
  accepted_change {taking} {kind} t {A} {E} {I} p q r =
      subst (λ (k : Bool). (0 ≡ change_number n m S c b) × ((A ≡ (changed_by k n m S c b).weights)
      × ((E ≡ (changed_by k n m S c b).exponential) × (I ≡ (changed_by k n m S c b).inverse))))
      (sym t) (accepted_board h e (λ (j : ℕ). changed_by kind n j S c b) p q r)
