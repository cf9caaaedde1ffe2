-- When a change of a board, and the making of one, is accepted: the facts that the tests give.
--   change_accepted, fresh_accepted     from the number 0 to the facts
--   accepted_board, own_number_lem, same_number     of three accepted tables only the change's own words are left
use Rattle.std.specs.Prelude.{◌≡◌, not, List, [], ◌∷◌, ℕ, ◌^◌, ◌<◌, ltb, eqb, length}
use Rattle.std.proofs.Math.Path.{refl}
use Rattle.std.proofs.Common.{sym, ◌∙◌, arith, ltb-true}
use Rattle.std.proofs.lemmas.Bool.{eqb-false, not-false}
use Rattle.definitions.specs.Refusals.{first_word, panel_word, modulus_word, table_word, entry_word, weight_word, empty_word, code_word, AcceptedTable}
use Rattle.definitions.specs.Boards.{Board, fresh_number, change_number, Change, adds, takes, number_on}
use Rattle.checks.specs.Words.{no_word, all_zero, AllZero}
use Rattle.checks.specs.Accepted.{InRange, IsTable, in_range, right_length, table_accepted, entries, range_panel, range_modulus, entries_length, entries_below}

-- ---- one test

some_control : (S : ℕ) → empty_word S ≡ 0 → 0 < S
some_control S e = positive S (eqb-false S 0 (no_word (eqb S 0) 11 (λ z. omega arith) e)) where
  positive : (S : ℕ) → (S ≡ 0 → ⊥) → 0 < S
  positive S d = omega arith

code_below : (n S : ℕ) → code_word n S ≡ 0 → S < 2 ^ n
code_below n S e = ltb-true S (2 ^ n) (not-false (ltb S (2 ^ n)) (no_word (not (ltb S (2 ^ n))) 12 (λ z. omega arith) e))

weight_below : (m c : ℕ) → weight_word m c ≡ 0 → c < m
weight_below m c e = ltb-true c m (not-false (ltb c m) (no_word (not (ltb c m)) 5 (λ z. omega arith) e))

-- ---- a change

-- n and m are in range, and the tables are tables of residues
pub record IsBoard (n m : ℕ) (b : Board) : Type 0 where
  pub range : InRange n m
  pub weights : IsTable n m b.weights
  pub exponential : IsTable n m b.exponential
  pub inverse : IsTable n m b.inverse

pub accepted_board : (n m : ℕ) (b : Board) → AcceptedTable n m b.weights → AcceptedTable n m b.exponential
    → AcceptedTable n m b.inverse → IsBoard n m b
accepted_board n m b p q r =
    let a = table_accepted n m b.weights p in
    record {
      range = a.0;
      weights = a.1;
      exponential = (table_accepted n m b.exponential q).1;
      inverse = (table_accepted n m b.inverse r).1;
    }

pub record IsChange (n m S c : ℕ) (b : Board) : Type 0 where
  pub board : IsBoard n m b
  pub some : 0 < S
  pub code : S < 2 ^ n
  pub weight : c < m

-- the words behind the modulus'
abbrev pub change_words : ℕ → ℕ → ℕ → ℕ → Board → List ℕ
change_words n m S c b =
    table_word n (length b.weights)
    ∷ table_word n (length b.exponential)
    ∷ table_word n (length b.inverse)
    ∷ empty_word S
    ∷ code_word n S
    ∷ entry_word m b.weights
    ∷ entry_word m b.exponential
    ∷ entry_word m b.inverse
    ∷ weight_word m c
    ∷ []

module _ (n m S c : ℕ) (b : Board) where
  change_facts : AllZero (panel_word n ∷ modulus_word m ∷ change_words n m S c b) → IsChange n m S c b
  change_facts (p, (q, (la, (le, (li, (k, (s, (ea, (ee, (ei, (w, z))))))))))) =
      let r = in_range p q in
      record {
        board = record { range = r; weights = entries r la ea; exponential = entries r le ee; inverse = entries r li ei };
        some = some_control S k;
        code = code_below n S s;
        weight = weight_below m c w;
      }

  pub change_accepted : change_number n m S c b ≡ 0 → IsChange n m S c b
  unfolding change_number
  change_accepted e = change_facts (all_zero (panel_word n ∷ modulus_word m ∷ change_words n m S c b) e)

  set_and_weight : IsBoard n m b → change_number n m S c b ≡ first_word (empty_word S ∷ code_word n S ∷ weight_word m c ∷ [])
  unfolding change_number
  set_and_weight h = rw (
    range_panel h.range,
    range_modulus h.range,
    entries_length h.weights,
    entries_length h.exponential,
    entries_length h.inverse,
    entries_below h.weights,
    entries_below h.exponential,
    entries_below h.inverse,
  ) refl

-- the number that its set and its weight alone give a change
abbrev pub own_number : ℕ → ℕ → Change → ℕ
own_number n m (adds S c) = first_word (empty_word S ∷ code_word n S ∷ weight_word m c ∷ [])
own_number n m (takes S c) = first_word (empty_word S ∷ code_word n S ∷ weight_word m c ∷ [])

-- no change of an accepted board is refused for anything else
pub own_number_lem : (n m : ℕ) (b : Board) (x : Change) → IsBoard n m b → number_on n m b x ≡ own_number n m x
own_number_lem n m b (adds S c) h = set_and_weight n m S c b h
own_number_lem n m b (takes S c) h = set_and_weight n m S c b h

-- so accepted boards give a change the same number
pub same_number : (n m : ℕ) (b c : Board) (x : Change) → IsBoard n m b → IsBoard n m c → number_on n m b x ≡ number_on n m c x
same_number n m b c x h k = own_number_lem n m b x h ∙ sym (own_number_lem n m c x k)

-- ---- a fresh board

pub record IsRoom (n m : ℕ) (b : Board) : Type 0 where
  pub range : InRange n m
  pub weights : length b.weights ≡ 2 ^ n
  pub exponential : length b.exponential ≡ 2 ^ n
  pub inverse : length b.inverse ≡ 2 ^ n

abbrev pub fresh_words : ℕ → Board → List ℕ
fresh_words n b =
    table_word n (length b.weights) ∷ table_word n (length b.exponential) ∷ table_word n (length b.inverse) ∷ []

module _ (n m : ℕ) (b : Board) where
  fresh_facts : AllZero (panel_word n ∷ modulus_word m ∷ fresh_words n b) → IsRoom n m b
  fresh_facts (p, (q, (la, (le, (li, z))))) =
      record {
        range = in_range p q;
        weights = right_length (2 ^ n) (length b.weights) la;
        exponential = right_length (2 ^ n) (length b.exponential) le;
        inverse = right_length (2 ^ n) (length b.inverse) li;
      }

  pub fresh_accepted : fresh_number n m b ≡ 0 → IsRoom n m b
  unfolding fresh_number
  fresh_accepted e = fresh_facts (all_zero (panel_word n ∷ modulus_word m ∷ fresh_words n b) e)
