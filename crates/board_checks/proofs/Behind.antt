-- The tests of a change are those of a fresh board and then its own.
use Rattle.std.specs.Prelude.{◌≡◌, refl, List, [], ◌∷◌, ◌++◌, ℕ, zero, suc, ◌≤◌, Result}
use Rattle.std.proofs.Common.{sym}
use Rattle.definitions.specs.Limits.{most_controls}
use Rattle.definitions.specs.Refusals.{or_else, first_word, panel_word, modulus_word, empty_word, code_word, entry_word, weight_word}
use Rattle.definitions.specs.Boards.{Board, fresh_number, change_number}
use Rattle.refusals.specs.declared.Refusal.{Refusal}
use Rattle.residues.specs.declared.Modulus.{Modulus}
use Rattle.checks.specs.Answers.{IsChecked, same_number}
use Rattle.board_theory.specs.Accepted.{fresh_words, fresh_accepted}

-- of two lists of words one behind the other the second counts if the first has none
words_behind : (js ks : List ℕ) → first_word (js ++ ks) ≡ or_else (first_word js) (first_word ks)
words_behind [] ks = refl
words_behind (zero ∷ js) ks = words_behind js ks
words_behind (suc j ∷ js) ks = refl

module _ (n m : ℕ) (b : Board) where
  pub controls : fresh_number n m b ≡ 0 → n ≤ most_controls
  controls e = (fresh_accepted n m b e).range.few

  module _ (S c : ℕ) where
    abbrev pub own_words : List ℕ
    own_words = empty_word S ∷ code_word n S ∷ entry_word m b.weights ∷ entry_word m b.exponential ∷ entry_word m b.inverse ∷ weight_word m c ∷ []

    behind : change_number n m S c b ≡ or_else (fresh_number n m b) (first_word own_words)
    unfolding fresh_number change_number
    behind = words_behind (panel_word n ∷ modulus_word m ∷ fresh_words n b) own_words

    pub behind_fresh : {r : Result Modulus Refusal} → IsChecked m (or_else (fresh_number n m b) (first_word own_words)) r → IsChecked m (change_number n m S c b) r
    behind_fresh h = same_number (sym behind) h
