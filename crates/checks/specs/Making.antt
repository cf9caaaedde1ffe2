-- How a check makes its answer, for a call that tests in a crate of its own. The checks of this crate are lists of tests with `?`,
-- which the search proves; a proof by hand has the same steps here.
--   panel_refused, panel_within, past_panel   the panel's test, before the others
--   these_words, _then_, no_more              the words behind the modulus'
--   table_length                              the length of a table, which is worked out once
--   also_tested                               one more test, as `?` puts it behind the others: also_go, also_stop, also_earlier
--   modulus_stands, modulus_refused           the cases of the modulus' own test
use Rattle.std.specs.Prelude.{◌≡◌, List, [], ◌∷◌, ℕ, ◌^◌, ◌≤◌, Result, Ok, Err}
use Rattle.std.proofs.Common.{refl, sym, ◌∙◌, ap, ap₂}
use Rattle.definitions.specs.Limits.{most_controls}
use Rattle.definitions.specs.Refusals.{or_else, first_word, panel_word, modulus_word, table_word}
use Rattle.refusals.specs.Words.{word, word_of, word-not-zero}
use Rattle.refusals.specs.declared.Refusal.{Refusal}
use Rattle.residues.specs.Moduli.{MadeFrom, RefusedFor}
use Rattle.residues.specs.declared.Modulus.{Modulus}
use Rattle.checks.specs.Words.{or_else_stop, or_else_go}
use Rattle.checks.specs.Accepted.{length_word, few_controls}
use Rattle.checks.specs.Answers.{IsChecked, is_refused, is_accepted, same_number}

-- the panel's test, before the others: its word stops the check, or n is in range and the others count
module _ (n : ℕ) {w : ℕ} (e : w ≡ panel_word n) where
  pub panel_refused : {m : ℕ} (k : ℕ) {refusal : Refusal} → word refusal ≡ w → IsChecked m (or_else (panel_word n) k) (Err refusal)
  panel_refused k {refusal} h =
      let same : word refusal ≡ panel_word n = h ∙ e in
      is_refused (same ∙ sym (or_else_stop (panel_word n) k (λ z. word-not-zero refusal (same ∙ z))))

  module _ (z : w ≡ 0) where
    pub panel_within : n ≤ most_controls
    panel_within = few_controls n (sym e ∙ z)

    pub past_panel : {m k : ℕ} {r : Result Modulus Refusal} → IsChecked m k r → IsChecked m (or_else (panel_word n) k) r
    past_panel {k = k} x = same_number (sym (or_else_go (panel_word n) k (sym e ∙ z))) x

-- the words behind the modulus's
pub these_words : {m w : ℕ} {r : Result Modulus Refusal} (ls : List ℕ) →
    IsChecked m (or_else (modulus_word m) w) r → w ≡ first_word ls → IsChecked m (first_word (modulus_word m ∷ ls)) r
these_words {m} ls x e = same_number (ap (or_else (modulus_word m)) e) x

-- word by word: `e then f then no_more`
pub no_more : ◌≡◌ {A = List ℕ} [] []
no_more = refl

infixr 20 ◌then◌
pub ◌then◌ : {j k : ℕ} {js ks : List ℕ} → j ≡ k → js ≡ ks → (j ∷ js) ≡ (k ∷ ks)
◌then◌ e f = ap₂ ◌∷◌ e f

-- the length of a table, by what its number of entries was found to be
pub table_length : (n k : ℕ) {w long : ℕ} → w ≡ length_word long k → long ≡ 2 ^ n → w ≡ table_word n k
table_length n k e f = e ∙ ap (λ (i : ℕ). length_word i k) f

-- one more test, after the others
abbrev pub also_tested : {A : Type 0} → Result Modulus Refusal → Result A Refusal → Result Modulus Refusal
also_tested (Ok modulus) (Ok x) = Ok modulus
also_tested (Ok modulus) (Err refusal) = Err refusal
also_tested (Err earlier) test = Err earlier

pub also_tested_lem : {A : Type 0} {m k : ℕ} (o : Result Modulus Refusal) (test : Result A Refusal) → IsChecked m k o
    → IsChecked m (or_else k (word_of test)) (also_tested o test)
also_tested_lem (Ok modulus) (Ok x) h = is_accepted (or_else_go _ 0 (sym h.number_is)) (h.stands modulus refl)
also_tested_lem (Ok modulus) (Err refusal) h = is_refused (sym (or_else_go _ (word refusal) (sym h.number_is)))
also_tested_lem (Err earlier) test h =
    same_number (sym (or_else_stop _ (word_of test) (λ z. word-not-zero earlier (h.number_is ∙ z)))) h

also_word : {A : Type 0} (modulus : Modulus) (test : Result A Refusal) → word_of test ≡ 0 → Ok modulus ≡ also_tested (Ok modulus) test
also_word modulus (Ok x) z = refl
also_word modulus (Err refusal) z = absurd (word-not-zero refusal z)

module _ {A : Type 0} {o : Result Modulus Refusal} (test : Result A Refusal) where
  pub also_go : {modulus : Modulus} → o ≡ Ok modulus → word_of test ≡ 0 → Ok modulus ≡ also_tested o test
  also_go {modulus} e z = also_word modulus test z ∙ sym (ap (λ (x : Result Modulus Refusal). also_tested x test) e)

  pub also_earlier : {earlier : Refusal} → o ≡ Err earlier → Err earlier ≡ also_tested o test
  also_earlier e = sym (ap (λ (x : Result Modulus Refusal). also_tested x test) e)

  pub also_stop : {modulus : Modulus} {refusal : Refusal} → o ≡ Ok modulus → test ≡ Err refusal → Err refusal ≡ also_tested o test
  also_stop e h = sym (ap₂ also_tested e h)

-- the test of the modulus
pub modulus_stands : {m : ℕ} {modulus : Modulus} → MadeFrom m modulus → IsChecked m (modulus_word m) (Ok modulus)
modulus_stands h = is_accepted h.accepted (record { valid = h.valid; value_is = h.value_is })

pub modulus_refused : {m : ℕ} {refusal : Refusal} → RefusedFor m (word refusal) → IsChecked m (modulus_word m) (Err refusal)
modulus_refused h = is_refused h.number_is
