-- The modulus: which numbers are taken for one, what is known of one, and what a residue is.
use Rattle.std.specs.Prelude.{◌≡◌, ℕ, ◌%◌, ◌^◌, ◌<◌, ◌≤◌, Bool, true, false, nat_lt, Result, Ok, Err, IfOk}
use Rattle.std.proofs.Math.Path.{refl, sym}
use Rattle.std.proofs.Common.{◌∙◌, ap, subst, suc-ne-zero, ltb-false}
use Rattle.definitions.specs.Limits.{lowest_modulus, largest_modulus}
use Rattle.definitions.specs.Refusals.{word_if, or_else, modulus_word}
use Rattle.residues.specs.declared.Modulus.{Modulus}
pub use Rattle.residues.specs.Values.{IsModulus, Below, Residue, Back}
use Rattle.refusals.specs.Words.{word, word_of, word-not-zero}
use Rattle.refusals.specs.declared.Refusal.{Refusal}

-- the same of a `Modulus`, which holds of every one (`valid`)
abbrev pub Valid : Modulus → Type 0
Valid modulus = IsModulus modulus.value modulus.two_64

-- what `Modulus::new` answers for m: 01's number, and a modulus only of this value
pub record IsModulusOf (m : ℕ) (answer : Result Modulus Refusal) : Type 0 where
  pub number_is : word_of answer ≡ modulus_word m
  pub value_is : IfOk answer (λ k. k.value ≡ m)

-- k is the modulus m
pub record MadeFrom (m : ℕ) (k : Modulus) : Type 0 where
  pub valid : Valid k
  pub value_is : k.value ≡ m
  pub accepted : modulus_word m ≡ 0

-- w is the number of a refusal of m
pub record RefusedFor (m w : ℕ) : Type 0 where
  pub number_is : w ≡ modulus_word m
  pub not_zero : w ≡ 0 → ⊥

module _ (m : ℕ) where
  valid_by : (low high : Bool) → nat_lt m lowest_modulus ≡ low → nat_lt largest_modulus m ≡ high → or_else (word_if low 2) (word_if high 2) ≡ 0 → IsModulus m (2 ^ 64 % m)
  valid_by true high l h z = absurd (suc-ne-zero 1 z)
  valid_by false true l h z = absurd (suc-ne-zero 1 z)
  valid_by false false l h z = record { lowest = ltb-false _ _ l; largest = ltb-false _ _ h; two_64_is = refl }

  -- a number without a word is a modulus
  pub valid_modulus : modulus_word m ≡ 0 → IsModulus m (2 ^ 64 % m)
  valid_modulus = valid_by (nat_lt m lowest_modulus) (nat_lt largest_modulus m) refl refl

module _ {m : ℕ} {answer : Result Modulus Refusal} (h : IsModulusOf m answer) where
  -- the number of the answer is 01's
  pub modulus_number : word_of answer ≡ modulus_word m
  modulus_number = h.number_is

  -- each modulus that `Modulus::new` answers is valid, and it is m
  pub made : (k : Modulus) → answer ≡ Ok k → MadeFrom m k
  made k e = record { valid = k.valid; value_is = subst (λ (r : Result Modulus Refusal). IfOk r (λ (k : Modulus). k.value ≡ m)) e h.value_is; accepted = sym h.number_is ∙ ap word_of e }

  pub refused : (w : Refusal) → answer ≡ Err w → RefusedFor m (word w)
  refused w e = record { number_is = sym (ap word_of e) ∙ h.number_is; not_zero = word-not-zero w }
