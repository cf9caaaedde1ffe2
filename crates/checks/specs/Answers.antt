-- What a check answers: 01's number of each case, and what is known of a check that answers for the number k under the
-- modulus m. A caller reads an `Ok` by `accepted` and an `Err` by `refused`.
use Rattle.std.specs.Prelude.{◌≡◌, List, ℕ, Result, Ok, Err}
use Rattle.std.proofs.Common.{refl, sym, ◌∙◌, ap, subst}
use Rattle.definitions.specs.Refusals.{after, value_after}
use Rattle.refusals.specs.Words.{word, word_of, word-not-zero}
use Rattle.refusals.specs.declared.Refusal.{Refusal}
use Rattle.residues.specs.Moduli.{Valid}
use Rattle.residues.specs.declared.Modulus.{Modulus}
use Rattle.checks.specs.Words.{refused_list, refused_value}

-- the modulus m, made by its constructor
pub record Stands (modulus : Modulus) (m : ℕ) : Type 0 where
  pub valid : Valid modulus
  pub value_is : modulus.value ≡ m

-- it answers for the number k under the modulus m
pub record IsChecked (m k : ℕ) (r : Result Modulus Refusal) : Type 0 where
  pub number_is : word_of r ≡ k
  pub stands : (modulus : Modulus) → r ≡ Ok modulus → Stands modulus m

-- ---- making one

pub is_refused : {m k : ℕ} {refusal : Refusal} → word refusal ≡ k → IsChecked m k (Err refusal)
is_refused e = record { number_is = e; stands = λ modulus d. cc }

pub is_accepted : {m k : ℕ} {modulus : Modulus} → k ≡ 0 → Stands modulus m → IsChecked m k (Ok modulus)
is_accepted {m} {modulus = modulus} e h =
    record {
      number_is = sym e;
      stands = λ other d. let same : modulus ≡ other = cc in subst (λ (x : Modulus). Stands x m) same h;
    }

pub same_number : {m j k : ℕ} {r : Result Modulus Refusal} → j ≡ k → IsChecked m j r → IsChecked m k r
same_number {m} {r = r} e h = subst (λ (i : ℕ). IsChecked m i r) e h

pub same_answer : {m k : ℕ} {r o : Result Modulus Refusal} → r ≡ o → IsChecked m k o → IsChecked m k r
same_answer {m} {k} e h = subst (IsChecked m k) (sym e) h

-- ---- reading one

module _ {m k : ℕ} {r : Result Modulus Refusal} (h : IsChecked m k r) where
  pub accepted : {modulus : Modulus} → r ≡ Ok modulus → k ≡ 0
  accepted e = sym h.number_is ∙ ap word_of e

  pub refused : {refusal : Refusal} → r ≡ Err refusal → word refusal ≡ k
  refused e = sym (ap word_of e) ∙ h.number_is

  pub not_accepted : {refusal : Refusal} → r ≡ Err refusal → k ≡ 0 → ⊥
  not_accepted {refusal} e z = word-not-zero refusal (refused e ∙ z)

  -- lent memory and what is returned beside the number, at the end of a call that is refused
  pub word_kept : {refusal : Refusal} → r ≡ Err refusal → (new old : List ℕ) → old ≡ after (word refusal) new old
  word_kept {refusal} e new old = refused_list (word refusal) new old (word-not-zero refusal)

  pub word_value : {refusal : Refusal} → r ≡ Err refusal → (v : ℕ) → 0 ≡ value_after (word refusal) v
  word_value {refusal} e v = refused_value (word refusal) v (word-not-zero refusal)

  -- and by the number that the definitions give
  pub kept : {refusal : Refusal} → r ≡ Err refusal → (new old : List ℕ) → old ≡ after k new old
  kept e new old = refused_list k new old (not_accepted e)

  pub no_value : {refusal : Refusal} → r ≡ Err refusal → (v : ℕ) → 0 ≡ value_after k v
  no_value e v = refused_value k v (not_accepted e)

-- behind the `?` on a check
module _ {m k : ℕ} {modulus : Modulus} (h : IsChecked m k (Ok modulus)) where
  pub passed : k ≡ 0
  passed = accepted h refl

  pub stands_in : Stands modulus m
  stands_in = h.stands modulus refl
