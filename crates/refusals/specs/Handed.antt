-- What a `?` hands on: the refusal, and so its word.
use Rattle.std.specs.Prelude.{◌≡◌, Result, Ok, Err}
use Rattle.std.specs.Result.{IsErrAnd}
use Rattle.std.proofs.Common.{sym, ◌∙◌, ap}
use Rattle.refusals.specs.Words.{word, word_of, word-not-zero}
use Rattle.refusals.specs.declared.Refusal.{Refusal}

pub handed_on : {A : Type 0} {refusal : Refusal} (r : Result A Refusal) → IsErrAnd r (λ x. x ≡ refusal) → r ≡ Err refusal
handed_on (Ok x) h = absurd h
handed_on (Err x) h = ap Err h

module _ {A : Type 0} {refusal : Refusal} {r : Result A Refusal} (h : r ≡ Err refusal) where
  pub handed_word : word_of r ≡ word refusal
  handed_word = ap word_of h

  pub never_accepts : word_of r ≡ 0 → ⊥
  never_accepts z = word-not-zero refusal (sym handed_word ∙ z)
