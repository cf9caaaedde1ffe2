-- How a call ends: the pad that it worked in, and what it answers for an `Ok` or an `Err`.
--   Usable, used_in, part_long, lent_for    a call lends the part of its pad that it may use, or the front of that part, to a worker; Lent: of W
--   table_fits                    a table is such a front
--   clear_fits, front_cleared     whatever the worker left there, clearing the part makes the pad what the call promises (same-cleared)
--   accepted_call, refused_call   number, result and pad; refused_result without the pad
use Rattle.std.specs.Prelude.{◌≡◌, List, ◌++◌, ℕ, ◌^◌, ◌≤◌, length, take, drop, Result, Ok, Err}
use Rattle.std.proofs.Common.{sym, ap, ◌∙◌, arith, length-take-le}
use Rattle.std.proofs.Math.Seq.{length_front}
use Rattle.definitions.specs.Limits.{pad_length}
use Rattle.definitions.specs.Sums.{tabulate}
use Rattle.definitions.specs.Refusals.{after, cleared, pad_after}
use Rattle.theory.specs.Parts.{behind_front}
use Rattle.refusals.specs.Words.{word}
use Rattle.refusals.specs.declared.Refusal.{Refusal}
use Rattle.residues.specs.declared.Modulus.{Modulus}
use Rattle.checks.specs.Answers.{IsChecked, accepted, refused, word_kept}

-- ---- the pad

-- a call may use so many entries of its pad, and has them
pub record Usable (most used : ℕ) (pad : List ℕ) : Type 0 where
  pub used_is : used ≡ most
  pub room : most ≤ length pad

-- 01's W entries, for n controls
abbrev pub Lent : ℕ → ℕ → List ℕ → Type 0
Lent n used pad = Usable (pad_length n) used pad

pub lent_for : {most used : ℕ} {pad : List ℕ} → used ≡ most → most ≤ length pad → Usable most used pad
lent_for e room = record { used_is = e; room = room }

pub table_fits : (n : ℕ) → 2 ^ n ≤ pad_length n
unfolding pad_length
table_fits n = omega arith

-- what was worked on in the part counts for nothing once it is cleared
pub same-cleared : (most : ℕ) (p q : List ℕ) → drop most p ≡ drop most q → cleared most p ≡ cleared most q
unfolding cleared
same-cleared most p q e = ap (λ (l : List ℕ). tabulate most (λ i. 0) ++ l) e

module _ {most used : ℕ} {pad : List ℕ} (h : Usable most used pad) where
  pub used_in : used ≤ length pad
  used_in = omega (arith, h.used_is, h.room)

  -- the front of so many entries
  module _ {long : ℕ} (part : long ≤ used) where
    pub part_long : long ≡ length (take long pad)
    part_long = sym (length-take-le long pad (omega (arith, used_in)))

    -- a worker was lent the front and left `new` there
    module _ (new : List ℕ) (kept : length new ≡ length (take long pad)) where
      pub clear_fits : used ≤ length (new ++ drop long pad)
      clear_fits = omega (arith, length_front pad new long kept, used_in)

      pub front_cleared : {last : List ℕ} → last ≡ cleared used (new ++ drop long pad) → last ≡ cleared most pad
      front_cleared e =
          e ∙ same-cleared used _ _ (behind_front long used pad new (kept ∙ sym part_long) part) ∙ ap (λ (k : ℕ). cleared k pad) h.used_is

-- ---- the answer

module _ {m k : ℕ} {answer : Result Modulus Refusal} (h : IsChecked m k answer) where
  -- a worker made the table under the modulus' value
  module _ {modulus : Modulus} (e : answer ≡ Ok modulus) (table : ℕ → List ℕ) {new : List ℕ} (made : new ≡ table modulus.value) where
    pub accepted_call : (n : ℕ) (pad : List ℕ) {last : List ℕ} → last ≡ pad_after 0 n pad → (0 ≡ k) × ((new ≡ table m) × (last ≡ pad_after 0 n pad))
    accepted_call n pad end = (sym (accepted h e), (made ∙ ap table (h.stands modulus e).value_is, end))

  module _ {refusal : Refusal} (e : answer ≡ Err refusal) (new old : List ℕ) where
    pub refused_result : (word refusal ≡ k) × (old ≡ after (word refusal) new old)
    refused_result = (refused h e, word_kept h e new old)

    pub refused_call : (n : ℕ) (pad : List ℕ) → (word refusal ≡ k) × ((old ≡ after (word refusal) new old) × (pad ≡ pad_after (word refusal) n pad))
    refused_call n pad = (refused_result.0, (refused_result.1, word_kept h e (cleared (pad_length n) pad) pad))
