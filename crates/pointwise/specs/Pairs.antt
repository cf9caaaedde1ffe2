-- Two lists of residues, as a loop over both needs them: from what a check tells to that, and from what the loop gives to the
-- table that the call promises.
use Rattle.std.specs.Prelude.{◌≡◌, List, ℕ}
use Rattle.std.proofs.Common.{sym, ◌∙◌, ap₂}
use Rattle.definitions.specs.Sums.{tabulate}
use Rattle.residues.specs.declared.Modulus.{Modulus}
use Rattle.checks.specs.Accepted.{Entries, Pair}
use Rattle.checks.specs.Answers.{Stands}

-- what a loop needs of its two inputs, for a result of so many entries
pub record Inputs (modulus : Modulus) (long : ℕ) (a b : List ℕ) : Type 0 where
  pub first : Entries long modulus.value a
  pub second : Entries long modulus.value b

module _ {n m long : ℕ} {a b : List ℕ} {r : ℕ} {modulus : Modulus} (s : Stands modulus m) (p : Pair n m long a b r) where
  pub inputs : Inputs modulus r a b
  inputs =
      record {
        first = record { size = p.first.size ∙ sym p.result; below = λ i. rw s.value_is (p.first.below i) };
        second = record { size = p.second.size ∙ sym p.result; below = λ i. rw s.value_is (p.second.below i) };
      }

  -- a rule for the entries, given the modulus
  pub tabled : (rule : ℕ → ℕ → ℕ) {last : List ℕ} → last ≡ tabulate r (rule modulus.value) → last ≡ tabulate long (rule m)
  tabled rule e = e ∙ ap₂ (λ (k v : ℕ). tabulate k (rule v)) p.result s.value_is
