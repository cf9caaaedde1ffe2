-- Sums of products, as the accumulator holds them. Callers go by `Holds`: the accumulator holds the sum of so many terms, each a
-- product of two numbers of 32 bits. How it holds it is not for them to know.
use Rattle.std.specs.Prelude.{◌≡◌, ℕ, suc, ◌+◌, ◌-◌, ◌*◌, ◌%◌, ◌^◌, ◌<◌, ◌≤◌}
use Rattle.std.proofs.Common.{ap, ◌∙◌, add-one, arith}
use Rattle.std.proofs.Math.Path.{ap₂}
use Rattle.definitions.specs.Sums.{sum}
use Rattle.residues.specs.Moduli.{Residue}
use Rattle.residues.specs.declared.Accumulator.{Accumulator}

-- the number that it holds: the sum itself, not up to multiples of a modulus
unfoldable pub held : Accumulator → ℕ
held acc = acc.low + 2 ^ 64 * acc.carries

-- so many terms can be added up, and perhaps more
abbrev pub most_terms : ℕ
most_terms = 2 ^ 32 - 1

-- it has room for one more term
pub record Sound (acc : Accumulator) : Type 0 where
  pub room : acc.carries < most_terms

pub record Started (acc : Accumulator) : Type 0 where
  pub counted : acc.carries ≡ 0
  pub empty : held acc ≡ 0

-- r is acc with the term x added
pub record Added (acc : Accumulator) (x : ℕ) (r : Accumulator) : Type 0 where
  pub counted : r.carries ≤ suc acc.carries
  pub sum : held r ≡ held acc + x

-- it holds the sum of so many terms
pub record Holds (term : ℕ → ℕ) (count : ℕ) (acc : Accumulator) : Type 0 where
  pub counted : acc.carries ≤ count
  pub total : held acc ≡ sum count term

module _ {term : ℕ → ℕ} where
  pub holds_none : {acc : Accumulator} → Started acc → Holds term 0 acc
  unfolding sum
  holds_none h = record { counted = omega arith; total = h.empty }

  -- the next term
  pub holds_next : {acc r : Accumulator} {j x : ℕ} → Holds term j acc → Added acc x r → x ≡ term j → Holds term (j + 1) r
  unfolding sum
  holds_next {j = j} h add e =
      rw (add-one j) (record { counted = omega arith; total = add.sum ∙ ap₂ (λ (s t : ℕ). s + t) h.total e })

  -- there is room while there are few
  pub holds_room : {acc : Accumulator} {j : ℕ} → Holds term j acc → j < most_terms → Sound acc
  holds_room h few = record { room = omega arith }

  pub holds_residue : {acc : Accumulator} {m j r : ℕ} → Holds term j acc → Residue m (held acc) r → Residue m (sum j term) r
  holds_residue {m = m} h res = record { same = res.same ∙ ap (λ (k : ℕ). k % m) h.total; below = res.below }
