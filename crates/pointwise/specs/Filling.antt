-- Loops that set one entry a turn by a rule, in a list that they may read at the place they set: what is left so far, one more
-- turn, and the end.
use Rattle.std.specs.Prelude.{◌≡◌, refl, List, ℕ, ◌+◌, ◌%◌, ◌^◌, ◌<◌, ◌≤◌, length, set}
use Rattle.std.proofs.Common.{ap, ◌∙◌, add-zero, arith, length-set}
use Rattle.definitions.specs.Sums.{tabulate, at}
use Rattle.definitions.specs.Products.{residues}
use Rattle.theory.specs.Lists.{filled, filled_none, at-filled, turn, whole, residues-filled}

-- l is what is left of r after i turns
pub record Filling (f : ℕ → ℕ) (r : List ℕ) (i : ℕ) (l : List ℕ) : Type 0 where
  pub within : i ≤ length r
  pub long : length l ≡ length r
  pub is : l ≡ filled f i r

module _ {f : ℕ → ℕ} {r : List ℕ} where
  pub fresh : Filling f r 0 r
  fresh = record { within = omega arith; long = refl; is = filled_none f r }

  module _ {i : ℕ} {l : List ℕ} (h : Filling f r i l) where
    -- what stands there before the turn, and behind
    pub unset_from : (k : ℕ) → at l (i + k) ≡ at r (i + k)
    unset_from k = ap (λ (u : List ℕ). at u (i + k)) h.is ∙ at-filled f i r k

    pub unset : at l i ≡ at r i
    unset = rw (add-zero i) at (unset_from 0)

    pub next : {v : ℕ} → v ≡ f i → i < length r → Filling f r (i + 1) (set l i v)
    next {v} e k = record { within = omega arith; long = length-set l i v ∙ h.long; is = turn f i r h.is e k }

    pub full : length r ≤ i → l ≡ tabulate (length r) f
    full k = whole f i r h.is (omega (arith, h.within))

-- remainders
pub full_residues : (n m : ℕ) (f : ℕ → ℕ) {r : List ℕ} {i : ℕ} {l : List ℕ} → Filling (λ S. f S % m) r i l → length r ≤ i
    → length r ≡ 2 ^ n → l ≡ residues n m f
full_residues n m f {r} {i} h k e = residues-filled n m f i r h.is (omega (arith, h.within)) e
