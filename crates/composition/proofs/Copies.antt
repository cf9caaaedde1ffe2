-- A table that is copied behind itself, one number a turn.
use mathlib.Core.Path.{◌≡◌, refl, ◌∙◌}
use mathlib.Core.List.{List}
use mathlib.Core.Logic.{⊎_elim}
use Prim.Native.Nat.{ℕ, ◌+◌, ◌<◌, ◌≤◌}
use native.Mathlib.Omega.{arith}
use lib.ListN.{length, set}
use lib.Seq.{get_or-set_same, get_or-set_other}
use Rattle.definitions.specs.Sums.{at}
use Rattle.theory.specs.Tests.{below_or}
use Rattle.composition.specs.Slots.{CopyReady, Copied}

pub copied_none : (source target : ℕ) (r : List ℕ) → Copied 0 source target r r
copied_none source target r = record { there = λ j h. omega arith; before = λ x h. refl; behind = λ x h. refl }

module _ {size source target i : ℕ} {r s : List ℕ} (d : CopyReady size source target r) (l : i < size) (same : length s ≡ length r)
    (c : Copied i source target r s) where
  -- what is read has not been overwritten
  pub unread : at s (source + i) ≡ at r (source + i)
  unread = ⊎_elim (λ (e : source ≡ target). c.behind (source + i) (omega arith)) (λ (k : source + size ≤ target). c.before (source + i) (omega arith)) d.apart

  pub copied_more : (v : ℕ) → v ≡ at s (source + i) → Copied (i + 1) source target r (set s (target + i) v)
  copied_more v e = record {
    there = λ j h. ⊎_elim
        (λ (k : j < i). get_or-set_other s (target + i) (target + j) v 0 (λ q. omega arith) ∙ c.there j k)
        (λ (k : i ≤ j).
        let z : j ≡ i = omega arith in
        rw z (get_or-set_same s (target + i) v 0 (omega (arith, d.inside)) ∙ e ∙ unread))
        (below_or j i);
    before = λ x h. get_or-set_other s (target + i) x v 0 (λ q. omega arith) ∙ c.before x h;
    behind = λ x h. get_or-set_other s (target + i) x v 0 (λ q. omega arith) ∙ c.behind x (omega arith);
  }
