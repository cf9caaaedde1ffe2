-- Lists that a loop changes place by place, one value a turn.
--   placed_none, placed_more     one place more
--   placed_as                    the same values, told otherwise
use Rattle.std.specs.Prelude.{◌≡◌, refl, List, ℕ, ◌+◌, ◌*◌, ◌≤◌, ◌<◌, length, set}
use Rattle.std.proofs.Common.{subst, ◌∙◌, inl, inr, ⊎_elim, suc-mul, mul-le-mul_right, arith, get_or-set_same, get_or-set_other}
use Rattle.definitions.specs.Sums.{at}
use Rattle.theory.specs.Tests.{below_or}
use Rattle.ranked_theory.specs.Rows.{Placed}

-- row u of w numbers ends within the first h rows
pub row_in : (u h w : ℕ) → u < h → u * w + w ≤ h * w
row_in u h w l = rw suc-mul at (mul-le-mul_right w l)

pub at_next : (P : ℕ → Type 0) (i j : ℕ) → j < i + 1 → (j < i → P j) → P i → P j
at_next P i j l before now =
    ⊎_elim before (λ (g : i ≤ j). let e : i ≡ j = omega arith in subst P e now) (below_or j i)

-- ---- places

pub placed_none : (v : ℕ → ℕ) (base : ℕ) (xs : List ℕ) → Placed v base 0 xs xs
placed_none v base xs = record { inside = λ i l. omega arith; outside = λ j o. refl }

pub placed_more : {v : ℕ → ℕ} {base i : ℕ} {xs ys : List ℕ} → Placed v base i xs ys → (x : ℕ) → base + i < length ys → x ≡ v i
    → Placed v base (i + 1) xs (set ys (base + i) x)
placed_more {v} {base} {i} {xs} {ys} h x l e =
    record {
      inside = λ j lj.
          at_next (λ k. at (set ys (base + i) x) (base + k) ≡ v k) i j lj
          (λ o. get_or-set_other ys (base + i) (base + j) x 0 (λ q. omega arith) ∙ h.inside j o)
          (get_or-set_same ys (base + i) x 0 l ∙ e);
      outside = λ j o.
          get_or-set_other ys (base + i) j x 0 (λ q. ⊎_elim (λ a. omega arith) (λ a. omega arith) o)
          ∙ h.outside j (⊎_elim (λ a. inl a) (λ a. inr (omega arith)) o);
    }

pub placed_as : {v v' : ℕ → ℕ} {base count count' : ℕ} {xs ys : List ℕ} → Placed v base count xs ys → count ≡ count'
    → ((i : ℕ) → i < count → v i ≡ v' i) → Placed v' base count' xs ys
placed_as h e same =
    record {
      inside = λ i l. h.inside i (omega arith) ∙ same i (omega arith);
      outside = λ j o. h.outside j (⊎_elim (λ a. inl a) (λ a. inr (omega arith)) o);
    }
