-- One row: a coefficient as it is added up, and the coefficients as they are stored in the row itself.
--   term          the terms of a coefficient
--   Multiplying   the invariant of the loop over the coefficients
use Rattle.std.specs.Prelude.{◌≡◌, refl, List, ℕ, ◌+◌, ◌-◌, ◌*◌, ◌%◌, ◌≤◌, ◌<◌, length, set}
use Rattle.std.proofs.Common.{ap, ap₂, ◌∙◌, not-suc-le-zero, arith, length-set, get_or-set_same, get_or-set_other}
use Rattle.definitions.specs.Sums.{at}
use Rattle.theory.specs.Sums.{sum_ext}
use Rattle.ranked_theory.specs.Rows.{coefficient, coefficient_count, RanksWithin, WholeRow, Multiplied}
use Rattle.ranked_theory.specs.Places.{at_next}

abbrev pub term : ℕ → List ℕ → ℕ → ℕ
term t xs j = at xs (2 * (t - j)) * at xs (2 * j + 1)

-- ---- the coefficients, each stored where no later one looks

-- coefficients are stored up to e, and the ranks that coefficient e takes are as they were
pub record Multiplying (m n d : ℕ) (xs ys : List ℕ) (e : ℕ) : Type 0 where
  pub turn : e ≤ coefficient_count n d
  pub long : length ys ≡ length xs
  pub ranks : (i : ℕ) → i < e → at ys (2 * n - i) ≡ coefficient (d - i) xs % m
  pub kept : e ≤ d → (j : ℕ) → j < 2 * (d - e) + 2 → at ys j ≡ at xs j

module _ (m n d : ℕ) (xs : List ℕ) (ready : WholeRow n d xs) where
  pub multiplying_none : Multiplying m n d xs xs 0
  multiplying_none = record { turn = omega arith; long = refl; ranks = λ i l. absurd (not-suc-le-zero l); kept = λ l j h. refl }

  module _ (ys : List ℕ) (e : ℕ) (h : Multiplying m n d xs ys e) (l : e ≤ d) where
    pub ranks_within : RanksWithin (d - e) ys
    ranks_within =
        record {
          few = omega (arith, ready.few, ready.deep);
          long = omega (arith, ready.long, ready.deep, h.long);
        }

    same-coefficient : coefficient (d - e) ys ≡ coefficient (d - e) xs
    same-coefficient =
        sum_ext (d - e + 1) (term (d - e) ys) (term (d - e) xs)
        (λ j lj. ap₂ ◌*◌ (h.kept l (2 * (d - e - j)) (omega arith)) (h.kept l (2 * j + 1) (omega arith)))

    pub multiplying_more : e < coefficient_count n d → (x : ℕ) → x ≡ coefficient (d - e) ys % m → Multiplying m n d xs (set ys (2 * n - e) x) (e + 1)
    multiplying_more le x ex =
        let room = ready.deep in
        record {
          turn = omega arith;
          long = length-set ys (2 * n - e) x ∙ h.long;
          ranks = λ i li.
              at_next (λ k. at (set ys (2 * n - e) x) (2 * n - k) ≡ coefficient (d - k) xs % m) e i li
              (λ lt. get_or-set_other ys (2 * n - e) (2 * n - i) x 0 (λ q. omega arith) ∙ h.ranks i lt)
              (get_or-set_same ys (2 * n - e) x 0 (omega (arith, ready.long, h.long)) ∙ ex ∙ ap (λ (y : ℕ). y % m) same-coefficient);
          kept = λ l' j lj. get_or-set_other ys (2 * n - e) j x 0 (λ q. omega arith) ∙ h.kept l j (omega arith);
        }

  -- all of them, and the rank below d
  pub multiplying_all : (ys : List ℕ) (e : ℕ) → Multiplying m n d xs ys e → coefficient_count n d ≤ e → Multiplied m n d xs (set ys (2 * n + 1) 0)
  multiplying_all ys e h l =
      record {
        ranks = λ i li. get_or-set_other ys (2 * n + 1) (2 * n - i) 0 0 (λ q. omega arith) ∙ h.ranks i (omega arith);
        before = get_or-set_same ys (2 * n + 1) 0 0 (omega (arith, ready.long, h.long));
      }
