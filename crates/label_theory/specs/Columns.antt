-- The column of a set, and how long it is.
--   controls_below, kept_below   controls are below 16
--   labelled_few, labels_fit     a column has at most 143 bytes, so every line and every heading has 158
use Rattle.std.specs.Prelude.{refl, Bool, ℕ, suc, ◌*◌, ◌<◌, ◌≤◌, length, get_or}
use mathlib.Core.List.{List, [], ◌∷◌, map}
use native.Mathlib.Omega.{arith}
use Rattle.std.proofs.Math.ListN.{length-append}
use Rattle.definitions.specs.Limits.{most_controls}
use Rattle.definitions.specs.Sums.{tabulate, keep}
use Rattle.definitions.specs.Sheets.{label_of}
use Rattle.definitions.specs.Pages.{has, controls_of, joined, labels_of, labelled, label_layout}
use Rattle.theory.specs.Lists.{length-tabulate}
use Rattle.page_theory.specs.Codes.{keep_few, kept_rises}
use Rattle.page_theory.specs.Widths.{Fits, dash_few}
use Rattle.label_theory.specs.Labels.{GoodLabels}

-- ---- controls are below 16

abbrev pub AllBelow : ℕ → List ℕ → Type 0
AllBelow n [] = Unit {0}
AllBelow n (x ∷ xs) = (x < n) × AllBelow n xs

all_below_lem : (n : ℕ) (l : List ℕ) → ((i : ℕ) → i < length l → get_or l i 0 < n) → AllBelow n l
all_below_lem n [] h = tt
all_below_lem n (x ∷ l) h = (h 0 (omega arith), all_below_lem n l (λ i k. h (suc i) (omega arith)))

pub kept_below : (p : ℕ → Bool) (n : ℕ) → n ≤ most_controls → AllBelow most_controls (keep p (tabulate n (λ i. i)))
kept_below p n most = all_below_lem most_controls (keep p (tabulate n (λ i. i))) (λ i h. omega (arith, (kept_rises p n).below i h))

pub controls_below : (S : ℕ) → AllBelow most_controls (controls_of S)
unfolding controls_of
controls_below S = kept_below (has S) most_controls (omega arith)

-- ---- the labels of some controls

module _ (ls : List (List ℕ)) (good : GoodLabels ls) where
  joined_few : (c : ℕ) (cs : List ℕ) → AllBelow most_controls (c ∷ cs) → length (joined (map (label_of ls) (c ∷ cs))) < 9 * length (c ∷ cs)
  unfolding joined
  joined_few c [] b = omega (arith, (good.each c b.0).short)
  joined_few c (d ∷ cs) b =
      omega (arith, length-append (label_of ls c) (43 ∷ joined (map (label_of ls) (d ∷ cs))), (good.each c b.0).short, joined_few d cs b.1)

  all_few : (cs : List ℕ) → AllBelow most_controls cs → length cs ≤ most_controls → length (joined (map (label_of ls) cs)) ≤ 143
  unfolding joined
  all_few [] b l = omega arith
  all_few (c ∷ cs) b l = omega (arith, joined_few c cs b)

  pub labelled_few : (S : ℕ) → length (labelled ls S) ≤ 143
  unfolding labelled controls_of
  labelled_few S =
      dash_few S (joined (labels_of ls S)) 143
      (all_few (controls_of S) (controls_below S) (omega (arith, keep_few (has S) (tabulate most_controls (λ i. i)), length-tabulate most_controls (λ i. i))))
      (omega arith)

  -- every line and every heading has 158 bytes
  pub labels_fit : Fits (label_layout ls) 158
  labels_fit = record { columns = λ S h. labelled_few S; line_long = refl; heading_long = refl; wide = omega arith }
