-- Rows that a loop changes, each over its row of the lower half.
--   run_in, run_out, run_ready         a run, by the places of its row
--   add_row, subtract_row              steps (1) and (2) for one row; row_ready_as, row-step-as: the size told otherwise
--   Passing                            the invariant of a loop over the rows
use Rattle.std.specs.Prelude.{◌≡◌, refl, List, ◌⊎◌, ℕ, ◌+◌, ◌-◌, ◌*◌, ◌^◌, ◌≤◌, ◌<◌, min, length}
use Rattle.std.proofs.Common.{sym, ap, subst, subst₂, ◌∙◌, inl, inr, ⊎_elim, not-suc-le-zero, le_antisymm, arith}
use Rattle.definitions.specs.Sums.{at}
use Rattle.ranked_theory.specs.Rows.{plus, minus, stored, Run, RunReady, Added, Subtracted, RowStep, RowReady, RowsStep, RowsReady, back_from, back_count}
use Rattle.ranked_theory.specs.Places.{row_in, at_next}

-- ---- a run in the row mid past row u, over the places from lo on of row u

module _ (op : ℕ → ℕ → ℕ) (shift w mid u a b lo count : ℕ) (xs ys : List ℕ) (ea : a ≡ u * w + lo) (eb : b ≡ mid + (u * w + (lo + shift)))
    (run : Run op a b count xs ys) where
  run_in : (r : ℕ) → lo + shift ≤ r → r < lo + shift + count → at ys (mid + (u * w + r)) ≡ op (at xs (mid + (u * w + r))) (at xs (u * w + (r - shift)))
  run_in r l h =
      let i = r - (lo + shift) in
      let p : b + i ≡ mid + (u * w + r) = omega arith in
      let q : a + i ≡ u * w + (r - shift) = omega arith in
      subst₂ (λ (j k : ℕ). at ys j ≡ op (at xs j) (at xs k)) p q (run.inside i (omega arith))

  run_out : (j : ℕ) → (j < mid + (u * w + (lo + shift))) ⊎ (mid + (u * w + (lo + shift + count)) ≤ j) → at ys j ≡ at xs j
  run_out j o = run.outside j (⊎_elim (λ l. inl (omega arith)) (λ l. inr (omega arith)) o)

-- a run of those places, or of some of them
pub run_ready : (m shift low most w mid u lo count a b : ℕ) (xs : List ℕ) → RowReady m shift low most w mid u xs → a ≡ u * w + lo
    → b ≡ mid + (u * w + (lo + shift)) → low ≤ lo → lo + count ≤ low + most → RunReady m a b count xs
run_ready m shift low most w mid u lo count a b xs h ea eb from upto =
    record {
      apart = omega (arith, h.row, h.lower);
      long = omega (arith, h.row, h.upper);
      lower = λ i l.
          let q : u * w + (lo + i) ≡ a + i = omega arith in
          subst (λ (j : ℕ). at xs j < m) q (h.lower_below (lo + i) (omega arith) (omega arith));
      upper = λ i l.
          let q : mid + (u * w + (lo + shift + i)) ≡ b + i = omega arith in
          subst (λ (j : ℕ). at xs j < m) q (h.upper_below (lo + shift + i) (omega arith) (omega arith));
    }

-- ---- step (1) for one row: all ranks but the lowest are added, and that is stored

pub add_row : (m d w mid u a b : ℕ) (xs ys zs : List ℕ) → RowReady m 2 0 (2 * d) w mid u xs → 2 * d + 4 ≤ w → a ≡ u * w → b ≡ mid + u * w + 2
    → Run (plus m) a b (2 * d) xs ys → Run stored (a + 2 * d) (b + 2 * d) 2 ys zs → RowStep (Added m d) 2 w mid u xs zs
add_row m d w mid u a b xs ys zs ready room ea eb run pair =
    let c = 2 * d in
    let run_at = run_in (plus m) 2 w mid u a b 0 c xs ys (omega arith) (omega arith) run in
    let run-not = run_out (plus m) 2 w mid u a b 0 c xs ys (omega arith) (omega arith) run in
    let pair-at = run_in stored 2 w mid u (a + c) (b + c) c 2 ys zs (omega arith) (omega arith) pair in
    let pair-not = run_out stored 2 w mid u (a + c) (b + c) c 2 ys zs (omega arith) (omega arith) pair in
    record {
      here = λ r lr.
          record {
            highest = λ h. pair-not (mid + (u * w + r)) (inl (omega arith)) ∙ run-not (mid + (u * w + r)) (inl (omega arith));
            sums = λ l h. pair-not (mid + (u * w + r)) (inl (omega arith)) ∙ run_at r (omega arith) (omega arith);
            lowest = λ l h.
                pair-at r (omega arith) (omega arith) ∙ run-not (u * w + (r - 2)) (inl (omega (arith, ready.lower, lr)));
          };
      elsewhere = λ j o.
          pair-not j (⊎_elim (λ l. inl (omega arith)) (λ l. inr (omega arith)) o)
          ∙ run-not j (⊎_elim (λ l. inl (omega arith)) (λ l. inr (omega arith)) o);
    }

-- ---- step (2) for one row, where s is the size of its set and k how many ranks past that are taken

pub subtract_row : (m s e w mid u k : ℕ) (xs : List ℕ) → RowReady m 1 (back_from w e s) (back_count e s) w mid u xs
    → k ≡ min e s → (a b : ℕ) (ys : List ℕ) → a ≡ u * w + (w - 2 - k) → b ≡ mid + a + 1 → Run (minus m) a b (k + 1) xs ys
    → RowStep (Subtracted m w e s) 1 w mid u xs ys
subtract_row m s e w mid u k xs ready ek a b ys ea eb run =
    let run_at = run_in (minus m) 1 w mid u a b (w - 2 - k) (k + 1) xs ys ea (omega arith) run in
    let run-not = run_out (minus m) 1 w mid u a b (w - 2 - k) (k + 1) xs ys ea (omega arith) run in
    let fits : k + 2 ≤ w = omega (arith, ready.row) in
    record {
      here = λ r lr.
          record {
            within = λ h. run_at r (omega arith) (omega arith);
            without = λ h. run-not (mid + (u * w + r)) (inl (omega arith));
          };
      elsewhere = λ j o. run-not j (⊎_elim (λ l. inl (omega arith)) (λ l. inr (omega arith)) o);
    }

-- the size, told otherwise
module _ {s t : ℕ} (same : s ≡ t) (e : ℕ) {m w mid u : ℕ} {xs : List ℕ} where
  pub row_ready_as : RowReady m 1 (back_from w e s) (back_count e s) w mid u xs → RowReady m 1 (back_from w e t) (back_count e t) w mid u xs
  row_ready_as h = subst (λ (k : ℕ). RowReady m 1 (back_from w e k) (back_count e k) w mid u xs) same h

  pub row_step_as : {ys : List ℕ} → RowStep (Subtracted m w e s) 1 w mid u xs ys → RowStep (Subtracted m w e t) 1 w mid u xs ys
  row_step_as {ys} h = subst (λ (k : ℕ). RowStep (Subtracted m w e k) 1 w mid u xs ys) same h

-- ---- a loop over the rows

module _ (P : ℕ → ℕ → ℕ → ℕ → ℕ → Type 0) (shift w mid : ℕ) where
  pub rows_none : (xs : List ℕ) → RowsStep P shift w mid 0 xs xs
  rows_none xs = record { changed = λ u r lu lr. absurd (not-suc-le-zero lu); lower = λ j l. refl; rest = λ j l. refl }

  pub rows_more : (h : ℕ) (xs ys zs : List ℕ) → RowsStep P shift w mid h xs ys → RowStep (P h) shift w mid h ys zs → h * w + w ≤ mid → RowsStep P shift w mid (h + 1) xs zs
  rows_more h xs ys zs s t fits =
      record {
        changed = λ u r lu lr.
            at_next (λ k. P k r (at xs (mid + (k * w + r))) (at xs (k * w + (r - shift))) (at zs (mid + (k * w + r)))) h u lu
            (λ lt.
            let b = row_in u h w lt in
            subst (P u r (at xs (mid + (u * w + r))) (at xs (u * w + (r - shift)))) (sym (t.elsewhere (mid + (u * w + r)) (inl (omega arith)))) (s.changed u r lt lr))
            (subst (λ (y : ℕ). P h r (at xs (mid + (h * w + r))) y (at zs (mid + (h * w + r)))) (s.lower (h * w + (r - shift)) (omega arith))
            (subst (λ (x : ℕ). P h r x (at ys (h * w + (r - shift))) (at zs (mid + (h * w + r)))) (s.rest (mid + (h * w + r)) (omega arith)) (t.here r lr)));
        lower = λ j l. t.elsewhere j (inl (omega arith)) ∙ s.lower j l;
        rest = λ j l.
            let e : (h + 1) * w ≡ h * w + w = omega arith in
            t.elsewhere j (inr (omega arith)) ∙ s.rest j (omega arith);
      }

-- the invariant of a loop that changes row mid + u in turn u
pub record Passing (P : ℕ → ℕ → ℕ → ℕ → ℕ → Type 0) (shift w p half mid : ℕ) (xs ys : List ℕ) (u : ℕ) : Type 0 where
  pub half_is : half ≡ 2 ^ p
  pub mid_is : mid ≡ 2 ^ p * w
  pub turn : u ≤ half
  pub long : length ys ≡ length xs
  pub done : RowsStep P shift w mid u xs ys

pub passing_none : (P : ℕ → ℕ → ℕ → ℕ → ℕ → Type 0) (shift w p half : ℕ) (xs : List ℕ) → half ≡ 2 ^ p → Passing P shift w p half (half * w) xs xs 0
passing_none P shift w p half xs e =
    record { half_is = e; mid_is = ap (λ (h : ℕ). h * w) e; turn = omega arith; long = refl; done = rows_none P shift w (half * w) xs }

pub passing_ready : {P : ℕ → ℕ → ℕ → ℕ → ℕ → Type 0} {shift w p half mid : ℕ} {xs ys : List ℕ} {u : ℕ} (m : ℕ) (lo count : ℕ → ℕ) → RowsReady m shift lo count w p xs
    → Passing P shift w p half mid xs ys u → u < half → RowReady m shift (lo u) (count u) w mid u ys
passing_ready {w = w} {p} {half} {mid} {xs} {ys} {u} m lo count ready h l =
    let b = row_in u (2 ^ p) w (omega (arith, h.half_is)) in
    let e = h.mid_is in
    record {
      row = ready.row u (omega (arith, h.half_is));
      lower = omega arith;
      upper = omega (arith, h.long, ready.long);
      lower_below = λ r lr hr.
          subst (λ (x : ℕ). x < m) (sym (h.done.lower (u * w + r) (omega (arith, ready.row u (omega (arith, h.half_is))))))
          (ready.lower_below u r (omega (arith, h.half_is)) lr hr);
      upper_below = λ r lr hr.
          subst (λ (x : ℕ). x < m) (sym (h.done.rest (mid + (u * w + r)) (omega arith)))
          (subst (λ (k : ℕ). at xs (k + (u * w + r)) < m) (sym e) (ready.upper_below u r (omega (arith, h.half_is)) lr hr));
    }

pub passing_more : {P : ℕ → ℕ → ℕ → ℕ → ℕ → Type 0} {shift w p half mid : ℕ} {xs ys zs : List ℕ} {u : ℕ} → Passing P shift w p half mid xs ys u → u < half
    → RowStep (P u) shift w mid u ys zs → length zs ≡ length ys → Passing P shift w p half mid xs zs (u + 1)
passing_more {P} {shift} {w} {p} {half} {mid} {xs} {ys} {zs} {u} h l step same =
    let b = row_in u (2 ^ p) w (omega (arith, h.half_is)) in
    record {
      half_is = h.half_is;
      mid_is = h.mid_is;
      turn = omega arith;
      long = same ∙ h.long;
      done = rows_more P shift w mid u xs ys zs h.done step (omega (arith, h.mid_is));
    }

pub passing_all : {P : ℕ → ℕ → ℕ → ℕ → ℕ → Type 0} {shift w p half mid : ℕ} {xs ys : List ℕ} {u : ℕ} → Passing P shift w p half mid xs ys u → half ≤ u
    → RowsStep P shift w (2 ^ p * w) (2 ^ p) xs ys
passing_all {P} {shift} {w} {p} {half} {mid} {xs} {ys} {u} h l =
    subst₂ (λ (k v : ℕ). RowsStep P shift w k v xs ys) h.mid_is (le_antisymm h.turn l ∙ h.half_is) h.done
