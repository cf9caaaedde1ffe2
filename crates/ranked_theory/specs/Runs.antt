-- Runs in pieces: a run of one or two numbers as it is stored, four numbers, and a run after another.
--   run-one, run_two, placed_four     what stores of the right values make
--   first_ready, pair_ready           what one number of a run takes
--   run_join, later_ready             one run and the next; Running is the invariant of a loop over such pieces
--   run_over                          a run, and its last four numbers over it
use Rattle.std.specs.Prelude.{◌≡◌, refl, List, ℕ, zero, suc, ◌+◌, ◌-◌, ◌≤◌, ◌<◌, length, set}
use Rattle.std.proofs.Common.{sym, ap₂, subst, ◌∙◌, inl, inr, ⊎_elim, add-zero, add_assoc, le_antisymm, arith, length-set}
use Rattle.definitions.specs.Sums.{at}
use Rattle.theory.specs.Tests.{below_or}
use Rattle.ranked_theory.specs.Rows.{Placed, Run, RunReady, PairReady, Taken, of_four}
use Rattle.ranked_theory.specs.Places.{placed_none, placed_more, placed_as}

-- ---- one number of a run

pub first_ready : (m lo hi count : ℕ) (xs : List ℕ) → RunReady m lo hi count xs → 0 < count → PairReady m lo hi xs
first_ready m lo hi count xs h l =
    record {
      apart = omega (arith, h.apart);
      long = omega (arith, h.long);
      lower = subst (λ (j : ℕ). at xs j < m) (add-zero lo) (h.lower 0 l);
      upper = subst (λ (j : ℕ). at xs j < m) (add-zero hi) (h.upper 0 l);
    }

pub pair_ready : (m lo hi count i : ℕ) (xs : List ℕ) → RunReady m lo hi count xs → i < count → PairReady m (lo + i) (hi + i) xs
pair_ready m lo hi count i xs h l =
    record { apart = omega (arith, h.apart); long = omega (arith, h.long); lower = h.lower i l; upper = h.upper i l }

-- ---- some stores

module _ (op : ℕ → ℕ → ℕ) (lo hi : ℕ) (xs : List ℕ) where
  pub run_none : Run op lo hi 0 xs xs
  run_none = placed_none _ hi xs

  pub run-one : (x : ℕ) → hi + 1 ≤ length xs → x ≡ op (at xs hi) (at xs lo) → Run op lo hi 1 xs (set xs hi x)
  run-one x l e =
      subst (λ (k : ℕ). Run op lo hi 1 xs (set xs k x)) (add-zero hi)
      (placed_more run_none x (omega arith) (e ∙ sym (ap₂ (λ (j k : ℕ). op (at xs j) (at xs k)) (add-zero hi) (add-zero lo))))

  pub run_two : (x y : ℕ) → hi + 2 ≤ length xs → x ≡ op (at xs hi) (at xs lo) → y ≡ op (at xs (hi + 1)) (at xs (lo + 1))
      → Run op lo hi 2 xs (set (set xs hi x) (hi + 1) y)
  run_two x y l ex ey = placed_more (run-one x (omega arith) ex) y (omega (arith, length-set xs hi x)) ey

-- ---- four numbers

-- a store of two and of four is within the list
pub stores_within : (hi x y z : ℕ) (xs : List ℕ) → hi + 4 ≤ length xs
    → (hi + 1 < length (set xs hi x)) × (hi + 2 < length (set (set xs hi x) (hi + 1) y)) × (hi + 3 < length (set (set (set xs hi x) (hi + 1) y) (hi + 2) z))
stores_within hi x y z xs l =
    let n₁ = length-set xs hi x in
    let n₂ = length-set (set xs hi x) (hi + 1) y in
    let n₃ = length-set (set (set xs hi x) (hi + 1) y) (hi + 2) z in
    (omega arith, omega arith, omega arith)

pub placed_four : (a b c d hi : ℕ) (xs : List ℕ) → hi + 4 ≤ length xs
    → Placed (of_four a b c d) hi 4 xs (set (set (set (set xs hi a) (hi + 1) b) (hi + 2) c) (hi + 3) d)
placed_four a b c d hi xs l =
    let n = stores_within hi a b c xs l in
    let none = placed_none (of_four a b c d) hi xs in
    let one = subst (λ (k : ℕ). Placed (of_four a b c d) hi 1 xs (set xs k a)) (add-zero hi) (placed_more none a (omega arith) refl) in
    placed_more (placed_more (placed_more one b n.0 refl) c n.1 refl) d n.2 refl

module _ (op : ℕ → ℕ → ℕ) (lo hi : ℕ) (xs : List ℕ) (a b c d : ℕ) (t : Taken op lo hi xs a b c d) where
  taken_at : (i : ℕ) → i < 4 → of_four a b c d i ≡ op (at xs (hi + i)) (at xs (lo + i))
  taken_at zero l = t.first ∙ sym (ap₂ (λ (j k : ℕ). op (at xs j) (at xs k)) (add-zero hi) (add-zero lo))
  taken_at (suc zero) l = t.second
  taken_at (suc (suc zero)) l = t.third
  taken_at (suc (suc (suc zero))) l = t.fourth
  taken_at (suc (suc (suc (suc i)))) l = let no : ⊥ = omega arith in absurd no

  -- four numbers of a run over xs, stored in ys
  pub taken_placed : (ys zs : List ℕ) → Placed (of_four a b c d) hi 4 ys zs → Placed (λ i. op (at xs (hi + i)) (at xs (lo + i))) hi 4 ys zs
  taken_placed ys zs h = placed_as h refl taken_at

-- ---- one run and the next

pub run_join : (op : ℕ → ℕ → ℕ) (lo hi i c : ℕ) (xs ys zs : List ℕ) → Run op lo hi i xs ys → Run op (lo + i) (hi + i) c ys zs → lo + (i + c) ≤ hi
    → Run op lo hi (i + c) xs zs
run_join op lo hi i c xs ys zs r s apart =
    record {
      inside = λ j l.
          ⊎_elim
          (λ (lt : j < i). s.outside (hi + j) (inl (omega arith)) ∙ r.inside j lt)
          (λ (ge : i ≤ j).
          let p : hi + i + (j - i) ≡ hi + j = omega arith in
          let q : lo + i + (j - i) ≡ lo + j = omega arith in
          subst (λ (k : ℕ). at zs k ≡ op (at xs (hi + j)) (at xs (lo + j))) p
          (s.inside (j - i) (omega arith)
          ∙ ap₂ (λ (a b : ℕ). op (at ys a) (at ys b)) p q
          ∙ ap₂ op (r.outside (hi + j) (inr (omega arith))) (r.outside (lo + j) (inl (omega arith)))))
          (below_or j i);
      outside = λ j o.
          s.outside j (⊎_elim (λ l. inl (omega arith)) (λ l. inr (omega arith)) o)
          ∙ r.outside j (⊎_elim (λ l. inl l) (λ l. inr (omega arith)) o);
    }

pub later_ready : (op : ℕ → ℕ → ℕ) (m lo hi i c count : ℕ) (xs ys : List ℕ) → RunReady m lo hi count xs → Run op lo hi i xs ys → length ys ≡ length xs
    → i + c ≤ count → RunReady m (lo + i) (hi + i) c ys
later_ready op m lo hi i c count xs ys h r same fits =
    record {
      apart = omega (arith, h.apart);
      long = omega (arith, h.long);
      lower = λ j l.
          subst (λ (k : ℕ). at ys k < m) (sym (add_assoc lo i j))
          (subst (λ (x : ℕ). x < m) (sym (r.outside (lo + (i + j)) (inl (omega (arith, h.apart))))) (h.lower (i + j) (omega arith)));
      upper = λ j l.
          subst (λ (k : ℕ). at ys k < m) (sym (add_assoc hi i j))
          (subst (λ (x : ℕ). x < m) (sym (r.outside (hi + (i + j)) (inr (omega arith)))) (h.upper (i + j) (omega arith)));
    }

-- a run of fewer numbers, and a piece of a run
pub fewer_ready : (m lo hi count c : ℕ) (xs : List ℕ) → RunReady m lo hi count xs → c ≤ count → RunReady m lo hi c xs
fewer_ready m lo hi count c xs h l =
    record {
      apart = omega (arith, h.apart);
      long = omega (arith, h.long);
      lower = λ i k. h.lower i (omega arith);
      upper = λ i k. h.upper i (omega arith);
    }

pub piece_ready : (m lo hi i c count : ℕ) (xs : List ℕ) → RunReady m lo hi count xs → i + c ≤ count → RunReady m (lo + i) (hi + i) c xs
piece_ready m lo hi i c count xs h fits =
    record {
      apart = omega (arith, h.apart);
      long = omega (arith, h.long);
      lower = λ j l. subst (λ (k : ℕ). at xs k < m) (sym (add_assoc lo i j)) (h.lower (i + j) (omega arith));
      upper = λ j l. subst (λ (k : ℕ). at xs k < m) (sym (add_assoc hi i j)) (h.upper (i + j) (omega arith));
    }

-- the first i of a run, and then its last four as they are made of xs: they may overlap
pub run_over : (op : ℕ → ℕ → ℕ) (lo hi i last : ℕ) (xs ys zs : List ℕ) → Run op lo hi i xs ys
    → Placed (λ j. op (at xs (hi + last + j)) (at xs (lo + last + j))) (hi + last) 4 ys zs → last ≤ i → i ≤ last + 4 → Run op lo hi (last + 4) xs zs
run_over op lo hi i last xs ys zs r s from to =
    record {
      inside = λ j l.
          ⊎_elim
          (λ (lt : j < last). s.outside (hi + j) (inl (omega arith)) ∙ r.inside j (omega arith))
          (λ (ge : last ≤ j).
          let p : hi + last + (j - last) ≡ hi + j = omega arith in
          let q : lo + last + (j - last) ≡ lo + j = omega arith in
          subst (λ (k : ℕ). at zs k ≡ op (at xs (hi + j)) (at xs (lo + j))) p
          (s.inside (j - last) (omega arith) ∙ ap₂ (λ (a b : ℕ). op (at xs a) (at xs b)) p q))
          (below_or j last);
      outside = λ j o.
          s.outside j (⊎_elim (λ l. inl (omega arith)) (λ l. inr (omega arith)) o)
          ∙ r.outside j (⊎_elim (λ l. inl l) (λ l. inr (omega arith)) o);
    }

-- the invariant of a loop over pieces of a run
pub record Running (op : ℕ → ℕ → ℕ) (lo hi count : ℕ) (xs ys : List ℕ) (i : ℕ) : Type 0 where
  pub turn : i ≤ count
  pub long : length ys ≡ length xs
  pub done : Run op lo hi i xs ys

pub running_none : (op : ℕ → ℕ → ℕ) (lo hi count : ℕ) (xs : List ℕ) → Running op lo hi count xs xs 0
running_none op lo hi count xs = record { turn = omega arith; long = refl; done = run_none op lo hi xs }

pub running_more : (op : ℕ → ℕ → ℕ) (m lo hi count : ℕ) (xs ys zs : List ℕ) (i c : ℕ) → RunReady m lo hi count xs → Running op lo hi count xs ys i
    → Run op (lo + i) (hi + i) c ys zs → length zs ≡ length ys → i + c ≤ count → Running op lo hi count xs zs (i + c)
running_more op m lo hi count xs ys zs i c ready h run same fits =
    record {
      turn = fits;
      long = same ∙ h.long;
      done = run_join op lo hi i c xs ys zs h.done run (omega (arith, ready.apart));
    }

pub running_all : {op : ℕ → ℕ → ℕ} {lo hi count : ℕ} {xs ys : List ℕ} {i : ℕ} → Running op lo hi count xs ys i → count ≤ i → Run op lo hi count xs ys
running_all {op} {lo} {hi} {count} {xs} {ys} {i} h l = subst (λ (k : ℕ). Run op lo hi k xs ys) (le_antisymm h.turn l) h.done

pub run-counted : (op : ℕ → ℕ → ℕ) (lo hi c count : ℕ) (xs ys : List ℕ) → Run op lo hi c xs ys → c ≡ count → Run op lo hi count xs ys
run-counted op lo hi c count xs ys r e = subst (λ (k : ℕ). Run op lo hi k xs ys) e r
