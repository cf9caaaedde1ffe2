-- The exponential's step from the finished lower half of p controls to the whole of p + 1.
use mathlib.Core.Path.{◌≡◌, sym, ap, ◌∙◌}
use mathlib.Core.List.{List, ◌++◌}
use mathlib.Core.Logic.{⊎_elim}
use Prim.Native.Nat.{ℕ, suc, ◌+◌, ◌-◌, ◌%◌, ◌^◌, ◌<◌, ◌≤◌}
use native.Mathlib.Nat.{mod-eq_of_lt, mod-lt}
use native.Mathlib.Omega.{arith}
use lib.Arith.{lt-one}
use lib.ListN.{length, take, drop, set, length-drop, length-set, get_or-append}
use lib.Seq.{length-take-le, length_front, take_at, drop_at, get_or-set_same, get_or-take, get_or-drop, get_or-append-add}
use borrow.Rule.Slice.PartMut.{put_mid}
use Rattle.definitions.specs.Sums.{at}
use Rattle.definitions.specs.Products.{subset_table}
use Rattle.definitions.specs.Partitions.{exponential_table, all_ones}
use Rattle.theory.specs.Tests.{below_or}
use Rattle.theory.specs.Lists.{at-residues, residues_of}
use Rattle.theory.specs.Parts.{part_behind, put_behind}
use Rattle.theory.specs.Composition.{composition_empty}
use Rattle.theory.specs.Tables.{exponential_halves}
use Rattle.ranked_theory.specs.Layout.{rows_length, rows_mono}
use Rattle.ranked_theory.specs.Recursion.{Room, LaidOut, LaidBoth, BothReady, ProductOfBoth}
use Rattle.ranked_theory.specs.Tables.{laid_ready, still_laid}
use Rattle.exponential.specs.Ready.{Ready, upper_filled}

-- ---- the upper half

module _ {p m mid : ℕ} {t w : List ℕ} (e : mid ≡ 2 ^ p) (d : Ready (suc p) m t w) where
  room : rows_length p ≤ length w
  room = omega (arith, d.room, rows_mono p (suc p) (omega arith))

  -- the part that is lent
  abbrev upper : List ℕ
  upper = take (length t - mid) (drop mid t)

  lower_long : length (take mid t) ≡ 2 ^ p
  lower_long = length-take-le mid t (omega (arith, d.long)) ∙ e

  pub upper_long : length upper ≡ 2 ^ p
  upper_long = ap length (part_behind mid t) ∙ omega (arith, length-drop mid t, d.long)

  pub left_ready : Room p (take mid t) w
  left_ready = record { few = omega (arith, d.few); table = lower_long; long = room }

  pub right_ready : (rows : List ℕ) → length rows ≡ length w → Room p upper rows
  right_ready rows same = record { few = omega (arith, d.few); table = upper_long; long = omega (arith, room) }

  module _ {one both : List ℕ} (left : LaidOut p 0 (take mid t) w one) (right : LaidOut p 1 upper one both) where
    laid : LaidBoth p (take mid t) upper both
    laid = record { left = still_laid (take mid t) left.laid right (omega arith) (omega arith) (λ z. omega arith); right = right.laid }

    pub both_ready : length one ≡ length w → length both ≡ length one → BothReady m p both
    both_ready same same' =
        laid_ready (omega (arith, d.few)) (omega (arith, room)) laid
        (λ h l. let s : h < mid = omega arith in rw (get_or-take mid t h 0 s) (d.below h (omega arith)))
        (λ h l. rw (part_behind mid t, get_or-drop mid t h 0) (d.below (mid + h) (omega arith)))

    pub upper_filled_lem : (new : List ℕ) → ProductOfBoth m p both new → put_mid mid (length t - mid) t new ≡ upper_filled p m t
    upper_filled_lem new product =
        put_behind mid t new
        ∙ ap (λ (l : List ℕ). take mid t ++ l) (product (take mid t) upper laid ∙ ap (subset_table p m (take mid t)) (part_behind mid t))
        ∙ ap (λ (k : ℕ). take k t ++ subset_table p m (take k t) (drop k t)) e

-- ---- the recursion

-- one entry
pub single : {q m : ℕ} {t w : List ℕ} → q ≡ 0 → 1 < m → Ready q m t w → set t 0 1 ≡ exponential_table q m t
single {q} {m} {t} z two d =
    let one : length t ≡ 1 = d.long ∙ ap (λ (k : ℕ). 2 ^ k) z in
    rw z (residues_of 0 m (set t 0 1) _ (length-set t 0 1 ∙ one) (λ S h.
    let o : S ≡ 0 = lt-one h in
    rw o (get_or-set_same t 0 1 0 (omega arith) ∙ sym (ap (λ (k : ℕ). k % m) (composition_empty 0 all_ones (at t)) ∙ mod-eq_of_lt two))))

module _ {p q m mid : ℕ} {t w : List ℕ} (back : q ≡ suc p) (e : mid ≡ 2 ^ p) (d : Ready q m t w) where
  two : 2 ^ q ≡ mid + mid
  two = ap (λ (k : ℕ). 2 ^ k) back ∙ omega arith

  pub half_in : mid ≤ length t
  half_in = omega (arith, two, d.long)

  pub half_long : mid ≡ length (take mid t)
  half_long = sym (length-take-le mid t half_in)

  pub first_ready : Ready p m (take mid t) w
  first_ready = record {
    few = omega (arith, d.few);
    long = sym half_long ∙ e;
    below = λ S h. let s : S < mid = omega arith in rw (get_or-take mid t S 0 s) (d.below S (omega (arith, two)));
    room = omega (arith, d.room, rows_mono p q (omega arith));
  }

  module _ {lower : List ℕ} (same-t : length lower ≡ length (take mid t)) (done : lower ≡ exponential_table p m (take mid t)) where
    lower-size : length lower ≡ mid
    lower-size = same-t ∙ sym half_long

    -- the upper half is still the table's
    entry_below : 1 < m → (S : ℕ) → S < 2 ^ suc p → at (lower ++ drop mid t) S < m
    entry_below pos S h = ⊎_elim
        (λ (s : S < mid).
        rw (get_or-append lower (drop mid t) 0 S (omega (arith, lower-size)), done, at-residues p m _ S (omega arith)) (mod-lt _ (omega arith)))
        (λ (s : mid ≤ S).
        let k : S ≡ length lower + (S - mid) = omega (arith, lower-size) in
        let j : mid + (S - mid) ≡ S = omega arith in
        rw (k, get_or-append-add lower (drop mid t) (S - mid) 0, get_or-drop mid t (S - mid) 0, j) (d.below S (omega (arith, two))))
        (below_or S mid)

    pub lower_done : 1 < m → (w' : List ℕ) → length w' ≡ length w → Ready (suc p) m (lower ++ drop mid t) w'
    lower_done pos w' same_w = record {
      few = omega (arith, d.few);
      long = length_front t lower mid same-t ∙ d.long ∙ ap (λ (k : ℕ). 2 ^ k) back;
      below = entry_below pos;
      room = omega (arith, d.room, rows_mono (suc p) q (omega arith));
    }

    pub both_halves : {l : List ℕ} → l ≡ upper_filled p m (lower ++ drop mid t) → l ≡ exponential_table q m t
    both_halves filled =
        filled
        ∙ ap (λ (k : ℕ). take k (lower ++ drop mid t) ++ subset_table p m (take k (lower ++ drop mid t)) (drop k (lower ++ drop mid t))) (sym e)
        ∙ rw (take_at lower (drop mid t) mid lower-size, drop_at lower (drop mid t) mid lower-size, done)
        (ap (λ (k : ℕ). exponential_table p m (take k t) ++ subset_table p m (exponential_table p m (take k t)) (drop k t)) e)
        ∙ sym (exponential_halves p m t) ∙ ap (λ (k : ℕ). exponential_table k m t) (sym back)
