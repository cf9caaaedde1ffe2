-- One level of the recursion as its code goes: q controls, p below the top one, rows of w numbers, mid where the upper half starts.
use Rattle.std.specs.Prelude.{◌≡◌, refl, List, ◌++◌, ℕ, zero, suc, ◌+◌, ◌-◌, ◌*◌, ◌^◌, ◌≤◌, ◌<◌, length, take, drop}
use Rattle.std.proofs.Common.{sym, ap, subst, ◌∙◌, sub-one, arith, length-drop}
use borrow.Rule.Slice.PartMut.{put_mid}
use Rattle.ranked_theory.specs.Rows.{WholeRow, Multiplied}
use Rattle.ranked_theory.specs.Layout.{width}
use Rattle.ranked_theory.specs.Recursion.{Ready, Worked}
use Rattle.ranked_theory.proofs.Levels as level
use Rattle.ranked_theory.specs.Halves.{first_length, both-length, second, joined}
use Rattle.ranked_theory.specs.Turns.{Down, Up, UpReady, TakenBelow, Level}

level_of_lem : (m n p d : ℕ) (xs : List ℕ) → 0 < m → Ready m n (suc p) d xs → Level m n (suc p) p d (2 ^ p * width n) (width n) xs
level_of_lem m n p d xs pos ready =
    record {
      long = level.long m n p d pos xs ready;
      down_ready = level.down_ready m n p d pos xs ready;
      down_room = level.down_room m n p d pos xs ready;
      first_ready = level.first_ready m n p d pos xs ready;
      second_ready = level.second_ready m n p d pos xs ready;
      up_ready = λ ys l k down same. level.up_ready m n p d pos xs ready ys down same l k;
      up = λ ys l k zs down same first second ll lk. level.up m n p d pos xs ready ys down same l k first ll lk second zs;
    }

pub turn : (m n q d half w : ℕ) (xs : List ℕ) → 0 < m → (q ≡ 0 → ⊥) → half ≡ 2 ^ (q - 1) → w ≡ width n → Ready m n q d xs → Level m n q (q - 1) d (half * w) w xs
turn m n zero d half w xs pos some eh ew ready = absurd (some refl)
turn m n (suc p) d half w xs pos some eh ew ready =
    let e : suc p - 1 ≡ p = sub-one (suc p) in
    subst (λ (k : ℕ). Level m n (suc p) k d (half * w) w xs) (sym e)
    (subst (λ (h : ℕ). Level m n (suc p) p d (h * w) w xs) (sym (eh ∙ ap (λ (k : ℕ). 2 ^ k) e))
    (subst (λ (v : ℕ). Level m n (suc p) p d (2 ^ p * v) v xs) (sym ew) (level_of_lem m n p d xs pos ready)))

-- one entry: no control is left
pub leaf_row : (m n q d : ℕ) (xs : List ℕ) → q ≡ 0 → Ready m n q d xs → WholeRow n d xs
leaf_row m n q d xs e ready = level.leaf_row m n d xs (subst (λ (k : ℕ). Ready m n k d xs) e ready)

pub leaf : (m n q d : ℕ) (xs ys : List ℕ) → 0 < m → q ≡ 0 → Ready m n q d xs → Multiplied m n d xs ys → Worked m n q d xs ys
leaf m n q d xs ys pos e ready made =
    subst (λ (k : ℕ). Worked m n k d xs ys) (sym e) (level.leaf m n d xs (subst (λ (k : ℕ). Ready m n k d xs) e ready) pos ys made)

-- ---- the two calls, on the halves as they are lent

-- with fewer controls above, fewer ranks have to be residues
ready_less : {m n q d t : ℕ} {xs : List ℕ} → t ≤ d → Ready m n q d xs → Ready m n q t xs
ready_less h ready =
    record {
      few = ready.few;
      room = omega (arith, ready.room);
      long = ready.long;
      filled = λ u r lu lr. ready.filled u r lu (omega arith);
    }

module _ (m n q p d mid w : ℕ) (xs : List ℕ) (level : Level m n q p d mid w xs) (ys : List ℕ) (down : Down m p d w xs ys) (same : length ys ≡ length xs) where
  ys_long : length ys ≡ mid + mid
  ys_long = same ∙ level.long

  pub mid_fits : mid ≤ length ys
  mid_fits = omega (arith, ys_long)

  pub first_long : length (take mid ys) ≡ mid
  first_long = lib.Seq.length-take-le mid ys mid_fits

  module _ (l : List ℕ) (kept : length l ≡ length (take mid ys)) where
    -- the list while the first half has come back
    abbrev between : List ℕ
    between = l ++ drop mid ys

    pub mid_in : mid ≤ length between
    mid_in = omega (arith, both-length mid ys l ys_long kept)

    second_is : take (length between - mid) (drop mid between) ≡ drop mid ys
    second_is = second mid ys l ys_long kept

    pub lent_ready : (t : ℕ) → t ≤ d + 1 → Ready m n p t (take (length between - mid) (drop mid between))
    lent_ready t h = ready_less h (subst (Ready m n p (d + 1)) (sym second_is) (level.second_ready ys down same))

    module _ (first : Worked m n p d (take mid ys) l) (k : List ℕ) (kept-k : length k ≡ length (take (length between - mid) (drop mid between))) where
      k_long : length k ≡ mid
      k_long = kept-k ∙ ap length second_is ∙ length-drop mid ys ∙ omega (arith, ys_long)

      l_long : length l ≡ mid
      l_long = first_length mid ys l ys_long kept

      whole : put_mid mid (length between - mid) between k ≡ l ++ k
      whole = joined mid ys l ys_long kept k

      pub back_ready : TakenBelow m n p d k → UpReady m n p d w (put_mid mid (length between - mid) between k)
      back_ready below = subst (UpReady m n p d w) (sym whole) (level.up_ready ys l k down same first l_long k_long below)

      pub done : Worked m n p (d + 1) (take (length between - mid) (drop mid between)) k → (zs : List ℕ)
          → Up m n p d w (put_mid mid (length between - mid) between k) zs → Worked m n q d xs zs
      done back zs up =
          let second : Worked m n p (d + 1) (drop mid ys) k = subst (λ (v : List ℕ). Worked m n p (d + 1) v k) second_is back in
          level.up ys l k zs down same first second l_long k_long (subst (λ (v : List ℕ). Up m n p d w v zs) whole up)
