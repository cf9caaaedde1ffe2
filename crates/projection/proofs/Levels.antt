-- One level from the one above, and all levels.
use mathlib.Core.Path.{◌≡◌, refl, sym, ap, ap₂, subst, ◌∙◌}
use mathlib.Core.List.{List}
use mathlib.Core.Logic.{⊎_elim}
use Prim.Native.Nat.{ℕ, suc, ◌+◌, ◌-◌, ◌*◌, ◌%◌, ◌^◌, ◌<◌, ◌≤◌}
use native.Mathlib.Nat.{mod-lt, mod-mod}
use native.Mathlib.Numerals.{add-one}
use native.Mathlib.Omega.{arith}
use lib.ListN.{length, take, drop}
use lib.Pow.{pow_mono, pow_pos}
use borrow.Rule.Slice.PartMut.{mid_len, put_mid, same_len_mid}
use Rattle.definitions.specs.Sums.{at}
use Rattle.definitions.specs.Products.{subset_sum}
use Rattle.definitions.specs.Projection.{projection_entry, projection_row}
use Rattle.definitions.specs.Refusals.{cleared}
use Rattle.theory.specs.Tests.{below_or}
use Rattle.theory.specs.Lists.{filled, filled_at, tabulate_of}
use Rattle.theory.specs.Parts.{at_part}
use Rattle.theory.specs.Powers.{more_than, slots_fit, two_slots}
use Rattle.theory.specs.Halves.{Row}
use Rattle.theory.specs.Series.{subset_mod}
use Rattle.ranked_theory.specs.Rows.{Placed}
use Rattle.ranked_theory.specs.Places as runs
use Rattle.ranked_theory.specs.Layout.{rows_length, rows_mono}
use Rattle.projection_theory.specs.Pairing.{paired, paired-mod}
use Rattle.projection_theory.specs.Levels.{paired_all, Same, same_tables, turn_none, top, bottom}
use Rattle.projection_theory.proofs.Turns.{turn}
use Rattle.projection.specs.Places.{TurnReady, TurnMade}
use Rattle.projection.specs.Levels.{slots, Residues, Areas, LevelReady, LevelMade, Ready}
use Rattle.projection.proofs.Places.{untouched}
use Rattle.ranked_within.proofs.Products.{part_placed}

-- ---- one level: table 0 starts out as zeros

module _ {m n k source target : ℕ} {b w : List ℕ} (d : LevelReady m n k source target b w) where
  fewer : 2 ^ k ≤ 2 ^ n
  fewer = pow_mono (omega (arith, d.more))

  -- v is w with zeros there
  module _ {v : List ℕ} (p : Placed (λ x. 0) target (2 ^ k) w v) (long : length v ≡ length w) where
    read_kept : (x : ℕ) → x < 2 ^ n → at v (source + x) ≡ at w (source + x)
    read_kept x h = untouched p (source + x) (λ y t q. d.areas.apart x y h (omega (arith, fewer)) q)

    slots_kept : (i S : ℕ) → i < n - k → S < 2 ^ suc k → slots (suc k) source v i S ≡ slots (suc k) source w i S
    slots_kept i S l h =
        read_kept (i * 2 ^ suc k + S) (let fit = slots_fit n k i (omega arith) in omega (arith, two_slots i k))

    pub zeroed : LevelReady m n k source target b v
    zeroed = record {
      few = d.few;
      more = d.more;
      long = d.long;
      below = d.below;
      areas = subst (Areas n source target) (sym long) d.areas;
      filled = λ i S l h. rw (slots_kept i S l h) (d.filled i S l h);
    }

    pub level_from : {s : List ℕ} → LevelMade m n k source target b v s → LevelMade m n k source target b w s
    level_from t = record { filled = t.filled; same = same_tables t.same slots_kept }

-- ---- one level: a table a turn

-- what i turns have made of w₀, which is the workspace as it came with zeros for the first table
pub record Turning (m n k source target : ℕ) (b lent w₀ : List ℕ) (i : ℕ) (w : List ℕ) : Type 0 where
  pub ready : LevelReady m n k source target b w₀
  pub zeros : Placed (λ x. 0) target (2 ^ k) lent w₀
  pub as_lent : length w₀ ≡ length lent
  pub long : length w ≡ length w₀
  pub kept : (x : ℕ) → x < 2 ^ n → at w (source + x) ≡ at w₀ (source + x)
  pub filled : Residues m k (suc i) target w
  pub same : Same m k (suc i) (slots k target w) (suc k) i (slots (suc k) source w₀) (at b)

module _ {m n k source target size end : ℕ} {b w : List ℕ} (d : LevelReady m n k source target b w) (e : size ≡ 2 ^ k) (stop : end ≡ target + size) where
  -- the part of the workspace that is cleared, up to `end`
  pub zeros_in : end ≤ length w
  zeros_in = omega (arith, fewer d, d.areas.target_in)

  abbrev part : List ℕ
  part = take (end - target) (drop target w)

  many : length part ≡ size
  many = omega (arith, mid_len target end w zeros_in)

  pub zeros_fit : size ≤ length part
  zeros_fit = omega (arith, many)

  -- and has come back
  module _ {new : List ℕ} (is : new ≡ cleared size part) (kept : length new ≡ length part) where
    pub zeros-placed : Placed (λ x. 0) target (2 ^ k) w (put_mid target (end - target) w new)
    unfolding cleared filled
    zeros-placed =
        runs.placed_as (part_placed target end w new (omega arith) zeros_in (kept ∙ mid_len target end w zeros_in)) (let z : end - target ≡ 2 ^ k = omega arith in z)
        (λ i h. ap (λ (l : List ℕ). at l i) is ∙ filled_at (λ x. 0) size _ i (omega arith))

    pub zeros_long : length (put_mid target (end - target) w new) ≡ length w
    zeros_long = same_len_mid target (end - target) w new kept

    pub turning_none : 0 < m → let v = put_mid target (end - target) w new in Turning m n k source target b w v 0 v
    turning_none pos =
        let v : List ℕ = put_mid target (end - target) w new in
        let zero-at : (S : ℕ) → S < 2 ^ k → slots k target v 0 S ≡ 0 =
        λ S h. ap (at v) (let z : target + (0 * 2 ^ k + S) ≡ target + S = omega arith in z) ∙ zeros-placed.inside S h in
        record {
          ready = zeroed d zeros-placed zeros_long;
          zeros = zeros-placed;
          as_lent = zeros_long;
          long = refl;
          kept = λ x h. refl;
          filled = λ i S t h. let z : i ≡ 0 = omega arith in rw z (subst (λ (x : ℕ). x < m) (sym (zero-at S h)) pos);
          same = turn_none m k (at b) (slots (suc k) source v) (slots k target v) zero-at;
        }

module _ {m n k source target size i : ℕ} {b lent w₀ w : List ℕ} (e : size ≡ 2 ^ k) (o : Turning m n k source target b lent w₀ i w) where
  -- where the turn reads and writes
  abbrev lower : ℕ
  lower = source + 2 * (i * size)

  abbrev here : ℕ
  here = target + i * size

  lower_is : lower ≡ source + 2 * (i * 2 ^ k)
  lower_is = ap (λ (x : ℕ). source + 2 * (i * x)) e

  here_is : here ≡ target + i * 2 ^ k
  here_is = ap (λ (x : ℕ). target + i * x) e

  module _ (more : i < n - k) where
    fit : 2 * (suc i * 2 ^ k) ≤ 2 ^ n
    fit = slots_fit n k i (omega arith)

    rows : rows_length k ≤ rows_length n
    rows = rows_mono k n (omega (arith, o.ready.more))

    -- the table of k + 1 controls that is read, as it came
    old : (x : ℕ) → x < 2 ^ suc k → at w (lower + x) ≡ slots (suc k) source w₀ i x
    old x h =
        let place : lower + x ≡ source + (2 * (i * 2 ^ k) + x) = omega (arith, lower_is) in
        let slot : source + (2 * (i * 2 ^ k) + x) ≡ source + (i * 2 ^ suc k + x) = omega (arith, two_slots i k) in
        ap (at w) place ∙ o.kept (2 * (i * 2 ^ k) + x) (omega (arith, fit)) ∙ ap (at w₀) slot

    pub turn_inside : lower + here ≤ 2 * length w
    turn_inside = omega (arith, fit, lower_is, here_is, o.long, o.ready.areas.source_in, o.ready.areas.target_in)

    pub turn_ready : TurnReady m k lower here b w
    turn_ready =
        let l : 2 ^ suc k ≤ 2 ^ n = pow_mono o.ready.more in
        record {
          few = omega (arith, o.ready.few, o.ready.more);
          entries = omega (arith, o.ready.long);
          below = λ S h. o.ready.below S (omega arith);
          lower_behind = omega (arith, rows, lower_is, o.ready.areas.source_behind);
          here_behind = omega (arith, rows, here_is, o.ready.areas.target_behind);
          lower_in = omega (arith, fit, lower_is, o.long, o.ready.areas.source_in);
          here_in = omega (arith, fit, here_is, o.long, o.ready.areas.target_in);
          apart = λ x y hx hy q.
              o.ready.areas.apart (2 * (i * 2 ^ k) + x) (i * 2 ^ k + y) (omega (arith, fit)) (omega (arith, fit)) (omega (arith, lower_is, here_is));
          lower_below = λ x h. rw (old x h) (o.ready.filled i x more h);
          here_below = λ x h.
              let place : here + x ≡ target + (i * 2 ^ k + x) = omega (arith, here_is) in
              rw place (o.filled i x (omega arith) h);
        }

    module _ (pos : 0 < m) {s : List ℕ} (t : TurnMade m k lower here b w s) where
      stands : (j S : ℕ) → j < i → S < 2 ^ k → slots k target s j S ≡ slots k target w j S
      stands j S l h =
          let before = runs.row_in j i (2 ^ k) l in
          t.rest (target + (j * 2 ^ k + S)) (omega (arith, rows, o.ready.areas.target_behind)) (λ y g q. omega (arith, here_is))

      here_at : (S : ℕ) → S < 2 ^ k → slots k target s i S ≡ (slots k target w i S + slots (suc k) source w₀ i (2 ^ k + S)) % m
      here_at S h =
          let place : target + (i * 2 ^ k + S) ≡ here + S = omega (arith, here_is) in
          ap (at s) place ∙ t.added S h ∙ ap₂ (λ (x y : ℕ). (x + y) % m) (ap (at w) (sym place)) (old (2 ^ k + S) (omega arith))

      next-at : (S : ℕ) → S < 2 ^ k → slots k target s (suc i) S ≡ subset_sum k (slots (suc k) source w₀ i) (λ x. at b (2 ^ k + x)) S % m
      next-at S h =
          let place : target + (suc i * 2 ^ k + S) ≡ here + (2 ^ k + S) = omega (arith, here_is) in
          ap (at s) place ∙ t.next S h
          ∙ subset_mod k m _ (λ x. at b (2 ^ k + x)) (slots (suc k) source w₀ i) (λ x. at b (2 ^ k + x))
          (λ x l. ap (λ (y : ℕ). y % m) (old x (omega arith))) (λ x l. refl) S h

      filled_more : Residues m k (suc (suc i)) target s
      filled_more j S l h =
          ⊎_elim (λ (g : j < i). subst (λ (x : ℕ). x < m) (sym (stands j S g h)) (o.filled j S (omega arith) h))
          (λ (g : i ≤ j).
          ⊎_elim (λ (a : j < suc i). let z : j ≡ i = omega arith in rw z (subst (λ (x : ℕ). x < m) (sym (here_at S h)) (mod-lt _ pos)))
          (λ (a : suc i ≤ j). let z : j ≡ suc i = omega arith in rw z (subst (λ (x : ℕ). x < m) (sym (next-at S h)) (mod-lt _ pos)))
          (below_or j (suc i))) (below_or j i)

      pub turning_more : length s ≡ length w → Turning m n k source target b lent w₀ (i + 1) s
      turning_more long = subst (λ (j : ℕ). Turning m n k source target b lent w₀ j s) (sym (add-one i)) (record {
        ready = o.ready;
        zeros = o.zeros;
        as_lent = o.as_lent;
        long = long ∙ o.long;
        kept = λ x h.
            t.rest (source + x) (omega (arith, rows, o.ready.areas.source_behind))
            (λ y g q. o.ready.areas.apart x (i * 2 ^ k + y) h (omega (arith, fit)) (omega (arith, here_is)))
            ∙ o.kept x h;
        filled = filled_more;
        same = turn m k (at b) (slots (suc k) source w₀) i (slots k target w) (slots k target s) stands
            (λ S h. ap (λ (x : ℕ). x % m) (here_at S h) ∙ mod-mod _ m) (λ S h. ap (λ (x : ℕ). x % m) (next-at S h) ∙ mod-mod _ m) o.same;
      })

pub level_made : {m n k source target : ℕ} {b lent w₀ : List ℕ} {i : ℕ} {w : List ℕ}
    → LevelReady m n k source target b lent → Turning m n k source target b lent w₀ i w → i ≡ n - k → LevelMade m n k source target b lent w
level_made {m} {k = k} {source} {target} {b} {w₀ = w₀} {w = w} d o z = level_from d o.zeros o.as_lent (record {
  filled = subst (λ (j : ℕ). Residues m k (suc j) target w) z o.filled;
  same = subst (λ (j : ℕ). Same m k (suc j) (slots k target w) (suc k) j (slots (suc k) source w₀) (at b)) z o.same;
})

-- ---- all levels

-- what the levels have so far: the tables of k controls have a's value, whatever the row
pub record Projecting (m n : ℕ) (a b : List ℕ) (long k source target : ℕ) (w : List ℕ) : Type 0 where
  pub left : k ≤ n
  pub same_long : length w ≡ long
  pub areas : Areas n source target long
  pub filled : Residues m k (suc (n - k)) source w
  pub same : (f : Row) → paired_all k (suc (n - k)) (slots k source w) f (at b) % m ≡ paired n (at a) f (at b) % m

module _ {m n : ℕ} {a b r w₀ : List ℕ} (d : Ready m n a b r w₀) where
  -- a is copied to the first area, which ends where the second begins
  module _ {first size second : ℕ} (e : first ≡ rows_length n) (many : size ≡ 2 ^ n) (stop : second ≡ first + size) where
    pub table_in : second ≤ length w₀
    table_in = omega (arith, d.room)

    many_entries : second - first ≡ 2 ^ n
    many_entries = omega arith

    pub table_fits : length (take (second - first) (drop first w₀)) ≡ length a
    table_fits = omega (arith, d.left, mid_len first second w₀ table_in)

    pub projecting_first : {new : List ℕ} → new ≡ a → Projecting m n a b (length w₀) n first second (put_mid first (second - first) w₀ new)
    projecting_first {new} is =
        let w : List ℕ = put_mid first (second - first) w₀ new in
        let long : length w ≡ length w₀ = same_len_mid first (second - first) w₀ new (ap length is ∙ sym table_fits) in
        let p : Placed (at new) first (second - first) w₀ w =
        part_placed first second w₀ new (omega arith) table_in (ap length is ∙ d.left ∙ sym many_entries) in
        let entry : (S : ℕ) → S < 2 ^ n → slots n first w 0 S ≡ at a S =
        λ S h.
        let place : first + (0 * 2 ^ n + S) ≡ first + S = omega arith in
        ap (at w) place ∙ p.inside S (omega arith) ∙ ap (λ (l : List ℕ). at l S) is in
        let one : n - n ≡ 0 = omega arith in
        record {
          left = omega arith;
          same_long = long;
          areas = record {
            source_behind = omega arith;
            target_behind = omega arith;
            source_in = omega (arith, d.room);
            target_in = omega (arith, d.room);
            apart = λ x y hx hy q. omega arith;
          };
          filled = λ i S l h. let z : i ≡ 0 = omega arith in rw z (subst (λ (x : ℕ). x < m) (sym (entry S h)) (d.left_below S h));
          same = λ f.
              ap (λ (c : ℕ). paired_all n (suc c) (slots n first w) f (at b) % m) one ∙ ap (λ (x : ℕ). x % m) (top n (slots n first w) f (at b))
              ∙ paired-mod n f (at b) m (slots n first w 0) (at a) (λ S h. ap (λ (x : ℕ). x % m) (entry S h));
        }

  module _ {whole k source target : ℕ} {w : List ℕ} (o : Projecting m n a b whole (suc k) source target w) where
    -- the level above, seen from the next one
    above : suc (n - suc k) ≡ n - k
    above = omega (arith, o.left)

    level : LevelReady m n k source target b w
    level = record {
      few = d.few;
      more = o.left;
      long = d.right;
      below = d.right_below;
      areas = subst (Areas n source target) (sym o.same_long) o.areas;
      filled = subst (λ (c : ℕ). Residues m (suc k) c source w) above o.filled;
    }

    descended : (s : List ℕ) → LevelMade m n k source target b w s → length s ≡ length w → Projecting m n a b whole k target source s
    descended s t long = record {
      left = omega (arith, o.left);
      same_long = long ∙ o.same_long;
      areas = record {
        source_behind = o.areas.target_behind;
        target_behind = o.areas.source_behind;
        source_in = o.areas.target_in;
        target_in = o.areas.source_in;
        apart = λ x y hx hy q. o.areas.apart y x hy hx (sym q);
      };
      filled = t.filled;
      same = λ f.
          t.same.same f ∙ ap (λ (c : ℕ). paired_all (suc k) c (slots (suc k) source w) f (at b) % m) (sym above) ∙ o.same f;
    }

  module _ {whole k source target : ℕ} {w : List ℕ} (o : Projecting m n a b whole k source target w) where
    module _ (more : 0 < k) where
      back : Projecting m n a b whole (suc (k - 1)) source target w
      back = let z : k ≡ suc (k - 1) = omega arith in subst (λ (j : ℕ). Projecting m n a b whole j source target w) z o

      pub level_ready : LevelReady m n (k - 1) source target b w
      level_ready = level back

      pub projecting_more : {s : List ℕ} → LevelMade m n (k - 1) source target b w s → length s ≡ length w → Projecting m n a b whole (k - 1) target source s
      projecting_more {s} = descended back s

    -- the row is copied from where the tables of no controls stand, up to `end`
    module _ {end : ℕ} (stop : end ≡ source + length r) where
      pub row_in : end ≤ length w
      row_in = omega (arith, o.same_long, o.areas.source_in, d.row, more_than n)

      pub row_fits : length (take (end - source) (drop source w)) ≡ length r
      row_fits = omega (arith, mid_len source end w row_in)

      pub projected : k ≤ 0 → {q : List ℕ} → q ≡ take (end - source) (drop source w) → q ≡ projection_row n m a b
      unfolding projection_row
      projected z e =
          let last : k ≡ 0 = omega arith in
          let g : Projecting m n a b whole 0 source target w = subst (λ (j : ℕ). Projecting m n a b whole j source target w) last o in
          let all : n - 0 ≡ n = omega arith in
          let same : (f : Row) → paired_all 0 (suc n) (slots 0 source w) f (at b) % m ≡ paired n (at a) f (at b) % m =
          λ f. ap (λ (c : ℕ). paired_all 0 (suc c) (slots 0 source w) f (at b) % m) (sym all) ∙ g.same f in
          e
          ∙ tabulate_of (n + 1) (take (end - source) (drop source w)) (projection_entry n m a b) (row_fits ∙ d.row) (λ i l.
          let place : source + i ≡ source + (i * 2 ^ 0 + 0) = omega arith in
          at_part source (end - source) w i (omega (arith, d.row)) ∙ ap (at w) place
          ∙ bottom n m a b (slots 0 source w) same i (omega arith) (g.filled i 0 (omega arith) (pow_pos 0)))
