-- The levels of a composition: the row itself, one level from the next, and the last.
use mathlib.Core.Path.{◌≡◌, refl, sym, ap, ap₂, subst, ◌∙◌}
use mathlib.Core.List.{List, ◌++◌}
use mathlib.Core.Logic.{⊎_elim}
use Prim.Native.Nat.{ℕ, suc, ◌+◌, ◌-◌, ◌*◌, ◌%◌, ◌^◌, ◌<◌, ◌≤◌}
use native.Mathlib.Nat.{mod-lt, mod-eq_of_lt, add-zero}
use native.Mathlib.Numerals.{add-one}
use native.Mathlib.Omega.{arith}
use lib.Arith.{lt-one}
use lib.ListN.{length, take, drop, get_or-append, length-drop}
use lib.Pow.{pow_mono}
use lib.Seq.{length-take-le, drop_at, get_or-take, get_or-drop}
use borrow.Rule.Slice.PartMut.{mid_len, post_of, put_mid, same_len_mid}
use Rattle.definitions.specs.Sums.{at}
use Rattle.definitions.specs.Partitions.{composition_sum, composition_table}
use Rattle.theory.specs.Tests.{below_or}
use Rattle.theory.specs.Lists.{residues_of}
use Rattle.theory.specs.Powers.{more_than, slots_fit}
use Rattle.theory.specs.Halves.{from, from_none}
use Rattle.theory.specs.Composition.{composition_empty}
use Rattle.ranked_theory.specs.Layout.{rows_length, rows_mono}
use Rattle.composition.specs.Ready.{Ready, RowReady, ResultReady, result_in}
use Rattle.composition.specs.Slots.{Slots, Turned, TurnReady, LevelReady, LevelRaised}
use Rattle.composition.proofs.Turns.{turned_old, turned_new}

-- ---- one level

-- what the turns have so far: the tables of k controls up to i, and those of k + 1 from i on
pub record Raising (n k m start : ℕ) (a w₀ : List ℕ) (i : ℕ) (w : List ℕ) : Type 0 where
  pub left : i + k ≤ n
  pub same : length w ≡ length w₀
  pub old : (f : ℕ → ℕ) → Slots m k 0 (suc (n - k)) f (at a) (drop start w₀) → Slots m k 0 (suc i) f (at a) (drop start w)
  pub new : (f : ℕ → ℕ) → Slots m k 0 (suc (n - k)) f (at a) (drop start w₀) → Slots m (suc k) i (n - k) f (at a) (drop start w)

module _ {n k m start : ℕ} {a w₀ : List ℕ} (d : LevelReady n k m start a w₀) where
  pub raising_none : Raising n k m start a w₀ (n - k) w₀
  raising_none = record {
    left = omega (arith, d.more);
    same = refl;
    old = λ f s. s;
    new = λ f s. record { slot = λ i S l h c. omega arith };
  }

  module _ {i : ℕ} {w : List ℕ} (pos : 0 < i) (o : Raising n k m start a w₀ i w) where
    back : i ≡ suc (i - 1)
    back = omega arith

    table_below : 0 < m → (j x : ℕ) → j ≤ i → j * 2 ^ k ≤ x → x < suc j * 2 ^ k → at w (start + x) < m
    table_below mpos j x h low high =
        let place : start + x ≡ start + (j * 2 ^ k + (x - j * 2 ^ k)) = omega arith in
        rw (place, sym (get_or-drop start w (j * 2 ^ k + (x - j * 2 ^ k)) 0), (o.old d.row d.slots).slot j (x - j * 2 ^ k) (omega arith) (omega arith) (omega arith))
        (mod-lt _ mpos)

    pub turn_ready : 0 < m → TurnReady k (i - 1) m start a w
    turn_ready mpos =
        let fit : 2 * (suc (i - 1) * 2 ^ k) ≤ 2 ^ n = slots_fit n k (i - 1) (omega (arith, o.left)) in
        let more : 2 ^ suc k ≤ 2 ^ n = pow_mono d.more in
        record {
          few = omega (arith, d.few, d.more);
          entries = omega (arith, d.long);
          below = λ S h. d.below S (omega arith);
          rows = omega (arith, d.rows, rows_mono k n (omega (arith, d.more)));
          inside = omega (arith, o.same, d.room);
          both_below = λ x l h.
              ⊎_elim (λ (c : x < suc (i - 1) * 2 ^ k). table_below mpos (i - 1) x (omega arith) l c)
              (λ (c : suc (i - 1) * 2 ^ k ≤ x). table_below mpos (suc (i - 1)) x (omega arith) c h)
              (below_or x (suc (i - 1) * 2 ^ k));
        }

    pub raising_more : (v : List ℕ) → Turned k (i - 1) m a (drop start w) (drop start v) → length v ≡ length w → Raising n k m start a w₀ (i - 1) v
    raising_more v t lv =
        let r = drop start w in
        let s = drop start v in
        record {
          left = omega (arith, o.left);
          same = lv ∙ o.same;
          old = λ f g. turned_old m k f a r s (i - 1) t (subst (λ (j : ℕ). Slots m k 0 (suc j) f (at a) r) back (o.old f g));
          new = λ f g. turned_new m k f a r s (i - 1) (n - k) t (subst (λ (j : ℕ). Slots m k 0 (suc j) f (at a) r) back (o.old f g))
              (subst (λ (j : ℕ). Slots m (suc k) j (n - k) f (at a) r) back (o.new f g));
        }

  pub raised : {i : ℕ} {w : List ℕ} → i ≤ 0 → Raising n k m start a w₀ i w → LevelRaised n k m a (drop start w₀) (drop start w)
  raised {i} {w} z o f s = let e : i ≡ 0 = omega arith in subst (λ (j : ℕ). Slots m (suc k) j (n - k) f (at a) (drop start w)) e (o.new f s)

-- ---- all levels

-- what the levels have so far
pub record Composing (n m start : ℕ) (a f w₀ : List ℕ) (k : ℕ) (w : List ℕ) : Type 0 where
  pub left : k ≤ n
  pub same : length w ≡ length w₀
  pub room : start + 2 ^ n ≤ length w
  pub slots : Slots m k 0 (suc (n - k)) (at f) (at a) (drop start w)

module _ {n m start : ℕ} {a f w₀ : List ℕ} (e : start ≡ rows_length n) (d : Ready n m a w₀) (g : RowReady n m f) where
  tables_in : start ≤ length w₀
  tables_in = omega (arith, d.room)

  -- the row's entries, copied up to `stop`, are the tables of no controls
  module _ {stop : ℕ} (stops : stop ≡ start + (n + 1)) where
    pub row_in : stop ≤ length w₀
    row_in = omega (arith, d.room, more_than n)

    pub row_fits : length (take (stop - start) (drop start w₀)) ≡ n + 1
    row_fits = omega (arith, mid_len start stop w₀ row_in)

    pub composing_first : {r : List ℕ} → r ≡ take (n + 1) f → let w = put_mid start (stop - start) w₀ r in Composing n m start a f w 0 w
    composing_first {r} is =
        let w : List ℕ = put_mid start (stop - start) w₀ r in
        let rest : List ℕ = post_of start (stop - start) w₀ in
        let long : length (take start w₀) ≡ start = length-take-le start w₀ tables_in in
        let many : length r ≡ n + 1 = ap length is ∙ length-take-le (n + 1) f (omega (arith, g.long)) in
        let tables : drop start w ≡ r ++ rest = drop_at (take start w₀) (r ++ rest) start long in
        record {
          left = omega arith;
          same = refl;
          room = omega (arith, same_len_mid start (stop - start) w₀ r (many ∙ sym row_fits), d.room);
          slots = record {
            slot = λ i S z h c.
                let none : S ≡ 0 = lt-one c in
                let place : i * 2 ^ 0 + S ≡ i = omega arith in
                ap (at (drop start w)) place ∙ ap (λ (t : List ℕ). at t i) tables ∙ get_or-append r rest 0 i (omega (arith, many))
                ∙ ap (λ (t : List ℕ). at t i) is ∙ get_or-take (n + 1) f i 0 (omega arith) ∙ sym (mod-eq_of_lt (g.below i (omega arith)))
                ∙ ap (λ (x : ℕ). at f x % m) (sym (add-zero i)) ∙ ap (λ (x : ℕ). x % m) (sym (composition_empty 0 (from i (at f)) (at a)))
                ∙ ap (λ (x : ℕ). composition_sum 0 (from i (at f)) (at a) x % m) (sym none);
          };
        }

  module _ {w₁ : List ℕ} {k : ℕ} {w : List ℕ} (o : Composing n m start a f w₁ k w) where
    pub level_ready : k < n → LevelReady n k m start a w
    level_ready h = record {
      few = d.few;
      more = h;
      long = d.long;
      below = d.below;
      rows = omega arith;
      room = o.room;
      row = at f;
      slots = o.slots;
    }

    pub composing_more : (v : List ℕ) → k < n → LevelRaised n k m a (drop start w) (drop start v) → length v ≡ length w
        → Composing n m start a f w₁ (k + 1) v
    composing_more v h raise lv =
        let fewer : n - k ≡ suc (n - suc k) = omega arith in
        subst (λ (j : ℕ). Composing n m start a f w₁ j v) (sym (add-one k)) (record {
          left = h;
          same = lv ∙ o.same;
          room = omega (arith, o.room);
          slots = subst (λ (j : ℕ). Slots m (suc k) 0 j (at f) (at a) (drop start v)) fewer (raise (at f) o.slots);
        })

    pub composed : n ≤ k → result_in n w ≡ composition_table n m f a
    composed h =
        let last : k ≡ n = omega (arith, o.left) in
        let slots : Slots m n 0 (suc (n - n)) (at f) (at a) (drop start w) = subst (λ (j : ℕ). Slots m j 0 (suc (n - j)) (at f) (at a) (drop start w)) last o.slots in
        let long : length (take (2 ^ n) (drop start w)) ≡ 2 ^ n = length-take-le (2 ^ n) (drop start w) (omega (arith, length-drop start w, o.room)) in
        ap (λ (s : ℕ). take (2 ^ n) (drop s w)) (sym e)
        ∙ residues_of n m (take (2 ^ n) (drop start w)) _ long (λ S c.
        let place : 0 * 2 ^ n + S ≡ S = omega arith in
        get_or-take (2 ^ n) (drop start w) S 0 c ∙ ap (at (drop start w)) (sym place) ∙ slots.slot 0 S (omega arith) (omega arith) c
        ∙ ap (λ (e : ℕ → ℕ). composition_sum n e (at a) S % m) (from_none (at f)))

-- ---- the result

module _ {n start stop : ℕ} {w r : List ℕ} (e : start ≡ rows_length n) (d : ResultReady n w r) (stops : stop ≡ start + length r) where
  pub result_within : stop ≤ length w
  result_within = omega (arith, d.room, d.as_long)

  pub result_taken : take (stop - start) (drop start w) ≡ result_in n w
  result_taken = let many : stop - start ≡ 2 ^ n = omega (arith, d.as_long) in ap₂ (λ (k s : ℕ). take k (drop s w)) many e
