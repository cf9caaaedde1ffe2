-- One turn: a table added, and a product behind it. What is asked holds for either half of the old table and either half of b.
use mathlib.Core.Path.{◌≡◌, ap, ◌∙◌}
use mathlib.Core.List.{List}
use Prim.Native.Nat.{ℕ, ◌+◌, ◌-◌, ◌%◌, ◌^◌, ◌<◌, ◌≤◌}
use native.Mathlib.Nat.{le_refl}
use native.Mathlib.Omega.{arith}
use lib.ListN.{length, take, drop}
use borrow.Rule.Slice.PartMut.{mid_len}
use Rattle.definitions.specs.Sums.{at}
use Rattle.theory.specs.Lists.{at-residues}
use Rattle.theory.specs.Parts.{at_part}
use Rattle.theory.specs.Series.{subset_mod}
use Rattle.ranked_theory.specs.Rows.{Placed}
use Rattle.ranked_within.specs.Within.{table_at, WithinReady, WithinMade}
use Rattle.projection.specs.Places.{AddReady, sum_at, TurnReady, TurnMade}
use Rattle.projection.proofs.Places.{untouched}

module _ {m k size lower here : ℕ} {b w : List ℕ} (e : size ≡ 2 ^ k) (d : TurnReady m k lower here b w) where
  -- where half a table starts
  abbrev Half : ℕ → Type 0
  Half source = (lower ≤ source) × (source ≤ lower + size)

  old_below : {source : ℕ} → Half source → (x : ℕ) → x < size → at w (source + x) < m
  old_below {source} (low, high) x h =
      let place : lower + (source - lower + x) ≡ source + x = omega arith in
      rw place at (d.lower_below (source - lower + x) (omega arith))

  old_apart : {source : ℕ} → Half source → (x y : ℕ) → x < size → y < size → source + x ≡ here + y → ⊥
  old_apart {source} (low, high) x y hx hy q = d.apart (source - lower + x) y (omega arith) (omega arith) (omega arith)

  -- so many numbers of it, all or fewer
  module _ {count : ℕ} (few : count ≤ size) where
    pub add_ready : {source : ℕ} → Half source → AddReady m count source here w
    add_ready half = record {
      source_in = omega (arith, half.1, d.lower_in);
      target_in = omega (arith, d.here_in);
      apart = λ x y hx hy q. old_apart half x y (omega arith) (omega arith) q;
      source_below = λ x h. old_below half x (omega arith);
      target_below = λ x h. d.here_below x (omega arith);
    }

    -- something was added to them here: the old table stands
    module _ {f : ℕ → ℕ} {v : List ℕ} (p : Placed f here count w v) where
      kept : {source : ℕ} → Half source → (x : ℕ) → x < size → at v (source + x) ≡ at w (source + x)
      kept {source} half x h = untouched p (source + x) (λ y t q. old_apart half x y h (omega arith) q)

      pub within_ready : length v ≡ length w → {source : ℕ} (start end : ℕ) → Half source → end ≡ start + size → end ≤ size + size
          → WithinReady m k source (here + size) (take (end - start) (drop start b)) v
      within_ready long {source} start end half ends within = record {
        from = record { few = omega (arith, d.few); behind = omega (arith, half.0, d.lower_behind); inside = omega (arith, half.1, d.lower_in, long) };
        to = record { few = omega (arith, d.few); behind = omega (arith, d.here_behind); inside = omega (arith, d.here_in, long) };
        left_below = λ h l. rw (kept half h (omega arith)) (old_below half h (omega arith));
        right = mid_len start end b (omega (arith, d.entries)) ∙ (let z : end - start ≡ 2 ^ k = omega arith in z);
        right_below = λ h l. rw (at_part start (end - start) b h (omega arith)) (d.below (start + h) (omega arith));
      }

  -- the upper half was added, and b's upper half is lent
  module _ {v : List ℕ} (p : Placed (sum_at m (lower + size) here w) here size w v) where
    abbrev part : List ℕ
    part = take (size + size - size) (drop size b)

    pub turn_made : {s : List ℕ} → WithinMade m k lower (here + size) part v s → TurnMade m k lower here b w s
    turn_made {s} t = record {
      added = λ S h.
          let place : lower + size + S ≡ lower + (2 ^ k + S) = omega arith in
          t.rest (here + S) (omega (arith, d.here_behind)) (λ x l q. omega arith)
          ∙ p.inside S (omega arith) ∙ ap (λ (x : ℕ). (at w (here + S) + at w x) % m) place;
      next = λ S h.
          let place : here + (2 ^ k + S) ≡ here + size + S = omega arith in
          ap (at s) place ∙ t.there S h ∙ at-residues k m _ S h
          ∙ subset_mod k m (at (table_at k lower v)) (at part) (λ x. at w (lower + x)) (λ x. at b (2 ^ k + x))
          (λ x l. ap (λ (y : ℕ). y % m) (at_part lower (2 ^ k) v x l ∙ kept (le_refl size) p (omega arith, omega arith) x (omega arith)))
          (λ x l. ap (λ (y : ℕ). y % m) (at_part size (size + size - size) b x (omega arith) ∙ ap (λ (y : ℕ). at b (y + x)) e)) S h;
      rest = λ x l o.
          t.rest x l (λ h g q. o (2 ^ k + h) (omega arith) (omega arith)) ∙ untouched p x (λ y g q. o y (omega arith) q);
    }
