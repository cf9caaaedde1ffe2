-- One table of the next size, from a product inside the workspace and a copy: slot i of 2 ^ k numbers is at the code's start + i * size.
use mathlib.Core.Path.{◌≡◌, sym, ap, ap₂, ◌∙◌}
use mathlib.Core.List.{List}
use mathlib.Core.Logic.{◌⊎◌, inl, inr}
use Prim.Native.Nat.{ℕ, zero, suc, ◌+◌, ◌-◌, ◌*◌, ◌^◌, ◌<◌, ◌≤◌}
use native.Mathlib.Omega.{arith}
use lib.ListN.{length, take, drop}
use lib.Seq.{get_or-drop, drop-drop}
use borrow.Rule.Slice.PartMut.{mid_len}
use Rattle.definitions.specs.Sums.{at}
use Rattle.definitions.specs.Products.{subset_table}
use Rattle.theory.specs.Parts.{at_part}
use Rattle.ranked_within.specs.Within.{table_at, WithinReady, WithinMade}
use Rattle.composition.specs.Slots.{CopyReady, Copied, TurnReady, Turned}

module _ {k i m size start : ℕ} {a w : List ℕ} (e : size ≡ 2 ^ k) (d : TurnReady k i m start a w) where
  shift_is : i * size ≡ i * 2 ^ k
  shift_is = ap (λ (n : ℕ). i * n) e

  -- what the step writes last is inside
  pub inside : start + i * size + size + i * size + size ≤ length w
  inside = omega (arith, shift_is, d.inside)

  -- a's entries with control k alone of the controls from k on, as they are lent
  abbrev upper : List ℕ
  upper = take (size + size - size) (drop size a)

  many : size + size - size ≡ 2 ^ k
  many = omega arith

  upper_is : upper ≡ table_at k (2 ^ k) a
  upper_is = ap₂ (λ (n s : ℕ). take n (drop s a)) many e

  -- either of the two tables may be multiplied
  pub within_ready : (source : ℕ) → start + i * size ≤ source → source ≤ start + i * size + size
      → WithinReady m k source (start + i * size + size + i * size) upper w
  within_ready source low high = record {
    from = record { few = omega (arith, d.few); behind = omega (arith, d.rows); inside = omega (arith, shift_is, d.inside) };
    to = record { few = omega (arith, d.few); behind = omega (arith, d.rows); inside = omega (arith, shift_is, d.inside) };
    left_below = λ h l.
        let place : start + (source - start + h) ≡ source + h = omega arith in
        rw place at (d.both_below (source - start + h) (omega (arith, shift_is)) (omega (arith, shift_is)));
    right = mid_len size (size + size) a (omega (arith, d.entries)) ∙ many;
    right_below = λ h l. rw (at_part size (size + size - size) a h (omega arith)) (d.below (size + h) (omega arith));
  }

  pub copy_ready : (s : List ℕ) → length s ≡ length w → CopyReady size (start + i * size) (start + i * size + i * size) s
  copy_ready s l = record { inside = omega (arith, shift_is, d.inside, l); ordered = omega arith; apart = apart i }
    where
      apart : (i : ℕ) → (start + i * size ≡ start + i * size + i * size) ⊎ (start + i * size + size ≤ start + i * size + i * size)
      apart zero = inl (omega arith)
      apart (suc j) = inr (omega arith)

  module _ {s t : List ℕ} (p : WithinMade m k (start + i * size + size) (start + i * size + size + i * size) upper w s)
      (c : Copied size (start + i * size) (start + i * size + i * size) s t) where
    -- behind the rows and outside the product, nothing changes
    kept : (x : ℕ) → start ≤ x → (x < start + i * size + size + i * size) ⊎ (start + i * size + size + i * size + size ≤ x) → at s x ≡ at w x
    kept x h (inl l) = p.rest x (omega (arith, d.rows)) (λ j lj q. omega arith)
    kept x h (inr l) = p.rest x (omega (arith, d.rows)) (λ j lj q. omega arith)

    left_is : table_at k (start + i * size + size) w ≡ table_at k (suc i * 2 ^ k) (drop start w)
    left_is =
        let place : start + i * size + size ≡ start + suc i * 2 ^ k = omega (arith, shift_is) in
        ap (λ (n : ℕ). take (2 ^ k) (drop n w)) place ∙ ap (take (2 ^ k)) (sym (drop-drop (suc i * 2 ^ k) start w))

    -- the same of the tables alone
    dropped : (x y : ℕ) → at t (start + x) ≡ at w (start + y) → at (drop start t) x ≡ at (drop start w) y
    dropped x y h = get_or-drop start t x 0 ∙ h ∙ sym (get_or-drop start w y 0)

    pub turned : Turned k i m a (drop start w) (drop start t)
    turned = record {
      lower = λ S h.
          let to : start + (2 * (i * 2 ^ k) + S) ≡ start + i * size + i * size + S = omega (arith, shift_is) in
          let from : start + (i * 2 ^ k + S) ≡ start + i * size + S = omega (arith, shift_is) in
          dropped (2 * (i * 2 ^ k) + S) (i * 2 ^ k + S) (rw (to, from) (c.there S (omega arith) ∙ kept (start + i * size + S) (omega arith) (inl (omega arith))));
      upper = λ S h.
          let to : start + (2 * (i * 2 ^ k) + 2 ^ k + S) ≡ start + i * size + size + i * size + S = omega (arith, shift_is) in
          get_or-drop start t (2 * (i * 2 ^ k) + 2 ^ k + S) 0
          ∙ rw to (c.behind (start + i * size + size + i * size + S) (omega arith) ∙ p.there S h)
          ∙ ap₂ (λ (l u : List ℕ). at (subset_table k m l u) S) left_is upper_is;
      before = λ x h. dropped x x (c.before (start + x) (omega (arith, shift_is)) ∙ kept (start + x) (omega arith) (inl (omega (arith, shift_is))));
      behind = λ x h. dropped x x (c.behind (start + x) (omega (arith, shift_is)) ∙ kept (start + x) (omega arith) (inr (omega (arith, shift_is))));
    }
