-- Two controls at once: what is stored at four places, and the loop over them, which leaves a table after its first two controls.
use mathlib.Core.Path.{◌≡◌, refl, ap, ap₂, sym, ◌∙◌}
use mathlib.Core.List.{List}
use Prim.Native.Nat.{ℕ, suc, ◌+◌, ◌-◌, ◌*◌, ◌%◌, ◌^◌, ◌<◌, ◌≤◌}
use native.Mathlib.Nat.{add-zero, add_comm, mod-lt, mod-mod}
use native.Mathlib.Omega.{arith}
use lib.ListN.{length, set}
use Rattle.definitions.specs.Sums.{tabulate, at}
use Rattle.theory.specs.Remainders.{mod-add, mod_back, mod_cancel}
use Rattle.theory.specs.Convolution.{take_lower}
use Rattle.theory.specs.Passes.{pass, passes, pass_lo, pass_hi}
use Rattle.checks.specs.Accepted.{IsTable}
use Rattle.transform_passes.specs.Steps.{Step, KeepsResidues, FourBelow, FourOf, CanCrossFour, crossed_four, Applying}
use Rattle.transform_passes.specs.declared.Four.{Four}
use Rattle.pointwise.specs.Filling.{Filling, fresh, unset, unset_from, next, full}
use Rattle.transform_passes.proofs.Controls.{tabulated, passes_below}

-- a step on what steps gave
pub joined : (g : ℕ → ℕ → ℕ) {r x y u v : ℕ} → r ≡ g x y → x ≡ u → y ≡ v → r ≡ g u v
joined g e c d = e ∙ ap₂ g c d

-- ---- inclusion and exclusion

module _ {m : ℕ} (pos : 0 < m) where
  -- what was taken is added again
  back : (lo hi : ℕ) → lo < m → (take_lower m lo hi + lo) % m ≡ hi % m
  back lo hi h = mod_back m hi lo (omega arith)

  -- both - second - (first - neither) is both + neither - (first + second)
  module _ {x : Four} (h : FourBelow m x) {whole parts : ℕ} (is_whole : whole ≡ (x.both + x.neither) % m) (is-parts : parts ≡ (x.first + x.second) % m) where
    abbrev u : ℕ
    u = take_lower m x.neither x.first

    abbrev v : ℕ
    v = take_lower m x.second x.both

    left : (x.first + x.second + take_lower m u v) % m ≡ (x.both + x.neither) % m
    left =
        let r = take_lower m u v in
        let e : x.first + x.second + r ≡ x.first + (x.second + r) = omega arith in
        let d : u + x.neither + (x.second + r) ≡ r + u + (x.second + x.neither) = omega arith in
        let c : v + (x.second + x.neither) ≡ v + x.second + x.neither = omega arith in
        ap (λ (k : ℕ). k % m) e
        ∙ mod-add m x.first (x.second + r) (u + x.neither) (x.second + r) (sym (back x.neither x.first h.neither)) refl
        ∙ ap (λ (k : ℕ). k % m) d
        ∙ mod-add m (r + u) (x.second + x.neither) v (x.second + x.neither) (back u v (mod-lt _ pos)) refl
        ∙ ap (λ (k : ℕ). k % m) c
        ∙ mod-add m (v + x.second) x.neither x.both x.neither (back x.second x.both h.second) refl

    right : (parts + take_lower m parts whole) % m ≡ (x.both + x.neither) % m
    right =
        ap (λ (k : ℕ). k % m) (add_comm parts (take_lower m parts whole))
        ∙ back parts whole (rw is-parts (mod-lt _ pos)) ∙ ap (λ (k : ℕ). k % m) is_whole ∙ mod-mod (x.both + x.neither) m

    pub excluded : take_lower m parts whole ≡ take_lower m u v
    excluded =
        sym (mod-mod _ m)
        ∙ mod_cancel m pos parts (take_lower m parts whole) (x.first + x.second) (take_lower m u v)
        (ap (λ (k : ℕ). k % m) is-parts ∙ mod-mod (x.first + x.second) m) (right ∙ sym left)
        ∙ mod-mod _ m

-- ---- at four places of a list

-- what stands there
abbrev pub four_at : ℕ → List ℕ → Four
four_at i l = record { neither = at l i; first = at l (i + 1); second = at l (i + 2); both = at l (i + 3) }

pub four_below : {m i : ℕ} {l : List ℕ} → CanCrossFour m i l → FourBelow m (four_at i l)
four_below {i = i} h =
    record {
      neither = rw (add-zero i) at (h.below 0 (omega arith));
      first = h.below 1 (omega arith);
      second = h.below 2 (omega arith);
      both = h.below 3 (omega arith);
    }

abbrev stores : List ℕ → ℕ → ℕ → ℕ → ℕ → ℕ → List ℕ
stores l i u v w z = set (set (set (set l i u) (i + 1) v) (i + 2) w) (i + 3) z

pub four_stored : (p q : ℕ → ℕ → ℕ) (i : ℕ) (l : List ℕ) {y : Four} → FourOf p q (four_at i l) y
    → stores l i y.neither y.first y.second y.both ≡ crossed_four p q i l
unfolding crossed_four
four_stored p q i l {y} h =
    let x = four_at i l in
    let a = p (p x.neither x.first) (p x.second x.both) in
    let b = p (q x.neither x.first) (q x.second x.both) in
    let c = q (p x.neither x.first) (p x.second x.both) in
    ap₂ (λ (u v : ℕ). stores l i u v y.second y.both) h.neither h.first
    ∙ ap₂ (λ (w z : ℕ). stores l i a b w z) h.second h.both

-- ---- what two passes give at four places

module _ (p q : ℕ → ℕ → ℕ) (f : ℕ → ℕ) (i a c : ℕ) {lo hi : ℕ} (h : c < 2 ^ i)
    (is-lo : lo ≡ a * 2 ^ suc i + c) (is-hi : hi ≡ a * 2 ^ suc i + (2 ^ i + c)) where
  at-lower : pass p q i f lo ≡ p (f lo) (f hi)
  at-lower = ap (pass p q i f) is-lo ∙ pass_lo p q i a c h f ∙ ap₂ (λ (x y : ℕ). p (f x) (f y)) (sym is-lo) (sym is-hi)

  at_upper : pass p q i f hi ≡ q (f lo) (f hi)
  at_upper = ap (pass p q i f) is-hi ∙ pass_hi p q i a c h f ∙ ap₂ (λ (x y : ℕ). q (f x) (f y)) (sym is-lo) (sym is-hi)

-- the entries of f from s on, a place that 4 divides
module _ (p q : ℕ → ℕ → ℕ) (f : ℕ → ℕ) (b : ℕ) {s : ℕ} (h : s ≡ 4 * b) where
  abbrev four : Four
  four = record { neither = f s; first = f (s + 1); second = f (s + 2); both = f (s + 3) }

  -- after the first control
  abbrev g : ℕ → ℕ
  g = pass p q 0 f

  g_neither : g s ≡ p (f s) (f (s + 1))
  g_neither = at-lower p q f 0 (2 * b) 0 (omega arith) (omega arith) (omega arith)

  g_first : g (s + 1) ≡ q (f s) (f (s + 1))
  g_first = at_upper p q f 0 (2 * b) 0 (omega arith) (omega arith) (omega arith)

  g_second : g (s + 2) ≡ p (f (s + 2)) (f (s + 3))
  g_second = at-lower p q f 0 (2 * b + 1) 0 (omega arith) (omega arith) (omega arith)

  g_both : g (s + 3) ≡ q (f (s + 2)) (f (s + 3))
  g_both = at_upper p q f 0 (2 * b + 1) 0 (omega arith) (omega arith) (omega arith)

  pub two_passes : FourOf p q four
      (record { neither = passes p q 2 f s; first = passes p q 2 f (s + 1); second = passes p q 2 f (s + 2); both = passes p q 2 f (s + 3) })
  unfolding passes
  two_passes =
      record {
        neither = joined p (at-lower p q g 1 b 0 {lo = s} {hi = s + 2} (omega arith) (omega arith) (omega arith)) g_neither g_second;
        first = joined p (at-lower p q g 1 b 1 {lo = s + 1} {hi = s + 3} (omega arith) (omega arith) (omega arith)) g_first g_both;
        second = joined q (at_upper p q g 1 b 0 {lo = s} {hi = s + 2} (omega arith) (omega arith) (omega arith)) g_neither g_second;
        both = joined q (at_upper p q g 1 b 1 {lo = s + 1} {hi = s + 3} (omega arith) (omega arith) (omega arith)) g_first g_both;
      }

-- ---- the loop

-- l is what is left of the table xs after so many fours
pub record Crossing (m : ℕ) (t : Step) (n blocks : ℕ) (xs : List ℕ) (block : ℕ) (l : List ℕ) : Type 0 where
  pub controls : 1 < n
  pub blocks_is : blocks ≡ 2 ^ (n - 2)
  pub table : IsTable n m xs
  pub within : block ≤ blocks
  pub filling : Filling (passes (t.lower m) (t.upper m) 2 (at xs)) xs (4 * block) l

module _ {m : ℕ} {t : Step} {n blocks : ℕ} {xs : List ℕ} where
  pub start : 1 < n → blocks ≡ 2 ^ (n - 2) → IsTable n m xs → Crossing m t n blocks xs 0 xs
  start c b h = record { controls = c; blocks_is = b; table = h; within = omega arith; filling = fresh }

  module _ {block : ℕ} {l : List ℕ} (h : Crossing m t n blocks xs block l) where
    pub all_fours : 4 * blocks ≡ length xs
    all_fours =
        let e : suc (suc (n - 2)) ≡ n = omega (arith, h.controls) in
        let d : 4 * 2 ^ (n - 2) ≡ 2 ^ suc (suc (n - 2)) = omega arith in
        ap (λ (k : ℕ). 4 * k) h.blocks_is ∙ d ∙ ap (λ (k : ℕ). 2 ^ k) e ∙ sym h.table.size

    pub end : KeepsResidues t → blocks ≤ block → Applying m t n xs 2 l
    end keeps e =
        let f = passes (t.lower m) (t.upper m) 2 (at xs) in
        let is : l ≡ tabulate (2 ^ n) f = full h.filling (omega (arith, all_fours)) ∙ ap (λ (k : ℕ). tabulate k f) h.table.size in
        record {
          within = omega (arith, h.controls);
          size = h.table.size;
          table = rw is (tabulated n (passes_below m keeps 2 (at xs) h.table.below));
          is = is;
        }

    module _ (more : block < blocks) where
      pub room : 4 * block + 4 ≤ length xs
      room = omega (arith, all_fours)

      pub can_cross : CanCrossFour m (4 * block) l
      can_cross =
          record {
            room = omega (arith, room, h.filling.long);
            below = λ k e. rw (unset_from h.filling k) (h.table.below (4 * block + k));
          }

      pub turn : {new : List ℕ} → new ≡ crossed_four (t.lower m) (t.upper m) (4 * block) l → Crossing m t n blocks xs (block + 1) new
      unfolding crossed_four
      turn {new} e =
          let s = 4 * block in
          let p = t.lower m in
          let q = t.upper m in
          let w = h.filling in
          let x0 = unset w in
          let x1 = unset_from w 1 in
          let x2 = unset_from w 2 in
          let x3 = unset_from w 3 in
          let y = two_passes p q (at xs) block {s = s} refl in
          let one = next w (ap₂ p (ap₂ p x0 x1) (ap₂ p x2 x3) ∙ sym y.neither) (omega (arith, room)) in
          let two = next one (ap₂ p (ap₂ q x0 x1) (ap₂ q x2 x3) ∙ sym y.first) (omega (arith, room)) in
          let plus-two : s + 1 + 1 ≡ s + 2 = omega arith in
          let plus-three : s + 2 + 1 ≡ s + 3 = omega arith in
          let plus-four : s + 3 + 1 ≡ 4 * (block + 1) = omega arith in
          let three = next (rw plus-two at two) (ap₂ q (ap₂ p x0 x1) (ap₂ p x2 x3) ∙ sym y.second) (omega (arith, room)) in
          let four = next (rw plus-three at three) (ap₂ q (ap₂ q x0 x1) (ap₂ q x2 x3) ∙ sym y.both) (omega (arith, room)) in
          record {
            controls = h.controls;
            blocks_is = h.blocks_is;
            table = h.table;
            within = omega arith;
            filling = rw e (rw plus-four at four);
          }
