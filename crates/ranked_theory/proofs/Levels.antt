-- One level of the recursion: steps (1), (2) and (3) on rows give the product over unions, at the ranks that are used.
--   down-first, down-second       what the two halves take after step (1)
--   up_ready, up                  what step (2) takes and leaves
--   leaf_row, leaf                one entry
use Rattle.std.specs.Prelude.{◌≡◌, List, ◌++◌, ℕ, suc, ◌+◌, ◌-◌, ◌*◌, ◌%◌, ◌^◌, ◌≤◌, ◌<◌, min, length, take, drop}
use Rattle.std.proofs.Common.{sym, ap₂, subst₂, ◌∙◌, ⊎_elim, add-zero, zero-add, zero-mul, one-mul, mod-lt, add_comm, add-mul, length-append, length-drop, get_or-take, get_or-drop, get_or-append-add, length-take-le}
use Rattle.std.proofs.Math.Path.{ap, subst}
use Rattle.std.proofs.Math.Nat.{mod-mod, add-mod}
use native.Mathlib.Omega.{arith}
use Rattle.std.proofs.Math.Arith.{lt-one}
use Rattle.std.proofs.Math.ListN.{get_or-append}
use Rattle.definitions.specs.Sums.{at}
use Rattle.definitions.specs.Sets.{size}
use Rattle.theory.specs.Tests.{below_or}
use Rattle.theory.specs.Sums.{sum-mod}
use Rattle.theory.specs.Remainders.{mod-mul, mod-sub}
use Rattle.theory.specs.Codes.{by_top, size_top}
use Rattle.ranked_theory.specs.Convolution.{conv, conv_window}
use Rattle.ranked_theory.specs.Cover.{cover, both, cover-low, cover-both, cover_upto, no_control, Ranks, ranks_low, ranks_both}
use Rattle.ranked_theory.specs.Rows.{plus, minus, Added, Subtracted, RowsStep, RowsReady, back_from, back_count, WholeRow, Multiplied}
use Rattle.ranked_theory.specs.Layout.{width}
use Rattle.ranked_theory.specs.Recursion.{Ready, Factor, Worked}
use Rattle.ranked_theory.specs.Places.{row_in}

-- the place of a row of the upper half
up-place : (p u w r : ℕ) → (2 ^ p + u) * w + r ≡ 2 ^ p * w + (u * w + r)
up-place p u w r = omega arith

-- ---- how far the ranks past |h| go

-- with one control more in the set, and as many or fewer above it
reach_high : (n p d s t j : ℕ) → t ≡ s + 1 → 2 * n ≤ j + min (n - suc p - d) (t + d) → 2 * n ≤ j + min (n - p - (d + 1)) (s + (d + 1))
reach_high n p d s t j e h =
    let q₁ : n - suc p - d ≡ n - p - (d + 1) = omega arith in
    let q₂ : t + d ≡ s + (d + 1) = omega arith in
    subst₂ (λ (a b : ℕ). 2 * n ≤ j + min a b) q₁ q₂ h

reach_leaf : (n j x y : ℕ) → x ≡ y → 2 * n ≤ j + x → 2 * n - j < y + 1
reach_leaf n j x y e h = omega arith

module _ (m n p d : ℕ) (pos : 0 < m) (xs : List ℕ) (ready : Ready m n (suc p) d xs) where
  abbrev w : ℕ
  w = width n

  abbrev mid : ℕ
  mid = 2 ^ p * width n

  pub long : length xs ≡ mid + mid
  long = ready.long ∙ ap (λ (t : ℕ). t * width n) (let e : 2 ^ suc p ≡ 2 ^ p + 2 ^ p = omega arith in e) ∙ add-mul (2 ^ p) (2 ^ p) (width n)

  upper_filled_lem : (u r : ℕ) → u < 2 ^ p → r < 2 * d + 2 → at xs (mid + (u * w + r)) < m
  upper_filled_lem u r lu h = subst (λ (j : ℕ). at xs j < m) (up-place p u w r) (ready.filled (2 ^ p + u) r (omega arith) h)

  -- what step (1) takes
  pub down_room : 2 * d + 4 ≤ w
  down_room = omega (arith, ready.room)

  pub down_ready : RowsReady m 2 (λ u. 0) (λ u. 2 * d) w p xs
  down_ready =
      record {
        few = omega (arith, ready.few, ready.room);
        long = long;
        row = λ u lu. omega (arith, ready.room);
        lower_below = λ u r lu lo hi. ready.filled u r (omega arith) (omega arith);
        upper_below = λ u r lu lo hi. upper_filled_lem u r lu (omega arith);
      }

  module _ (ys : List ℕ) (down : RowsStep (λ u. Added m d) 2 w mid (2 ^ p) xs ys) (same : length ys ≡ length xs) where
    ys_long : length ys ≡ mid + mid
    ys_long = same ∙ long

    pub first_long : length (take mid ys) ≡ mid
    first_long = length-take-le mid ys (omega (arith, ys_long))

    pub second_long : length (drop mid ys) ≡ mid
    second_long = length-drop mid ys ∙ omega (arith, ys_long)

    at_first : (u r : ℕ) → u < 2 ^ p → r < w → at (take mid ys) (u * w + r) ≡ at xs (u * w + r)
    at_first u r lu lr =
        let b = row_in u (2 ^ p) w lu in
        let l : u * w + r < mid = omega arith in
        get_or-take mid ys (u * w + r) 0 l ∙ down.lower (u * w + r) l

    at_second : (u r : ℕ) → u < 2 ^ p → r < w → Added m d r (at xs (mid + (u * w + r))) (at xs (u * w + (r - 2))) (at (drop mid ys) (u * w + r))
    at_second u r lu lr =
        subst (Added m d r (at xs (mid + (u * w + r))) (at xs (u * w + (r - 2)))) (sym (get_or-drop mid ys (u * w + r) 0)) (down.changed u r lu lr)

    pub first_ready : Ready m n p d (take mid ys)
    first_ready =
        record {
          few = ready.few;
          room = omega (arith, ready.room);
          long = first_long;
          filled = λ u r lu h. subst (λ (x : ℕ). x < m) (sym (at_first u r lu (omega (arith, down_room)))) (ready.filled u r (omega arith) h);
        }

    pub second_ready : Ready m n p (d + 1) (drop mid ys)
    second_ready =
        record {
          few = ready.few;
          room = omega (arith, ready.room);
          long = second_long;
          filled = λ u r lu h.
              let a = at_second u r lu (omega (arith, down_room)) in
              ⊎_elim
              (λ (l₁ : r < 2). subst (λ (x : ℕ). x < m) (sym (a.highest l₁)) (upper_filled_lem u r lu (omega arith)))
              (λ (g₁ : 2 ≤ r).
              ⊎_elim
              (λ (l₂ : r < 2 * d + 2). subst (λ (x : ℕ). x < m) (sym (a.sums g₁ l₂)) (mod-lt _ pos))
              (λ (g₂ : 2 * d + 2 ≤ r). subst (λ (x : ℕ). x < m) (sym (a.lowest g₂ (omega arith))) (ready.filled u (r - 2) (omega arith) (omega arith)))
              (below_or r (2 * d + 2)))
              (below_or r 2);
        }

    module _ (side : ℕ) (one : side ≤ 1) (f : ℕ → ℕ → ℕ) (ranks : Ranks (suc p) d f) (factor : Factor m n side (suc p) d xs f) where
      first_factor : Factor m n side p d (take mid ys) f
      first_factor u k lu lo hi =
          at_first u (2 * (size u + d - k) + side) lu (omega (arith, down_room)) ∙ factor u k (omega arith) lo hi

      -- two places before, in the lower row
      lower_factor : (u k : ℕ) → u < 2 ^ p → size u ≤ k → k ≤ size u + d → at xs (u * w + (2 * (size u + (d + 1) - k) + side - 2)) ≡ f u k % m
      lower_factor u k lu lo hi =
          let q : 2 * (size u + d - k) + side ≡ 2 * (size u + (d + 1) - k) + side - 2 = omega arith in
          subst (λ (r : ℕ). at xs (u * w + r) ≡ f u k % m) q (factor u k (omega arith) lo hi)

      upper_factor : (u k : ℕ) → u < 2 ^ p → size u < k → k ≤ size u + (d + 1) → at xs (mid + (u * w + (2 * (size u + (d + 1) - k) + side))) ≡ f (2 ^ p + u) k % m
      upper_factor u k lu lo hi =
          let e = size_top p u lu in
          let q : 2 * (size (2 ^ p + u) + d - k) + side ≡ 2 * (size u + (d + 1) - k) + side = omega arith in
          subst (λ (j : ℕ). at xs j ≡ f (2 ^ p + u) k % m) (up-place p u w (2 * (size u + (d + 1) - k) + side))
          (subst (λ (r : ℕ). at xs ((2 ^ p + u) * w + r) ≡ f (2 ^ p + u) k % m) q (factor (2 ^ p + u) k (omega arith) (omega arith) (omega arith)))

      second_factor : Factor m n side p (d + 1) (drop mid ys) (both p f)
      second_factor u k lu lo hi =
          let a = at_second u (2 * (size u + (d + 1) - k) + side) lu (omega (arith, down_room)) in
          let e = size_top p u lu in
          ⊎_elim
          (λ (l₁ : k < size u + 1).
          let z = ranks.from (2 ^ p + u) k (omega arith) (omega arith) in
          a.lowest (omega arith) (omega arith) ∙ lower_factor u k lu lo (omega arith)
          ∙ ap (λ (x : ℕ). x % m) (sym (ap (λ (x : ℕ). f u k + x) z ∙ add-zero (f u k))))
          (λ (g₁ : size u + 1 ≤ k).
          ⊎_elim
          (λ (l₂ : k < size u + d + 1).
          a.sums (omega arith) (omega arith)
          ∙ ap₂ (plus m) (upper_factor u k lu (omega arith) (omega arith)) (lower_factor u k lu lo (omega arith))
          ∙ sym (add-mod (f (2 ^ p + u) k) (f u k) m) ∙ ap (λ (x : ℕ). x % m) (add_comm (f (2 ^ p + u) k) (f u k)))
          (λ (g₂ : size u + d + 1 ≤ k).
          let z = ranks.upto u k (omega arith) (omega arith) in
          a.highest (omega arith) ∙ upper_factor u k lu (omega arith) (omega arith)
          ∙ ap (λ (x : ℕ). x % m) (sym (ap (λ (x : ℕ). x + f (2 ^ p + u) k) z ∙ zero-add (f (2 ^ p + u) k))))
          (below_or k (size u + d + 1)))
          (below_or k (size u + 1))

    -- the first half is worked
    module _ (l k : List ℕ) (first : Worked m n p d (take mid ys) l) (l_long : length l ≡ mid) (k_long : length k ≡ mid) where
      at_low : (u r : ℕ) → u < 2 ^ p → r < w → at (l ++ k) (u * w + r) ≡ at l (u * w + r)
      at_low u r lu lr = let b = row_in u (2 ^ p) w lu in get_or-append l k 0 (u * w + r) (omega arith)

      at_high : (u r : ℕ) → at (l ++ k) (mid + (u * w + r)) ≡ at k (u * w + r)
      at_high u r = subst (λ (j : ℕ). at (l ++ k) (j + (u * w + r)) ≡ at k (u * w + r)) l_long (get_or-append-add l k (u * w + r) 0)

      -- what step (2) takes: the ranks past |h|, by their number
      abbrev e : ℕ
      e = n - p - d

      pub up_ready : ((u r : ℕ) → u < 2 ^ p → r < w → 2 * n < r + min e (size u + d) → at k (u * w + r) < m)
          → RowsReady m 1 (λ u. back_from w e (size u + d)) (λ u. back_count e (size u + d)) w p (l ++ k)
      up_ready below =
          record {
            few = omega (arith, ready.few, ready.room);
            long = length-append l k ∙ ap₂ ◌+◌ l_long k_long;
            row = λ u lu. omega arith;
            lower_below = λ u r lu lo hi. subst (λ (x : ℕ). x < m) (sym (at_low u r lu (omega arith))) (first.below u r lu (omega arith) (omega arith));
            upper_below = λ u r lu lo hi. subst (λ (x : ℕ). x < m) (sym (at_high u r)) (below u r lu (omega arith) (omega arith));
          }

      -- and the second
      module _ (second : Worked m n p (d + 1) (drop mid ys) k) (zs : List ℕ) (back : RowsStep (λ u. Subtracted m w e (size u + d)) 1 w mid (2 ^ p) (l ++ k) zs) where
        zs_low : (u r : ℕ) → u < 2 ^ p → r < w → at zs (u * w + r) ≡ at l (u * w + r)
        zs_low u r lu lr = let b = row_in u (2 ^ p) w lu in back.lower (u * w + r) (omega arith) ∙ at_low u r lu lr

        zs_high : (u r : ℕ) → u < 2 ^ p → r < w → Subtracted m w e (size u + d) r (at k (u * w + r)) (at l (u * w + (r - 1))) (at zs ((2 ^ p + u) * w + r))
        zs_high u r lu lr =
            subst (λ (j : ℕ). Subtracted m w e (size u + d) r (at k (u * w + r)) (at l (u * w + (r - 1))) (at zs j)) (sym (up-place p u w r))
            (subst (λ (x : ℕ). Subtracted m w e (size u + d) r x (at l (u * w + (r - 1))) (at zs (mid + (u * w + r)))) (at_high u r)
            (subst (λ (y : ℕ). Subtracted m w e (size u + d) r (at (l ++ k) (mid + (u * w + r))) y (at zs (mid + (u * w + r)))) (at_low u (r - 1) lu (omega arith))
            (back.changed u r lu lr)))

        up_below : (u j : ℕ) → u < 2 ^ suc p → j < w → 2 * n ≤ j + min (n - suc p - d) (size u + d) → at zs (u * w + j) < m
        up_below u₀ j₀ lu₀ lj₀ h₀ =
            by_top p u₀ (λ u. (j : ℕ) → j < w → 2 * n ≤ j + min (n - suc p - d) (size u + d) → at zs (u * w + j) < m) lu₀
            (λ lu j lj h. subst (λ (x : ℕ). x < m) (sym (zs_low u₀ j lu lj)) (first.below u₀ j lu lj (omega arith)))
            (λ u lu j lj h.
            let q = size_top p u lu in
            let a = zs_high u j lu lj in
            ⊎_elim
            (λ (l₁ : j + min e (size u + d) + 1 < w). subst (λ (x : ℕ). x < m) (sym (a.without l₁)) (second.below u j lu lj (reach_high n p d (size u) (size (2 ^ p + u)) j (omega arith) h)))
            (λ (g₁ : w ≤ j + min e (size u + d) + 1). subst (λ (x : ℕ). x < m) (sym (a.within g₁)) (mod-lt _ pos))
            (below_or (j + min e (size u + d) + 1) w))
            j₀ lj₀ h₀

        module _ (f g : ℕ → ℕ → ℕ) (rf : Ranks (suc p) d f) (rg : Ranks (suc p) d g) (ff : Factor m n 0 (suc p) d xs f) (fg : Factor m n 1 (suc p) d xs g) where
          low-cover : (u i : ℕ) → u < 2 ^ p → i ≤ size u + d → i + p + d ≤ n → at l (u * w + (2 * n - i)) ≡ cover p f g u (size u + d + i) % m
          low-cover u i =
              first.product f g (ranks_low p d f rf) (ranks_low p d g rg)
              (first_factor 0 (omega arith) f rf ff) (first_factor 1 (omega arith) g rg fg) u i

          high-cover : (u i : ℕ) → u < 2 ^ p → i ≤ size u + (d + 1) → i + p + (d + 1) ≤ n
              → at k (u * w + (2 * n - i)) ≡ (cover p f g u (size u + (d + 1) + i) + cover (suc p) f g (2 ^ p + u) (size u + (d + 1) + i)) % m
          high-cover u i lu hi top =
              second.product (both p f) (both p g) (ranks_both p d f rf) (ranks_both p d g rg)
              (second_factor 0 (omega arith) f rf ff) (second_factor 1 (omega arith) g rg fg) u i lu hi top
              ∙ ap (λ (x : ℕ). x % m) (cover-both p f g u (size u + (d + 1) + i))

          -- one rank more, one place before, in the lower row
          low-next : (u i : ℕ) → u < 2 ^ p → i + 1 ≤ size u + d → i + 1 + p + d ≤ n → at l (u * w + (2 * n - i - 1)) ≡ cover p f g u (size u + (d + 1) + i) % m
          low-next u i lu hi top =
              let q : 2 * n - (i + 1) ≡ 2 * n - i - 1 = omega arith in
              let r : size u + d + (i + 1) ≡ size u + (d + 1) + i = omega arith in
              subst₂ (λ (j t : ℕ). at l (u * w + j) ≡ cover p f g u t % m) q r (low-cover u (i + 1) lu hi top)

          high_product : (u i : ℕ) → u < 2 ^ p → i ≤ size u + (d + 1) → i + suc p + d ≤ n
              → at zs ((2 ^ p + u) * w + (2 * n - i)) ≡ cover (suc p) f g (2 ^ p + u) (size u + (d + 1) + i) % m
          high_product u i lu hi top =
              let t = size u + (d + 1) + i in
              let a = zs_high u (2 * n - i) lu (omega arith) in
              let x = high-cover u i lu hi (omega arith) in
              ⊎_elim
              (λ (l₁ : size u + d < i + 1).
              let z = cover_upto p d d f g (ranks_low p d f rf).upto (ranks_low p d g rg).upto u lu t (omega arith) in
              a.without (omega arith) ∙ x
              ∙ ap (λ (y : ℕ). y % m) (ap (λ (y : ℕ). y + cover (suc p) f g (2 ^ p + u) t) z ∙ zero-add _))
              (λ (g₁ : i + 1 ≤ size u + d).
              a.within (omega arith) ∙ ap₂ (minus m) x (low-next u i lu g₁ (omega arith))
              ∙ mod-sub m pos (cover (suc p) f g (2 ^ p + u) t) (cover p f g u t))
              (below_or (size u + d) (i + 1))

          up-product : (u i : ℕ) → u < 2 ^ suc p → i ≤ size u + d → i + suc p + d ≤ n → at zs (u * w + (2 * n - i)) ≡ cover (suc p) f g u (size u + d + i) % m
          up-product u₀ i₀ lu₀ hi₀ top₀ =
              by_top p u₀
              (λ u. (i : ℕ) → i ≤ size u + d → i + suc p + d ≤ n → at zs (u * w + (2 * n - i)) ≡ cover (suc p) f g u (size u + d + i) % m)
              lu₀
              (λ lu i hi top.
              zs_low u₀ (2 * n - i) lu (omega arith) ∙ low-cover u₀ i lu hi (omega arith)
              ∙ ap (λ (x : ℕ). x % m) (sym (cover-low p f g u₀ (size u₀ + d + i) lu)))
              (λ u lu i hi top.
              let q = size_top p u lu in
              let r : size u + (d + 1) + i ≡ size (2 ^ p + u) + d + i = omega arith in
              subst (λ (t : ℕ). at zs ((2 ^ p + u) * w + (2 * n - i)) ≡ cover (suc p) f g (2 ^ p + u) t % m) r (high_product u i lu (omega arith) top))
              i₀ hi₀ top₀

        pub up : Worked m n (suc p) d xs zs
        up = record { below = up_below; product = up-product }

-- ---- one entry

module _ (m n d : ℕ) (xs : List ℕ) (ready : Ready m n 0 d xs) where
  only : (u : ℕ) → u < 2 ^ 0 → (r : ℕ) → u * width n + r ≡ r
  only u lu r = ap (λ (v : ℕ). v * width n + r) (lt-one lu) ∙ ap (λ (v : ℕ). v + r) (zero-mul (width n)) ∙ zero-add r

  pub leaf_row : WholeRow n d xs
  leaf_row =
      record {
        few = ready.few;
        deep = omega (arith, ready.room);
        long = omega (arith, ready.long, one-mul (width n));
      }

  module _ (pos : 0 < m) (ys : List ℕ) (made : Multiplied m n d xs ys) where
    leaf_below : (u j : ℕ) → u < 2 ^ 0 → j < width n → 2 * n ≤ j + min (n - 0 - d) (size u + d) → at ys (u * width n + j) < m
    leaf_below u j lu lj h =
        let z = no_control u lu in
        subst (λ (i : ℕ). at ys i < m) (sym (only u lu j))
        (⊎_elim
        (λ (l₁ : j < 2 * n + 1).
        let i : 2 * n - (2 * n - j) ≡ j = omega (arith, l₁) in
        let q : min (n - 0 - d) (size u + d) ≡ min (n - d) d = ap₂ min (omega arith) (omega arith) in
        subst (λ (t : ℕ). at ys t < m) i (subst (λ (x : ℕ). x < m) (sym (made.ranks (2 * n - j) (reach_leaf n j _ _ q h))) (mod-lt _ pos)))
        (λ (g₁ : 2 * n + 1 ≤ j).
        let i : 2 * n + 1 ≡ j = omega arith in
        subst (λ (t : ℕ). at ys t < m) i (subst (λ (x : ℕ). x < m) (sym made.before) pos))
        (below_or j (2 * n + 1)))

    leaf_product : (f g : ℕ → ℕ → ℕ) → Ranks 0 d f → Ranks 0 d g → Factor m n 0 0 d xs f → Factor m n 1 0 d xs g
        → (u i : ℕ) → u < 2 ^ 0 → i ≤ size u + d → i + 0 + d ≤ n → at ys (u * width n + (2 * n - i)) ≡ cover 0 f g u (size u + d + i) % m
    unfolding cover
    leaf_product f g rf rg ff fg u e lu hi top =
        let z = no_control u lu in
        let i : d + e ≡ size u + d + e = omega arith in
        ap (at ys) (only u lu (2 * n - e))
        ∙ subst (λ (t : ℕ). at ys (2 * n - e) ≡ conv (f u) (g u) t % m) i
        (made.ranks e (omega arith)
        ∙ sum-mod m (d - e + 1) (λ j. at xs (2 * (d - e - j)) * at xs (2 * j + 1)) (λ j. f u (e + j) * g u (d - j))
        (λ j lj. mod-mul m _ _ _ _ (left e j (omega arith)) (right j (omega arith)))
        ∙ ap (λ (t : ℕ). t % m) (conv_window d (f u) (g u) (λ j h. rf.upto u j lu (omega arith)) (λ j h. rg.upto u j lu (omega arith)) e (omega arith)))
      where
        left : (e j : ℕ) → e + j ≤ d → at xs (2 * (d - e - j)) % m ≡ f u (e + j) % m
        left e j h =
            let z = no_control u lu in
            let q : 2 * (size u + d - (e + j)) + 0 ≡ 2 * (d - e - j) = omega arith in
            ap (λ (x : ℕ). x % m)
            (ap (at xs) (sym (only u lu (2 * (d - e - j))) ∙ ap (λ (t : ℕ). u * width n + t) (sym q)) ∙ ff u (e + j) lu (omega arith) (omega arith))
            ∙ mod-mod (f u (e + j)) m

        right : (j : ℕ) → j ≤ d → at xs (2 * j + 1) % m ≡ g u (d - j) % m
        right j h =
            let z = no_control u lu in
            let q : 2 * (size u + d - (d - j)) + 1 ≡ 2 * j + 1 = omega arith in
            ap (λ (x : ℕ). x % m)
            (ap (at xs) (sym (only u lu (2 * j + 1)) ∙ ap (λ (t : ℕ). u * width n + t) (sym q)) ∙ fg u (d - j) lu (omega arith) (omega arith))
            ∙ mod-mod (g u (d - j)) m

    pub leaf : Worked m n 0 d xs ys
    leaf = record { below = leaf_below; product = leaf_product }
