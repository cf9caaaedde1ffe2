-- The loops that make a pass in place: for each what it has so far, one more turn, and its end.
--   Crossing   over the lower half of a block: crossing_start, crossing_turn (which reads by lower_read, upper_read), crossing_end
--   Passing    over the blocks of a table, each lent to a loop of the first kind: passing_start, passing_turn, passing_end;
--              passing_length and block_fits for its indices, lent-size and lent_below for the block that is lent
use Rattle.std.specs.Prelude.{◌≡◌, cond, ◌≢◌, ℕ, suc, ◌+◌, ◌-◌, ◌*◌, ◌^◌, ◌<◌, ◌≤◌, ltb, length, take, drop, set}
use Rattle.std.proofs.Common.{sym, ◌∙◌, ⊎_elim, mul-le-mul_right, zero-mul, length-drop, length-set, pow-add, get_or-take, get_or-drop, length-take-le, drop-drop}
use Rattle.std.proofs.Math.Path.{ap, ap₂}
use mathlib.Core.List.{List, ◌++◌}
use native.Mathlib.Omega.{arith}
use borrow.Author.Tests.{lt-ltb, le-ltb}
use borrow.Rule.Slice.PartMut.{put_mid}
use Rattle.definitions.specs.Sums.{tabulate, at}
use Rattle.theory.specs.Tests.{below_or}
use Rattle.theory.specs.Lists.{tabulate_ext, tabulate_of, tabulate-append, set-tabulate, at-tabulate, filled, filled_none, filled_block, filled_all, length-filled, at-filled}
use Rattle.theory.specs.Entries.{at_below, below_anywhere}
use Rattle.theory.specs.Passes.{pass, pass_block, crossed}

-- ---- over a block

-- one more turn changes the test of its own place only
other_test : (j t : ℕ) → j ≢ t → ltb j t ≡ ltb j (t + 1)
other_test j t d = ⊎_elim (λ (h : j < t). lt-ltb j t h ∙ sym (lt-ltb j (t + 1) (omega arith)))
    (λ (h : t ≤ j). le-ltb j t h ∙ sym (le-ltb j (t + 1) (omega arith))) (below_or j t)

-- what stands at j in the block xs when s entries of its lower half and t of its upper half are done
abbrev crossing_at : (ℕ → ℕ → ℕ) → (ℕ → ℕ → ℕ) → ℕ → List ℕ → ℕ → ℕ → ℕ → ℕ
crossing_at p q half xs s t j =
    cond (ltb j half) (cond (ltb j s) (p (at xs j) (at xs (half + j))) (at xs j)) (cond (ltb j (half + t)) (q (at xs (j - half)) (at xs j)) (at xs j))

-- l is what is left of the block xs after t turns
pub record Crossing (p q : ℕ → ℕ → ℕ) (half : ℕ) (xs : List ℕ) (t : ℕ) (l : List ℕ) : Type 0 where
  pub within : t ≤ half
  pub size : length xs ≡ half + half
  pub long : length l ≡ half + half
  pub is : l ≡ tabulate (half + half) (crossing_at p q half xs t t)

module _ {p q : ℕ → ℕ → ℕ} {half : ℕ} {xs : List ℕ} where
  pub crossing_start : length xs ≡ half + half → Crossing p q half xs 0 xs
  crossing_start e =
      record {
        within = omega arith;
        size = e;
        long = e;
        is = tabulate_of (half + half) xs _ e (λ j k. sym (⊎_elim
            (λ (h : j < half). simp (lt-ltb j half h, le-ltb j 0 (omega arith)))
            (λ (h : half ≤ j). simp (le-ltb j half h, le-ltb j (half + 0) (omega arith))) (below_or j half)));
      }

  module _ {t : ℕ} {l : List ℕ} (h : Crossing p q half xs t l) where
    abbrev entry : ℕ → ℕ → ℕ → ℕ
    entry = crossing_at p q half xs

    pub crossing_end : half ≤ t → l ≡ crossed p q half xs
    unfolding crossed
    crossing_end e =
        let all : t ≡ half = omega (arith, h.within) in
        h.is ∙ ap (λ (k : ℕ). tabulate (half + half) (entry k k)) all ∙ tabulate-append half half (entry half half)
        ∙ ap₂ ◌++◌ (tabulate_ext half _ _ (λ j k. simp (lt-ltb j half k)))
        (tabulate_ext half _ _ (λ j k.
        let back : half + j - half ≡ j = omega arith in
        simp (le-ltb (half + j) half (omega arith), lt-ltb (half + j) (half + half) (omega arith), back)))

    module _ (more : t < half) where
      -- what the turn reads
      pub lower_read : at l t ≡ at xs t
      lower_read =
          ap (λ (k : List ℕ). at k t) h.is ∙ at-tabulate (half + half) (entry t t) t (omega arith)
          ∙ simp (lt-ltb t half more, le-ltb t t (omega arith))

      pub upper_read : at l (half + t) ≡ at xs (half + t)
      upper_read =
          ap (λ (k : List ℕ). at k (half + t)) h.is ∙ at-tabulate (half + half) (entry t t) (half + t) (omega arith)
          ∙ simp (le-ltb (half + t) half (omega arith), le-ltb (half + t) (half + t) (omega arith))

      -- what it stores
      pub crossing_turn : {v w : ℕ} → v ≡ p (at l t) (at l (half + t)) → w ≡ q (at l t) (at l (half + t))
          → Crossing p q half xs (t + 1) (set (set l t v) (half + t) w)
      crossing_turn {v} {w} c d =
          let back : half + t - half ≡ t = omega arith in
          let next : half + t + 1 ≡ half + (t + 1) = omega arith in
          record {
            within = omega arith;
            size = h.size;
            long = length-set (set l t v) (half + t) w ∙ length-set l t v ∙ h.long;
            is = ap (λ (k : List ℕ). set (set k t v) (half + t) w) h.is
                ∙ ap (λ (k : List ℕ). set k (half + t) w)
                (set-tabulate (half + half) (entry t t) (entry (t + 1) t) t v (omega arith)
                (c ∙ ap₂ p lower_read upper_read ∙ sym (simp (lt-ltb t half more, lt-ltb t (t + 1) (omega arith)))) (λ j k e. rw (other_test j t e)))
                ∙ set-tabulate (half + half) (entry (t + 1) t) (entry (t + 1) (t + 1)) (half + t) w (omega arith)
                (d ∙ ap₂ q lower_read upper_read
                ∙ sym (simp (le-ltb (half + t) half (omega arith), lt-ltb (half + t) (half + (t + 1)) (omega arith), back)))
                (λ j k e. rw (other_test j (half + t) e, next));
          }

-- ---- over the blocks of a table

-- l is what is left of the table xs after so many blocks
pub record Passing (p q : ℕ → ℕ → ℕ) (n i half blocks : ℕ) (xs : List ℕ) (block : ℕ) (l : List ℕ) : Type 0 where
  pub control : i < n
  pub half_is : half ≡ 2 ^ i
  pub blocks_is : blocks ≡ 2 ^ (n - i - 1)
  pub size : length xs ≡ 2 ^ n
  pub within : block ≤ blocks
  pub is : l ≡ filled (pass p q i (at xs)) (block * (half + half)) xs

module _ {p q : ℕ → ℕ → ℕ} {n i half blocks : ℕ} {xs : List ℕ} where
  pub passing_start : i < n → half ≡ 2 ^ i → blocks ≡ 2 ^ (n - i - 1) → length xs ≡ 2 ^ n → Passing p q n i half blocks xs 0 xs
  passing_start c h b s =
      record { control = c; half_is = h; blocks_is = b; size = s; within = omega arith; is = rw (zero-mul (half + half)) (filled_none (pass p q i (at xs)) xs) }

  module _ {block : ℕ} {l : List ℕ} (h : Passing p q n i half blocks xs block l) where
    width : half + half ≡ 2 ^ suc i
    width = omega (arith, h.half_is)

    all_blocks : blocks * (half + half) ≡ length xs
    all_blocks =
        let e : n - i - 1 + suc i ≡ n = omega (arith, h.control) in
        ap₂ ◌*◌ h.blocks_is width ∙ sym (pow-add 2 (n - i - 1) (suc i)) ∙ ap (λ (k : ℕ). 2 ^ k) e ∙ sym h.size

    so_far : block * (half + half) ≤ length xs
    so_far = omega (arith, mul-le-mul_right {m = block} {n = blocks} (half + half) h.within, all_blocks)

    pub passing_length : length l ≡ length xs
    passing_length = ap length h.is ∙ length-filled (pass p q i (at xs)) (block * (half + half)) xs so_far

    pub passing_end : blocks ≤ block → l ≡ tabulate (2 ^ n) (pass p q i (at xs))
    passing_end e =
        let b : block ≡ blocks = omega (arith, h.within) in
        let w : block * (half + half) ≡ length xs = ap (λ (k : ℕ). k * (half + half)) b ∙ all_blocks in
        h.is ∙ filled_all (pass p q i (at xs)) (block * (half + half)) xs (omega arith)
        ∙ ap (λ (k : ℕ). tabulate k (pass p q i (at xs))) (w ∙ h.size)

    module _ (more : block < blocks) where
      pub block_fits : block * (half + half) + (half + half) ≤ length l
      block_fits = omega (arith, mul-le-mul_right {m = suc block} {n = blocks} (half + half) more, all_blocks, passing_length)

      -- the block that is lent
      abbrev from : ℕ
      from = block * (half + half)

      abbrev count : ℕ
      count = from + (half + half) - from

      count_is : count ≡ half + half
      count_is = omega arith

      abbrev lent : List ℕ
      lent = take count (drop from l)

      at-lent : (t : ℕ) → t < half + half → at lent t ≡ at xs (from + t)
      at-lent t e =
          get_or-take count (drop from l) t 0 (omega arith) ∙ get_or-drop from l t 0 ∙ ap (λ (u : List ℕ). at u (from + t)) h.is
          ∙ at-filled (pass p q i (at xs)) from xs t

      pub lent-size : length lent ≡ half + half
      lent-size = length-take-le count (drop from l) (rw (length-drop from l) (omega (arith, block_fits))) ∙ count_is

      pub lent_below : {m : ℕ} → ((S : ℕ) → at xs S < m) → (t : ℕ) → at lent t < m
      lent_below {m} e = below_anywhere m lent (omega (arith, e 0)) (at_below m lent (λ t k. rw (at-lent t (omega (arith, lent-size))) (e (from + t))))

      crossed_block : crossed p q half lent ≡ tabulate (half + half) (λ t. pass p q i (at xs) (from + t))
      crossed_block =
          ap (λ (z : ℕ). crossed p q z lent) h.half_is
          ∙ pass_block p q i block (at xs) lent (λ t e. at-lent t (omega (arith, width)) ∙ ap (λ (z : ℕ). at xs (block * z + t)) width)
          ∙ ap (λ (z : ℕ). tabulate z (λ t. pass p q i (at xs) (block * z + t))) (sym width)

      pub passing_turn : {new : List ℕ} → new ≡ crossed p q half lent → Passing p q n i half blocks xs (block + 1) (put_mid from count l new)
      passing_turn e =
          let next : from + (half + half) ≡ (block + 1) * (half + half) = omega arith in
          record {
            control = h.control;
            half_is = h.half_is;
            blocks_is = h.blocks_is;
            size = h.size;
            within = omega arith;
            is = ap₂ (λ (u v : List ℕ). take from l ++ (u ++ v)) (e ∙ crossed_block) (ap (λ (j : ℕ). drop j (drop from l)) count_is ∙ drop-drop (half + half) from l)
                ∙ ap (λ (u : List ℕ). take from u ++ (tabulate (half + half) (λ t. pass p q i (at xs) (from + t)) ++ drop (from + (half + half)) u)) h.is
                ∙ filled_block (pass p q i (at xs)) from (half + half) xs ∙ ap (λ (j : ℕ). filled (pass p q i (at xs)) j xs) next;
          }
