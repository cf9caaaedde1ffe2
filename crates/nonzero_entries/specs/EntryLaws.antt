-- Laws of the next entry that is not 0.
--   none_skipped, one_skipped, many_skipped   skipping zeros; eight-zeros: eight entries whose join is 0
--   skipped_zeros                             what was skipped is 0
--   here_next, none_next                      finding it
use Rattle.std.specs.Prelude.{◌≡◌, List, ◌∷◌, ◌++◌, ℕ, zero, suc, ◌+◌, ◌-◌, ◌<◌, ◌≤◌, length, drop}
use Rattle.std.proofs.Common.{sym, ◌∙◌, ap, subst, ⊎_elim, add-one, arith, drop-cons, get_or-drop}
use Rattle.std.specs.Int.Bits.{bit_or, or_add_and}
use Rattle.std.proofs.lemmas.Nat.{or_comm, and_le_r}
use Rattle.std.proofs.Math.ListN.{get_or-append}
use Rattle.definitions.specs.Sums.{at}
use Rattle.definitions.specs.Files.{zeros}
use Rattle.theory.specs.Tests.{below_or}
use Rattle.theory.specs.Lists.{at-tabulate}
use Rattle.theory.specs.Gaps.{length-zeros, zero_behind, zeros-tabulate}
use Rattle.nonzero_entries.specs.Entries.{ZerosAt, Skipped, NextEntry}

-- ---- the entries from a place on

pub none_skipped : (a : List ℕ) (from : ℕ) → from ≤ length a → Skipped a from from
unfolding zeros
none_skipped a from h = record {
  behind = omega arith;
  inside = h;
  skipped = ap (λ (k : ℕ). zeros k ++ drop from a) (let e : 0 ≡ from - from = omega arith in e);
}

module _ (a : List ℕ) (from r : ℕ) (s : Skipped a from r) where
  pub one_skipped : r < length a → at a r ≡ 0 → Skipped a from (r + 1)
  one_skipped h e = record {
    behind = omega (arith, s.behind);
    inside = omega arith;
    skipped =
        s.skipped
        ∙ ap (λ (l : List ℕ). zeros (r - from) ++ l) (drop-cons a r 0 h ∙ ap (λ (v : ℕ). v ∷ drop (suc r) a) e)
        ∙ sym (zero_behind (r - from) (drop (suc r) a))
        ∙ ap (λ (k : ℕ). zeros k ++ drop (suc r) a) (let d : suc (r - from) ≡ r + 1 - from = omega (arith, s.behind) in d)
        ∙ ap (λ (k : ℕ). zeros (r + 1 - from) ++ drop k a) (sym (add-one r));
  }

  pub here_next : (at a r ≡ 0 → ⊥) → NextEntry a from r
  here_next d = record { zeros_before = s; found = λ h. omega (arith, d) }

  pub none_next : length a ≤ r → NextEntry a from r
  none_next h = record { zeros_before = s; found = λ k. absurd (omega arith) }

pub many_skipped : (a : List ℕ) (from r k : ℕ) → Skipped a from r → r + k ≤ length a → ZerosAt a r k → Skipped a from (r + k)
many_skipped a from r zero s h z = subst (Skipped a from) (let e : r ≡ r + 0 = omega arith in e) s
many_skipped a from r (suc k) s h z =
    subst (Skipped a from) (let e : r + k + 1 ≡ r + suc k = omega arith in e)
    (one_skipped a from (r + k) (many_skipped a from r k s (omega arith) (λ i l. z i (omega arith))) (omega arith) (z k (omega arith)))

-- what was skipped is 0
pub skipped_zeros : (a : List ℕ) (from r : ℕ) → Skipped a from r → ZerosAt a from (r - from)
skipped_zeros a from r s i h =
    sym (get_or-drop from a i 0)
    ∙ ap (λ (l : List ℕ). at l i) s.skipped
    ∙ get_or-append (zeros (r - from)) (drop r a) 0 i (omega (arith, length-zeros (r - from)))
    ∙ ap (λ (l : List ℕ). at l i) (sym (zeros-tabulate (r - from)))
    ∙ at-tabulate (r - from) (λ j. 0) i h

-- ---- eight entries, joined

or_left : (x y : ℕ) → bit_or x y ≡ 0 → x ≡ 0
or_left x y e = omega (arith, or_add_and x y, and_le_r x y)

or_right : (x y : ℕ) → bit_or x y ≡ 0 → y ≡ 0
or_right x y e = or_left y x (or_comm y x ∙ e)

-- four numbers joined; if that is 0, each of them is
abbrev joined : ℕ → ℕ → ℕ → ℕ → ℕ
joined w x y z = bit_or (bit_or (bit_or w x) y) z

module _ (w x y z : ℕ) (e : joined w x y z ≡ 0) where
  three : bit_or (bit_or w x) y ≡ 0
  three = or_left (bit_or (bit_or w x) y) z e

  two : bit_or w x ≡ 0
  two = or_left (bit_or w x) y three

  at_first : w ≡ 0
  at_first = or_left w x two

  at_second : x ≡ 0
  at_second = or_right w x two

  at_third : y ≡ 0
  at_third = or_right (bit_or w x) y three

  at_fourth : z ≡ 0
  at_fourth = or_right (bit_or (bit_or w x) y) z e

module _ (a : List ℕ) (r : ℕ) (e : joined (at a r) (at a (r + 1)) (at a (r + 2)) (at a (r + 3)) ≡ 0) where
  four_zeros : ZerosAt a r 4
  four_zeros zero h = ap (at a) (let d : r + 0 ≡ r = omega arith in d) ∙ at_first (at a r) (at a (r + 1)) (at a (r + 2)) (at a (r + 3)) e
  four_zeros (suc zero) h = at_second (at a r) (at a (r + 1)) (at a (r + 2)) (at a (r + 3)) e
  four_zeros (suc (suc zero)) h = at_third (at a r) (at a (r + 1)) (at a (r + 2)) (at a (r + 3)) e
  four_zeros (suc (suc (suc zero))) h = at_fourth (at a r) (at a (r + 1)) (at a (r + 2)) (at a (r + 3)) e
  four_zeros (suc (suc (suc (suc i)))) h = absurd (omega arith)

pub eight_zeros : (a : List ℕ) (r : ℕ) →
    bit_or (joined (at a r) (at a (r + 1)) (at a (r + 2)) (at a (r + 3))) (joined (at a (r + 4)) (at a (r + 5)) (at a (r + 6)) (at a (r + 7))) ≡ 0 →
    ZerosAt a r 8
eight_zeros a r e i h = ⊎_elim
    (λ (l : i < 4). four_zeros a r (or_left low high e) i l)
    (λ (l : 4 ≤ i).
    ap (at a) (let d : r + i ≡ r + 4 + (i - 4) = omega arith in d) ∙ four_zeros a (r + 4) (high-from (or_right low high e)) (i - 4) (omega arith))
    (below_or i 4)
  where
    low : ℕ
    low = joined (at a r) (at a (r + 1)) (at a (r + 2)) (at a (r + 3))

    high : ℕ
    high = joined (at a (r + 4)) (at a (r + 5)) (at a (r + 6)) (at a (r + 7))

    high-from : high ≡ 0 → joined (at a (r + 4)) (at a (r + 4 + 1)) (at a (r + 4 + 2)) (at a (r + 4 + 3)) ≡ 0
    high-from f =
        rw (let d : r + 4 + 1 ≡ r + 5 = omega arith in d, let d : r + 4 + 2 ≡ r + 6 = omega arith in d, let d : r + 4 + 3 ≡ r + 7 = omega arith in d) f
