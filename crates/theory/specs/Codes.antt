-- Codes of sets of controls: inside, union, symmetric difference and size by the top control.
--   inside→eq, eq→inside, inside-le      what the test `inside` says
--   by_top                               a code below 2 ^ suc n has control n or not
--   and_hh, and_lh, and_hl, inside-.., or-.., xor-..    of codes with (h) and without (l) the top control
--   size_top, size-le                    sizes; size_zero, size_none: 0 is the size of the empty set, and of no other
--   apart_rest                           S without L, for L inside S
use Rattle.std.specs.Prelude.{◌≡◌, refl, false, ℕ, suc, ◌+◌, ◌*◌, ◌-◌, ◌/◌, ◌%◌, ◌^◌, ◌<◌, ◌≤◌, min, T, eqb}
use Rattle.std.proofs.Common.{sym, ap, ◌∙◌, subst, ⊎_elim, zero-mul, one-mul, zero-add, arith, eqb→eq}
use Rattle.std.proofs.Math.Dec.{eqb_refl}
use Rattle.std.proofs.Math.Arith.{bin_ind}
use Rattle.std.specs.Int.Bits.{bit_and, bit_or, bit_xor, and_step}
use Rattle.std.proofs.lemmas.Nat.{and_block, or_block, xor_block, and_le_r, and_le_l, ones_cat, ones-le}
use Rattle.std.specs.Int.Count.{ones, ones_step}
use Rattle.definitions.specs.Sets.{size, inside}
use Rattle.theory.specs.Tests.{same_test, no_test, below_or}

-- ---- inside

pub inside→eq : (L S : ℕ) → T (inside L S) → bit_and L S ≡ L
unfolding inside
inside→eq L S t = eqb→eq (bit_and L S) L t

pub eq→inside : (L S : ℕ) → bit_and L S ≡ L → T (inside L S)
unfolding inside
eq→inside L S e = subst (λ (x : ℕ). T (eqb x L)) (sym e) (eqb_refl L)

pub inside-le : (L S : ℕ) → T (inside L S) → L ≤ S
inside-le L S t = omega (arith, inside→eq L S t, and_le_r L S)

-- ---- with the top control and without it

pub by_top : (n c : ℕ) (P : ℕ → Type 0) → c < 2 ^ suc n → (c < 2 ^ n → P c) → ((r : ℕ) → r < 2 ^ n → P (2 ^ n + r)) → P c
by_top n c P h lo hi = ⊎_elim lo
    (λ (k : 2 ^ n ≤ c). let back : 2 ^ n + (c - 2 ^ n) ≡ c = omega arith in rw back at (hi (c - 2 ^ n) (omega arith))) (below_or c (2 ^ n))

module _ (n L S : ℕ) (hl : L < 2 ^ n) (hs : S < 2 ^ n) where
  pub and_hh : bit_and (2 ^ n + L) (2 ^ n + S) ≡ 2 ^ n + bit_and L S
  and_hh = simp one-mul at (and_block n 1 1 L S hl hs)

  pub and_lh : bit_and L (2 ^ n + S) ≡ bit_and L S
  and_lh = simp (one-mul, zero-mul, zero-add) at (and_block n 0 1 L S hl hs)

  pub and_hl : bit_and (2 ^ n + L) S ≡ bit_and L S
  and_hl = simp (one-mul, zero-mul, zero-add) at (and_block n 1 0 L S hl hs)

  pub inside_hh : inside (2 ^ n + L) (2 ^ n + S) ≡ inside L S
  inside_hh = same_test _ _
      (λ t. eq→inside L S (omega (arith, inside→eq _ _ t, and_hh)))
      (λ t. eq→inside _ _ (omega (arith, inside→eq _ _ t, and_hh)))

  pub inside_lh : inside L (2 ^ n + S) ≡ inside L S
  inside_lh = same_test _ _
      (λ t. eq→inside L S (omega (arith, inside→eq _ _ t, and_lh)))
      (λ t. eq→inside _ _ (omega (arith, inside→eq _ _ t, and_lh)))

  pub inside_hl : inside (2 ^ n + L) S ≡ false
  inside_hl = no_test _ (λ t. omega (arith, inside→eq _ _ t, and_hl, and_le_l L S))

  pub or_hh : bit_or (2 ^ n + L) (2 ^ n + S) ≡ 2 ^ n + bit_or L S
  or_hh = simp one-mul at (or_block n 1 1 L S hl hs)

  pub or_lh : bit_or L (2 ^ n + S) ≡ 2 ^ n + bit_or L S
  or_lh = simp (one-mul, zero-mul, zero-add) at (or_block n 0 1 L S hl hs)

  pub or_hl : bit_or (2 ^ n + L) S ≡ 2 ^ n + bit_or L S
  or_hl = simp (one-mul, zero-mul, zero-add) at (or_block n 1 0 L S hl hs)

  pub xor_hh : bit_xor (2 ^ n + L) (2 ^ n + S) ≡ bit_xor L S
  xor_hh = simp (one-mul, zero-mul, zero-add) at (xor_block n 1 1 L S hl hs)

  pub xor_lh : bit_xor L (2 ^ n + S) ≡ 2 ^ n + bit_xor L S
  xor_lh = simp (one-mul, zero-mul, zero-add) at (xor_block n 0 1 L S hl hs)

  pub xor_hl : bit_xor (2 ^ n + L) S ≡ 2 ^ n + bit_xor L S
  xor_hl = simp (one-mul, zero-mul, zero-add) at (xor_block n 1 0 L S hl hs)

-- ---- sizes

-- the top control is one more
pub size_top : (n c : ℕ) → c < 2 ^ n → size (2 ^ n + c) ≡ suc (size c)
unfolding ones
size_top n c h = ap (λ (x : ℕ). ones (x + c)) (sym (one-mul (2 ^ n))) ∙ ones_cat n 1 c h ∙ omega arith

pub size-le : (n c : ℕ) → c < 2 ^ n → size c ≤ n
size-le n c h = ones-le n c h

pub size_zero : size 0 ≡ 0
unfolding ones
size_zero = refl

pub size_none : (S : ℕ) → size S ≡ 0 → S ≡ 0
size_none = bin_ind (λ (S : ℕ). size S ≡ 0 → S ≡ 0) (λ e. refl)
    (λ S ih e. omega (arith, ones_step S, ih (omega (arith, ones_step S))))

-- ---- bit by bit

pub and_half : (a b : ℕ) → bit_and a b / 2 ≡ bit_and (a / 2) (b / 2)
and_half a b = omega (arith, and_step a b)

pub and_odd : (a b : ℕ) → bit_and a b % 2 ≡ min (a % 2) (b % 2)
and_odd a b = omega (arith, and_step a b)

-- S without L, bit by bit
rest_half : (L S : ℕ) → bit_and L S ≡ L → (S - L) / 2 ≡ S / 2 - L / 2
rest_half L S e = omega (arith, and_odd L S, and_le_r L S)

rest_odd : (L S : ℕ) → bit_and L S ≡ L → (S - L) % 2 + L % 2 ≡ S % 2
rest_odd L S e = omega (arith, and_odd L S, and_le_r L S)

half_inside : (L S : ℕ) → bit_and L S ≡ L → bit_and (L / 2) (S / 2) ≡ L / 2
half_inside L S e = sym (and_half L S) ∙ ap (λ (x : ℕ). x / 2) e

-- L and S without L have nothing in common
pub apart_rest : (L S : ℕ) → bit_and L S ≡ L → bit_and L (S - L) ≡ 0
apart_rest = bin_ind (λ (L : ℕ). (S : ℕ) → bit_and L S ≡ L → bit_and L (S - L) ≡ 0) (λ S e. refl)
    (λ L ih S e.
    let z : bit_and (L / 2) ((S - L) / 2) ≡ 0 = rw (rest_half L S e) (ih (S / 2) (half_inside L S e)) in
    let bits : bit_and L (S - L) ≡ bit_and (L / 2) ((S - L) / 2) * 2 + min (L % 2) ((S - L) % 2) = and_step L (S - L) in
    omega (arith, rest_odd L S e))
