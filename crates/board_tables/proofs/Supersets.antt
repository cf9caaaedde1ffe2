-- The sets that contain S, in rising code: behind t comes (t + 1) | S.
--   next_contains, next_above    it contains S and is above t (next_nearer)
--   next_least                   no set that contains S is between
use mathlib.Core.Path.{◌≡◌, sym, ap, ◌∙◌}
use mathlib.Core.Logic.{◌⊎◌, inl, inr, ⊎_elim}
use Prim.Native.Nat.{ℕ, ◌+◌, ◌*◌, ◌-◌, ◌/◌, ◌%◌, ◌<◌, ◌≤◌, min, max}
use native.Mathlib.Omega.{arith}
use lib.Arith.{bin_ind}
use lib.Bits.{bit_and, bit_or, and_step, or_step, and_zero_l, or_zero_r, and_le_r, and_comm, or_add_and}
use Rattle.theory.specs.Codes.{and_half, and_odd}
use Rattle.theory.specs.Tests.{below_or}

pub next_contains : (S v : ℕ) → bit_and S (bit_or v S) ≡ S
next_contains = bin_ind (λ (S : ℕ). (v : ℕ) → bit_and S (bit_or v S) ≡ S) (λ v. and_zero_l (bit_or v 0))
    (λ S ih v.
    let o : bit_or v S ≡ bit_or (v / 2) (S / 2) * 2 + max (v % 2) (S % 2) = or_step v S in
    let half : bit_or v S / 2 ≡ bit_or (v / 2) (S / 2) = omega arith in
    let a : bit_and S (bit_or v S) ≡ bit_and (S / 2) (bit_or v S / 2) * 2 + min (S % 2) (bit_or v S % 2) = and_step S (bit_or v S) in
    let b : bit_and (S / 2) (bit_or v S / 2) ≡ S / 2 = ap (bit_and (S / 2)) half ∙ ih (v / 2) in
    omega arith)

pub next_above : (S t : ℕ) → t < bit_or (t + 1) S
next_above S t = omega (arith, or_add_and (t + 1) S, and_le_r (t + 1) S)

-- so what is left to pass gets less
pub next_nearer : (S t long : ℕ) → t < long → long - bit_or (t + 1) S < long - t
next_nearer S t long h = omega (arith, next_above S t)

-- one control more, below the others
step : (S t u : ℕ) → bit_and S t ≡ S → bit_and S u ≡ S → t < u
    → (t / 2 < u / 2 → bit_or (t / 2 + 1) (S / 2) ≤ u / 2) → (t % 2 ≡ 0) ⊎ (t % 2 ≡ 1) → bit_or (t + 1) S ≤ u
step S t u p q h ih (inl e) =
    let half : (t + 1) / 2 ≡ t / 2 = omega arith in
    let o : bit_or (t + 1) S ≡ bit_or ((t + 1) / 2) (S / 2) * 2 + max ((t + 1) % 2) (S % 2) = or_step (t + 1) S in
    let x : bit_or ((t + 1) / 2) (S / 2) ≡ bit_or (t / 2) (S / 2) = ap (λ (k : ℕ). bit_or k (S / 2)) half in
    let a : bit_and (t / 2) (S / 2) ≡ S / 2 = and_comm (t / 2) (S / 2) ∙ sym (and_half S t) ∙ ap (λ (k : ℕ). k / 2) p in
    omega (arith, or_add_and (t / 2) (S / 2), and_odd S t)
step S t u p q h ih (inr e) =
    let half : (t + 1) / 2 ≡ t / 2 + 1 = omega arith in
    let o : bit_or (t + 1) S ≡ bit_or ((t + 1) / 2) (S / 2) * 2 + max ((t + 1) % 2) (S % 2) = or_step (t + 1) S in
    let x : bit_or ((t + 1) / 2) (S / 2) ≡ bit_or (t / 2 + 1) (S / 2) = ap (λ (k : ℕ). bit_or k (S / 2)) half in
    let y : bit_or (t / 2 + 1) (S / 2) ≤ u / 2 = ih (omega arith) in
    omega (arith, and_odd S u)

parity : (t : ℕ) → (t % 2 ≡ 0) ⊎ (t % 2 ≡ 1)
parity t = ⊎_elim (λ (h : t % 2 < 1). inl (omega arith)) (λ (h : 1 ≤ t % 2). inr (omega arith)) (below_or (t % 2) 1)

pub next_least : (S t u : ℕ) → bit_and S t ≡ S → bit_and S u ≡ S → t < u → bit_or (t + 1) S ≤ u
next_least = bin_ind (λ (S : ℕ). (t u : ℕ) → bit_and S t ≡ S → bit_and S u ≡ S → t < u → bit_or (t + 1) S ≤ u)
    (λ t u p q h. omega (arith, or_zero_r (t + 1)))
    (λ S ih t u p q h. step S t u p q h
    (λ k. ih (t / 2) (u / 2) (sym (and_half S t) ∙ ap (λ (x : ℕ). x / 2) p) (sym (and_half S u) ∙ ap (λ (x : ℕ). x / 2) q) k)
    (parity t))
