-- The size of the next code: one is added, so that the ones at the end become zeros and the zero above them a one.
use mathlib.Core.Path.{◌≡◌, refl, ap}
use Prim.Native.Nat.{ℕ, zero, suc, ◌+◌, ◌/◌, ◌%◌, ◌^◌, ◌<◌}
use native.Mathlib.Omega.{arith}
use lib.Count.{count_trailing_zeros, under, ones_step}
use Rattle.definitions.specs.Sets.{size}

module _ (k u : ℕ) (more : u / 2 + 1 < 2 ^ k → size (u / 2 + 1) + count_trailing_zeros k (u / 2 + 1) ≡ size (u / 2) + 1) where
  -- by the last digit of the next code
  by_last : (r : ℕ) → (u + 1) % 2 ≡ r → u + 1 < 2 ^ suc k → size (u + 1) + under r (count_trailing_zeros k ((u + 1) / 2)) ≡ size u + 1
  by_last zero e h =
      let half : (u + 1) / 2 ≡ u / 2 + 1 = omega arith in
      omega (arith, ones_step (u + 1), ones_step u, ap size half, ap (count_trailing_zeros k) half, more (omega arith))
  by_last (suc r) e h =
      let half : (u + 1) / 2 ≡ u / 2 = omega arith in
      omega (arith, ones_step (u + 1), ones_step u, ap size half)

pub next-size : (k u : ℕ) → u + 1 < 2 ^ k → size (u + 1) + count_trailing_zeros k (u + 1) ≡ size u + 1
unfolding count_trailing_zeros
next-size zero u h = absurd (omega arith)
next-size (suc k) u h = by_last k u (next-size k (u / 2)) ((u + 1) % 2) refl h
