-- Powers of two, as tables of 2 ^ k entries side by side need them.
--   more_than             n tables of no controls fit a table of n controls
--   slots_fit             as many tables of k controls as there are controls left, twice, fit it too
--   two_slots             a slot of the next size is two slots
use Rattle.std.specs.Prelude.{◌≡◌, ℕ, zero, suc, ◌+◌, ◌*◌, ◌^◌, ◌<◌, ◌≤◌}
use Rattle.std.proofs.Common.{sym, mul-le-mul_right, pow-suc, arith, pow-add, pow_mono}

pub more_than : (n : ℕ) → n < 2 ^ n
more_than zero = omega arith
more_than (suc n) = omega (arith, more_than n)

double_le : (j : ℕ) → 2 * suc j ≤ 2 ^ suc j
double_le zero = omega arith
double_le (suc j) = rw (pow-suc 2 (suc j)) (omega (arith, double_le j))

pub slots_fit : (n k j : ℕ) → suc j + k ≤ n → 2 * (suc j * 2 ^ k) ≤ 2 ^ n
slots_fit n k j h =
    let one : 2 * suc j * 2 ^ k ≤ 2 ^ suc j * 2 ^ k = mul-le-mul_right (2 ^ k) (double_le j) in
    let two : 2 ^ suc j * 2 ^ k ≤ 2 ^ n = rw (sym (pow-add 2 (suc j) k)) (pow_mono h) in
    omega arith

pub two_slots : (i k : ℕ) → i * 2 ^ suc k ≡ 2 * (i * 2 ^ k)
two_slots i k = rw (pow-suc 2 k) (omega arith)
