use mathlib.Core.Path.{◌≡◌, ap}
use Prim.Native.Nat.{ℕ, ◌+◌, ◌*◌, ◌^◌, ◌<◌, ◌≤◌}
use native.Mathlib.Nat.{lt_of_le_of_lt, mul-le-mul}
use native.Mathlib.Omega.{arith}
use lib.Dec.{lit<}
use lib.Pow.{pow_mono}
use Rattle.definitions.specs.Limits.{most_controls, pad_length}
use Rattle.pads.proofs.pad_length.Goals as goal

fits : (n k : ℕ) → n ≤ most_controls → k ≡ 2 ^ n → (2 * n + 4) * k < 2 ^ 64
fits n k h e =
    let p : 2 ^ n ≤ 2 ^ 16 = pow_mono h in
    let x : 2 * n + 4 ≤ 36 = omega arith in
    let y : k ≤ 65536 = omega arith in
    lt_of_le_of_lt (mul-le-mul x y) (lit< tt)

pub overflow_mul-result-2 : goal.overflow_mul-result-2
overflow_mul-result-2 c = record { fits = fits c.args.n c.power.result c.requires c.power.ensures }

pub returns : goal.returns
unfolding pad_length
returns c = ap (λ (k : ℕ). (2 * c.args.n + 4) * k) c.power.ensures
