-- Places of the pad: where they are, and that what is done at one leaves those below it.
use mathlib.Core.Path.{◌≡◌, refl, ap₂}
use mathlib.Core.List.{List, ◌∷◌}
use Prim.Native.Nat.{ℕ, zero, suc, ◌+◌, ◌*◌, ◌^◌, ◌<◌, ◌≤◌}
use native.Mathlib.Nat.{suc-mul, mul-le-mul_right, mul-le-mul}
use native.Mathlib.Omega.{arith}
use lib.ListN.{length}
use lib.Pow.{pow_mono}
use Rattle.definitions.specs.Limits.{most_controls, pad_length, recipe_pad_length}
use Rattle.definitions.specs.Sums.{at}
use Rattle.recipe_operations.specs.Places.{same_table}
use Rattle.recipe_machine.specs.Memory.{place_of, placed, values_below}

-- the number of a place fits a word
pub place_fits : (n k : ℕ) {size : ℕ} → n ≤ most_controls → k ≤ 32 → size ≡ 2 ^ n → k * size ≤ 32 * 65536
place_fits n k {size} few within e =
    let p : 2 ^ n ≤ 2 ^ 16 = pow_mono few in
    let s : size ≤ 65536 = omega arith in
    mul-le-mul within s

pub pad_fits : (n : ℕ) {used : ℕ} → n ≤ most_controls → used ≡ pad_length n → used ≤ 36 * 65536
unfolding pad_length
pad_fits n few e =
    let p : 2 ^ n ≤ 2 ^ 16 = pow_mono few in
    let x : 2 * n + 4 ≤ 36 = omega arith in
    let q : 2 ^ n ≤ 65536 = omega arith in
    let y : (2 * n + 4) * 2 ^ n ≤ 36 * 65536 = mul-le-mul x q in
    omega arith

-- a place below another
pub place_below : (n j k : ℕ) → j < k → place_of n j + 2 ^ n ≤ place_of n k
place_below n j k h =
    let more : suc j * 2 ^ n ≤ k * 2 ^ n = mul-le-mul_right (2 ^ n) h in
    omega (arith, suc-mul j (2 ^ n))

-- one below the thirty-second is in the pad
pub place_in : (n k : ℕ) {long : ℕ} → k < 32 → recipe_pad_length n ≤ long → place_of n k + 2 ^ n ≤ long
unfolding recipe_pad_length
place_in n k h room = omega (arith, place_below n k 32 h)

-- the pad behind the workspace and before place k is as it was
module _ (n k : ℕ) (pad pad' : List ℕ) (few : k < 32) (room : recipe_pad_length n ≤ length pad) (kept : length pad' ≡ length pad)
    (same : (x : ℕ) → pad_length n ≤ x → x < place_of n k → at pad' x ≡ at pad x) where
  pub place_same : (j : ℕ) → j < k → placed n j pad' ≡ placed n j pad
  place_same j h =
      same_table n (place_of n j) pad' (omega (arith, place_in n j (omega arith) room, kept)) pad (place_in n j (omega arith) room)
      (λ x low high. same x (omega arith) (omega (arith, place_below n j k h)))

  pub values_same : (h : ℕ) → h < k → values_below n h pad' ≡ values_below n h pad
  values_same zero l = refl
  values_same (suc h) l = ap₂ ◌∷◌ (place_same (suc h) l) (values_same h (omega arith))
