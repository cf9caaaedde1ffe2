use mathlib.Core.Path.{refl}
use Prim.Native.Nat.{ℕ, ◌^◌, ◌<◌}
use native.Mathlib.Omega.{arith}
use lib.Count.{ones, ones-le}
use Rattle.sets.proofs.SetCode.size.Goals as goal

-- a count of ones fits, whatever is counted
count_fits : {x : ℕ} → x < 2 ^ 64 → ones x < 2 ^ 64
count_fits {x} h = omega (arith, ones-le 64 x h)

pub overflow_cast-ones : goal.overflow_cast-ones
overflow_cast-ones c = record { fits = count_fits (omega (arith, c.requires)) }

pub returns : goal.returns
returns c = refl
