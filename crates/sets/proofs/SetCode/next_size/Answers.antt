use Prim.Native.Nat.{◌+◌}
use native.Mathlib.Omega.{arith}
use lib.Count.{ones-le, trailing_le}
use Rattle.sets.proofs.Next.{next-size}
use Rattle.sets.proofs.SetCode.next_size.Goals as goal

pub overflow_add-result : goal.overflow_add-result
overflow_add-result c = omega (arith, c.requires.own_value, ones-le 24 _ c.requires.self_lt_code_limit)

pub overflow_cast-result : goal.overflow_cast-result
overflow_cast-result c = omega (arith, trailing_le 64 (c.args.self.0 + 1))

pub overflow_sub-result : goal.overflow_sub-result
overflow_sub-result c = omega (arith, c.requires.own_value, next-size 64 c.args.self.0 (omega (arith, c.requires.self_lt_code_limit)))

pub returns : goal.returns
returns c = omega (arith, c.requires.own_value, next-size 64 c.args.self.0 (omega (arith, c.requires.self_lt_code_limit)))
