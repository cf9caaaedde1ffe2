use Rattle.recipe_operations.specs.Codes.{sign_of}
use native.Mathlib.Numerals.{add-one}
use native.Mathlib.Omega.{arith}
use Rattle.recipe_machine.proofs.Steps.{one_less}
use Rattle.recipe_machine.proofs.height_after.Goals as goal

pub overflow_add-result : goal.overflow_add-result
overflow_add-result c = omega (arith, rw c.in-Push.is at c.requires)

pub overflow_sub-result : goal.overflow_sub-result
overflow_sub-result c = omega (arith, rw c.in-Combine.is at c.requires)

pub returns-in-Push : goal.returns-in-Push
returns-in-Push c = rw c.in-Push.is (add-one _)

pub returns-in-Combine : goal.returns-in-Combine
returns-in-Combine c = rw c.in-Combine.is (one_less (sign_of c.in-Combine.field-0) _ (rw c.in-Combine.is at c.requires))
