use native.Mathlib.Omega.{arith}
use Rattle.composition.proofs.Places.{inside, within_ready, copy_ready, turned}
use Rattle.composition.proofs.next_table.Goals as goal

pub overflow_mul-shift : goal.overflow_mul-shift
overflow_mul-shift c = omega (arith, inside c.power_of_two-size.ensures c.requires)

pub overflow_add-slot : goal.overflow_add-slot
overflow_add-slot c = omega (arith, inside c.power_of_two-size.ensures c.requires)

pub overflow_add-next : goal.overflow_add-next
overflow_add-next c = omega (arith, inside c.power_of_two-size.ensures c.requires)

pub overflow_add-next-2 : goal.overflow_add-next-2
overflow_add-next-2 c = omega (arith, inside c.power_of_two-size.ensures c.requires)

pub multiply_within-requires : goal.multiply_within-requires
multiply_within-requires c = within_ready c.power_of_two-size.ensures c.requires _ (omega arith) (omega arith)

pub overflow_add-slot-2 : goal.overflow_add-slot-2
overflow_add-slot-2 c = omega (arith, inside c.power_of_two-size.ensures c.requires)

pub copy_table-requires : goal.copy_table-requires
copy_table-requires c = copy_ready c.power_of_two-size.ensures c.requires _ c.multiply_within.auto.workspace

pub returns : goal.returns
returns c = turned c.power_of_two-size.ensures c.requires c.multiply_within.ensures c.copy_table.ensures
