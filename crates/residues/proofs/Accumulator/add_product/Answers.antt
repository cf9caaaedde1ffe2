use Rattle.std.proofs.Common.{arith, rules}
use Rattle.residues.specs.Accumulated.{held}
use Rattle.residues.proofs.Reduce.{product_fits}
use Rattle.residues.proofs.Accumulator.add_product.Goals as goal

pub overflow_mul-term : goal.overflow_mul-term
overflow_mul-term c = product_fits (omega arith) (omega arith)

pub returns : goal.returns
unfolding held
returns c = search rules
