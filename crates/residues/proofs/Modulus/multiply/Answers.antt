use Rattle.std.proofs.Common.{arith}
use Rattle.residues.proofs.Reduce.{product_fits}
use Rattle.residues.proofs.Modulus.multiply.Goals as goal

pub overflow_mul-product : goal.overflow_mul-product
overflow_mul-product c = product_fits (omega arith) (omega arith)
