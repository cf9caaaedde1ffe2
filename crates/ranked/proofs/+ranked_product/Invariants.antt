use Prim.Native.Nat.{◌-◌}
use Rattle.ranked.proofs.+ranked_product.Given as goal

abbrev pub decreases-ranked_product : goal.decreases-ranked_product
decreases-ranked_product l = l.q
