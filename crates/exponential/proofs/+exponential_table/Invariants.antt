use Prim.Native.Nat.{◌-◌}
use Rattle.exponential.proofs.+exponential_table.Given as goal

abbrev pub decreases-exponential_table : goal.decreases-exponential_table
decreases-exponential_table l = l.q
