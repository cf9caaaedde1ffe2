use mathlib.Core.Path.{refl}
use native.Mathlib.Omega.{arith}
use Rattle.ranked_theory.specs.RowSteps as rows
use Rattle.ranked_rows.proofs.add_row.Goals as goal

pub run-requires : goal.run-requires
run-requires c = rows.run_ready _ 2 0 _ _ _ _ 0 _ _ _ _ c.requires.row_ready (omega arith) (omega arith) (omega arith) (omega arith)

pub returns : goal.returns
returns c = rows.add_row _ _ _ _ _ _ _ _ _ _ c.requires.row_ready c.requires.d_bound refl (omega arith) c.run.ensures c.store_pair.ensures
