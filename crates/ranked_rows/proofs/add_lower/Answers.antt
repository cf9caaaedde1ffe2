use Rattle.ranked_theory.specs.RowSteps.{passing_more}
use Rattle.ranked_rows.proofs.add_lower.Goals as goal

pub loop-u-preserved : goal.loop-u-preserved
loop-u-preserved c = passing_more c.loop-u.invariant c.loop-u-test.true c.add_row.ensures c.add_row.auto.rows
