use Rattle.table_writer.proofs.WriterSteps.{entry_counted, all_counted}
use Rattle.table_writer.proofs.file_length.Goals as goal

pub loop-x-preserved : goal.loop-x-preserved
loop-x-preserved c = entry_counted _ _ _ _ _ c.loop-x.invariant c.loop-x-test.true c.number_length-count.ensures

pub returns : goal.returns
returns c = all_counted _ _ _ _ _ c.loop-x.invariant c.loop-x-test.false
