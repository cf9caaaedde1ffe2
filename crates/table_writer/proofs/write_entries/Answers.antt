use Rattle.table_writer.proofs.WriterSteps.{entry_written}
use Rattle.table_writer.proofs.write_entries.Goals as goal

pub loop-x-preserved : goal.loop-x-preserved
loop-x-preserved c = let write-number = c.write_number-place.ensures in
    entry_written _ _ _ _ _ _ c.loop-x.invariant c.loop-x-test.true write-number.value write-number.buffer_after
