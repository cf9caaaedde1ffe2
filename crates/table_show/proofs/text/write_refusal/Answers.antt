use Rattle.table_show.proofs.TextSteps.{refusal_written}
use Rattle.table_show.proofs.text.write_refusal.Goals as goal

pub returns : goal.returns
returns c = rw c.from.ensures at (refusal_written _ c.write_bytes-number.ensures c.write_field.ensures)
