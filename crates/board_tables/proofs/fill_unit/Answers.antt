use Rattle.board_tables.proofs.Fresh.{unit-set}
use Rattle.board_tables.proofs.fill_unit.Goals as goal

pub returns : goal.returns
returns c = unit-set _ c.requires c.fill_zeros.ensures
