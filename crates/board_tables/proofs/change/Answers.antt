use Rattle.board_tables.proofs.Raising.{added_set}
use Rattle.board_tables.proofs.change.Goals as goal

pub returns : goal.returns
returns c = record { a_after = added_set c.requires c.add.ensures.same; e_after = c.raise.ensures; i_after = c.raise-2.ensures }
