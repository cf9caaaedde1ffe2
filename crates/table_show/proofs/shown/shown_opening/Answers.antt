use Rattle.table_show.proofs.shown.shown_opening.Goals as goal

pub returns : goal.returns
returns c = c.read_opening.ensures
