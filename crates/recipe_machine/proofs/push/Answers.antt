use Rattle.std.proofs.Common.{sym, ◌∙◌, arith}
use Rattle.recipe_machine.proofs.Places.{place_in}
use Rattle.recipe_machine.proofs.push.Goals as goal

pub save-requires : goal.save-requires
save-requires c = let space = c.requires.space in
    omega (arith, place_in c.args.n c.args.height (omega (arith, space.within)) space.room, c.place_of.ensures, space.long)

pub copy-requires : goal.copy-requires
copy-requires c = c.requires.table_len ∙ sym c.requires.space.long

pub returns : goal.returns
returns c = record { res_after = c.copy.ensures; saved = rw c.place_of.ensures at c.save.ensures }
