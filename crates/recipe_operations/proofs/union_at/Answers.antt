use Rattle.recipe_operations.proofs.Signs.{both_ready, united}
use Rattle.recipe_operations.proofs.union_at.Goals as goal

pub convolve_in_place-requires : goal.convolve_in_place-requires
convolve_in_place-requires c = let all = both_ready c.requires in record { ready = all.0; ready_2 = all.1 }

pub returns : goal.returns
returns c = let made = c.convolve_in_place in
    united c.requires _ made.auto.table made.auto.other made.ensures c.restore.ensures
