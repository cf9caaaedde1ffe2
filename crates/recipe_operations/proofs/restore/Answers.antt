use mathlib.Core.Path.{ap, ◌∙◌}
use Prim.Native.Nat.{ℕ}
use lib.ListN.{length, take, drop}
use Rattle.recipe_operations.specs.Places.{part_size}
use Rattle.recipe_operations.proofs.restore.Goals as goal

pub returns : goal.returns
returns c = let s = c.args in
    c.copy.ensures ∙ ap (λ (k : ℕ). take k (drop s.place s.pad.now)) (part_size s.place (length s.res.now))
