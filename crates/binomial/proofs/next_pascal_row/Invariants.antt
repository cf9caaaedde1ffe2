use mathlib.Core.Path.{◌≡◌}
use mathlib.Core.List.{◌∷◌}
use Rattle.definitions.specs.Sums.{at}
use Rattle.pointwise.specs.Filling.{Filling}
use Rattle.binomial.specs.Rules.{pascal_at}
use Rattle.binomial.proofs.next_pascal_row.Given as goal

abbrev pub invariant-loop-entry : goal.invariant-loop-entry
invariant-loop-entry l = record {
  row : Filling (pascal_at l.modulus.value l.initial.row) l.initial.row l.entry-index l.row;
  left : l.left ≡ at (0 ∷ l.initial.row) l.entry-index;
}
