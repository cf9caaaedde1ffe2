use mathlib.Core.Path.{◌≡◌}
use Rattle.pointwise.specs.Filling.{Filling}
use Rattle.binomial.specs.Rules.{binomial_at, pascal_row}
use Rattle.binomial.proofs.binomial_entries.Given as goal

abbrev pub invariant-loop-i : goal.invariant-loop-i
invariant-loop-i l = record {
  entries : Filling (binomial_at l.modulus.value l.f l.g) l.initial.res l.i l.res;
  row : l.choices ≡ pascal_row l.modulus.value l.i;
}
