use Rattle.residues.specs.Accumulated.{Holds}
use Rattle.binomial.proofs.Pascal.{reduced_at}
use Rattle.binomial.proofs.binomial_entry.Given as goal

abbrev pub invariant-loop-j : goal.invariant-loop-j
invariant-loop-j l = Holds (reduced_at l.modulus.value l.choices l.f l.g l.i) l.j l.total
