use Rattle.recipe_machine.specs.Memory.{lent}
use Rattle.recipe_machine.proofs.Runs.{Working}
use Rattle.recipe_machine.proofs.work.Given as goal

abbrev pub invariant-loop-byte : goal.invariant-loop-byte
invariant-loop-byte l = Working l.n l.modulus (lent l.tables) l.codes l.initial.res l.initial.pad l.byte-index l.height l.res l.pad
