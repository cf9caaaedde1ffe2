use Rattle.theory.specs.PassLoops.{Crossing}
use Rattle.transform_passes.proofs.cross.Given as goal

abbrev pub invariant-loop-t : goal.invariant-loop-t
invariant-loop-t g l = let s = g.T.Transform.step in Crossing (s.lower l.modulus.value) (s.upper l.modulus.value) l.half l.initial.block l.t l.block
