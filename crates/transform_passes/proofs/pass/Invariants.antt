use Rattle.theory.specs.PassLoops.{Passing}
use Rattle.transform_passes.proofs.pass.Given as goal

abbrev pub invariant-loop-block : goal.invariant-loop-block
invariant-loop-block g l = let s = g.T.Transform.step in Passing (s.lower l.modulus.value) (s.upper l.modulus.value) l.n l.i l.half l.block-end l.initial.table l.block l.table
