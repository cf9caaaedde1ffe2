use mathlib.Core.Path.{ap, ◌∙◌}
use Prim.Native.Nat.{ℕ, ◌*◌, ◌%◌}
use native.Mathlib.Omega.{arith}
use Rattle.definitions.specs.Sums.{at}
use Rattle.theory.specs.Convolution.{point_table}
use Rattle.pointwise.specs.Filling.{fresh, unset, next, full_residues}
use Rattle.pointwise.proofs.multiply.Goals as goal

pub loop-i-init : goal.loop-i-init
loop-i-init c = fresh

pub multiply-requires : goal.multiply-requires
multiply-requires c = let i = c.loop-i.i in record {
  first = rw (unset c.loop-i.invariant) (c.requires.ready_2.table.below i);
  second = c.requires.ready.table.below i;
}

pub loop-i-preserved : goal.loop-i-preserved
loop-i-preserved c = let so_far = c.loop-i in
    let args = c.args in
    next so_far.invariant
    (c.multiply.ensures.same ∙ ap (λ (x : ℕ). x * at args.other.now so_far.i % args.modulus.value) (unset so_far.invariant))
    (omega arith)

pub returns : goal.returns
unfolding point_table
returns c = let args = c.args in
    full_residues args.n args.modulus.value (λ S. at args.table.now S * at args.other.now S) c.loop-i.invariant (omega arith)
    c.requires.ready_2.table.size
