use mathlib.Core.Path.{ap, ◌∙◌}
use Prim.Native.Nat.{ℕ, ◌*◌, ◌%◌}
use native.Mathlib.Omega.{arith}
use Rattle.definitions.specs.Sums.{at}
use Rattle.pointwise.specs.Filling.{fresh, unset, next, full_residues}
use Rattle.pointwise.proofs.scale.Goals as goal

pub loop-x-init : goal.loop-x-init
loop-x-init c = fresh

pub multiply-requires : goal.multiply-requires
multiply-requires c = record {
  first = c.requires.factor_lt_value;
  second = rw (unset c.loop-x.invariant) (c.requires.ready.table.below c.loop-x.x-index);
}

pub loop-x-preserved : goal.loop-x-preserved
loop-x-preserved c = let so_far = c.loop-x in
    let args = c.args in
    next so_far.invariant
    (c.multiply.ensures.same ∙ ap (λ (x : ℕ). args.factor * x % args.modulus.value) (unset so_far.invariant))
    (omega arith)

pub returns : goal.returns
returns c = let args = c.args in
    full_residues args.n args.modulus.value (λ S. args.factor * at args.table.now S) c.loop-x.invariant (omega arith)
    c.requires.ready.table.size
