use mathlib.Core.Path.{refl, ◌∙◌, ap, ap₂}
use Prim.Native.Nat.{ℕ, ◌+◌, ◌%◌, ◌<◌}
use native.Mathlib.Omega.{arith}
use lib.ListN.{get_or}
use borrow.Author.Rules.{rules}
use Rattle.definitions.specs.Sums.{tabulate}
use Rattle.pointwise.specs.Filling.{fresh, unset, next, full}
use Rattle.binomial.proofs.Pascal.{left_more, left_below}
use Rattle.binomial.specs.Rules.{pascal_at}
use Rattle.binomial.proofs.next_pascal_row.Goals as goal

pub loop-entry-init : goal.loop-entry-init
loop-entry-init c = record { row = fresh; left = refl }

pub add-requires : goal.add-requires
add-requires c = let m = c.args.modulus.value in
    let here : get_or c.loop-entry.row c.loop-entry.entry-index 0 < m = rw (unset c.loop-entry.invariant.row) (c.requires.below _) in
    let left : c.loop-entry.left < m =
    rw c.loop-entry.invariant.left (left_below c.args.row.now (omega (arith, c.args.modulus.valid.lowest)) c.requires.below _) in
    record { first = search rules; second = search rules }

pub loop-entry-preserved : goal.loop-entry-preserved
loop-entry-preserved c = let so_far = c.loop-entry.invariant in record {
  row = next so_far.row (c.add.ensures.same ∙ ap₂ (λ (x y : ℕ). (x + y) % c.args.modulus.value) (unset so_far.row) so_far.left) (omega (arith, c.requires.size));
  left = unset so_far.row ∙ left_more c.args.row.now c.loop-entry.entry-index;
}

pub returns : goal.returns
returns c = full c.loop-entry.invariant.row (omega (arith, c.requires.size))
    ∙ ap (λ (k : ℕ). tabulate k (pascal_at c.args.modulus.value c.args.row.now)) c.requires.size
