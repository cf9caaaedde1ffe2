use mathlib.Core.Path.{◌≡◌, refl, subst}
use native.Mathlib.Omega.{arith}
use borrow.Author.Rules.{rules}
use Prim.Native.Nat.{ℕ}
use Rattle.composition.proofs.Copies.{copied_none, copied_more}
use Rattle.composition.specs.Slots.{Copied}
use Rattle.composition.proofs.copy_table.Goals as goal

pub loop-i-init : goal.loop-i-init
loop-i-init c = (refl, copied_none _ _ _)

pub loop-i-preserved : goal.loop-i-preserved
loop-i-preserved c = let inv = c.loop-i.invariant in
    (search rules, copied_more c.requires c.loop-i-test.true inv.0 inv.1 _ refl)

pub returns : goal.returns
returns c = let end : c.loop-i.i ≡ c.args.size = omega arith in
    subst (λ (n : ℕ). Copied n c.args.source c.args.target c.args.workspace.now c.loop-i.workspace) end c.loop-i.invariant.1
