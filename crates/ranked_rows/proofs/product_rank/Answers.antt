use mathlib.Core.Path.{◌≡◌, refl, subst, ap₂}
use Prim.Native.Nat.{ℕ, ◌+◌, ◌-◌, ◌*◌}
use native.Mathlib.Omega.{arith}
use Rattle.definitions.specs.Sums.{sum, at}
use Rattle.residues.specs.Accumulated.{Holds, holds_none, holds_next, holds_residue}
use Rattle.residues.specs.Moduli.{Residue}
use Rattle.ranked_theory.specs.Leaf.{term}
use Rattle.ranked_rows.proofs.product_rank.Goals as goal

pub loop-j-init : goal.loop-j-init
loop-j-init c = (omega arith, holds_none c.start-total.ensures)

pub loop-j-preserved : goal.loop-j-preserved
loop-j-preserved c = let a = c.args in
    let here = c.loop-j in
    let less = c.loop-j-test.true in
    let t = a.d.0 - a.e.0 in
    let left : 2 * (t - here.j) - 2 ≡ 2 * (t - (here.j + 1)) = omega (arith, less) in
    let right : 2 * here.j + 1 + 2 ≡ 2 * (here.j + 1) + 1 = omega arith in
    let q : here.j + 1 + 1 ≡ here.j + 2 = omega arith in (
      omega (arith, less),
      subst (λ (k : ℕ). Holds (term t a.row.now) k c.add_product-total.result) q
          (holds_next (holds_next here.invariant.1 c.add_product.ensures refl) c.add_product-total.ensures
          (ap₂ (λ (x y : ℕ). at a.row.now x * at a.row.now y) left right)),
    )

pub returns-then-j-top : goal.returns-then-j-top
returns-then-j-top c = let a = c.args in
    let here = c.loop-j in
    let t = a.d.0 - a.e.0 in
    let is : here.j ≡ t = c.if-j-top.true in
    let left : 0 ≡ 2 * (t - here.j) = omega arith in
    let all : here.j + 1 ≡ t + 1 = omega arith in
    subst (λ (k : ℕ). Residue a.modulus.value (sum k (term t a.row.now)) c.residue.result) all
    (holds_residue (holds_next here.invariant.1 c.add_product-then-j-top.ensures (ap₂ (λ (x y : ℕ). at a.row.now x * at a.row.now y) left refl)) c.residue.ensures)
