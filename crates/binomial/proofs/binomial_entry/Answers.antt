use mathlib.Core.Path.{◌≡◌, ◌∙◌, ap}
use Prim.Native.Nat.{ℕ, suc, ◌+◌, ◌*◌, ◌%◌}
use native.Mathlib.Omega.{arith}
use Rattle.definitions.specs.Sums.{sum, at}
use Rattle.residues.specs.Accumulated.{holds_none, holds_next, holds_room, holds_residue}
use Rattle.binomial.proofs.Pascal.{reduced_at, unreduced}
use Rattle.binomial.proofs.binomial_entry.Goals as goal

pub loop-j-init : goal.loop-j-init
loop-j-init c = holds_none c.start-total.ensures

pub add_product-total-requires : goal.add_product-total-requires
add_product-total-requires c = holds_room c.loop-j.invariant (omega arith)

pub loop-j-preserved : goal.loop-j-preserved
loop-j-preserved c = holds_next c.loop-j.invariant c.add_product-total.ensures
    (ap (λ (x : ℕ). at c.args.choices.now c.loop-j.j * x) c.multiply-product.ensures.same)

-- the loop over 0..=i ends with the turn at i
pub returns : goal.returns
returns c = let s = c.args in
    let m = s.modulus.value in
    elim c.loop-j-test.branch [
      | goal.else-loop-j-test w ↦ absurd (omega arith)
      | goal.then-loop-j-test+else-j-i w ↦
          let all = holds_next c.loop-j.invariant w.add_product-total.ensures (ap (λ (x : ℕ). at s.choices.now c.loop-j.j * x) w.multiply-product.ensures.same) in
          let e : c.loop-j.j + 1 ≡ suc s.i = omega arith in
          (holds_residue all (rw w.total-is at c.residue.ensures)).same
          ∙ ap (λ (k : ℕ). sum k (reduced_at m s.choices.now s.f.now s.g.now s.i) % m) e
          ∙ unreduced m s.choices.now s.f.now s.g.now s.i
    ]
