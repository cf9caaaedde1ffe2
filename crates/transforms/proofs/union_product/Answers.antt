use Rattle.std.proofs.Common.{ℕ, refl}
use Rattle.definitions.specs.Products.{union_table}
use Rattle.checks.specs.Accepted.{product_accepted}
use Rattle.checks.specs.Answers.{passed, stands_in}
use Rattle.checks.specs.Ends.{accepted_call}
use Rattle.transform_passes.specs.Made.{union_made}
use Rattle.transforms.proofs.Calls.{inputs}
use Rattle.transforms.proofs.union_product.Goals as goal

pub product_by-requires : goal.product_by-requires
product_by-requires c = let h = c.in_ok-modulus.ensures in inputs (stands_in h) (product_accepted _ _ _ _ _ _ (passed h))

pub returns : goal.returns
returns c = let s = c.args in
    let h = c.in_ok-modulus.ensures in
    let done = c.product_by.ensures in
    let i = inputs (stands_in h) (product_accepted _ _ _ _ _ _ (passed h)) in
    let made = union_made i.first.table i.second.table done.transformed in
    let all = accepted_call h refl (λ (m : ℕ). union_table s.n m s.a.now s.b.now) made _ _ done.workspace_after in
    record { value = all.0; res_after = all.1.0; pad_after = all.1.1 }
