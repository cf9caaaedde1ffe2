use Rattle.std.proofs.Common.{arith, refl, le_refl, ℕ, sym, ap, ◌∙◌}
use Rattle.checks.specs.Answers.{passed, stands_in}
use Rattle.checks.specs.Ends.{lent_for, used_in, part_long, clear_fits, front_cleared, accepted_call}
use Rattle.definitions.specs.Products.{subset_table, degree}
use Rattle.checks.specs.Accepted.{product_accepted}
use Rattle.subset_product.proofs.Factors.{tables_ready}
use Rattle.subset_product.proofs.subset_product.Goals as goal

pub pad_length-used-requires : goal.pad_length-used-requires
pad_length-used-requires c = let found = product_accepted _ _ _ _ _ _ (passed c.in_ok-modulus.ensures) in found.range.few

pub slice_bounds-product-end : goal.slice_bounds-product-end
slice_bounds-product-end c = let found = product_accepted _ _ _ _ _ _ (passed c.in_ok-modulus.ensures) in used_in (lent_for c.pad_length-used.ensures found.pad)

pub slice_bounds-product-end-2 : goal.slice_bounds-product-end-2
slice_bounds-product-end-2 c = let found = product_accepted _ _ _ _ _ _ (passed c.in_ok-modulus.ensures) in part_long (lent_for c.pad_length-used.ensures found.pad) (le_refl _)

pub product-requires : goal.product-requires
product-requires c =
    let found = product_accepted _ _ _ _ _ _ (passed c.in_ok-modulus.ensures) in
    let lent = lent_for c.pad_length-used.ensures found.pad in
    tables_ready found lent (stands_in c.in_ok-modulus.ensures)

pub degree-requires : goal.degree-requires
degree-requires c = let found = product_accepted _ _ _ _ _ _ (passed c.in_ok-modulus.ensures) in (found.range.few, omega (arith, c.product.auto.res, found.result))

pub clear-requires : goal.clear-requires
clear-requires c =
    let found = product_accepted _ _ _ _ _ _ (passed c.in_ok-modulus.ensures) in
    omega (arith, clear_fits (lent_for c.pad_length-used.ensures found.pad) (le_refl _) c.product.new.rows c.product.auto.rows)

pub returns : goal.returns
returns c = let s = c.args in
    let found = product_accepted _ _ _ _ _ _ (passed c.in_ok-modulus.ensures) in
    let lent = lent_for c.pad_length-used.ensures found.pad in
    let made = c.product in
    let end = accepted_call c.in_ok-modulus.ensures refl (λ (m : ℕ). subset_table s.n m s.a.now s.b.now)
    c.product.ensures
    _ _ (front_cleared lent (le_refl _) made.new.rows made.auto.rows c.clear.ensures) in
    record { number = end.0; ceiling = c.degree.ensures ∙ ap (degree s.n) end.1.0; res_after = end.1.0; pad_after = end.1.1 }
