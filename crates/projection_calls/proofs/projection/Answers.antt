use Rattle.std.proofs.Common.{arith, refl, le_refl, ℕ, sym, ap, ◌∙◌}
use Rattle.checks.specs.Answers.{passed, stands_in}
use Rattle.checks.specs.Ends.{lent_for, used_in, part_long, clear_fits, front_cleared, accepted_call}
use Rattle.definitions.specs.Projection.{projection_row}
use Rattle.projection_calls.specs.Accepted.{projection_accepted, ready}
use Rattle.projection_calls.proofs.projection.Goals as goal

pub pad_length-used-requires : goal.pad_length-used-requires
pad_length-used-requires c = let found = projection_accepted _ _ _ _ _ _ (passed c.in_ok-modulus.ensures) in found.range.few

pub slice_bounds-projection_row-end : goal.slice_bounds-projection_row-end
slice_bounds-projection_row-end c = let found = projection_accepted _ _ _ _ _ _ (passed c.in_ok-modulus.ensures) in used_in (lent_for c.pad_length-used.ensures found.pad)

pub slice_bounds-projection_row-end-2 : goal.slice_bounds-projection_row-end-2
slice_bounds-projection_row-end-2 c = let found = projection_accepted _ _ _ _ _ _ (passed c.in_ok-modulus.ensures) in part_long (lent_for c.pad_length-used.ensures found.pad) (le_refl _)

pub projection_row-requires : goal.projection_row-requires
projection_row-requires c =
    let found = projection_accepted _ _ _ _ _ _ (passed c.in_ok-modulus.ensures) in
    let lent = lent_for c.pad_length-used.ensures found.pad in
    ready lent found (stands_in c.in_ok-modulus.ensures)

pub clear-requires : goal.clear-requires
clear-requires c =
    let found = projection_accepted _ _ _ _ _ _ (passed c.in_ok-modulus.ensures) in
    omega (arith, clear_fits (lent_for c.pad_length-used.ensures found.pad) (le_refl _) c.projection_row.new.workspace c.projection_row.auto.workspace)

pub returns : goal.returns
returns c = let s = c.args in
    let found = projection_accepted _ _ _ _ _ _ (passed c.in_ok-modulus.ensures) in
    let lent = lent_for c.pad_length-used.ensures found.pad in
    let made = c.projection_row in
    let end = accepted_call c.in_ok-modulus.ensures refl (λ (m : ℕ). projection_row s.n m s.a.now s.b.now)
    made.ensures
    _ _ (front_cleared lent (le_refl _) made.new.workspace made.auto.workspace c.clear.ensures) in
    record { value = end.0; res_after = end.1.0; pad_after = end.1.1 }
