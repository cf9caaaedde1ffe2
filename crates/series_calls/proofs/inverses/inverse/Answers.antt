use Rattle.std.proofs.Common.{arith, refl, le_refl, ℕ, sym, ap, ◌∙◌}
use Rattle.checks.specs.Answers.{passed, stands_in}
use Rattle.checks.specs.Ends.{lent_for, used_in, part_long, clear_fits, front_cleared, accepted_call}
use Rattle.composition.specs.Results.{result_ready, result_taken}
use Rattle.composition_calls.specs.Cores.{front, ready}
use Rattle.series_calls.specs.InverseTables.{inverse_table}
use Rattle.series_calls.proofs.Inverting.{checked, has_first, first_below, divisor_shared, invertible, inverted, is_inverse}
use Rattle.series_calls.proofs.inverses.inverse.Goals as goal

pub pad_length-used-requires : goal.pad_length-used-requires
pad_length-used-requires c = let found = checked _ _ _ _ _ c.in_ok-modulus.ensures in found.range.few

pub slice_bounds-inverse_table-end : goal.slice_bounds-inverse_table-end
slice_bounds-inverse_table-end c = let found = checked _ _ _ _ _ c.in_ok-modulus.ensures in used_in (lent_for c.pad_length-used.ensures found.pad)

pub slice_bounds-inverse_table-end-2 : goal.slice_bounds-inverse_table-end-2
slice_bounds-inverse_table-end-2 c = let found = checked _ _ _ _ _ c.in_ok-modulus.ensures in part_long (lent_for c.pad_length-used.ensures found.pad) (le_refl _)

pub bounds-a-0 : goal.bounds-a-0
bounds-a-0 c = has_first _ _ _ _ _ c.in_ok-modulus.ensures

pub reciprocal-requires : goal.reciprocal-requires
reciprocal-requires c = first_below _ _ _ _ _ c.in_ok-modulus.ensures

pub inverse_table-requires : goal.inverse_table-requires
inverse_table-requires c =
    let found = checked _ _ _ _ _ c.in_ok-modulus.ensures in
    let lent = lent_for c.pad_length-used.ensures found.pad in
    record { u_lt_value = (c.reciprocal.ensures.reciprocal _ c.in-Ok.is).below; ready = ready lent found (stands_in c.in_ok-modulus.ensures) }

pub take_result-requires : goal.take_result-requires
take_result-requires c =
    let found = checked _ _ _ _ _ c.in_ok-modulus.ensures in
    let lent = lent_for c.pad_length-used.ensures found.pad in
    let made = c.inverse_table in
    result_ready (front lent found) made.new.workspace made.auto.workspace _ found.result

pub clear-requires : goal.clear-requires
clear-requires c =
    let found = checked _ _ _ _ _ c.in_ok-modulus.ensures in
    omega (arith, clear_fits (lent_for c.pad_length-used.ensures found.pad) (le_refl _) c.inverse_table.new.workspace c.inverse_table.auto.workspace)

pub returns-in_default-clause-value : goal.returns-in_default-clause-value
returns-in_default-clause-value c = divisor_shared _ _ _ _ _ c.in_ok-modulus.ensures _ (c.reciprocal.ensures.common _ c.in_default.is)

pub returns : goal.returns
returns c = let s = c.args in
    let h = c.in_ok-modulus.ensures in
    let found = checked _ _ _ _ _ h in
    let lent = lent_for c.pad_length-used.ensures found.pad in
    let made = c.inverse_table in
    let one = c.reciprocal.ensures.reciprocal _ c.in-Ok.is in
    let end = accepted_call (invertible _ _ _ _ _ h _ one) refl (λ (m : ℕ). inverse_table s.n m s.a.now)
    (inverted s.n s.m s.a.now _ _ h _ one (result_taken (front lent found) _ made.auto.workspace made.ensures c.take_result.ensures))
    _ _ (front_cleared lent (le_refl _) made.new.workspace made.auto.workspace c.clear.ensures) in
    record { value = end.0; res_after = end.1.0; inverse = (λ z. is_inverse _ _ _ _ _ h _ one end.1.0); pad_after = end.1.1 }
