use Rattle.std.proofs.Common.{arith, refl, le_refl, ℕ, sym, ap, ◌∙◌}
use Rattle.checks.specs.Answers.{passed, stands_in}
use Rattle.checks.specs.Ends.{lent_for, used_in, part_long, clear_fits, front_cleared, accepted_call}
use Rattle.definitions.specs.Partitions.{composition_table}
use Rattle.composition.specs.Results.{result_ready, result_taken}
use Rattle.composition_calls.specs.Cores.{composition_table_lem, row_ready, front, ready}
use Rattle.composition_calls.proofs.compositions.composition.Goals as goal

pub pad_length-used-requires : goal.pad_length-used-requires
pad_length-used-requires c = let found = composition_table_lem _ _ _ _ _ _ (passed c.in_ok-modulus.ensures) in found.range.few

pub slice_bounds-composition_table-end : goal.slice_bounds-composition_table-end
slice_bounds-composition_table-end c = let found = composition_table_lem _ _ _ _ _ _ (passed c.in_ok-modulus.ensures) in used_in (lent_for c.pad_length-used.ensures found.pad)

pub slice_bounds-composition_table-end-2 : goal.slice_bounds-composition_table-end-2
slice_bounds-composition_table-end-2 c = let found = composition_table_lem _ _ _ _ _ _ (passed c.in_ok-modulus.ensures) in part_long (lent_for c.pad_length-used.ensures found.pad) (le_refl _)

pub composition_table-requires : goal.composition_table-requires
composition_table-requires c =
    let found = composition_table_lem _ _ _ _ _ _ (passed c.in_ok-modulus.ensures) in
    let lent = lent_for c.pad_length-used.ensures found.pad in
    let h = c.in_ok-modulus.ensures in
    record { ready = ready lent found (stands_in h); row_ready = row_ready _ _ _ _ _ _ (passed h) (stands_in h) }

pub take_result-requires : goal.take_result-requires
take_result-requires c =
    let found = composition_table_lem _ _ _ _ _ _ (passed c.in_ok-modulus.ensures) in
    let lent = lent_for c.pad_length-used.ensures found.pad in
    let made = c.composition_table in
    result_ready (front lent found) made.new.workspace made.auto.workspace _ found.result

pub clear-requires : goal.clear-requires
clear-requires c =
    let found = composition_table_lem _ _ _ _ _ _ (passed c.in_ok-modulus.ensures) in
    omega (arith, clear_fits (lent_for c.pad_length-used.ensures found.pad) (le_refl _) c.composition_table.new.workspace c.composition_table.auto.workspace)

pub returns : goal.returns
returns c = let s = c.args in
    let found = composition_table_lem _ _ _ _ _ _ (passed c.in_ok-modulus.ensures) in
    let lent = lent_for c.pad_length-used.ensures found.pad in
    let made = c.composition_table in
    let end = accepted_call c.in_ok-modulus.ensures refl (λ (m : ℕ). composition_table s.n m s.f.now s.a.now)
    (result_taken (front lent found) _ made.auto.workspace made.ensures c.take_result.ensures)
    _ _ (front_cleared lent (le_refl _) made.new.workspace made.auto.workspace c.clear.ensures) in
    record { value = end.0; res_after = end.1.0; pad_after = end.1.1 }
