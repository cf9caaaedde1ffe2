use Rattle.std.proofs.Common.{arith, refl, le_refl, ℕ, sym, ap, ◌∙◌}
use Rattle.checks.specs.Answers.{passed, stands_in}
use Rattle.checks.specs.Ends.{lent_for, used_in, part_long, clear_fits, front_cleared, accepted_call}
use Rattle.definitions.specs.Partitions.{exponential_table}
use Rattle.definitions.specs.Refusals.{exponential_number}
use Rattle.composition_calls.specs.Cores.{started, copied}
use Rattle.composition_calls.proofs.exponentials.exponential.Goals as goal

pub pad_length-used-requires : goal.pad_length-used-requires
pad_length-used-requires c = let found = started _ _ _ _ _ _ (passed c.in_ok-modulus.ensures) in found.range.few

pub slice_bounds-exponential_table-end : goal.slice_bounds-exponential_table-end
slice_bounds-exponential_table-end c = let found = started _ _ _ _ _ _ (passed c.in_ok-modulus.ensures) in used_in (lent_for c.pad_length-used.ensures found.pad)

pub slice_bounds-exponential_table-end-2 : goal.slice_bounds-exponential_table-end-2
slice_bounds-exponential_table-end-2 c = let found = started _ _ _ _ _ _ (passed c.in_ok-modulus.ensures) in part_long (lent_for c.pad_length-used.ensures found.pad) (le_refl _)

pub copy-requires : goal.copy-requires
copy-requires c = let found = started _ _ _ _ _ _ (passed c.in_ok-modulus.ensures) in found.table.size ∙ sym found.result

pub exponential_table-requires : goal.exponential_table-requires
exponential_table-requires c =
    let found = started _ _ _ _ _ _ (passed c.in_ok-modulus.ensures) in
    let lent = lent_for c.pad_length-used.ensures found.pad in
    copied lent found (stands_in c.in_ok-modulus.ensures) _ c.copy.ensures

pub clear-requires : goal.clear-requires
clear-requires c =
    let found = started _ _ _ _ _ _ (passed c.in_ok-modulus.ensures) in
    omega (arith, clear_fits (lent_for c.pad_length-used.ensures found.pad) (le_refl _) c.exponential_table.new.workspace c.exponential_table.auto.workspace)

pub returns : goal.returns
unfolding exponential_number
returns c = let s = c.args in
    let found = started _ _ _ _ _ _ (passed c.in_ok-modulus.ensures) in
    let lent = lent_for c.pad_length-used.ensures found.pad in
    let made = c.exponential_table in
    let end = accepted_call c.in_ok-modulus.ensures refl (λ (m : ℕ). exponential_table s.n m s.a.now)
    (made.ensures ∙ ap (exponential_table s.n _) c.copy.ensures)
    _ _ (front_cleared lent (le_refl _) made.new.workspace made.auto.workspace c.clear.ensures) in
    record { value = end.0; res_after = end.1.0; pad_after = end.1.1 }
