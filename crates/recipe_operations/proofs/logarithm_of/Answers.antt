use Rattle.std.proofs.Common.{sym}
use Rattle.composition.specs.Results.{result_ready, result_taken}
use Rattle.refusals.specs.Handed.{handed_on}
use Rattle.recipe_operations.proofs.Functions.{used_long, front, composed_ready, logarithm_done, logarithm_refused}
use Rattle.recipe_operations.proofs.logarithm_of.Goals as goal

pub returns-in_err-test_start : goal.returns-in_err-test_start
returns-in_err-test_start c = λ by. logarithm_refused c.requires by c.in_err-test_start.ensures (handed_on _ c.from_residual.ensures.1)

pub slice_bounds-logarithm_table-end-2 : goal.slice_bounds-logarithm_table-end-2
slice_bounds-logarithm_table-end-2 c = used_long c.requires c.pad_length-used.ensures

pub logarithm_table-requires : goal.logarithm_table-requires
logarithm_table-requires c = composed_ready c.requires c.pad_length-used.ensures

pub take_result-requires : goal.take_result-requires
take_result-requires c = let made = c.logarithm_table in
    result_ready (front c.requires c.pad_length-used.ensures) made.new.workspace made.auto.workspace _ c.requires.table.size

pub returns : goal.returns
returns c = let made = c.logarithm_table in
    let used = c.pad_length-used.ensures in
    λ by.
    logarithm_done c.requires used by made.new.workspace made.auto.workspace (sym c.in_ok-test_start.ensures)
    (result_taken (front c.requires used) _ made.auto.workspace made.ensures c.take_result.ensures)
