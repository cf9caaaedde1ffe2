use Rattle.composition.specs.Results.{result_ready, result_taken}
use Rattle.recipe_operations.proofs.Functions.{has_first, used_long, front, composed_ready, inverse_done, inverse_refused}
use Rattle.recipe_operations.proofs.inverse_of.Goals as goal

pub bounds-res-0 : goal.bounds-res-0
bounds-res-0 c = has_first c.requires

pub reciprocal-requires : goal.reciprocal-requires
reciprocal-requires c = c.requires.table.below 0

pub slice_bounds-inverse_table-end-2 : goal.slice_bounds-inverse_table-end-2
slice_bounds-inverse_table-end-2 c = used_long c.requires c.pad_length-used.ensures

pub inverse_table-requires : goal.inverse_table-requires
inverse_table-requires c = let one = c.reciprocal.ensures.reciprocal _ c.in-Ok.is in record { u_lt_value = one.below; ready = composed_ready c.requires c.pad_length-used.ensures }

pub take_result-requires : goal.take_result-requires
take_result-requires c = let made = c.inverse_table in
    result_ready (front c.requires c.pad_length-used.ensures) made.new.workspace made.auto.workspace _ c.requires.table.size

pub returns : goal.returns
returns c = let made = c.inverse_table in
    let used = c.pad_length-used.ensures in
    let one = c.reciprocal.ensures.reciprocal _ c.in-Ok.is in
    λ by.
    inverse_done c.requires used by made.new.workspace made.auto.workspace one
    (result_taken (front c.requires used) _ made.auto.workspace made.ensures c.take_result.ensures)

pub returns-in_default : goal.returns-in_default
returns-in_default c = λ by. inverse_refused c.requires by (c.reciprocal.ensures.common _ c.in_default.is)
