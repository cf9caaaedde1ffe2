use Rattle.std.proofs.Common.{sym}
use Rattle.refusals.specs.Handed.{handed_on}
use Rattle.recipe_operations.proofs.Functions.{used_long, exponential_ready, exponential_done, exponential_refused}
use Rattle.recipe_operations.proofs.exponential_of.Goals as goal

pub returns-in_err-test_start : goal.returns-in_err-test_start
returns-in_err-test_start c = λ by. exponential_refused c.requires by c.in_err-test_start.ensures (handed_on _ c.from_residual.ensures.1)

pub slice_bounds-exponential_table-end-2 : goal.slice_bounds-exponential_table-end-2
slice_bounds-exponential_table-end-2 c = used_long c.requires c.pad_length-used.ensures

pub exponential_table-requires : goal.exponential_table-requires
exponential_table-requires c = exponential_ready c.requires c.pad_length-used.ensures

pub returns : goal.returns
returns c = let made = c.exponential_table in
    λ by.
    exponential_done c.requires c.pad_length-used.ensures by made.new.workspace made.auto.workspace (sym c.in_ok-test_start.ensures) made.ensures
