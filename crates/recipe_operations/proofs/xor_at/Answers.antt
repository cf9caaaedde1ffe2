use Rattle.std.proofs.Common.{sym}
use Rattle.refusals.specs.Handed.{handed_on}
use Rattle.recipe_operations.proofs.Signs.{both_ready, scale_ready, xored, xor_refused, odd}
use Rattle.recipe_operations.proofs.xor_at.Goals as goal

pub returns-in_err-test_halving : goal.returns-in_err-test_halving
returns-in_err-test_halving c = xor_refused c.requires (rw c.value.ensures at c.in_err-test_halving.ensures) (handed_on _ c.from_residual.ensures.1)

pub convolve_in_place-requires : goal.convolve_in_place-requires
convolve_in_place-requires c = let all = both_ready c.requires in record { ready = all.0; ready_2 = all.1 }

pub halved-requires : goal.halved-requires
halved-requires c = odd _ (sym (rw c.value.ensures at c.in_ok-test_halving.ensures))

pub scale-requires : goal.scale-requires
scale-requires c = let made = c.convolve_in_place in record {
  factor_lt_value = c.halved.ensures.below;
  ready = scale_ready c.requires _ made.auto.table made.auto.other made.ensures c.restore.ensures;
}

pub returns : goal.returns
returns c = let made = c.convolve_in_place in
    xored c.requires _ made.auto.table (sym (rw c.value.ensures at c.in_ok-test_halving.ensures)) made.auto.other made.ensures
    c.restore.ensures c.halved.ensures c.scale.ensures
