use mathlib.Core.Path.{refl}
use native.Mathlib.Omega.{arith}
use Rattle.exponential.proofs.Halves.{half_long, upper_long, left_ready, right_ready, both_ready, upper_filled_lem}
use Rattle.exponential.proofs.fill_upper.Goals as goal

pub slice_bounds-lay_out-end-2 : goal.slice_bounds-lay_out-end-2
slice_bounds-lay_out-end-2 c = half_long refl c.power_of_two-mid.ensures c.requires

pub lay_out-requires : goal.lay_out-requires
lay_out-requires c = record { room = left_ready c.power_of_two-mid.ensures c.requires; side_bound = omega arith }

pub lay_out-requires-2 : goal.lay_out-requires-2
lay_out-requires-2 c = record { room = right_ready c.power_of_two-mid.ensures c.requires _ c.lay_out.auto.rows; side_bound = omega arith }

pub multiply_both-requires : goal.multiply_both-requires
multiply_both-requires c = let e = c.power_of_two-mid.ensures in
    let left = c.lay_out in
    let right = c.lay_out-2 in record { both_ready = both_ready e c.requires left.ensures right.ensures left.auto.rows right.auto.rows; res_len = upper_long e c.requires }

pub returns : goal.returns
returns c = let left = c.lay_out in
    let right = c.lay_out-2 in
    upper_filled_lem c.power_of_two-mid.ensures c.requires left.ensures right.ensures _ c.multiply_both.ensures
