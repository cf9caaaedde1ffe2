use native.Mathlib.Omega.{arith}
use Rattle.ranked_theory.specs.Tables.{laid_ready}
use Rattle.ranked.proofs.product.Goals as goal

pub multiply_both-requires : goal.multiply_both-requires
multiply_both-requires c = let laid = c.lay_out_both in
    let r = c.requires in record { both_ready = laid_ready r.few (omega (arith, r.long, laid.auto.rows)) laid.ensures r.left_below r.right_below; res_len = r.result }

pub returns : goal.returns
returns c = let laid = c.lay_out_both in
    c.multiply_both.ensures _ _ laid.ensures
