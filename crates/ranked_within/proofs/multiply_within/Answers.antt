use mathlib.Core.Path.{◌∙◌}
use Rattle.std.proofs.Common.{rules}
use Rattle.ranked_within.proofs.Products.{both_ready, lent_below, made}
use Rattle.ranked_within.proofs.multiply_within.Goals as goal

-- whichever list is laid out on the left, it is one of residues
pub multiply_both-requires-clause-both_ready : goal.multiply_both-requires-clause-both_ready
multiply_both-requires-clause-both_ready c =
    let used = c.rows_length-used.ensures in
    let size = c.power_of_two-size.ensures in
    let parts = c.split_at_mut-rows.ensures in
    let left = lent_below _ _ c.requires used size parts.value parts.front_len in
    let right = c.requires.right_below in
    both_ready _ _ c.requires used size parts.value parts.front_len (λ h l. search (rules, left, right)) c.lay_out_both.auto.rows c.lay_out_both.ensures

pub returns : goal.returns
returns c =
    let parts = c.split_at_mut-rows.ensures in
    made _ _ c.requires c.rows_length-used.ensures c.power_of_two-size.ensures parts.value parts.front_len _ _
    c.lay_out_both.ensures c.multiply_both.ensures (c.multiply_both.auto.rows ∙ c.lay_out_both.auto.rows) c.multiply_both.auto.res
