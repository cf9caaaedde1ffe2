use mathlib.Core.Path.{◌∙◌}
use Rattle.ranked_theory.specs.Tables.{read_product}
use Rattle.ranked.proofs.multiply_both.Goals as goal

pub returns : goal.returns
returns c = let read = c.read_off in
    read_product _ _ _ _ _ c.multiply_rows.ensures read.ensures (read.auto.res ∙ c.requires.res_len)
