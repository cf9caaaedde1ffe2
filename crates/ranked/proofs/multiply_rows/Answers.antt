use mathlib.Core.Path.{sym}
use Rattle.ranked_theory.proofs.Tables.{part_fits, part_long, root_ready, root_product}
use Rattle.ranked.proofs.multiply_rows.Goals as goal

pub ranked_product-requires : goal.ranked_product-requires
ranked_product-requires c = root_ready _ _ _ c.requires _ c.rows_length-used.ensures

pub returns : goal.returns
returns c = let worked = c.ranked_product in
    root_product _ _ _ c.requires _ c.rows_length-used.ensures _ worked.ensures worked.auto.rows
