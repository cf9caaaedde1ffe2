use Rattle.transform_passes.specs.Made.{xor_made}
use Rattle.transforms.proofs.xor_tables.Goals as goal

pub returns : goal.returns
returns c = let done = c.product_by.ensures in
    let h = c.requires.inputs in record { res_after = xor_made h.first.table h.second.table done.transformed c.halved.ensures c.scale.ensures; workspace_after = done.workspace_after }
