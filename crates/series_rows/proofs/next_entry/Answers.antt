use Rattle.series_rows.proofs.RowSteps.{three_products}
use Rattle.series_rows.proofs.next_entry.Goals as goal

pub returns : goal.returns
returns c = three_products _ _ _ _ c.reduce-count.ensures c.multiply.ensures c.multiply-product.ensures c.subtract-minus_one.ensures c.multiply-2.ensures
