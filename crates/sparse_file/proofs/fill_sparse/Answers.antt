use Rattle.sparse_file.proofs.PairSteps.{filled_zeros}
use Rattle.sparse_file.proofs.fill_sparse.Goals as goal

pub fill_pairs-requires-clause-table_value : goal.fill_pairs-requires-clause-table_value
fill_pairs-requires-clause-table_value c = filled_zeros _ (c.fill.ensures.after (λ y h. h))
