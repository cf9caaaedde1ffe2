use native.Mathlib.Omega.{arith}
use Rattle.series_rows.proofs.RowSteps.{row_ready, logarithm_by_row}
use Rattle.series_rows.proofs.logarithm_table.Goals as goal

pub composition_table-requires : goal.composition_table-requires
composition_table-requires c = record {
  ready = c.requires;
  row_ready = row_ready (omega (arith, c.requires.few)) (omega (arith, c.args.modulus.valid.lowest)) c.inverse_row-row.ensures;
}

pub returns : goal.returns
returns c = logarithm_by_row _ _ _ _ (omega (arith, c.requires.few)) c.composition_table.ensures c.inverse_row-row.ensures
