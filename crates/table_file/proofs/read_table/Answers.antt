use mathlib.Core.Path.{sym}
use Rattle.table_header.specs.HeaderAnswers.{header_at}
use Rattle.table_header.specs.Headers.{header_few}
use Rattle.table_file.proofs.ReaderSteps.{table_stands, a_table}
use Rattle.table_file.proofs.read_table.Goals as goal

pub test_table-requires : goal.test_table-requires
test_table-requires c = header_few _ c.args.bytes.now (header_at c.args.bytes.now c.in_ok-opening.opening) (sym c.in_ok-opening.ensures)

pub fill_body-requires : goal.fill_body-requires
fill_body-requires c = table_stands _ _ _ c.in_ok-opening.ensures c.in_ok-test_table.ensures

pub returns : goal.returns
returns c = let t = a_table _ _ _ c.in_ok-opening.ensures c.in_ok-test_table.ensures c.fill_body.ensures in record { answer_is = t.answer; table_after = t.filled }
