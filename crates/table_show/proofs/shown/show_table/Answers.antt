use Rattle.std.proofs.Common.{◌∙◌, refl}
use Rattle.refusals.specs.Words.{word-not-zero}
use Rattle.table_header.specs.HeaderAnswers.{header_at}
use Rattle.text_pieces.specs.TextLaws.{writes_same}
use Rattle.table_show.proofs.ShownSteps.{refused_text, contents_stand, file_text, table_fits}
use Rattle.table_show.proofs.shown.show_table.Goals as goal

pub fill_body-requires : goal.fill_body-requires
fill_body-requires c = contents_stand (header_at c.args.bytes.now c.args.opening) c.requires.table_len c.in-Ok.ensures refl

pub write_table_text-requires : goal.write_table_text-requires
write_table_text-requires c =
    table_fits c.requires.n_le_most_shown (c.fill_body.auto.table ∙ c.requires.table_len) c.requires.longest_text_in_bounds

pub returns-in-Ok : goal.returns-in-Ok
returns-in-Ok c =
    writes_same
    (file_text (header_at c.args.bytes.now c.args.opening) c.requires.table_len c.in-Ok.ensures refl c.fill_body.auto.table c.fill_body.ensures)
    c.write_table_text.ensures

pub returns-in-Err : goal.returns-in-Err
returns-in-Err c =
    writes_same
    (refused_text (header_at c.args.bytes.now c.args.opening) c.requires.table_len c.in-Err.ensures (word-not-zero c.in-Err.refusal))
    c.write_refusal.ensures
