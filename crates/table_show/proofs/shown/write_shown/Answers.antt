use mathlib.Core.Path.{sym, ◌∙◌}
use native.Mathlib.Omega.{arith}
use Rattle.table_show.proofs.ShownSteps.{few_entries, part_long, no_header, few, behind_header_lem}
use Rattle.table_show.proofs.shown.write_shown.Goals as goal

pub power-count-requires : goal.power-count-requires
power-count-requires c = let opened = c.shown_opening.ensures in
    omega (arith, few c.args.bytes.now c.args.out.now opened c.in-Ok.is)

pub slice_bounds-show_table-end : goal.slice_bounds-show_table-end
slice_bounds-show_table-end c = let opened = c.shown_opening.ensures in
    let most = few c.args.bytes.now c.args.out.now opened c.in-Ok.is in
    omega (arith, c.power-count.ensures, c.requires.entries, few_entries most)

pub slice_bounds-show_table-end-in-Ok : goal.slice_bounds-show_table-end-in-Ok
slice_bounds-show_table-end-in-Ok c = let opened = c.shown_opening.ensures in
    let most = few c.args.bytes.now c.args.out.now opened c.in-Ok.is in
    sym (part_long c.args.table.now most c.power-count.ensures c.requires.entries)

pub show_table-requires : goal.show_table-requires
show_table-requires c = let opened = c.shown_opening.ensures in
    let most = few c.args.bytes.now c.args.out.now opened c.in-Ok.is in
    let count = c.power-count.ensures in record { n_le_most_shown = most; table_len = part_long c.args.table.now most count c.requires.entries ∙ count; longest_text_in_bounds = c.requires.room }

pub returns-in-Ok : goal.returns-in-Ok
returns-in-Ok c = behind_header_lem c.args.bytes.now c.args.out.now
    c.shown_opening.ensures
    c.in-Ok.is
    c.show_table.ensures

pub returns-in-Err : goal.returns-in-Err
returns-in-Err c = no_header c.args.bytes.now c.args.out.now
    c.shown_opening.ensures
    c.in-Err.is c.write_refusal.ensures
