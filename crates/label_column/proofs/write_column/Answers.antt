use Prim.Native.Nat.{◌<◌}
use native.Mathlib.Omega.{arith}
use Rattle.definitions.specs.Limits.{most_controls}
use Rattle.label_column.proofs.ColumnSteps.{blank_column, column_room, no_label, column_start, next_below}
use Rattle.label_column.proofs.ColumnSteps.{name_room, joint_fits, column_more, column_all}
use Rattle.label_column.proofs.write_column.Goals as goal

pub returns-then-code-eq0-clause-writes : goal.returns-then-code-eq0-clause-writes
returns-then-code-eq0-clause-writes c = let blanks = c.write_blanks.ensures in
    no_label _ _ _ c.if-code-eq0.true (omega (arith, column_room c.requires blanks.writes)) (blank_column _ blanks.value blanks.writes)

pub loop-rest-init : goal.loop-rest-init
loop-rest-init c = let blanks = c.write_blanks.ensures in column_start _ _ _ (blank_column _ blanks.value blanks.writes)

pub offset_bounds-labels-lowest_control : goal.offset_bounds-labels-lowest_control
offset_bounds-labels-lowest_control c =
    let below : c.lowest_control.result < most_controls =
    next_below c.loop-rest.invariant c.args.labels.now.ready c.requires.code c.loop-rest-test.true c.lowest_control.ensures in
    omega (arith, below)

pub bounds-labels-lowest_control : goal.bounds-labels-lowest_control
bounds-labels-lowest_control c =
    next_below c.loop-rest.invariant c.args.labels.now.ready c.requires.code c.loop-rest-test.true c.lowest_control.ensures

pub write_bytes-requires : goal.write_bytes-requires
write_bytes-requires c =
    let ready = c.args.labels.now.ready in
    let below = next_below c.loop-rest.invariant ready c.requires.code c.loop-rest-test.true c.lowest_control.ensures in
    name_room c.loop-rest.invariant ready c.requires.code c.loop-rest-test.true c.lowest_control.ensures
    (column_room c.requires c.write_blanks.ensures.writes) (ready.held.kept _ _ below)

pub write_joint-place-requires : goal.write_joint-place-requires
write_joint-place-requires c =
    let ready = c.args.labels.now.ready in
    let below = next_below c.loop-rest.invariant ready c.requires.code c.loop-rest-test.true c.lowest_control.ensures in
    joint_fits c.loop-rest.invariant ready c.requires.code c.loop-rest-test.true c.lowest_control.ensures
    (column_room c.requires c.write_blanks.ensures.writes) (ready.held.kept _ _ below) c.write_bytes.ensures

pub loop-rest-preserved : goal.loop-rest-preserved
loop-rest-preserved c =
    let ready = c.args.labels.now.ready in
    let below = next_below c.loop-rest.invariant ready c.requires.code c.loop-rest-test.true c.lowest_control.ensures in
    column_more c.loop-rest.invariant ready c.requires.code c.loop-rest-test.true c.lowest_control.ensures
    (column_room c.requires c.write_blanks.ensures.writes) (ready.held.kept _ _ below) c.write_bytes.ensures c.write_joint-place.ensures

pub returns-clause-writes : goal.returns-clause-writes
returns-clause-writes c = let blanks = c.write_blanks.ensures in
    column_all c.loop-rest.invariant c.args.labels.now.ready c.requires.code c.loop-rest-test.false
    (blank_column _ blanks.value blanks.writes) c.if-code-eq0.false
