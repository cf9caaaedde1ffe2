use mathlib.Core.Path.{◌≡◌}
use Prim.Native.Nat.{◌+◌, ◌-◌}
use native.Mathlib.Omega.{arith}
use Rattle.sparse_file.proofs.PairSteps.{none_filled, gap_stands, value_stands, code_inside, one-filled, all_filled}
use Rattle.sparse_file.proofs.fill_pairs.Goals as goal

pub loop-init : goal.loop-init
loop-init c = let all : c.args.count - 0 ≡ c.args.count = omega arith in rw all (none_filled _ _ _ _ c.requires.table_value)

pub number_again-gap-requires : goal.number_again-gap-requires
number_again-gap-requires c = gap_stands c.loop.invariant (omega (arith, c.loop-test.true)) c.requires.by_index

pub number_again-value-requires : goal.number_again-value-requires
number_again-value-requires c = value_stands c.loop.invariant (omega (arith, c.loop-test.true)) c.requires.by_index c.number_again-gap.ensures

pub bounds-table-code : goal.bounds-table-code
bounds-table-code c = code_inside c.loop.invariant (omega (arith, c.loop-test.true)) c.requires.by_index c.number_again-gap.ensures

pub loop-preserved : goal.loop-preserved
loop-preserved c = let inside = code_inside c.loop.invariant (omega (arith, c.loop-test.true)) c.requires.by_index c.number_again-gap.ensures in
    let less : c.args.count - (c.loop.counter + 1) ≡ c.args.count - c.loop.counter - 1 = omega arith in
    rw less (one-filled c.loop.invariant c.number_again-gap.ensures c.number_again-value.ensures (omega (arith, c.loop-test.true)) inside)

pub returns : goal.returns
returns c = all_filled c.loop.invariant (omega (arith, c.loop-test.false))
