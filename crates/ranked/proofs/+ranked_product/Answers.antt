use mathlib.Core.Path.{◌≡◌, sym}
use Prim.Native.Nat.{ℕ, ◌-◌, ◌*◌, ◌^◌, ◌≤◌}
use native.Mathlib.Omega.{arith}
use Rattle.std.proofs.Common.{List}
use Rattle.definitions.specs.Limits.{lowest_modulus}
use Rattle.ranked_theory.specs.Layout.{width}
use Rattle.ranked_theory.specs.Recursion.{Ready}
use Rattle.ranked_theory.specs.Turns.{Level}
use Rattle.ranked_theory.proofs.Turns as turns
use Rattle.ranked.proofs.+ranked_product.Goals as goal

-- what is known of a level that is no single entry
level_of : {m n q d half w : ℕ} {xs : List ℕ} → lowest_modulus ≤ m → (q ≡ 0 → ⊥) → half ≡ 2 ^ (q - 1) → w ≡ width n → Ready m n q d xs
    → Level m n q (q - 1) d (half * w) w xs
level_of low some eh ew ready = turns.turn _ _ _ _ _ _ _ (omega arith) some eh ew ready

pub add_lower-requires-clause-rows_ready : goal.add_lower-requires-clause-rows_ready
add_lower-requires-clause-rows_ready t c =
    let level = level_of c.args.modulus.valid.lowest c.if-q-eq0.false c.power_of_two.ensures c.row_width-w.ensures c.requires in
    level.down_ready

pub slice_bounds-ranked_product-end : goal.slice_bounds-ranked_product-end
slice_bounds-ranked_product-end t c =
    let level = level_of c.args.modulus.valid.lowest c.if-q-eq0.false c.power_of_two.ensures c.row_width-w.ensures c.requires in
    turns.mid_fits _ _ _ _ _ _ _ _ level _ c.add_lower.ensures c.add_lower.auto.rows

pub slice_bounds-ranked_product-end-else-q-eq0 : goal.slice_bounds-ranked_product-end-else-q-eq0
slice_bounds-ranked_product-end-else-q-eq0 t c =
    let level = level_of c.args.modulus.valid.lowest c.if-q-eq0.false c.power_of_two.ensures c.row_width-w.ensures c.requires in
    sym (turns.first_long _ _ _ _ _ _ _ _ level _ c.add_lower.ensures c.add_lower.auto.rows)

pub ranked_product-requires : goal.ranked_product-requires
ranked_product-requires t c =
    let level = level_of c.args.modulus.valid.lowest c.if-q-eq0.false c.power_of_two.ensures c.row_width-w.ensures c.requires in
    (omega (arith, c.decreases, c.if-q-eq0.false), level.first_ready _ c.add_lower.ensures c.add_lower.auto.rows)

pub slice_bounds-ranked_product-count : goal.slice_bounds-ranked_product-count
slice_bounds-ranked_product-count t c =
    let level = level_of c.args.modulus.valid.lowest c.if-q-eq0.false c.power_of_two.ensures c.row_width-w.ensures c.requires in
    let first = c.ranked_product in
    turns.mid_in _ _ _ _ _ _ _ _ level _ c.add_lower.ensures c.add_lower.auto.rows first.new.rows first.auto.rows

pub slice_bounds-ranked_product-start : goal.slice_bounds-ranked_product-start
slice_bounds-ranked_product-start t c = slice_bounds-ranked_product-count t c

pub ranked_product-requires-else-q-eq0 : goal.ranked_product-requires-else-q-eq0
ranked_product-requires-else-q-eq0 t c =
    let level = level_of c.args.modulus.valid.lowest c.if-q-eq0.false c.power_of_two.ensures c.row_width-w.ensures c.requires in
    let first = c.ranked_product in
    let ready = turns.lent_ready _ _ _ _ _ _ _ _ level _ c.add_lower.ensures c.add_lower.auto.rows first.new.rows first.auto.rows in
    (omega (arith, c.decreases, c.if-q-eq0.false), ready _ (omega arith))

pub subtract_lower-requires-clause-rows_ready : goal.subtract_lower-requires-clause-rows_ready
subtract_lower-requires-clause-rows_ready t c =
    let level = level_of c.args.modulus.valid.lowest c.if-q-eq0.false c.power_of_two.ensures c.row_width-w.ensures c.requires in
    let first = c.ranked_product in
    let second = c.ranked_product-else-q-eq0 in
    let ready = turns.back_ready _ _ _ _ _ _ _ _ level _ c.add_lower.ensures c.add_lower.auto.rows _ first.auto.rows first.ensures second.new.rows second.auto.rows in
    ready (λ u r lu lr h. second.ensures.below u r lu lr (omega arith))

pub returns-then-q-eq0 : goal.returns-then-q-eq0
returns-then-q-eq0 t c =
    turns.leaf _ _ _ _ _ _ (omega (arith, c.args.modulus.valid.lowest)) c.if-q-eq0.true c.requires c.multiply_row.ensures

pub returns-else-q-eq0 : goal.returns-else-q-eq0
returns-else-q-eq0 t c =
    let level = level_of c.args.modulus.valid.lowest c.if-q-eq0.false c.power_of_two.ensures c.row_width-w.ensures c.requires in
    let first = c.ranked_product in
    let second = c.ranked_product-else-q-eq0 in
    turns.done _ _ _ _ _ _ _ _ level _ c.add_lower.ensures c.add_lower.auto.rows _ first.auto.rows first.ensures _ second.auto.rows second.ensures
    _ c.subtract_lower.ensures
