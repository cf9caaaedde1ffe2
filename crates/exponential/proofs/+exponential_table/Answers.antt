use mathlib.Core.Path.{◌≡◌}
use Prim.Native.Nat.{ℕ, suc, ◌-◌}
use native.Mathlib.Omega.{arith}
use lib.Pow.{pow_pos}
use Rattle.exponential.proofs.Halves.{single, half_in, half_long, first_ready, lower_done, both_halves}
use Rattle.exponential.proofs.+exponential_table.Goals as goal

positive : {q : ℕ} → (q ≡ 0 → ⊥) → q ≡ suc (q - 1)
positive h = omega arith

pub bounds-table-0 : goal.bounds-table-0
bounds-table-0 t c = omega (arith, pow_pos c.args.q, c.requires.long)

pub power_of_two-mid-requires : goal.power_of_two-mid-requires
power_of_two-mid-requires t c = omega (arith, c.requires.few)

pub slice_bounds-exponential_table-end : goal.slice_bounds-exponential_table-end
slice_bounds-exponential_table-end t c = half_in (positive c.if-q-eq0.false) c.power_of_two-mid.ensures c.requires

pub slice_bounds-exponential_table-end-else-q-eq0 : goal.slice_bounds-exponential_table-end-else-q-eq0
slice_bounds-exponential_table-end-else-q-eq0 t c = half_long (positive c.if-q-eq0.false) c.power_of_two-mid.ensures c.requires

pub exponential_table-requires : goal.exponential_table-requires
exponential_table-requires t c = (omega (arith, c.decreases, c.if-q-eq0.false), first_ready (positive c.if-q-eq0.false) c.power_of_two-mid.ensures c.requires)

pub fill_upper-requires : goal.fill_upper-requires
fill_upper-requires t c = let rec = c.exponential_table in
    let q = positive c.if-q-eq0.false in lower_done q c.power_of_two-mid.ensures c.requires rec.auto.table rec.ensures c.args.modulus.valid.lowest _ rec.auto.workspace

pub returns-then-q-eq0 : goal.returns-then-q-eq0
returns-then-q-eq0 t c = single c.if-q-eq0.true c.args.modulus.valid.lowest c.requires

pub returns-else-q-eq0 : goal.returns-else-q-eq0
returns-else-q-eq0 t c = let rec = c.exponential_table in
    both_halves (positive c.if-q-eq0.false) c.power_of_two-mid.ensures c.requires rec.auto.table rec.ensures
    c.fill_upper.ensures
