use mathlib.Core.Path.{◌≡◌}
use Prim.Native.Nat.{◌-◌, ◌%◌}
use Rattle.theory.specs.Rows.{inverse_row}
use Rattle.series_rows.specs.InverseRows.{InverseRow}
use Rattle.series_rows.proofs.inverse_row.Given as goal

abbrev pub invariant-loop-i : goal.invariant-loop-i
invariant-loop-i l = (l.entry ≡ inverse_row l.modulus.value l.u (l.i - l.start) % l.modulus.value) × InverseRow l.modulus.value l.u l.start l.i l.row
