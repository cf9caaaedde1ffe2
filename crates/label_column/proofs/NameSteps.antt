-- The + behind a label.
use mathlib.Core.Path.{◌≡◌}
use mathlib.Core.List.{List, [], ◌∷◌}
use mathlib.Core.Logic.{◌≢◌}
use Prim.Native.Nat.{ℕ, ◌+◌, ◌<◌, ◌≤◌}
use native.Mathlib.Omega.{arith}
use lib.ListN.{length}
use borrow.Author.Tests.{eq-eqb, ne_eqb}
use Rattle.text_pieces.specs.Text.{Writes}
use Rattle.text_pieces.specs.TextLaws.{writes_none}
use Rattle.label_column.specs.Columns.{joint}

pub joint_none : {rest at : ℕ} {old : List ℕ} → rest ≡ 0 → at + length (joint rest) ≤ length old → Writes old at (joint rest) at old
joint_none {rest} {at} {old} e h = rw (eq-eqb rest 0 e) (writes_none old at (omega arith))

joint-length : (rest : ℕ) → rest ≢ 0 → length (joint rest) ≡ 1
joint-length rest d = rw (ne_eqb rest 0 d)

pub joint_room : (rest : ℕ) {at long : ℕ} → rest ≢ 0 → at + length (joint rest) ≤ long → at < long
joint_room rest d h = omega (arith, joint-length rest d)

pub joint-one : {rest at next : ℕ} {old last : List ℕ} → rest ≢ 0 → Writes old at (43 ∷ []) next last → Writes old at (joint rest) next last
joint-one {rest} d w = rw (ne_eqb rest 0 d) w
