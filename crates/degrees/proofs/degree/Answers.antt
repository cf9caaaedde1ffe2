use mathlib.Core.Path.{◌≡◌, sym, ◌∙◌}
use mathlib.Core.Bool.{true}
use native.Mathlib.Nat.{zero-max}
use native.Mathlib.Omega.{arith}
use lib.Pow.{pow_pos}
use Rattle.definitions.specs.Products.{nonzero}
use Rattle.theory.specs.Degree.{nonzero-at, degree-zeros}
use Rattle.degrees.specs.Parts.{part_most, part_whole, part_none, part_some}
use Rattle.degrees.proofs.degree.Goals as goal

pub bounds-a-0 : goal.bounds-a-0
bounds-a-0 c = omega (arith, c.requires, pow_pos c.args.n)

pub overflow_cast-result : goal.overflow_cast-result
overflow_cast-result c = omega (arith, c.requires, c.degree_of_part-largest.ensures, part_most c.args.n 0 c.args.a.now)

pub returns-then-a-eq0 : goal.returns-then-a-eq0
returns-then-a-eq0 c = let s = c.args in
    let none = part_none s.n s.a.now (omega (arith, c.degree_of_part-largest.ensures, c.if-largest-eq0.true)) c.if-a-eq0.true in
    sym (degree-zeros _ _ none)

pub returns-else-largest-eq0 : goal.returns-else-largest-eq0
returns-else-largest-eq0 c = let f = c.degree_of_part-largest.ensures ∙ zero-max _ in
    let s = c.args in
    let some : nonzero s.n s.a.now ≡ true = elim c.else-largest-eq0.branch [
      | goal.else-largest-eq0-via-then-largest-eq0+else-a-eq0 w ↦ nonzero-at _ _ 0 (pow_pos _) w.if-a-eq0.false
      | goal.else-largest-eq0-via-else-largest-eq0 w ↦ part_some _ _ (λ e. w.if-largest-eq0.false (f ∙ e))
    ] in
    f ∙ part_whole _ _ some
