use mathlib.Core.Path.{refl, sym, ◌∙◌, ap}
use mathlib.Core.List.{List}
use Prim.Native.Nat.{ℕ, suc, ◌%◌}
use native.Mathlib.Numerals.{add-one}
use native.Mathlib.Omega.{arith}
use Rattle.definitions.specs.Sums.{sum, tabulate}
use Rattle.pointwise.specs.Filling.{fresh, next, full}
use Rattle.binomial.specs.Rules.{term_at, pascal_at, pascal_row, row_width}
use Rattle.binomial.proofs.Pascal.{pascal_first, pascal_entries, pascal_next, entry}
use Rattle.binomial.proofs.binomial_entries.Goals as goal

pub loop-i-init : goal.loop-i-init
loop-i-init c = record { entries = fresh; row = pascal_first c.args.modulus.value c.args.modulus.valid.lowest }

pub binomial_entry-requires : goal.binomial_entry-requires
binomial_entry-requires c = let first = c.requires.inputs.first in
    let second = c.requires.inputs.second in record {
      inputs = record {
        first = record { size = refl; below = first.below };
        second = record { size = second.size ∙ sym first.size; below = second.below };
      };
      entries = rw c.loop-i.invariant.row (pascal_entries c.args.modulus.value (omega (arith, c.args.modulus.valid.lowest)) c.loop-i.i);
      i_in_bounds = (omega (arith, first.size), omega arith);
    }

pub next_pascal_row-requires : goal.next_pascal_row-requires
next_pascal_row-requires c = rw c.loop-i.invariant.row (pascal_entries c.args.modulus.value (omega (arith, c.args.modulus.valid.lowest)) c.loop-i.i)

pub loop-i-preserved : goal.loop-i-preserved
loop-i-preserved c = let m = c.args.modulus.value in
    let f = c.args.f.now in
    let g = c.args.g.now in
    let i = c.loop-i.i in
    let row = c.loop-i.invariant.row in record {
      entries = next c.loop-i.invariant.entries
          (c.binomial_entry.ensures ∙ ap (λ (r : List ℕ). sum (suc i) (term_at r f g i) % m) row ∙ entry m f g i (omega arith)) (omega arith);
      row = c.next_pascal_row.ensures ∙ ap (λ (r : List ℕ). tabulate row_width (pascal_at m r)) row ∙ pascal_next m i
          ∙ ap (pascal_row m) (sym (add-one i));
    }

pub returns : goal.returns
returns c = full c.loop-i.invariant.entries (omega arith)
