use mathlib.Core.Path.{◌≡◌, sym, ap, ◌∙◌}
use mathlib.Core.List.{List}
use Prim.Native.Nat.{ℕ, suc, ◌+◌, ◌-◌, ◌^◌, max}
use native.Mathlib.Omega.{arith}
use lib.ListN.{length, take, drop, length-drop}
use lib.Seq.{length-take-le}
use Rattle.theory.specs.Parts.{part_behind}
use Rattle.degrees.specs.Parts.{part_degree, part_single, part_most, part_halves}
use Rattle.degrees.proofs.+degree_of_part.Goals as goal

-- the parts that a part of 2 ^ q entries is cut into at mid
record Halved (q mid : ℕ) (a : List ℕ) : Type 0 where
  twice : length a ≡ mid + mid
  lower : mid ≡ length (take mid a)
  upper : mid ≡ length (take (length a - mid) (drop mid a))
  both : (d : ℕ) → part_degree q d a
      ≡ max (part_degree (q - 1) d (take mid a)) (part_degree (q - 1) (d + 1) (take (length a - mid) (drop mid a)))

halved : (q mid : ℕ) (a : List ℕ) → (q ≡ 0 → ⊥) → mid ≡ 2 ^ (q - 1) → length a ≡ 2 ^ q → Halved q mid a
halved q mid a some e long =
    let back : q ≡ suc (q - 1) = omega arith in
    let two : length a ≡ mid + mid = long ∙ ap (λ (k : ℕ). 2 ^ k) back ∙ omega arith in
    record {
      twice = two;
      lower = sym (length-take-le mid a (omega arith));
      upper = rw (part_behind mid a, length-drop) (omega arith);
      both = λ d. rw (part_behind mid a, e) (ap (λ (k : ℕ). part_degree k d a) back ∙ part_halves (q - 1) d a);
    }

pub bounds-a-0 : goal.bounds-a-0
bounds-a-0 t c = omega (arith, rw c.if-q-eq0.true at c.requires.1)

pub degree_of_eight-requires : goal.degree_of_eight-requires
degree_of_eight-requires t c = (omega arith, rw c.if-q-eq3.true at c.requires.1)

pub offset_bounds-a-mid : goal.offset_bounds-a-mid
offset_bounds-a-mid t c = omega (arith, (halved _ _ _ c.if-q-eq0.false c.power_of_two-mid.ensures c.requires.1).twice)

pub slice_bounds-degree_of_part-count : goal.slice_bounds-degree_of_part-count
slice_bounds-degree_of_part-count t c = omega (arith, (halved _ _ _ c.if-q-eq0.false c.power_of_two-mid.ensures c.requires.1).twice)

pub degree_of_part-upper-requires : goal.degree_of_part-upper-requires
degree_of_part-upper-requires t c = (omega arith, (omega arith, omega (arith, (halved _ _ _ c.if-q-eq0.false c.power_of_two-mid.ensures c.requires.1).upper)))

pub slice_bounds-degree_of_part-end-else-q-eq3 : goal.slice_bounds-degree_of_part-end-else-q-eq3
slice_bounds-degree_of_part-end-else-q-eq3 t c = (halved _ _ _ c.if-q-eq0.false c.power_of_two-mid.ensures c.requires.1).lower

pub degree_of_part-requires : goal.degree_of_part-requires
degree_of_part-requires t c = (omega arith, (omega arith, omega (arith, (halved _ _ _ c.if-q-eq0.false c.power_of_two-mid.ensures c.requires.1).lower)))

pub returns-then-d-q : goal.returns-then-d-q
returns-then-d-q t c = let a = c.args in
    omega (arith, part_most a.q a.d.0 a.a.now)

pub returns-then-q-eq0 : goal.returns-then-q-eq0
returns-then-q-eq0 t c = rw (c.if-q-eq0.true, part_single) c.counting.ensures

pub returns-then-q-eq3 : goal.returns-then-q-eq3
returns-then-q-eq3 t c = rw c.if-q-eq3.true c.degree_of_eight.ensures

pub returns-else-q-eq3 : goal.returns-else-q-eq3
returns-else-q-eq3 t c = omega (arith, (halved _ _ _ c.if-q-eq0.false c.power_of_two-mid.ensures c.requires.1).both c.args.d.0, c.degree_of_part-upper.ensures, c.degree_of_part.ensures)

pub slice_bounds-degree_of_part-start : goal.slice_bounds-degree_of_part-start
slice_bounds-degree_of_part-start t c = omega (arith, (halved _ _ _ c.if-q-eq0.false c.power_of_two-mid.ensures c.requires.1).twice)
