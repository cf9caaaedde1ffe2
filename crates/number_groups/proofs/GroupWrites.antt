-- The steps of writing a number group by group.
use mathlib.Core.Path.{◌≡◌, refl, sym, ◌∙◌, ap}
use mathlib.Core.List.{List}
use Prim.Native.Nat.{ℕ, suc, ◌+◌, ◌/◌, ◌%◌, ◌^◌, ◌<◌, ◌≤◌}
use native.Mathlib.Numerals.{add-one}
use native.Mathlib.Omega.{arith}
use lib.ListN.{length, set, length-set}
use lib.Seq.{sets}
use Rattle.definitions.specs.Groups.{groups}
use Rattle.number_groups.specs.Numbers.{groups-last, groups_more, one_long, more_long}

-- ---- how long a number is

pub two_long : (v : ℕ) → 128 ≤ v → v < 128 ^ 2 → length (groups v) ≡ 2
two_long v l h = more_long 1 v l (omega arith) (one_long (v / 128) (omega arith))

pub three_long : (v : ℕ) → 128 ^ 2 ≤ v → v < 128 ^ 3 → length (groups v) ≡ 3
three_long v l h = more_long 2 v (omega arith) (omega arith) (two_long (v / 128) (omega arith) (omega arith))

pub four_long : (v : ℕ) → 128 ^ 3 ≤ v → v < 128 ^ 4 → length (groups v) ≡ 4
four_long v l h = more_long 3 v (omega arith) (omega arith) (three_long (v / 128) (omega arith) (omega arith))

pub five_long : (v : ℕ) → 128 ^ 4 ≤ v → v < 2 ^ 32 → length (groups v) ≡ 5
five_long v l h = more_long 4 v (omega arith) (omega arith) (four_long (v / 128) (omega arith) (omega arith))

pub ruleset lengths = (one_long, two_long, three_long, four_long, five_long)

-- ---- the loop

-- so much of a value is to be written yet, and then the buffer is as it is to be
pub record GroupsLeft (value at : ℕ) (old buffer : List ℕ) (rest place : ℕ) : Type 0 where
  pub small : rest < 2 ^ 32
  pub ends : place + length (groups rest) ≡ at + length (groups value)
  pub gives : sets buffer place (groups rest) ≡ sets old at (groups value)
  pub as_long : length buffer ≡ length old

module _ (value at : ℕ) (old buffer : List ℕ) (rest place : ℕ) (left : GroupsLeft value at old buffer rest place) where
  module _ (more : 128 ≤ rest) where
    ends_behind : place + suc (length (groups (rest / 128))) ≡ at + length (groups value)
    ends_behind = ap (λ (k : ℕ). place + k) (sym (more_long _ rest more left.small refl)) ∙ left.ends

    pub room : at + length (groups value) ≤ length old → place < length buffer
    room h = omega (arith, ends_behind, left.as_long)

    pub one_less : GroupsLeft value at old (set buffer place (128 + rest % 128)) (rest / 128) (place + 1)
    one_less = record {
      small = omega (arith, left.small);
      ends = omega (arith, ends_behind);
      gives = rw (add-one place) (ap (λ (gs : List ℕ). sets buffer place gs) (sym (groups_more rest more left.small)) ∙ left.gives);
      as_long = length-set buffer place (128 + rest % 128) ∙ left.as_long;
    }

  module _ (last : rest < 128) where
    pub ends_at : place + 1 ≡ at + length (groups value)
    ends_at = ap (λ (k : ℕ). place + k) (sym (one_long rest last)) ∙ left.ends

    pub last_room : at + length (groups value) ≤ length old → place < length buffer
    last_room h = omega (arith, ends_at, left.as_long)

    pub none_left : set buffer place rest ≡ sets old at (groups value)
    none_left = ap (λ (gs : List ℕ). sets buffer place gs) (sym (groups-last rest last)) ∙ left.gives

pub ruleset writing = (room, last_room, ends_at, none_left)
