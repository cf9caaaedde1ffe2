-- A byte of code that is none of those before "i".
use mathlib.Core.Path.{◌≡◌}
use mathlib.Core.Bool.{Bool, true, false, cond}
use Prim.Native.Nat.{ℕ}
use lib.Dec.{eqb}
use borrow.Author.Tests.{ne_eqb}
use Rattle.definitions.specs.Recipes.{inverse}
use Rattle.recipe_theory.specs.Stack.{apply, other, instruction_of}

-- a byte is not k
abbrev Not : ℕ → ℕ → Type 0
Not b k = b ≡ k → ⊥

abbrev pub NoneBefore : ℕ → Type 0
NoneBefore b =
    ((((((((((Unit {0} × Not b 65) × Not b 66) × Not b 67) × Not b 68) × Not b 43) × Not b 45) × Not b 42) × Not b 124) × Not b 94) × Not b 101) × Not b 108

pub last_code : (b : ℕ) → NoneBefore b → (instruction_of b ≡ other → ⊥) → instruction_of b ≡ apply inverse
unfolding instruction_of
last_code b (((((((((((u, a), b'), c), d), p), s), t), n), x), e), l) some =
    by (eqb b 105) is
  where
    is : instruction_of b ≡ cond (eqb b 105) (apply inverse) other
    is =
        rw (ne_eqb b 65 a, ne_eqb b 66 b', ne_eqb b 67 c, ne_eqb b 68 d, ne_eqb b 43 p, ne_eqb b 45 s, ne_eqb b 42 t, ne_eqb b 124 n, ne_eqb b 94 x, ne_eqb b 101 e, ne_eqb b 108 l)

    by : (i : Bool) → instruction_of b ≡ cond i (apply inverse) other → instruction_of b ≡ apply inverse
    by true h = h
    by false h = absurd (some h)
