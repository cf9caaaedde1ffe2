-- The stack machine that works a recipe out from its postfix code.
--   runs_recipe     it leaves what the recipe is worth, or the number of the first call that refuses
--   fits_recipe     nesting to depth 8 takes at most 28 values, and no instruction lacks an operand
use Rattle.std.specs.Prelude.{◌≡◌, cond, ℕ, zero, suc, ◌+◌, ◌*◌, ◌<◌, ◌≤◌, max, eqb}
use Rattle.std.proofs.Math.Path.{refl, sym, ap}
use Rattle.std.proofs.Common.{◌∙◌, subst, arith}
use mathlib.Core.List.{List, [], ◌∷◌, ◌++◌, append_assoc, append-nil}
use Rattle.definitions.specs.Limits.{deepest_nesting}
use Rattle.definitions.specs.Outcomes.{Outcome, accepted, refused, and_then}
use Rattle.definitions.specs.Recipes.{Level, factor, above, sum, Letter, tableA, tableB, tableC, tableD, Sign, times, union, xor, plus, minus, Opening, group, exponential, logarithm, inverse, Tree, table, inside, only, chain, letter_byte, sign_byte, nesting, Choice, sign_call, opening_call, worth}
use Rattle.recipe_theory.specs.Postfix.{postfix, opening_code}

-- ---- codes

pub data Instruction : Type 0 where
  push : Letter → Instruction
  combine : {l : Level} → Sign l → Instruction
  apply : Opening → Instruction
  other : Instruction

-- "A" to "D", the five signs, "e", "l", "i"
unfoldable pub instruction_of : ℕ → Instruction
instruction_of b =
    cond (eqb b 65) (push tableA)
    (cond (eqb b 66) (push tableB)
    (cond (eqb b 67) (push tableC)
    (cond (eqb b 68) (push tableD)
    (cond (eqb b 43) (combine plus)
    (cond (eqb b 45) (combine minus)
    (cond (eqb b 42) (combine times)
    (cond (eqb b 124) (combine union)
    (cond (eqb b 94) (combine xor)
    (cond (eqb b 101) (apply exponential)
    (cond (eqb b 108) (apply logarithm)
    (cond (eqb b 105) (apply inverse) other)))))))))))

letter_code : (x : Letter) → instruction_of (letter_byte x) ≡ push x
unfolding instruction_of
letter_code tableA = refl
letter_code tableB = refl
letter_code tableC = refl
letter_code tableD = refl

sign_code : {l : Level} (s : Sign l) → instruction_of (sign_byte s) ≡ combine s
unfolding instruction_of
sign_code times = refl
sign_code union = refl
sign_code xor = refl
sign_code plus = refl
sign_code minus = refl

-- ---- how many values there are

-- the most values at once
abbrev pub most_values : ℕ
most_values = 28

-- an instruction on so many values has its operands, or room for one more
abbrev pub Can : Instruction → ℕ → Type 0
Can (push x) h = h < most_values
Can (combine s) h = 2 ≤ h
Can (apply o) h = 1 ≤ h
Can other h = ⊥

abbrev pub height_after : Instruction → ℕ → ℕ
height_after (push x) h = suc h
height_after (combine s) zero = zero
height_after (combine s) (suc h) = h
height_after (apply o) h = h
height_after other h = h

abbrev pub Fits : List ℕ → ℕ → Type 0
Fits [] h = Unit {0}
Fits (b ∷ code) h = Can (instruction_of b) h × Fits code (height_after (instruction_of b) h)

-- how many values a tree takes at once
unfoldable places : {l : Level} → Tree l → ℕ
places (table x) = 1
places (inside o t) = places t
places (only t) = places t
places (chain t s u) = max (places t) (suc (places u))

-- levels above a factor
abbrev levels : Level → ℕ
levels factor = 0
levels (above l) = suc (levels l)

places_bound : {l : Level} (t : Tree l) → places t ≤ 1 + levels l + 3 * nesting t
unfolding places nesting
places_bound (table x) = omega arith
places_bound (inside o t) = omega (arith, places_bound t)
places_bound (only t) = omega (arith, places_bound t)
places_bound (chain t s u) = omega (arith, places_bound t, places_bound u)

-- one code more, whose instruction is known
one_more : (b : ℕ) (i : Instruction) (code : List ℕ) (h : ℕ) → instruction_of b ≡ i → Can i h → Fits code (height_after i h) → Fits (b ∷ code) h
one_more b i code h e can rest = subst (λ (j : Instruction). Can j h × Fits code (height_after j h)) (sym e) (can, rest)

fits_call : (o : Opening) (code : List ℕ) (h : ℕ) → Fits code (suc h) → Fits (opening_code o ++ code) (suc h)
unfolding instruction_of
fits_call group code h f = f
fits_call exponential code h f = (omega arith, f)
fits_call logarithm code h f = (omega arith, f)
fits_call inverse code h f = (omega arith, f)

fits_tree : {l : Level} (t : Tree l) (code : List ℕ) (h : ℕ) → places t + h ≤ most_values → Fits code (suc h) → Fits (postfix t ++ code) h
unfolding postfix places
fits_tree (table x) code h few f = one_more (letter_byte x) (push x) code h (letter_code x) (omega arith) f
fits_tree (inside o t) code h few f =
    subst (λ (c : List ℕ). Fits c h) (sym (append_assoc (postfix t) (opening_code o) code))
    (fits_tree t (opening_code o ++ code) h few (fits_call o code h f))
fits_tree (only t) code h few f = fits_tree t code h few f
fits_tree (chain t s u) code h few f =
    subst (λ (c : List ℕ). Fits c h)
    (sym (append_assoc (postfix t ++ postfix u) (sign_byte s ∷ []) code ∙ append_assoc (postfix t) (postfix u) (sign_byte s ∷ code)))
    (fits_tree t (postfix u ++ (sign_byte s ∷ code)) h (omega arith)
    (fits_tree u (sign_byte s ∷ code) (suc h) (omega arith)
    (one_more (sign_byte s) (combine s) code (suc (suc h)) (sign_code s) (omega arith) f)))

pub fits_recipe : (t : Tree sum) → nesting t ≤ deepest_nesting → Fits (postfix t) 0
fits_recipe t shallow =
    subst (λ (c : List ℕ). Fits c 0) (append-nil (postfix t)) (fits_tree t [] 0 (omega (arith, places_bound t)) tt)

-- ---- what it leaves

then_then : {P Q R : Type 0} (o : Outcome P) (f : P → Outcome Q) (g : Q → Outcome R) → and_then (and_then o f) g ≡ and_then o (λ x. and_then (f x) g)
then_then (accepted x) f g = refl
then_then (refused k) f g = refl

then_same : {P Q : Type 0} (o : Outcome P) (f g : P → Outcome Q) → ((x : P) → f x ≡ g x) → and_then o f ≡ and_then o g
then_same (accepted x) f g e = e x
then_same (refused k) f g e = refl

-- a stack, the top first
abbrev pub Stack : Type 0
Stack = List (List ℕ)

abbrev pub on_top : Stack → List ℕ → Outcome Stack
on_top stack v = accepted (v ∷ stack)

module _ (n m : ℕ) (by : Choice n m) (tables : Letter → List ℕ) where
  -- one instruction; where operands lack, nothing is done (`Can`)
  abbrev pub step : Instruction → Stack → Outcome Stack
  step (push x) stack = on_top stack (tables x)
  step (combine s) [] = accepted []
  step (combine s) (b ∷ []) = accepted (b ∷ [])
  step (combine s) (b ∷ a ∷ stack) = and_then (sign_call n m s a b) (on_top stack)
  step (apply o) [] = accepted []
  step (apply o) (a ∷ stack) = and_then (opening_call n m by o a) (on_top stack)
  step other stack = accepted stack

  unfoldable pub run : List ℕ → Stack → Outcome Stack
  run [] stack = accepted stack
  run (b ∷ code) stack = and_then (step (instruction_of b) stack) (run code)

  runs_push : (x : Letter) (code : List ℕ) (stack : Stack) → run (letter_byte x ∷ code) stack ≡ run code (tables x ∷ stack)
  unfolding run
  runs_push x code stack = rw (letter_code x)

  runs_sign : {l : Level} (s : Sign l) (code : List ℕ) (stack : Stack) (a b : List ℕ) →
      run (sign_byte s ∷ code) (b ∷ a ∷ stack) ≡ and_then (sign_call n m s a b) (λ v. run code (v ∷ stack))
  unfolding run
  runs_sign s code stack a b =
      ap (λ (i : Instruction). and_then (step i (b ∷ a ∷ stack)) (run code)) (sign_code s)
      ∙ then_then (sign_call n m s a b) (on_top stack) (run code)

  runs_call : (o : Opening) (code : List ℕ) (stack : Stack) (a : List ℕ) →
      run (opening_code o ++ code) (a ∷ stack) ≡ and_then (opening_call n m by o a) (λ v. run code (v ∷ stack))
  unfolding run instruction_of opening_call
  runs_call group code stack a = refl
  runs_call exponential code stack a = then_then (opening_call n m by exponential a) (on_top stack) (run code)
  runs_call logarithm code stack a = then_then (opening_call n m by logarithm a) (on_top stack) (run code)
  runs_call inverse code stack a = then_then (opening_call n m by inverse a) (on_top stack) (run code)

  runs_tree : {l : Level} (t : Tree l) (code : List ℕ) (stack : Stack) →
      run (postfix t ++ code) stack ≡ and_then (worth n m by tables t) (λ v. run code (v ∷ stack))
  unfolding postfix worth
  runs_tree (table x) code stack = runs_push x code stack
  runs_tree (inside o t) code stack =
      ap (λ (c : List ℕ). run c stack) (append_assoc (postfix t) (opening_code o) code)
      ∙ runs_tree t (opening_code o ++ code) stack
      ∙ then_same (worth n m by tables t) _ _ (λ v. runs_call o code stack v)
      ∙ sym (then_then (worth n m by tables t) (opening_call n m by o) (λ v. run code (v ∷ stack)))
  runs_tree (only t) code stack = runs_tree t code stack
  runs_tree (chain t s u) code stack =
      ap (λ (c : List ℕ). run c stack) (append_assoc (postfix t ++ postfix u) (sign_byte s ∷ []) code ∙ append_assoc (postfix t) (postfix u) (sign_byte s ∷ code))
      ∙ runs_tree t (postfix u ++ (sign_byte s ∷ code)) stack
      ∙ then_same (worth n m by tables t) _ _
      (λ a.
      runs_tree u (sign_byte s ∷ code) (a ∷ stack)
      ∙ then_same (worth n m by tables u) _ _ (λ b. runs_sign s code stack a b)
      ∙ sym (then_then (worth n m by tables u) (λ b. sign_call n m s a b) (λ v. run code (v ∷ stack))))
      ∙ sym (then_then (worth n m by tables t) (λ a. and_then (worth n m by tables u) (λ b. sign_call n m s a b)) (λ v. run code (v ∷ stack)))

  -- on an empty stack the recipe's value is left alone
  pub runs_recipe : (t : Tree sum) → run (postfix t) [] ≡ and_then (worth n m by tables t) (on_top [])
  unfolding run
  runs_recipe t = ap (λ (c : List ℕ). run c []) (sym (append-nil (postfix t))) ∙ runs_tree t [] []
