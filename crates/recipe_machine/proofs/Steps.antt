-- One instruction, in memory.
use mathlib.Core.Path.{◌≡◌, refl, sym, ◌∙◌, ap, ap₂, subst}
use mathlib.Core.List.{List, [], ◌∷◌}
use Prim.Native.Nat.{ℕ, zero, suc, ◌+◌, ◌-◌, ◌^◌, ◌<◌, ◌≤◌}
use native.Mathlib.Omega.{arith}
use lib.ListN.{length}
use Rattle.definitions.specs.Limits.{pad_length, recipe_pad_length}
use Rattle.definitions.specs.Sums.{at}
use Rattle.definitions.specs.Outcomes.{Outcome, accepted, refused, and_then, unless}
use Rattle.definitions.specs.Recipes.{Level, Letter, Sign, Opening, Choice, call_gives, sign_call, opening_call}
use Rattle.residues.specs.declared.Modulus.{Modulus}
use Rattle.checks.specs.Accepted.{InRange, IsTable}
use Rattle.ranked_within.specs.Within.{table_at}
use Rattle.recipe_theory.specs.Values.{sign_table, opening_table}
use Rattle.recipe_theory.specs.Stack.{Stack, Instruction, push, combine, apply, other, most_values, height_after, on_top, step}
use Rattle.recipe_operations.specs.Operands.{Operands, Operand, Saved, Done}
use Rattle.recipe_machine.specs.Memory.{place_of, placed, values_below, stack_of, first_held, AllTables, Space, Ready, Stepped}
use Rattle.recipe_machine.proofs.Places.{place_below, place_in, place_same, values_same}

-- one value less
pub one_less : {l : Level} (s : Sign l) (height : ℕ) → 2 ≤ height → height - 1 ≡ height_after (combine s) height
one_less s zero two = absurd (omega arith)
one_less s (suc h) two = omega arith

-- what the result held at first, in the result
pub held_given : (n height : ℕ) (result pad : List ℕ) {last : List ℕ} → 0 < height → last ≡ placed n 0 pad → last ≡ first_held n height result pad
held_given n zero result pad some e = absurd (omega arith)
held_given n (suc h) result pad some e = e

pub none_held : (n height : ℕ) (result pad : List ℕ) → height ≤ 0 → result ≡ first_held n height result pad
none_held n zero result pad none = refl
none_held n (suc h) result pad none = absurd (omega arith)

-- the value of a call on top of a stack
on_top_lem : (word : ℕ) (v : List ℕ) (stack : Stack) → and_then (call_gives word v) (on_top stack) ≡ unless word (accepted (v ∷ stack))
on_top_lem zero v stack = refl
on_top_lem (suc k) v stack = refl

module _ {n m : ℕ} (by : Choice n m) (tables : Letter → List ℕ) where
  -- ---- a letter

  pushed_held : (result pad result' pad' : List ℕ) (height : ℕ) → table_at n (place_of n height) pad' ≡ result
      → ((j : ℕ) → j < height → placed n j pad' ≡ placed n j pad) → first_held n (suc height) result' pad' ≡ first_held n height result pad
  pushed_held result pad result' pad' zero there below = there
  pushed_held result pad result' pad' (suc h) there below = below 0 (omega arith)

  pushed_stack : (result pad pad' : List ℕ) (height : ℕ) (v : List ℕ) → table_at n (place_of n height) pad' ≡ result
      → ((h : ℕ) → h < height → values_below n h pad' ≡ values_below n h pad) → stack_of n (suc height) v pad' ≡ (v ∷ stack_of n height result pad)
  pushed_stack result pad pad' zero v there below = refl
  pushed_stack result pad pad' (suc h) v there below = ap₂ (λ (t : List ℕ) (ts : Stack). v ∷ t ∷ ts) there (below h (omega arith))

  pub push_stepped : (x : Letter) {result pad result' pad' : List ℕ} (height : ℕ) → height < most_values → Space n height result pad → length pad' ≡ length pad
      → result' ≡ tables x → Saved (place_of n height) result pad pad' → Stepped n m by tables (push x) height result pad 0 result' pad'
  push_stepped x {result} {pad} {result'} {pad'} height within space kept e s =
      let there : table_at n (place_of n height) pad' ≡ result = rw space.long at s.there in
      let before : (y : ℕ) → pad_length n ≤ y → y < place_of n height → at pad' y ≡ at pad y = λ y low high. s.before y high in
      record {
        gives =
            ap (λ (t : List ℕ). accepted (t ∷ stack_of n height result pad)) (sym e)
            ∙ ap accepted (sym (pushed_stack result pad pad' height result' there (values_same n height pad pad' (omega arith) space.room kept before)));
        held = λ z. pushed_held result pad result' pad' height there (place_same n height pad pad' (omega arith) space.room kept before);
        kept = λ no_word. absurd (no_word refl);
      }

  -- ---- a sign

  pub combine_stepped : {l : Level} (s : Sign l) {place word : ℕ} {result pad result' pad' : List ℕ} (height : ℕ) → 2 ≤ height → Space n height result pad → length pad' ≡ length pad
      → place ≡ place_of n (height - 1) → Done n (sign_call n m s (table_at n place pad) result) place result pad word result' pad'
      → Stepped n m by tables (combine s) height result pad word result' pad'
  combine_stepped s zero two space kept e d = absurd (omega arith)
  combine_stepped s (suc zero) two space kept e d = absurd (omega arith)
  combine_stepped s {place} {word} {result} {pad} {result'} {pad'} (suc (suc h)) two space kept e d =
      let at_place : place ≡ place_of n (suc h) = e ∙ ap (λ (k : ℕ). place_of n k) (let one : suc (suc h) - 1 ≡ suc h = omega arith in one) in
      let few : suc h < 32 = omega (arith, space.within) in
      let before : (y : ℕ) → pad_length n ≤ y → y < place_of n (suc h) → at pad' y ≡ at pad y = λ y low high. d.rest y low (omega arith) in
      let lowest = place_same n (suc h) pad pad' few space.room kept before 0 (omega arith) in
      let values = values_same n (suc h) pad pad' few space.room kept before h (omega arith) in
      record {
        gives =
            ap (λ (p : ℕ). and_then (sign_call n m s (table_at n p pad) result) (on_top (values_below n h pad))) (sym at_place)
            ∙ ap (λ (o : Outcome (List ℕ)). and_then o (on_top (values_below n h pad))) d.gives
            ∙ on_top_lem word result' (values_below n h pad)
            ∙ ap (λ (vs : Stack). unless word (accepted (result' ∷ vs))) (sym values);
        held = λ z. lowest;
        kept = λ z. lowest;
      }

  -- ---- a function

  pub apply_stepped : (o : Opening) {word : ℕ} {result pad result' pad' : List ℕ} (height : ℕ) → 1 ≤ height → Space n height result pad → length pad' ≡ length pad
      → Done n (opening_call n m by o result) (length pad) result pad word result' pad'
      → Stepped n m by tables (apply o) height result pad word result' pad'
  apply_stepped o zero one space kept d = absurd (omega arith)
  apply_stepped o {word} {result} {pad} {result'} {pad'} (suc h) one space kept d =
      let few : suc h < 32 = omega (arith, space.within) in
      let inside : place_of n (suc h) + 2 ^ n ≤ length pad = place_in n (suc h) few space.room in
      let before : (y : ℕ) → pad_length n ≤ y → y < place_of n (suc h) → at pad' y ≡ at pad y = λ y low high. d.rest y low (omega arith) in
      let lowest = place_same n (suc h) pad pad' few space.room kept before 0 (omega arith) in
      let values = values_same n (suc h) pad pad' few space.room kept before h (omega arith) in
      record {
        gives =
            ap (λ (o : Outcome (List ℕ)). and_then o (on_top (values_below n h pad))) d.gives
            ∙ on_top_lem word result' (values_below n h pad)
            ∙ ap (λ (vs : Stack). unless word (accepted (result' ∷ vs))) (sym values);
        held = λ z. lowest;
        kept = λ z. lowest;
      }

  -- ---- what is left are tables of residues

  module _ (range : InRange n m) (are : (x : Letter) → IsTable n m (tables x)) where
    top_table : (o : Outcome (List ℕ)) (stack : Stack) {next : Stack} → ((v : List ℕ) → o ≡ accepted v → IsTable n m v) → AllTables n m stack
        → and_then o (on_top stack) ≡ accepted next → AllTables n m next
    top_table (accepted v) stack {next} h rest e = let f : (v ∷ stack) ≡ next = cc in subst (AllTables n m) f (h v refl, rest)
    top_table (refused k) stack h rest e = absurd (let w : ◌≡◌ {A = ℕ} 0 1 = cc in omega arith)

    pub step_tables : (i : Instruction) (stack : Stack) {next : Stack} → AllTables n m stack → step n m by tables i stack ≡ accepted next → AllTables n m next
    step_tables (push x) stack all e = top_table (accepted (tables x)) stack (λ v f. let g : tables x ≡ v = cc in subst (IsTable n m) g (are x)) all e
    step_tables (combine s) [] {next} all e = let f : [] ≡ next = cc in subst (AllTables n m) f all
    step_tables (combine s) (b ∷ []) {next} all e = let f : (b ∷ []) ≡ next = cc in subst (AllTables n m) f all
    step_tables (combine s) (b ∷ a ∷ stack) (tb, (ta, rest)) e = top_table (sign_call n m s a b) stack (λ v f. sign_table range s a b f) rest e
    step_tables (apply o) [] {next} all e = let f : [] ≡ next = cc in subst (AllTables n m) f all
    step_tables (apply o) (a ∷ stack) (ta, rest) e = top_table (opening_call n m by o a) stack (λ v f. opening_table range by o ta f) rest e
    step_tables other stack {next} all e = let f : stack ≡ next = cc in subst (AllTables n m) f all

-- ---- what the operations are lent

module _ {n : ℕ} {modulus : Modulus} where
  pub operands : {place : ℕ} {result pad : List ℕ} (height : ℕ) → 2 ≤ height → Ready n modulus height result pad → place ≡ place_of n (height - 1)
      → Operands n modulus place result pad
  operands zero two r e = absurd (omega arith)
  operands (suc zero) two r e = absurd (omega arith)
  operands {place} {result} {pad} (suc (suc h)) two r e =
      let at_place : place ≡ place_of n (suc h) = e ∙ ap (λ (k : ℕ). place_of n k) (let one : suc (suc h) - 1 ≡ suc h = omega arith in one) in
      record {
        few = r.space.few;
        left = rw at_place r.values.1.0;
        right = r.values.0;
        behind = omega arith;
        inside = omega (arith, place_below n (suc h) (suc (suc h)) (omega arith), place_in n (suc (suc h)) (omega (arith, r.space.within)) r.space.room);
      }

  pub operand : {result pad : List ℕ} (height : ℕ) → 1 ≤ height → Ready n modulus height result pad → Operand n modulus result pad
  unfolding recipe_pad_length
  operand zero one r = absurd (omega arith)
  operand (suc h) one r =
      record { few = r.space.few; table = r.values.0; room = omega (arith, r.space.room) }
