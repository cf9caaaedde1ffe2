-- The codes one after the other.
use mathlib.Core.Path.{◌≡◌, refl, sym, ◌∙◌, ap, subst}
use mathlib.Core.List.{List, [], ◌∷◌}
use Prim.Native.Nat.{ℕ, zero, suc, ◌+◌, ◌<◌, ◌≤◌}
use native.Mathlib.Numerals.{add-one}
use native.Mathlib.Omega.{arith}
use lib.ListN.{length, drop, get_or, drop_of_length-le}
use lib.Seq.{drop-cons}
use Rattle.definitions.specs.Outcomes.{Outcome, accepted, refused, and_then, unless, number_of, value_or}
use Rattle.definitions.specs.Recipes.{Letter, Tree, sum, Choice, worth}
use Rattle.residues.specs.declared.Modulus.{Modulus}
use Rattle.checks.specs.Accepted.{InRange, IsTable}
use Rattle.recipe_theory.specs.Postfix.{postfix}
use Rattle.recipe_theory.specs.Choices.{the_choice}
use Rattle.recipe_theory.specs.Stack.{Stack, Instruction, push, combine, apply, other, most_values, instruction_of, Can, height_after, Fits, on_top, step, run, runs_recipe}
use Rattle.recipe_machine.specs.Memory.{meant_by, stack_of, first_held, Space, Ready, Stepped, Worked}
use Rattle.recipe_machine.specs.declared.Code.{Code}
use Rattle.recipe_machine.proofs.Steps.{step_tables}

-- i codes have been run: what is left of the run is the whole run
pub record Working (n : ℕ) (modulus : Modulus) (tables : Letter → List ℕ) (codes result₀ pad₀ : List ℕ) (i height : ℕ) (result pad : List ℕ) : Type 0 where
  pub far : i ≤ length codes
  pub ready : Ready n modulus height result pad
  pub fits : Fits (drop i codes) height
  pub held : first_held n height result pad ≡ result₀
  pub pad_long : length pad ≡ length pad₀
  pub same : (by : Choice n modulus.value) → run n modulus.value by tables (drop i codes) (stack_of n height result pad) ≡ run n modulus.value by tables codes []

pub starts : {n : ℕ} {modulus : Modulus} {tables : Letter → List ℕ} {codes result pad : List ℕ} → Ready n modulus 0 result pad → Fits codes 0
    → Working n modulus tables codes result pad 0 0 result pad
starts ready fits = record { far = omega arith; ready = ready; fits = fits; held = refl; pad_long = refl; same = λ by. refl }

-- an instruction that has what it needs leaves at most as many values as there may be
height_within : (i : Instruction) (h : ℕ) → Can i h → h ≤ most_values → height_after i h ≤ most_values
height_within (push x) h can w = omega arith
height_within (combine s) zero can w = omega arith
height_within (combine s) (suc h) can w = omega arith
height_within (apply o) h can w = w
height_within other h can w = w

-- nothing has become longer or shorter
pub space_still : {n height h : ℕ} {result pad result' pad' : List ℕ} → Space n height result pad → h ≤ most_values
    → length result' ≡ length result → length pad' ≡ length pad → Space n h result' pad'
space_still space within lr lp = record { few = space.few; within = within; long = lr ∙ space.long; room = rw lp space.room }

-- a step by its word's name
pub stepped_as : {n m : ℕ} {by : Choice n m} {tables : Letter → List ℕ} {i : Instruction} {height : ℕ} {result pad : List ℕ} {word w : ℕ} {result' pad' : List ℕ}
    → word ≡ w → Stepped n m by tables i height result pad word result' pad' → Stepped n m by tables i height result pad w result' pad'
stepped_as {n} {m} {by} {tables} {i} {height} {result} {pad} {result' = result'} {pad' = pad'} e s =
    subst (λ (k : ℕ). Stepped n m by tables i height result pad k result' pad') e s

no_other : (i : Instruction) (h : ℕ) → Can i h → i ≡ other → ⊥
no_other i h can e = subst (λ (j : Instruction). Can j h) e can

module _ {n : ℕ} {modulus : Modulus} {tables : Letter → List ℕ} {codes result₀ pad₀ : List ℕ} {i height : ℕ} {result pad : List ℕ}
    (so_far : Working n modulus tables codes result₀ pad₀ i height result pad) (here : i < length codes) where
  abbrev m : ℕ
  m = modulus.value

  abbrev code : Instruction
  code = instruction_of (get_or codes i 0)

  rest_fits : Can code height × Fits (drop (i + 1) codes) (height_after code height)
  rest_fits = rw (add-one i) (subst (λ (c : List ℕ). Fits c height) (drop-cons codes i 0 here) so_far.fits)

  pub is_code : code ≡ other → ⊥
  is_code = no_other code height rest_fits.0

  pub can_next : (next : Code) → code ≡ meant_by next → Can (meant_by next) height
  can_next next e = subst (λ (j : Instruction). Can j height) e rest_fits.0

  one_code : (by : Choice n m) → and_then (step n m by tables code (stack_of n height result pad)) (run n m by tables (drop (i + 1) codes)) ≡ run n m by tables codes []
  unfolding run
  one_code by = rw (add-one i) (sym (ap (λ (c : List ℕ). run n m by tables c (stack_of n height result pad)) (drop-cons codes i 0 here)) ∙ so_far.same by)

  module _ (next : Code) (e : code ≡ meant_by next) {word : ℕ} {result' pad' : List ℕ}
      (done : (by : Choice n m) → Stepped n m by tables (meant_by next) height result pad word result' pad') where
    gives : (by : Choice n m) → step n m by tables code (stack_of n height result pad) ≡ unless word (accepted (stack_of n (height_after (meant_by next) height) result' pad'))
    gives by = ap (λ (j : Instruction). step n m by tables j (stack_of n height result pad)) e ∙ (done by).gives

    -- a call refuses
    pub refused_here : (word ≡ 0 → ⊥) → (by : Choice n m) → run n m by tables codes [] ≡ refused word
    refused_here stop by = sym (one_code by) ∙ ap (λ (o : Outcome Stack). and_then o (run n m by tables (drop (i + 1) codes))) (gives by) ∙ stopped word stop _ where
      stopped : (w : ℕ) → (w ≡ 0 → ⊥) → (stack : Stack) → and_then (unless w (accepted stack)) (run n m by tables (drop (i + 1) codes)) ≡ refused w
      stopped zero no_word stack = absurd (no_word refl)
      stopped (suc k) no_word stack = refl

    pub held_still : (word ≡ 0 → ⊥) → first_held n height result' pad' ≡ result₀
    held_still stop = (done (the_choice n m)).kept stop ∙ so_far.held

    -- it goes on
    module _ (go : word ≡ 0) where
      given : (by : Choice n m) → step n m by tables code (stack_of n height result pad) ≡ accepted (stack_of n (height_after (meant_by next) height) result' pad')
      given by = gives by ∙ ap (λ (w : ℕ). unless w (accepted (stack_of n (height_after (meant_by next) height) result' pad'))) go

      pub goes_on : ((x : Letter) → IsTable n m (tables x)) → {h : ℕ} → h ≡ height_after (meant_by next) height
          → length result' ≡ length result → length pad' ≡ length pad → Working n modulus tables codes result₀ pad₀ (i + 1) h result' pad'
      goes_on are f lr lp =
          let valid = modulus.valid in
          let range : InRange n m = record { few = so_far.ready.space.few; lowest = valid.lowest; largest = valid.largest } in
          let some = the_choice n m in
          rw f (record {
            far = omega arith;
            ready = record {
              space = space_still so_far.ready.space (height_within (meant_by next) height (can_next next e) so_far.ready.space.within) lr lp;
              values = step_tables some tables range are code (stack_of n height result pad) so_far.ready.values (given some);
            };
            fits = subst (λ (j : Instruction). Fits (drop (i + 1) codes) (height_after j height)) e rest_fits.1;
            held = (done some).held go ∙ so_far.held;
            pad_long = lp ∙ so_far.pad_long;
            same = λ by. sym (ap (λ (o : Outcome Stack). and_then o (run n m by tables (drop (i + 1) codes))) (given by)) ∙ one_code by;
          })

-- ---- what is left in the end

worked_by : (outcome : Outcome (List ℕ)) {other : Outcome (List ℕ)} {result result' : List ℕ} {word : ℕ} → outcome ≡ other → word ≡ number_of other
    → result' ≡ value_or result (λ made. made) other → Worked outcome result word result'
worked_by outcome e p q = record { number = rw e p; table = rw e q }

-- one value
alone : (n : ℕ) (pad : List ℕ) (height : ℕ) (result v : List ℕ) → stack_of n height result pad ≡ (v ∷ []) → result ≡ v
alone n pad zero result v e = absurd (let w : ◌≡◌ {A = ℕ} 0 1 = cc in omega arith)
alone n pad (suc h) result v e = cc

module _ {n m : ℕ} (by : Choice n m) (tables : Letter → List ℕ) (t : Tree sum) (codes : List ℕ) (is : codes ≡ postfix t) where
  whole_run : run n m by tables codes [] ≡ and_then (worth n m by tables t) (on_top [])
  whole_run = ap (λ (c : List ℕ). run n m by tables c []) is ∙ runs_recipe n m by tables t

  pub worked_refused : {word : ℕ} {old result : List ℕ} → run n m by tables codes [] ≡ refused word → result ≡ old → Worked (worth n m by tables t) old word result
  worked_refused {word} {old} {result} e f = by_worth (worth n m by tables t) refl (sym whole_run ∙ e)
    where
      by_worth : (o : Outcome (List ℕ)) → worth n m by tables t ≡ o → and_then o (on_top []) ≡ refused word → Worked (worth n m by tables t) old word result
      by_worth (accepted v) w g = absurd (let z : ◌≡◌ {A = ℕ} 0 1 = cc in omega arith)
      by_worth (refused k) w g = worked_by (worth n m by tables t) w (cc) f

  pub worked_found : {old result : List ℕ} (pad : List ℕ) (height : ℕ) → accepted (stack_of n height result pad) ≡ run n m by tables codes []
      → Worked (worth n m by tables t) old 0 result
  worked_found {old} {result} pad height e = by_worth (worth n m by tables t) refl (e ∙ whole_run)
    where
      by_worth : (o : Outcome (List ℕ)) → worth n m by tables t ≡ o → accepted (stack_of n height result pad) ≡ and_then o (on_top []) → Worked (worth n m by tables t) old 0 result
      by_worth (refused k) w g = absurd (let z : ◌≡◌ {A = ℕ} 0 1 = cc in omega arith)
      by_worth (accepted v) w g = worked_by (worth n m by tables t) w refl (alone n pad height result v (let f : stack_of n height result pad ≡ (v ∷ []) = cc in f))

-- the end of the run
pub run_ended : {n : ℕ} {modulus : Modulus} {tables : Letter → List ℕ} {codes result₀ pad₀ : List ℕ} {i height : ℕ} {result pad : List ℕ}
    → Working n modulus tables codes result₀ pad₀ i height result pad → length codes ≤ i → (by : Choice n modulus.value)
    → accepted (stack_of n height result pad) ≡ run n modulus.value by tables codes []
unfolding run
run_ended {n} {modulus} {tables} {codes} {i = i} {height} {result} {pad} so_far h by =
    sym (ap (λ (c : List ℕ). run n modulus.value by tables c (stack_of n height result pad)) (drop_of_length-le codes {i = i} h)) ∙ so_far.same by
