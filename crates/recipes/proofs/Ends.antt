-- How the call ends: refused before any call, or with what its calls give.
use mathlib.Core.Path.{◌≡◌, refl, sym, ◌∙◌, ap, subst}
use mathlib.Core.List.{List}
use Prim.Native.Nat.{ℕ, zero, suc}
use lib.ListN.{length}
use Rattle.definitions.specs.Limits.{recipe_pad_length}
use Rattle.definitions.specs.Refusals.{cleared}
use Rattle.definitions.specs.Outcomes.{Outcome, accepted, refused, and_then, unless, number_of, value_or}
use Rattle.definitions.specs.Recipes.{Letter, Tree, sum, ReadAs, Choice, worth, lent_word, entries_word, tested, recipe_outcome, recipe_number, recipe_result, recipe_pad}
use Rattle.residues.specs.declared.Modulus.{Modulus}
use Rattle.checks.specs.Answers.{Stands}
use Rattle.recipe_theory.specs.Lines.{one_reading}
use Rattle.recipe_machine.specs.Memory.{Worked}

-- what the call promises, for every way to read the line and every choice
pub record Ends (n m : ℕ) (line : List ℕ) (tables : Letter → List ℕ) (result pad : List ℕ) (word : ℕ) (result' pad' : List ℕ) : Type 0 where
  pub number : (read : Outcome (Tree sum)) → ReadAs line read → (by : Choice n m) → word ≡ recipe_number n m read tables by result pad
  pub table : (read : Outcome (Tree sum)) → ReadAs line read → (by : Choice n m) → result' ≡ recipe_result n m read tables by result pad
  pub clears : (read : Outcome (Tree sum)) → ReadAs line read → pad' ≡ recipe_pad n m read tables (length result) pad

stop : {X : Type 0} (w : ℕ) (o : Outcome X) → (w ≡ 0 → ⊥) → unless w o ≡ refused w
stop zero o h = absurd (h refl)
stop (suc k) o h = refl

go : {X : Type 0} (w : ℕ) (o : Outcome X) → w ≡ 0 → unless w o ≡ o
go w o e = ap (λ (k : ℕ). unless k o) e

module _ (n m : ℕ) (line : List ℕ) (tables : Letter → List ℕ) (result pad : List ℕ) where
  abbrev tests : Outcome (Tree sum) → Outcome (Tree sum)
  tests read = tested n m read tables (length result) (length pad)

  abbrev lent : ℕ
  lent = lent_word n m tables (length result) (length pad)

  -- refused before any call
  stops : {word : ℕ} → ((read : Outcome (Tree sum)) → ReadAs line read → tests read ≡ refused word) → Ends n m line tables result pad word result pad
  unfolding recipe_outcome
  stops {word} h =
      record {
        number = λ read r by. sym (ap (λ (o : Outcome (Tree sum)). number_of (and_then o (λ t. worth n m by tables t))) (h read r));
        table = λ read r by. sym (ap (λ (o : Outcome (Tree sum)). value_or result (λ made. made) (and_then o (λ t. worth n m by tables t))) (h read r));
        clears = λ read r. sym (ap (λ (o : Outcome (Tree sum)). value_or pad (λ t. cleared (recipe_pad_length n) pad) o) (h read r));
      }

  pub lent_stops : {word : ℕ} → word ≡ lent → (word ≡ 0 → ⊥) → Ends n m line tables result pad word result pad
  unfolding tested
  lent_stops e no-go = stops (λ read r. stop lent _ (λ z. no-go (e ∙ z)) ∙ ap refused (sym e))

  module _ (passes : lent ≡ 0) where
    pub line_stops : {word : ℕ} → ReadAs line (refused word) → Ends n m line tables result pad word result pad
    unfolding tested
    line_stops e =
        stops (λ read r.
        go lent _ passes ∙ ap (λ (o : Outcome (Tree sum)). and_then o (λ t. unless (entries_word m tables) (accepted t))) (one_reading line read _ r e))

    module _ (t : Tree sum) (is : ReadAs line (accepted t)) where
      to_entries : (read : Outcome (Tree sum)) → ReadAs line read → tests read ≡ unless (entries_word m tables) (accepted t)
      unfolding tested
      to_entries read r =
          go lent _ passes ∙ ap (λ (o : Outcome (Tree sum)). and_then o (λ t. unless (entries_word m tables) (accepted t))) (one_reading line read (accepted t) r is)

      pub entries_stop : {word : ℕ} → word ≡ entries_word m tables → (word ≡ 0 → ⊥) → Ends n m line tables result pad word result pad
      entries_stop e no-go =
          stops (λ read r. to_entries read r ∙ stop (entries_word m tables) _ (λ z. no-go (e ∙ z)) ∙ ap refused (sym e))

      -- its calls are made, under the modulus' value
      pub calls_end : entries_word m tables ≡ 0 → {modulus : Modulus} → Stands modulus m → {word : ℕ} {result' pad' : List ℕ}
          → ((by : Choice n modulus.value) → Worked (worth n modulus.value by tables t) result word result')
          → pad' ≡ cleared (recipe_pad_length n) pad → Ends n m line tables result pad word result' pad'
      unfolding recipe_outcome
      calls_end z s {word} {result'} made end =
          let worked = subst (λ (v : ℕ). (by : Choice n v) → Worked (worth n v by tables t) result word result') s.value_is made in
          record {
            number = λ read r by. (worked by).number ∙ sym (ap (λ (o : Outcome (Tree sum)). number_of (and_then o (λ t. worth n m by tables t))) (all_pass read r));
            table = λ read r by. (worked by).table ∙ sym (ap (λ (o : Outcome (Tree sum)). value_or result (λ made. made) (and_then o (λ t. worth n m by tables t))) (all_pass read r));
            clears = λ read r. end ∙ sym (ap (λ (o : Outcome (Tree sum)). value_or pad (λ t. cleared (recipe_pad_length n) pad) o) (all_pass read r));
          }
        where
          all_pass : (read : Outcome (Tree sum)) → ReadAs line read → tests read ≡ accepted t
          all_pass read r = to_entries read r ∙ go (entries_word m tables) _ z
