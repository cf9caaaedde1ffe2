-- A letter, and a closing parenthesis.
use mathlib.Core.Path.{◌≡◌, refl, sym, ◌∙◌, ap, subst}
use mathlib.Core.Bool.{Bool, true, false}
use mathlib.Core.List.{List, [], ◌∷◌, append-nil}
use mathlib.Core.Option.{Option, some, none}
use Rattle.std.specs.Prelude.{Some, None}
use Prim.Native.Nat.{ℕ, zero, suc, ◌+◌, ◌<◌, ◌≤◌}
use native.Mathlib.Numerals.{add-one}
use native.Mathlib.Omega.{arith}
use lib.Dec.{eqb}
use lib.ListN.{length, take, drop, set, get_or, drop_of_length-le}
use lib.Seq.{drop-cons}
use borrow.Author.Tests.{ne_eqb, eqb-true, eqb-false}
use Rattle.definitions.specs.Outcomes.{refused}
use Rattle.definitions.specs.Recipes.{factor, sum, Letter, tableA, tableB, tableC, tableD, letter_byte, table, closing_byte, nesting}
use Rattle.recipe_theory.specs.Reading.{read_level, read_factor, factor_by, read_letter, letter_by, letter_of, opening_of, begins}
use Rattle.recipe_theory.specs.Postfix.{postfix}
use Rattle.recipe_words.specs.Answers.{Gives, Added, Room, Taken, Closed}
use Rattle.recipe_words.specs.AnswerLaws.{added_byte}
use Rattle.recipe_words.specs.declared.Place.{Place}

-- ---- a letter

record LetterIs (b : ℕ) : Type 0 where
  letter : Letter
  stands : letter_of b ≡ some letter
  byte : letter_byte letter ≡ b

letter_of_lem : (b : ℕ) → 65 ≤ b → b ≤ 68 → LetterIs b
letter_of_lem b low high = by (eqb b 65) (eqb b 66) (eqb b 67) (eqb b 68) refl refl refl refl
  where
    by : (p q r s : Bool) → eqb b 65 ≡ p → eqb b 66 ≡ q → eqb b 67 ≡ r → eqb b 68 ≡ s → LetterIs b
    by true q r s ep eq er es = record { letter = tableA; stands = rw ep; byte = sym (eqb-true b 65 ep) }
    by false true r s ep eq er es = record { letter = tableB; stands = rw (ep, eq); byte = sym (eqb-true b 66 eq) }
    by false false true s ep eq er es = record { letter = tableC; stands = rw (ep, eq, er); byte = sym (eqb-true b 67 er) }
    by false false false true ep eq er es = record { letter = tableD; stands = rw (ep, eq, er, es); byte = sym (eqb-true b 68 es) }
    by false false false false ep eq er es =
        let a = eqb-false b 65 ep in
        let c = eqb-false b 66 eq in
        let d = eqb-false b 67 er in
        let e = eqb-false b 68 es in
        absurd (omega arith)

no_letter : (b : ℕ) → (b ≡ 65 → ⊥) → (b ≡ 66 → ⊥) → (b ≡ 67 → ⊥) → (b ≡ 68 → ⊥) → letter_of b ≡ none
no_letter b p q r s = rw (ne_eqb b 65 p, ne_eqb b 66 q, ne_eqb b 67 r, ne_eqb b 68 s)

gives_letter : (bytes : List ℕ) → opening_of bytes ≡ none → Gives factor bytes (read_letter bytes)
unfolding read_level read_factor read_letter
gives_letter bytes e = record { by = by bytes e }
  where
    by : (bytes : List ℕ) → opening_of bytes ≡ none → (k : ℕ) → length bytes ≤ k → read_level (read_factor k) factor bytes ≡ read_letter bytes
    by [] e zero h = refl
    by (b ∷ bs) e zero h = absurd (omega arith)
    by bytes e (suc k) h = ap (factor_by (read_level (read_factor k) sum) bytes) e

module _ (line : List ℕ) (at : ℕ) (nothing : opening_of (drop at line) ≡ none) where
  letter_by_lem : at < length line → (o : Option Letter) → letter_of (get_or line at 0) ≡ o → Gives factor (drop at line) (letter_by (drop (suc at) line) o)
  unfolding read_letter
  letter_by_lem h o e =
      subst (Gives factor (drop at line))
      (ap read_letter (drop-cons line at 0 h) ∙ ap (letter_by (drop (suc at) line)) e)
      (gives_letter (drop at line) nothing)

  pub letter_ends : length line ≤ at → Gives factor (drop at line) (refused 13)
  unfolding read_letter
  letter_ends h = subst (Gives factor (drop at line)) (ap read_letter (drop_of_length-le line h)) (gives_letter (drop at line) nothing)

  pub letter_else : at < length line → (65 ≤ get_or line at 0 → get_or line at 0 ≤ 68 → ⊥) → Gives factor (drop at line) (refused 13)
  letter_else h l =
      letter_by_lem h none (no_letter (get_or line at 0) (λ e. l (omega arith) (omega arith)) (λ e. l (omega arith) (omega arith))
      (λ e. l (omega arith) (omega arith)) (λ e. l (omega arith) (omega arith)))

  pub letter_taken : {code : List ℕ} {used letter : ℕ} → at < length line → letter ≡ get_or line at 0 → 65 ≤ letter → letter ≤ 68 → Room line at code used
      → Taken factor line at code used (record { next = at + 1; used = used + 1; depth = 0 }) (set code used letter)
  unfolding postfix nesting
  letter_taken {code} {used} {letter} h same low high room =
      let b = letter_of_lem letter low high in
      record {
        tree = table b.letter;
        outcome = rw add-one (letter_by_lem h (some b.letter) (ap letter_of (sym same) ∙ b.stands));
        stands = record { within = omega arith; ahead = omega arith; shallow = omega arith; depth = refl };
        added = rw b.byte (added_byte letter (omega (arith, room)));
      }

-- ---- the closing parenthesis

module _ (line : List ℕ) (at : ℕ) where
  pub not_closed_end : length line ≤ at → begins (closing_byte ∷ []) (drop at line) ≡ false
  unfolding begins
  not_closed_end h = rw (drop_of_length-le line {i = at} h)

  pub not-closed : at < length line → (get_or line at 0 ≡ closing_byte → ⊥) → begins (closing_byte ∷ []) (drop at line) ≡ false
  unfolding begins
  not-closed h n = rw (drop-cons line at 0, ne_eqb (get_or line at 0) closing_byte n)

added_none : {code : List ℕ} {used : ℕ} → Added code used [] code used
added_none {code} {used} = record { count = omega arith; written = sym (append-nil (take used code)) }

module _ {line code : List ℕ} (inner : Place) (inside : inner.next < length line) (closing : get_or line inner.next 0 ≡ closing_byte) where
  pub closed_plain : Closed line inner None code (record { next = inner.next + 1; used = inner.used; depth = inner.depth + 1 }) code
  closed_plain = record { inside = inside; closing = closing; next = refl; depth = refl; added = added_none }

  pub closed_call : (call : ℕ) → inner.used < length code →
      Closed line inner (Some call) code (record { next = inner.next + 1; used = inner.used + 1; depth = inner.depth + 1 }) (set code inner.used call)
  closed_call call h = record { inside = inside; closing = closing; next = refl; depth = refl; added = added_byte call h }
