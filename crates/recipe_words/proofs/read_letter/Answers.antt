use native.Mathlib.Omega.{arith}
use Rattle.recipe_words.specs.AnswerLaws.{is_read, is_refused}
use Rattle.recipe_words.proofs.Factors.{letter_ends, letter_else, letter_taken}
use Rattle.recipe_words.proofs.read_letter.Goals as goal

pub returns-in_err-letter : goal.returns-in_err-letter
returns-in_err-letter c = rw c.from_residual.ensures (is_refused (letter_ends _ _ c.requires.line_value c.in_err-letter.ensures.lookup.3))

pub returns-in-65-to-68 : goal.returns-in-65-to-68
returns-in-65-to-68 c = let x = c.in_ok-letter.ensures.lookup in
    is_read (letter_taken _ _ c.requires.line_value x.3.0 (x.3.1 0) (omega arith) (omega arith) c.requires.room)

pub returns-in_default : goal.returns-in_default
returns-in_default c = let x = c.in_ok-letter.ensures.lookup in
    is_refused (letter_else _ _ c.requires.line_value x.3.0 (λ low high. omega (arith, x.3.1 0)))

pub returns-in_default-2 : goal.returns-in_default-2
returns-in_default-2 c = let x = c.in_ok-letter.ensures.lookup in
    is_refused (letter_else _ _ c.requires.line_value x.3.0 (λ low high. omega (arith, x.3.1 0)))
