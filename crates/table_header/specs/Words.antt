-- The words that reading gives: a refusal has a number from 1 to 16.
--   proper_accepted, proper_then, proper_unless   steps that follow one another; word_small: the word of a test is at most 16
--   proper_number, proper_first, proper_header    reading a number, the first one, a header
--   small, accepts, refuses      what follows: the number is small, 0 means accepted, any other is the refusal
--   passed, passed_test              steps that were accepted, taken apart
use Rattle.std.specs.Prelude.{◌≡◌, refl, Bool, true, false, List, ℕ, zero, suc, ◌<◌, ◌≤◌, ltb}
use Rattle.std.proofs.Common.{ap, arith}
use Rattle.definitions.specs.Limits.{lowest_modulus, largest_modulus}
use Rattle.definitions.specs.Outcomes.{Outcome, accepted, refused, and_then, unless, number_of}
use Rattle.definitions.specs.Refusals.{word_if, or_else, modulus_word}
use Rattle.definitions.specs.Groups.{read_number}
use Rattle.definitions.specs.Files.{first_says, first_of, read_header}
use Rattle.theory.specs.Tests.{zero_is_not_one}
use Rattle.number_groups.specs.Numbers.{reads_word}

pub record IsWord (k : ℕ) : Type 0 where
  pub some : 0 < k
  pub most : k ≤ 16

-- if it is refused, then with a word
abbrev pub Proper : {X : Type 0} → Outcome X → Type 0
Proper o = (k : ℕ) → o ≡ refused k → IsWord k

-- ---- steps

pub proper_accepted : {X : Type 0} (x : X) → Proper (accepted x)
proper_accepted x k e = absurd (zero_is_not_one (cc))

pub proper_then : {X Y : Type 0} (o : Outcome X) (next : X → Outcome Y) → Proper o → ((x : X) → Proper (next x)) → Proper (and_then o next)
proper_then (accepted x) next h g k e = g x k e
proper_then (refused w) next h g k e = h k (ap refused (let f : w ≡ k = cc in f))

pub proper_unless : {X : Type 0} (w : ℕ) (o : Outcome X) → w ≤ 16 → Proper o → Proper (unless w o)
proper_unless zero o h g k e = g k e
proper_unless (suc w) o h g k e = let f : suc w ≡ k = cc in record { some = omega arith; most = omega arith }

pub word_small : (t : Bool) (w : ℕ) → w ≤ 16 → word_if t w ≤ 16
word_small true w h = h
word_small false w h = omega arith

or_else_small : (v w : ℕ) → v ≤ 16 → w ≤ 16 → or_else v w ≤ 16
or_else_small zero w h k = k
or_else_small (suc v) w h k = h

-- ---- reading

pub proper_number : (bytes : List ℕ) → Proper (read_number bytes)
proper_number bytes k e = let h = reads_word bytes k e in record { some = omega arith; most = omega arith }

pub proper_first : (most v : ℕ) → Proper (first_of most v)
unfolding first_of
proper_first most v =
    let n = (first_says v).controls in
    proper_unless (word_if (ltb most n) 1) (accepted (first_says v)) (word_small (ltb most n) 1 (omega arith)) (proper_accepted (first_says v))

modulus_small : (m : ℕ) → modulus_word m ≤ 16
modulus_small m = or_else_small (word_if (ltb m lowest_modulus) 2) (word_if (ltb largest_modulus m) 2)
    (word_small (ltb m lowest_modulus) 2 (omega arith)) (word_small (ltb largest_modulus m) 2 (omega arith))

pub proper_header : (most : ℕ) (bytes : List ℕ) → Proper (read_header most bytes)
unfolding read_header
proper_header most bytes =
    proper_then (read_number bytes) _ (proper_number bytes) (λ v.
    proper_then (first_of most v.value) _ (proper_first most v.value) (λ first.
    proper_then (read_number v.rest) _ (proper_number v.rest) (λ second.
    proper_unless (modulus_word second.value) _ (modulus_small second.value) (proper_accepted _))))

-- ---- what follows

pub small : {X : Type 0} (o : Outcome X) → Proper o → number_of o ≤ 16
small (accepted x) h = omega arith
small (refused k) h = (h k refl).most

pub accepts : {X : Type 0} (o : Outcome X) → Proper o → number_of o ≡ 0 → (x : X) × (o ≡ accepted x)
accepts (accepted x) h e = (x, refl)
accepts (refused k) h e = absurd (omega (arith, (h k refl).some))

-- an outcome whose number is not 0 is that refusal
pub refuses : {X : Type 0} (o : Outcome X) → (number_of o ≡ 0 → ⊥) → o ≡ refused (number_of o)
refuses (accepted x) h = absurd (h refl)
refuses (refused k) h = refl

-- steps that are all accepted
pub record Passed {X Y : Type 0} (o : Outcome X) (next : X → Outcome Y) (y : Y) : Type 0 where
  pub value : X
  pub first : o ≡ accepted value
  pub then : next value ≡ accepted y

pub passed : {X Y : Type 0} (o : Outcome X) (next : X → Outcome Y) (y : Y) → and_then o next ≡ accepted y → Passed o next y
passed (accepted x) next y e = record { value = x; first = refl; then = e }
passed (refused k) next y e = absurd (zero_is_not_one (cc))

pub record NoWord {X : Type 0} (w : ℕ) (o : Outcome X) (y : X) : Type 0 where
  pub none : w ≡ 0
  pub then : o ≡ accepted y

pub passed_test : {X : Type 0} (w : ℕ) (o : Outcome X) (y : X) → unless w o ≡ accepted y → NoWord w o y
passed_test zero o y e = record { none = refl; then = e }
passed_test (suc w) o y e = absurd (zero_is_not_one (cc))
