-- 02's label sheet, as bytes: sixteen labels, each a length in seven-bit groups and that many bytes, then nothing. A label has 1 to
-- 8 bytes, each an ASCII letter or digit, and no two labels are equal. What reading a sheet gives, in sheet order.
use Rattle.std.specs.Prelude.{Bool, true, false, not, ◌&&◌, ◌||◌, List, [], ◌∷◌, ℕ, zero, suc, ltb, eqb, get_or}
use Rattle.definitions.specs.Limits.{most_controls, longest_label}
use Rattle.definitions.specs.Outcomes.{Outcome, accepted, refused, and_then, unless, number_of, value_or}
use Rattle.definitions.specs.Refusals.{word_if}
use Rattle.definitions.specs.Groups.{read_number}
use Rattle.definitions.specs.Files.{tail_word}

-- ---- one label

-- from one number to another, both included
abbrev pub between : ℕ → ℕ → ℕ → Bool
between low high b = not (ltb b low) && not (ltb high b)

-- an ASCII letter or digit: 0 to 9, A to Z, a to z
unfoldable pub alphanumeric : ℕ → Bool
alphanumeric b = between 48 57 b || (between 65 90 b || between 97 122 b)

-- 17, label: a length that is not 1 to 8; a byte that is no letter or digit
abbrev pub label_length_word : ℕ → ℕ
label_length_word k = word_if (not (between 1 longest_label k)) 17

abbrev pub label_byte_word : ℕ → ℕ
label_byte_word b = word_if (not (alphanumeric b)) 17

-- a label that stands at the start of some bytes, and the bytes behind it
pub record Label : Type 0 where
  pub label : List ℕ
  pub rest : List ℕ

abbrev pub byte_in_front : ℕ → Label → Outcome Label
byte_in_front b x = accepted (record { label = b ∷ x.label; rest = x.rest })

-- so many bytes: each 8 if the sheet ends before it, then 17
unfoldable pub read_bytes : ℕ → List ℕ → Outcome Label
read_bytes zero bytes = accepted (record { label = []; rest = bytes })
read_bytes (suc k) [] = refused 8
read_bytes (suc k) (b ∷ bs) = unless (label_byte_word b) (and_then (read_bytes k bs) (byte_in_front b))

-- a length (8, then 17), and so many bytes
unfoldable pub read_label : List ℕ → Outcome Label
read_label bytes = and_then (read_number bytes) (λ x. unless (label_length_word x.value) (read_bytes x.value x.rest))

-- ---- the labels

pub record Labels : Type 0 where
  pub labels : List (List ℕ)
  pub rest : List ℕ

abbrev pub label_in_front : List ℕ → Labels → Outcome Labels
label_in_front l x = accepted (record { labels = l ∷ x.labels; rest = x.rest })

-- so many labels, one after the other
unfoldable pub read_labels : ℕ → List ℕ → Outcome Labels
read_labels zero bytes = accepted (record { labels = []; rest = bytes })
read_labels (suc k) bytes = and_then (read_label bytes) (λ x. and_then (read_labels k x.rest) (label_in_front x.label))

-- two labels are the same, byte by byte; a label is one of some; some label stands again behind itself
unfoldable pub same : List ℕ → List ℕ → Bool
same [] [] = true
same [] (y ∷ ys) = false
same (x ∷ xs) [] = false
same (x ∷ xs) (y ∷ ys) = eqb x y && same xs ys

unfoldable pub among : List ℕ → List (List ℕ) → Bool
among l [] = false
among l (x ∷ xs) = same l x || among l xs

unfoldable pub twice : List (List ℕ) → Bool
twice [] = false
twice (x ∷ xs) = among x xs || twice xs

-- 18, equal: two labels are the same
abbrev pub equal_word : List (List ℕ) → ℕ
equal_word ls = word_if (twice ls) 18

-- ---- the sheet

-- what follows the labels: nothing (9), and then no two of them are the same (18)
abbrev pub sheet_end : Labels → Outcome (List (List ℕ))
sheet_end x = unless (tail_word x.rest) (unless (equal_word x.labels) (accepted x.labels))

-- a label for each control that a panel can have, whatever n is
unfoldable pub read_sheet : List ℕ → Outcome (List (List ℕ))
read_sheet bytes = and_then (read_labels most_controls bytes) sheet_end

abbrev pub sheet_number : List ℕ → ℕ
sheet_number sheet = number_of (read_sheet sheet)

abbrev pub sheet_labels : List ℕ → List (List ℕ)
sheet_labels sheet = value_or [] (λ ls. ls) (read_sheet sheet)

-- the label of control i
abbrev pub label_of : List (List ℕ) → ℕ → List ℕ
label_of ls i = get_or ls i []
