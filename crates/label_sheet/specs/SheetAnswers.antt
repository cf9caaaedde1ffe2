-- What reading at a place of a sheet answers: what stands there, or the word.
use Rattle.std.specs.Prelude.{◌≡◌, Result, Ok, Err, List, [], ◌∷◌, ℕ, ◌<◌, length, drop}
use Rattle.refusals.specs.Words.{word}
use Rattle.refusals.specs.declared.Refusal.{Refusal}
use Rattle.definitions.specs.Outcomes.{Outcome, accepted, refused, unless}
use Rattle.definitions.specs.Files.{tail_word}
use Rattle.definitions.specs.Sheets.{Label, Labels, label_byte_word}
use Rattle.number_groups.specs.NumberAnswers.{outcome}
use Rattle.label_sheet.specs.declared.LabelAt.{LabelAt}
use Rattle.label_sheet.specs.declared.labels.Label as code
use Rattle.label_sheet.specs.LabelArrays.{HasLabel, Held, labels_in}

-- the byte of a label at the start of some bytes: 8 if there is none, then 17
abbrev pub label_byte : List ℕ → Outcome ℕ
label_byte [] = refused 8
label_byte (b ∷ bs) = unless (label_byte_word b) (accepted b)

-- what is read at a place is a byte inside the sheet
pub record ByteRead (sheet : List ℕ) (at : ℕ) (r : Result ℕ Refusal) : Type 0 where
  pub answers : outcome (λ b. b) r ≡ label_byte (drop at sheet)
  pub inside : (b : ℕ) → r ≡ Ok b → at < length sheet

-- a label that was read: what it is, and the bytes behind it
pub record LabelIs (sheet : List ℕ) (o : Outcome Label) (x : LabelAt) : Type 0 where
  pub text : List ℕ
  pub kept : HasLabel x.label text
  pub read : o ≡ accepted (record { label = text; rest = drop x.next sheet })

abbrev pub LabelRead : List ℕ → Outcome Label → Result LabelAt Refusal → Type 0
LabelRead sheet o (Ok x) = LabelIs sheet o x
LabelRead sheet o (Err r) = o ≡ refused (word r)

-- the labels, and then nothing (9)
abbrev pub to_tail : Labels → Outcome Labels
to_tail x = unless (tail_word x.rest) (accepted x)

-- the labels that were read, which may be equal
pub record LabelsAre (o : Outcome Labels) (array : List code.Label) : Type 0 where
  pub held : Held array
  pub rest : List ℕ
  pub read : o ≡ accepted (record { labels = labels_in array; rest = rest })

abbrev pub LabelsRead : {A : Type 0} → Outcome Labels → Result A Refusal → List code.Label → Type 0
LabelsRead o (Ok x) array = LabelsAre o array
LabelsRead o (Err r) array = o ≡ refused (word r)

-- a sheet's labels, as they are kept then, or the word
abbrev pub sheet_outcome : {A : Type 0} → Result A Refusal → List code.Label → Outcome (List (List ℕ))
sheet_outcome r array = outcome (λ x. labels_in array) r
