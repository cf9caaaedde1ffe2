-- The steps of reading a sheet: bytes, a label, all labels, the end.
use mathlib.Core.Path.{◌≡◌, refl, sym, ◌∙◌, ap, ap₂, subst}
use mathlib.Core.Bool.{Bool, true, false, not, ◌&&◌, ◌||◌, or_assoc}
use mathlib.Core.List.{List, [], ◌∷◌, ◌++◌, append_assoc, append-nil}
use Rattle.std.specs.Prelude.{Result, Ok, Err}
use Rattle.std.specs.Char.{is_ascii_alphanumeric}
use Rattle.std.specs.Int.{is_in_range}
use Rattle.std.proofs.lemmas.Bool.Decides.{nat_tests}
use Rattle.std.proofs.lemmas.List.{set_at, get_or_at}
use Rattle.std.proofs.lemmas.Grind.{get_or-set_at}
use lib.Dec.{is_le, ltb, eqb}
use Prim.Native.Nat.{ℕ, zero, suc, compare, ◌+◌, ◌-◌, ◌<◌, ◌≤◌}
use native.Mathlib.Omega.{arith}
use native.Mathlib.Decide.{ℕ_discrete}
use lib.ListN.{length, drop, set, get_or, length-set, length-append, length-drop, get_or-append}
use lib.Seq.{drop-cons, drop-drop, get_or-set_other}
use borrow.Author.Tests.{lt-ltb, le-ltb, eq-eqb, ne_eqb}
use Rattle.definitions.specs.Limits.{most_controls, longest_label}
use Rattle.definitions.specs.Outcomes.{Outcome, accepted, refused, and_then, unless}
use Rattle.definitions.specs.Groups as def
use Rattle.definitions.specs.Pages.{blanks, filled}
use Rattle.definitions.specs.Sheets.{between, alphanumeric, label_length_word, label_byte_word, Label, byte_in_front, read_bytes, read_label}
use Rattle.definitions.specs.Sheets.{Labels, label_in_front, read_labels, label_of}
use Rattle.theory.specs.Tests.{zero_is_not_one}
use Rattle.refusals.specs.Words.{word}
use Rattle.refusals.specs.declared.Refusal.{Refusal}
use Rattle.refusals.specs.declared.Refusal.TheVariants as refusal
use Rattle.definitions.specs.Refusals.{word_if}
use Rattle.number_groups.specs.NumberAnswers.{outcome, ReadsAt, placed}
use Rattle.number_groups.specs.declared.Numeral as number
use Rattle.label_theory.proofs.SheetLaws as theory
use Rattle.label_sheet.specs.declared.LabelAt.{LabelAt}
use Rattle.label_sheet.specs.declared.labels.Label as code
use Rattle.label_sheet.specs.LabelArrays.{HasLabel}
use Rattle.label_sheet.specs.ArrayLaws.{these, held}
use Rattle.label_sheet.specs.SheetAnswers.{label_byte, ByteRead, LabelIs, LabelsAre, LabelsRead, to_tail}

-- ---- letters and digits

same_order : (a b : ℕ) → is_le (compare a b) ≡ not (ltb b a)
same_order a b = grind (arith, nat_tests)

same_range : (low high b : ℕ) → is_in_range low high b ≡ between low high b
same_range low high b = ap₂ ◌&&◌ (same_order low b) (same_order b high)

same_ranges : (b : ℕ) → is_ascii_alphanumeric b ≡ alphanumeric b
unfolding alphanumeric
same_ranges b =
    ap₂ ◌||◌ (ap₂ ◌||◌ (same_range 48 57 b) (same_range 65 90 b)) (same_range 97 122 b)
    ∙ or_assoc (between 48 57 b) (between 65 90 b) (between 97 122 b)

-- the byte that stands at a place
module _ (sheet : List ℕ) (at : ℕ) (inside : at < length sheet) {b : ℕ} (byte : b ≡ get_or sheet at 0) where
  byte_there : label_byte (drop at sheet) ≡ unless (label_byte_word b) (accepted b)
  byte_there =
      ap label_byte (drop-cons sheet at 0 inside) ∙ ap (λ (v : ℕ). unless (label_byte_word v) (accepted v)) (sym byte)

  pub letter_read : is_ascii_alphanumeric b ≡ true → ByteRead sheet at (Ok b)
  letter_read e = record {
    answers = sym (byte_there ∙ ap (λ (t : Bool). unless (word_if (not t) 17) (accepted b)) (sym (same_ranges b) ∙ e));
    inside = λ v f. inside;
  }

  pub other_read : is_ascii_alphanumeric b ≡ false → ByteRead sheet at (Err refusal.Label)
  other_read e = record {
    answers = sym (byte_there ∙ ap (λ (t : Bool). unless (word_if (not t) 17) (accepted b)) (sym (same_ranges b) ∙ e));
    inside = λ v f. inside;
  }

-- ---- the bytes of a label

-- one byte over the first blank
one_filled : (text : List ℕ) (b i : ℕ) → length text ≡ i → i < longest_label → set (filled longest_label text) i b ≡ filled longest_label (text ++ (b ∷ []))
unfolding filled
one_filled text b i e h =
    let k : longest_label - length text ≡ suc (longest_label - length (text ++ (b ∷ []))) = omega (arith, length-append text (b ∷ [])) in
    ap (λ (j : ℕ). set (text ++ blanks j) i b) k
    ∙ set_at text 32 (blanks (longest_label - length (text ++ (b ∷ [])))) b i e
    ∙ sym (append_assoc text (b ∷ []) (blanks (longest_label - length (text ++ (b ∷ [])))))

-- bytes in front of those of a label
abbrev pub bytes_in_front : List ℕ → Label → Outcome Label
bytes_in_front text x = accepted (record { label = text ++ x.label; rest = x.rest })

then_unless : {X : Type 0} (w b : ℕ) (f : ℕ → Outcome X) → unless w (f b) ≡ and_then (unless w (accepted b)) f
then_unless zero b f = refl
then_unless (suc w) b f = refl

by_byte : (k : ℕ) (bytes : List ℕ) → read_bytes (suc k) bytes ≡ and_then (label_byte bytes) (λ b. and_then (read_bytes k (drop 1 bytes)) (byte_in_front b))
unfolding read_bytes
by_byte k [] = refl
by_byte k (b ∷ bs) = then_unless (label_byte_word b) b (λ v. and_then (read_bytes k bs) (byte_in_front v))

none_in_front : (o : Outcome Label) → and_then o (bytes_in_front []) ≡ o
none_in_front (accepted x) = refl
none_in_front (refused k) = refl

one_in_front : (text : List ℕ) (b : ℕ) (o : Outcome Label) → and_then (and_then o (byte_in_front b)) (bytes_in_front text) ≡ and_then o (bytes_in_front (text ++ (b ∷ [])))
one_in_front text b (accepted x) = ap (λ (l : List ℕ). accepted (record { label = l; rest = x.rest })) (sym (append_assoc text (b ∷ []) x.label))
one_in_front text b (refused k) = refl

-- some bytes are read, and the others of the label stand at the place
pub record BytesSoFar (sheet : List ℕ) (at long : ℕ) (name : List ℕ) (place i : ℕ) : Type 0 where
  pub text : List ℕ
  pub count : length text ≡ i
  pub name_is : name ≡ filled longest_label text
  pub whole : read_bytes long (drop at sheet) ≡ and_then (read_bytes (long - i) (drop place sheet)) (bytes_in_front text)

pub bytes_start : (sheet : List ℕ) (at long : ℕ) → BytesSoFar sheet at long (blanks longest_label) at 0
unfolding filled
bytes_start sheet at long = record {
  text = [];
  count = refl;
  name_is = refl;
  whole = sym (none_in_front (read_bytes (long - 0) (drop at sheet)) ∙ ap (λ (k : ℕ). read_bytes k (drop at sheet)) (let e : long - 0 ≡ long = omega arith in e));
}

module _ {sheet : List ℕ} {at long : ℕ} {name : List ℕ} {place i : ℕ} (s : BytesSoFar sheet at long name place i) (below : i < long) where
  next_byte : (o : Outcome ℕ) → o ≡ label_byte (drop place sheet) →
      read_bytes long (drop at sheet)
      ≡ and_then (and_then o (λ b. and_then (read_bytes (long - (i + 1)) (drop (place + 1) sheet)) (byte_in_front b))) (bytes_in_front s.text)
  next_byte o e =
      let k : long - i ≡ suc (long - (i + 1)) = omega arith in
      s.whole
      ∙ ap (λ (p : Outcome Label). and_then p (bytes_in_front s.text))
      (ap (λ (j : ℕ). read_bytes j (drop place sheet)) k ∙ by_byte (long - (i + 1)) (drop place sheet)
      ∙ ap₂ (λ (q : Outcome ℕ) (rest : List ℕ). and_then q (λ b. and_then (read_bytes (long - (i + 1)) rest) (byte_in_front b)))
      (sym e) (drop-drop 1 place sheet))

  pub bytes_stop : {r : Refusal} → ByteRead sheet place (Err r) → read_bytes long (drop at sheet) ≡ refused (word r)
  bytes_stop {r} h = next_byte (refused (word r)) h.answers

  pub bytes_more : {b : ℕ} → long ≤ longest_label → ByteRead sheet place (Ok b) → BytesSoFar sheet at long (set name i b) (place + 1) (i + 1)
  bytes_more {b} short h = record {
    text = s.text ++ (b ∷ []);
    count = length-append s.text (b ∷ []) ∙ omega (arith, s.count);
    name_is = ap (λ (l : List ℕ). set l i b) s.name_is ∙ one_filled s.text b i s.count (omega arith);
    whole = next_byte (accepted b) h.answers ∙ one_in_front s.text b (read_bytes (long - (i + 1)) (drop (place + 1) sheet));
  }

pub bytes_all : {sheet : List ℕ} {at long : ℕ} {name : List ℕ} {place i : ℕ} → BytesSoFar sheet at long name place i → i ≡ long →
    LabelIs sheet (read_bytes long (drop at sheet)) (record { label = record { name = name; length = long }; next = place })
unfolding read_bytes
bytes_all {sheet} {at} {long} {name} {place} {i} s e =
    let none : long - i ≡ 0 = omega arith in
    record {
      text = s.text;
      kept = record { name_is = s.name_is; length_is = sym (s.count ∙ e) };
      read =
          s.whole ∙ ap (λ (k : ℕ). and_then (read_bytes k (drop place sheet)) (bytes_in_front s.text)) none
          ∙ ap (λ (l : List ℕ). accepted (record { label = l; rest = drop place sheet })) (append-nil s.text);
    }

-- ---- a label

abbrev with_length : def.Numeral → Outcome Label
with_length x = unless (label_length_word x.value) (read_bytes x.value x.rest)

module _ {sheet : List ℕ} {at : ℕ} where
  label_by : (r : Result number.Numeral Refusal) → ReadsAt sheet at r → and_then (outcome (placed sheet) r) with_length ≡ read_label (drop at sheet)
  unfolding read_label
  label_by r reads = ap (λ (o : Outcome def.Numeral). and_then o with_length) reads.outcome

  pub no_length : {r : Refusal} → ReadsAt sheet at (Err r) → read_label (drop at sheet) ≡ refused (word r)
  no_length {r} reads = sym (label_by (Err r) reads)

  module _ {x : number.Numeral} (reads : ReadsAt sheet at (Ok x)) where
    pub length_none : x.value < 1 → read_label (drop at sheet) ≡ refused 17
    length_none h = sym (rw (lt-ltb x.value 1 h) at (label_by (Ok x) reads))

    module _ (some : 1 ≤ x.value) where
      pub length_large : 8 < x.value → read_label (drop at sheet) ≡ refused 17
      length_large h = sym (rw (le-ltb x.value 1 some, lt-ltb 8 x.value h) at (label_by (Ok x) reads))

      pub length_right : x.value ≤ 8 → read_bytes x.value (drop x.next sheet) ≡ read_label (drop at sheet)
      length_right h = rw (le-ltb x.value 1 some, le-ltb 8 x.value h) at (label_by (Ok x) reads)

-- ---- all labels

-- labels in front of others
abbrev pub labels_in_front : List (List ℕ) → Labels → Outcome Labels
labels_in_front texts x = accepted (record { labels = texts ++ x.labels; rest = x.rest })

by_label : (k : ℕ) (bytes : List ℕ) → read_labels (suc k) bytes ≡ and_then (read_label bytes) (λ x. and_then (read_labels k x.rest) (label_in_front x.label))
unfolding read_labels
by_label k bytes = refl

no_labels : (bytes : List ℕ) → read_labels 0 bytes ≡ accepted (record { labels = []; rest = bytes })
unfolding read_labels
no_labels bytes = refl

no_label_in_front : (o : Outcome Labels) → and_then o (labels_in_front []) ≡ o
no_label_in_front (accepted x) = refl
no_label_in_front (refused k) = refl

one_label_in_front : (texts : List (List ℕ)) (l : List ℕ) (o : Outcome Labels) →
    and_then (and_then o (label_in_front l)) (labels_in_front texts) ≡ and_then o (labels_in_front (texts ++ (l ∷ [])))
one_label_in_front texts l (accepted x) = ap (λ (ls : List (List ℕ)). accepted (record { labels = ls; rest = x.rest })) (sym (append_assoc texts (l ∷ []) x.labels))
one_label_in_front texts l (refused k) = refl

-- a `?` hands its refusal on
pub labels_handed : {A : Type 0} {o : Outcome Labels} {refusal : Refusal} (r : Result A Refusal) (array : List code.Label) → r ≡ Err refusal
    → o ≡ refused (word refusal) → LabelsRead o r array
labels_handed {A} {o} r array e h = subst (λ (x : Result A Refusal). LabelsRead o x array) (sym e) h

-- the labels of the controls before one are read, and the others stand at the place
pub record LabelsSoFar (sheet : List ℕ) (array : List code.Label) (place control : ℕ) : Type 0 where
  pub texts : List (List ℕ)
  pub count : length texts ≡ control
  pub sixteen : length array ≡ most_controls
  pub kept : (i : ℕ) (d : code.Label) → i < control → HasLabel (get_or array i d) (label_of texts i)
  pub whole : read_labels most_controls sheet ≡ and_then (read_labels (most_controls - control) (drop place sheet)) (labels_in_front texts)

pub labels_start : (sheet : List ℕ) (array : List code.Label) → length array ≡ most_controls → LabelsSoFar sheet array 0 0
labels_start sheet array e = record {
  texts = [];
  count = refl;
  sixteen = e;
  kept = λ i d h. absurd (zero_is_not_one (omega arith));
  whole = sym (no_label_in_front (read_labels most_controls sheet));
}

module _ {sheet : List ℕ} {array : List code.Label} {place control : ℕ} (s : LabelsSoFar sheet array place control) where
  module _ (below : control < most_controls) where
    next_label : (o : Outcome Label) → read_label (drop place sheet) ≡ o →
        read_labels most_controls sheet
        ≡ and_then (and_then o (λ x. and_then (read_labels (most_controls - (control + 1)) x.rest) (label_in_front x.label))) (labels_in_front s.texts)
    next_label o e =
        let k : most_controls - control ≡ suc (most_controls - (control + 1)) = omega arith in
        s.whole
        ∙ ap (λ (p : Outcome Labels). and_then p (labels_in_front s.texts))
        (ap (λ (j : ℕ). read_labels j (drop place sheet)) k ∙ by_label (most_controls - (control + 1)) (drop place sheet)
        ∙ ap (λ (q : Outcome Label). and_then q (λ x. and_then (read_labels (most_controls - (control + 1)) x.rest) (label_in_front x.label))) e)

    pub labels_stop : {w : ℕ} → read_label (drop place sheet) ≡ refused w → and_then (read_labels most_controls sheet) to_tail ≡ refused w
    labels_stop {w} e = ap (λ (o : Outcome Labels). and_then o to_tail) (next_label (refused w) e)

    pub labels_more : {x : LabelAt} → LabelIs sheet (read_label (drop place sheet)) x → LabelsSoFar sheet (set array control x.label) x.next (control + 1)
    labels_more {x} l = record {
      texts = s.texts ++ (l.text ∷ []);
      count = length-append s.texts (l.text ∷ []) ∙ omega (arith, s.count);
      sixteen = length-set array control x.label ∙ s.sixteen;
      kept = kept_to;
      whole =
          next_label (accepted (record { label = l.text; rest = drop x.next sheet })) l.read
          ∙ one_label_in_front s.texts l.text (read_labels (most_controls - (control + 1)) (drop x.next sheet));
    }
      where
        kept_to : (i : ℕ) (d : code.Label) → i < control + 1 → HasLabel (get_or (set array control x.label) i d) (label_of (s.texts ++ (l.text ∷ [])) i)
        kept_to i d h = elim (ℕ_discrete i control) [
          | yes e ↦ rw (e, get_or-set_at array control control x.label d refl (omega (arith, s.sixteen)), get_or_at s.texts l.text [] [] control s.count) l.kept
          | no e ↦
              rw (get_or-set_other array control i x.label d e, get_or-append s.texts (l.text ∷ []) [] i (omega (arith, s.count)))
              (s.kept i d (omega arith))
        ]

  module _ (all : most_controls ≤ control) (few : control ≤ most_controls) where
    read_all : read_labels most_controls sheet ≡ accepted (record { labels = s.texts; rest = drop place sheet })
    read_all =
        let none : most_controls - control ≡ 0 = omega arith in
        s.whole ∙ ap (λ (k : ℕ). and_then (read_labels k (drop place sheet)) (labels_in_front s.texts)) none
        ∙ ap (λ (o : Outcome Labels). and_then o (labels_in_front s.texts)) (no_labels (drop place sheet))
        ∙ ap (λ (ls : List (List ℕ)). accepted (record { labels = ls; rest = drop place sheet })) (append-nil s.texts)

    tail_by : (t : Bool) → eqb (length (drop place sheet)) 0 ≡ t → and_then (read_labels most_controls sheet) to_tail
        ≡ unless (word_if (not t) 9) (accepted (record { labels = s.texts; rest = drop place sheet }))
    tail_by t e =
        ap (λ (o : Outcome Labels). and_then o to_tail) read_all
        ∙ ap (λ (b : Bool). unless (word_if (not b) 9) (accepted (record { labels = s.texts; rest = drop place sheet }))) e

    pub with_tail : place < length sheet → and_then (read_labels most_controls sheet) to_tail ≡ refused 9
    with_tail h = tail_by false (ne_eqb (length (drop place sheet)) 0 (λ (e : length (drop place sheet) ≡ 0). omega (arith, length-drop place sheet)))

    read : theory.LabelsRead most_controls sheet (record { labels = s.texts; rest = drop place sheet })
    read = theory.labels_read most_controls sheet (record { labels = s.texts; rest = drop place sheet }) read_all

    sixteen : length s.texts ≡ most_controls
    sixteen = omega (arith, s.count)

    kept : (i : ℕ) (d : code.Label) → i < most_controls → HasLabel (get_or array i d) (label_of s.texts i)
    kept i d h = s.kept i d (omega arith)

    pub labels_all : length sheet ≤ place → LabelsAre (and_then (read_labels most_controls sheet) to_tail) array
    labels_all h = record {
      held = held s.texts sixteen read.each array s.sixteen kept;
      rest = drop place sheet;
      read =
          tail_by true (eq-eqb (length (drop place sheet)) 0 (omega (arith, length-drop place sheet)))
          ∙ ap (λ (ls : List (List ℕ)). accepted (record { labels = ls; rest = drop place sheet })) (sym (these s.texts sixteen read.each array s.sixteen kept));
    }
