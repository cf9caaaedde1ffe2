-- What an accepted sheet is: the bytes of sixteen good labels, no two the same; and every such sheet is accepted.
--   labels_read      so many labels that are accepted
--   sheet_read       an accepted sheet
--   sheet_accepted   and back
--   worded_labels, number_accepts   a refusal has a word, so number 0 means accepted
use Rattle.std.specs.Prelude.{◌≡◌, refl, Bool, true, false, not, ◌&&◌, ℕ, zero, suc, ◌+◌, ◌-◌, ◌*◌, ◌<◌, ◌≤◌, ltb, eqb, length}
use Rattle.std.proofs.Common.{sym, ◌∙◌, ap, subst, ⊎_elim, arith, ltb-true, ltb-false, eqb-true, le-ltb}
use mathlib.Core.List.{List, [], ◌∷◌, ◌++◌, flat_map, append-nil, append_assoc}
use Rattle.std.proofs.lemmas.Bool.{not-false}
use Rattle.definitions.specs.Limits.{most_controls, longest_label}
use Rattle.definitions.specs.Outcomes.{Outcome, accepted, refused, and_then, unless, number_of, value_or}
use Rattle.definitions.specs.Refusals.{word_if}
use Rattle.definitions.specs.Groups.{Numeral, in_front, read_number}
use Rattle.definitions.specs.Files.{tail_word}
use Rattle.definitions.specs.Sheets.{between, alphanumeric, label_length_word, label_byte_word, Label, byte_in_front, read_bytes, read_label}
use Rattle.definitions.specs.Sheets.{Labels, label_in_front, read_labels, twice, equal_word, sheet_end, read_sheet, sheet_number, sheet_labels, label_of}
use Rattle.theory.specs.Tests.{below_or, and_true_left, and_true_right, zero_is_not_one}
use Rattle.checks.specs.Words.{no_word}
use Rattle.number_groups.specs.Numbers.{reads_none, reads_last, reads_more, reads_word}
use Rattle.table_header.specs.Words.{passed, passed_test}
use Rattle.label_theory.specs.Labels.{AllAlphanumeric, GoodLabel, GoodLabels, once_differ, differ_once}
use Rattle.label_theory.specs.SheetLaws.{entry_of, sheet_of}

-- ---- the bytes of a label

record BytesRead (k : ℕ) (bytes : List ℕ) (x : Label) : Type 0 where
  form : bytes ≡ x.label ++ x.rest
  as_long : length x.label ≡ k
  all : AllAlphanumeric x.label

bytes_read : (k : ℕ) (bytes : List ℕ) (x : Label) → read_bytes k bytes ≡ accepted x → BytesRead k bytes x
unfolding read_bytes
bytes_read zero bytes x e =
    let same : record { label = []; rest = bytes } ≡ x = cc in
    subst (BytesRead zero bytes) same (record { form = refl; as_long = refl; all = tt })
bytes_read (suc k) [] x e = absurd (zero_is_not_one (cc))
bytes_read (suc k) (b ∷ bs) x e =
    let tested = passed_test (label_byte_word b) (and_then (read_bytes k bs) (byte_in_front b)) x e in
    let good : alphanumeric b ≡ true = not-false (alphanumeric b) (no_word (not (alphanumeric b)) 17 (λ z. omega arith) tested.none) in
    let read = passed (read_bytes k bs) (byte_in_front b) x tested.then in
    let y = read.value in
    let same : record { label = b ∷ y.label; rest = y.rest } ≡ x = let f = read.then in cc in
    let r = bytes_read k bs y read.first in
    subst (BytesRead (suc k) (b ∷ bs)) same (record { form = ap (λ (l : List ℕ). b ∷ l) r.form; as_long = ap suc r.as_long; all = (good, r.all) })

-- ---- a length: a number below 128 is one byte

more_large : (b : ℕ) (bs : List ℕ) (x : Numeral) → 128 ≤ b → read_number (b ∷ bs) ≡ accepted x → 128 ≤ x.value
more_large b bs x l e =
    let p = passed (read_number bs) (in_front (b - 128)) x (sym (reads_more b bs l) ∙ e) in
    let y = p.value in
    let t = ltb 0 y.value && ltb (b - 128 + 128 * y.value) 4294967296 in
    let w = passed_test (word_if (not t) 8) (accepted (record { value = b - 128 + 128 * y.value; rest = y.rest })) x p.then in
    let both : t ≡ true = not-false t (no_word (not t) 8 (λ z. omega arith) w.none) in
    let some : 0 < y.value = ltb-true 0 y.value (and_true_left (ltb 0 y.value) (ltb (b - 128 + 128 * y.value) 4294967296) both) in
    let same : record { value = b - 128 + 128 * y.value; rest = y.rest } ≡ x = let f = w.then in cc in
    omega (arith, ap (λ (z : Numeral). z.value) same)

small_number : (bytes : List ℕ) (x : Numeral) → read_number bytes ≡ accepted x → x.value < 128 → bytes ≡ x.value ∷ x.rest
small_number [] x e h = let f = sym reads_none ∙ e in absurd (zero_is_not_one (cc))
small_number (b ∷ bs) x e h = ⊎_elim
    (λ (l : b < 128).
    let same : record { value = b; rest = bs } ≡ x = let f = sym (reads_last b bs l) ∙ e in cc in
    ap (λ (z : Numeral). z.value ∷ z.rest) same)
    (λ (l : 128 ≤ b). absurd (zero_is_not_one (omega (arith, more_large b bs x l e))))
    (below_or b 128)

-- ---- a label

record LabelRead (bytes : List ℕ) (x : Label) : Type 0 where
  form : bytes ≡ entry_of x.label ++ x.rest
  good : GoodLabel x.label

record Long (k : ℕ) : Type 0 where
  some : 1 ≤ k
  short : k ≤ longest_label

not_true : (b : Bool) → not b ≡ true → b ≡ false
not_true true e = sym e
not_true false e = refl

long_read : (k : ℕ) → label_length_word k ≡ 0 → Long k
long_read k e =
    let t : between 1 8 k ≡ true = not-false (between 1 8 k) (no_word (not (between 1 8 k)) 17 (λ z. omega arith) e) in
    record {
      some = ltb-false k 1 (not_true (ltb k 1) (and_true_left (not (ltb k 1)) (not (ltb 8 k)) t));
      short = ltb-false 8 k (not_true (ltb 8 k) (and_true_right (not (ltb k 1)) (not (ltb 8 k)) t));
    }

label_read : (bytes : List ℕ) (x : Label) → read_label bytes ≡ accepted x → LabelRead bytes x
unfolding read_label
label_read bytes x e =
    let number = passed (read_number bytes) _ x e in
    let v = number.value in
    let tested = passed_test (label_length_word v.value) (read_bytes v.value v.rest) x number.then in
    let l = long_read v.value tested.none in
    let b = bytes_read v.value v.rest x tested.then in
    let n = small_number bytes v number.first (omega (arith, l.short)) in
    record {
      form = n ∙ ap (λ (k : ℕ). k ∷ v.rest) (sym b.as_long) ∙ ap (λ (r : List ℕ). length x.label ∷ r) b.form;
      good = record { some = omega (arith, l.some, b.as_long); short = omega (arith, l.short, b.as_long); bytes = b.all };
    }

-- ---- labels

pub record LabelsRead (k : ℕ) (bytes : List ℕ) (x : Labels) : Type 0 where
  pub form : bytes ≡ sheet_of x.labels ++ x.rest
  pub count : length x.labels ≡ k
  pub each : (i : ℕ) → i < k → GoodLabel (label_of x.labels i)

each_more : (l : List ℕ) (ls : List (List ℕ)) (k : ℕ) → GoodLabel l → ((i : ℕ) → i < k → GoodLabel (label_of ls i)) →
    (i : ℕ) → i < suc k → GoodLabel (label_of (l ∷ ls) i)
each_more l ls k g h zero j = g
each_more l ls k g h (suc i) j = h i (omega arith)

labels_none : (bytes : List ℕ) (x : Labels) → read_labels zero bytes ≡ accepted x → LabelsRead zero bytes x
unfolding read_labels sheet_of flat_map
labels_none bytes x e =
    let same : record { labels = []; rest = bytes } ≡ x = cc in
    subst (LabelsRead zero bytes) same (record { form = refl; count = refl; each = λ i h. absurd (zero_is_not_one (omega arith)) })

labels_more : (k : ℕ) (bytes : List ℕ) (y : Label) (z : Labels) → LabelRead bytes y → LabelsRead k y.rest z →
    LabelsRead (suc k) bytes (record { labels = y.label ∷ z.labels; rest = z.rest })
unfolding sheet_of flat_map
labels_more k bytes y z l r = record {
  form = l.form ∙ ap (λ (t : List ℕ). entry_of y.label ++ t) r.form ∙ sym (append_assoc (entry_of y.label) (sheet_of z.labels) z.rest);
  count = ap suc r.count;
  each = each_more y.label z.labels k l.good r.each;
}

pub labels_read : (k : ℕ) (bytes : List ℕ) (x : Labels) → read_labels k bytes ≡ accepted x → LabelsRead k bytes x
unfolding read_labels
labels_read zero bytes x e = labels_none bytes x e
labels_read (suc k) bytes x e =
    let first = passed (read_label bytes) _ x e in
    let y = first.value in
    let rest = passed (read_labels k y.rest) (label_in_front y.label) x first.then in
    let z = rest.value in
    let same : record { labels = y.label ∷ z.labels; rest = z.rest } ≡ x = let f = rest.then in cc in
    subst (LabelsRead (suc k) bytes) same (labels_more k bytes y z (label_read bytes y first.first) (labels_read k y.rest z rest.first))

-- ---- the sheet

pub record SheetRead (bytes : List ℕ) (ls : List (List ℕ)) : Type 0 where
  pub good : GoodLabels ls
  pub form : bytes ≡ sheet_of ls

no_bytes : (rest : List ℕ) → length rest ≡ 0 → rest ≡ []
no_bytes [] e = refl
no_bytes (x ∷ rest) e = absurd (zero_is_not_one (omega arith))

no_tail : (rest : List ℕ) → tail_word rest ≡ 0 → rest ≡ []
no_tail rest t =
    no_bytes rest (eqb-true (length rest) 0 (not-false (eqb (length rest) 0) (no_word (not (eqb (length rest) 0)) 9 (λ z. omega arith) t)))

sheet_parts : (bytes : List ℕ) (ls : List (List ℕ)) (x : Labels) → LabelsRead most_controls bytes x →
    tail_word x.rest ≡ 0 → equal_word x.labels ≡ 0 → x.labels ≡ ls → SheetRead bytes ls
sheet_parts bytes ls x r t w same =
    subst (SheetRead bytes) same (record {
      good = record {
        sixteen = r.count;
        each = r.each;
        different = λ i j h k. once_differ x.labels (no_word (twice x.labels) 18 (λ z. omega arith) w) i j h (omega (arith, r.count));
      };
      form = r.form ∙ ap (λ (l : List ℕ). sheet_of x.labels ++ l) (no_tail x.rest t) ∙ append-nil (sheet_of x.labels);
    })

-- an accepted sheet has good labels, and is what they are written to
pub sheet_read : (bytes : List ℕ) (ls : List (List ℕ)) → read_sheet bytes ≡ accepted ls → SheetRead bytes ls
unfolding read_sheet
sheet_read bytes ls e =
    let labels = passed (read_labels most_controls bytes) sheet_end ls e in
    let x = labels.value in
    let closed = passed_test (tail_word x.rest) (unless (equal_word x.labels) (accepted x.labels)) ls labels.then in
    let tested = passed_test (equal_word x.labels) (accepted x.labels) ls closed.then in
    sheet_parts bytes ls x (labels_read most_controls bytes x labels.first) closed.none tested.none (let f = tested.then in cc)

-- ---- and back

bytes_accepted : (l rest : List ℕ) → AllAlphanumeric l → read_bytes (length l) (l ++ rest) ≡ accepted (record { label = l; rest = rest })
unfolding read_bytes
bytes_accepted [] rest a = refl
bytes_accepted (b ∷ l) rest a = rw (a.0, bytes_accepted l rest a.1)

label_accepted : (l rest : List ℕ) → GoodLabel l → read_label (entry_of l ++ rest) ≡ accepted (record { label = l; rest = rest })
unfolding read_label
label_accepted l rest g =
    rw (reads_last (length l) (l ++ rest) (omega (arith, g.short)), le-ltb (length l) 1 g.some, le-ltb 8 (length l) g.short)
    (bytes_accepted l rest g.bytes)

labels_accepted : (ls : List (List ℕ)) (rest : List ℕ) → ((i : ℕ) → i < length ls → GoodLabel (label_of ls i)) →
    read_labels (length ls) (sheet_of ls ++ rest) ≡ accepted (record { labels = ls; rest = rest })
unfolding read_labels sheet_of flat_map
labels_accepted [] rest g = refl
labels_accepted (l ∷ ls) rest g =
    rw (
      append_assoc (entry_of l) (sheet_of ls) rest,
      label_accepted l (sheet_of ls ++ rest) (g 0 (omega arith)),
      labels_accepted ls rest (λ i h. g (suc i) (omega arith)),
    )

pub sheet_accepted : (ls : List (List ℕ)) → GoodLabels ls → read_sheet (sheet_of ls) ≡ accepted ls
unfolding read_sheet
sheet_accepted ls g =
    let all : read_labels most_controls (sheet_of ls) ≡ accepted (record { labels = ls; rest = [] }) =
    ap (λ (k : ℕ). read_labels k (sheet_of ls)) (sym g.sixteen)
    ∙ ap (read_labels (length ls)) (sym (append-nil (sheet_of ls)))
    ∙ labels_accepted ls [] (λ i h. g.each i (omega (arith, g.sixteen))) in
    rw (all, differ_once ls (λ i j h k. g.different i j h (omega (arith, g.sixteen))))

-- ---- a refusal has a word

abbrev pub Worded : {X : Type 0} → Outcome X → Type 0
Worded o = (k : ℕ) → o ≡ refused k → 0 < k

worded_accepted : {X : Type 0} (x : X) → Worded (accepted x)
worded_accepted x k e = absurd (zero_is_not_one (cc))

worded_then : {X Y : Type 0} (o : Outcome X) (next : X → Outcome Y) → Worded o → ((x : X) → Worded (next x)) → Worded (and_then o next)
worded_then (accepted x) next h g k e = g x k e
worded_then (refused w) next h g k e = h k (ap refused (let f : w ≡ k = cc in f))

worded_unless : {X : Type 0} (w : ℕ) (o : Outcome X) → Worded o → Worded (unless w o)
worded_unless zero o g k e = g k e
worded_unless (suc w) o g k e = let f : suc w ≡ k = cc in omega arith

worded_bytes : (j : ℕ) (bytes : List ℕ) → Worded (read_bytes j bytes)
unfolding read_bytes
worded_bytes zero bytes = worded_accepted _
worded_bytes (suc j) [] = λ k e. let f : 8 ≡ k = cc in omega arith
worded_bytes (suc j) (b ∷ bs) =
    worded_unless (label_byte_word b) _ (worded_then (read_bytes j bs) (byte_in_front b) (worded_bytes j bs) (λ x. worded_accepted _))

worded_label : (bytes : List ℕ) → Worded (read_label bytes)
unfolding read_label
worded_label bytes =
    worded_then (read_number bytes) (λ (v : Numeral). unless (label_length_word v.value) (read_bytes v.value v.rest)) (λ k e. omega (arith, reads_word bytes k e)) (λ x.
    worded_unless (label_length_word x.value) _ (worded_bytes x.value x.rest))

pub worded_labels : (j : ℕ) (bytes : List ℕ) → Worded (read_labels j bytes)
unfolding read_labels
worded_labels zero bytes = worded_accepted _
worded_labels (suc j) bytes =
    worded_then (read_label bytes) _ (worded_label bytes) (λ x.
    worded_then (read_labels j x.rest) (label_in_front x.label) (worded_labels j x.rest) (λ y. worded_accepted _))

worded_sheet : (sheet : List ℕ) → Worded (read_sheet sheet)
unfolding read_sheet
worded_sheet sheet =
    worded_then (read_labels most_controls sheet) sheet_end (worded_labels most_controls sheet) (λ x.
    worded_unless (tail_word x.rest) _ (worded_unless (equal_word x.labels) _ (worded_accepted _)))

-- so a sheet whose number is 0 is accepted
pub number_accepts : (sheet : List ℕ) → sheet_number sheet ≡ 0 → read_sheet sheet ≡ accepted (sheet_labels sheet)
number_accepts sheet z = by (read_sheet sheet) (worded_sheet sheet) z
  where
    by : (o : Outcome (List (List ℕ))) → Worded o → number_of o ≡ 0 → o ≡ accepted (value_or [] (λ ls. ls) o)
    by (accepted ls) w e = refl
    by (refused k) w e = absurd (omega (arith, w k refl))
