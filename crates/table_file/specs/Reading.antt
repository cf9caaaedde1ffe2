-- Laws of reading behind a header: entry by entry, and the body of either kind.
--   entries_more                the first entry and the others
--   ends, goes_on, stops        the number of so many entries and the end behind them
--   first_entry, no_entries, length_entries   entries that are accepted
--   body_number                 the number of a body of either kind
--   body_read, body_accepted    a body that is accepted; in_order: all behind a header
use Rattle.std.specs.Prelude.{◌≡◌, refl, Bool, true, false, not, List, [], ◌∷◌, ℕ, zero, suc, ◌^◌, ltb, eqb, length}
use Rattle.std.proofs.Common.{sym, ◌∙◌, ap, eqb-true}
use Rattle.definitions.specs.Outcomes.{Outcome, accepted, refused, and_then, unless, number_of}
use Rattle.definitions.specs.Refusals.{word_if}
use Rattle.definitions.specs.Groups as groups
use Rattle.definitions.specs.Files.{Header, Entries, TableFile, read_entries, entry_in_front, read_contents, tail_word, read_body}
use Rattle.theory.specs.Tests.{zero_is_not_one}
use Rattle.table_header.specs.Words.{accepts, passed, passed_test}
use Rattle.table_header.specs.Ends.{to_end, number_unless, number_in_front}
use Rattle.table_file.specs.Entries.{below_modulus, read_entry, entries_to_end, behind_header, contents_number}
use Rattle.table_file.specs.Words.{proper_body, proper_behind}

-- ---- entry by entry

-- the entries behind a first one
abbrev pub others : ℕ → ℕ → groups.Numeral → Outcome Entries
others k m x = and_then (read_entries k m x.rest) (entry_in_front x.value)

tested : (k m : ℕ) (x : groups.Numeral) (t : Bool) →
    unless (word_if (not t) 5) (others k m x) ≡ and_then (unless (word_if (not t) 5) (accepted x)) (others k m)
tested k m x true = refl
tested k m x false = refl

more_by : (k m : ℕ) (o : Outcome groups.Numeral) →
    and_then o (λ x. unless (word_if (not (ltb x.value m)) 5) (others k m x)) ≡ and_then (and_then o (below_modulus m)) (others k m)
more_by k m (accepted x) = tested k m x (ltb x.value m)
more_by k m (refused w) = refl

pub entries_more : (k m : ℕ) (bytes : List ℕ) → read_entries (suc k) m bytes ≡ and_then (read_entry m bytes) (others k m)
unfolding read_entries
entries_more k m bytes = more_by k m (groups.read_number bytes)

-- ---- to the end

pub ends : (m : ℕ) (bytes : List ℕ) → number_of (entries_to_end 0 m bytes) ≡ tail_word bytes
unfolding read_entries
ends m bytes = number_unless (tail_word bytes) (record { entries = []; rest = bytes })

module _ (k m : ℕ) (bytes : List ℕ) where
  from : {o : Outcome groups.Numeral} → read_entry m bytes ≡ o → entries_to_end (suc k) m bytes ≡ and_then (and_then o (others k m)) to_end
  from {o} e = ap (λ (p : Outcome Entries). and_then p to_end) (entries_more k m bytes ∙ ap (λ (p : Outcome groups.Numeral). and_then p (others k m)) e)

  pub goes_on : {x : groups.Numeral} → read_entry m bytes ≡ accepted x →
      number_of (entries_to_end (suc k) m bytes) ≡ number_of (entries_to_end k m x.rest)
  goes_on {x} e = ap number_of (from e) ∙ number_in_front (λ y. x.value ∷ y.entries) (read_entries k m x.rest)

  pub stops : {w : ℕ} → read_entry m bytes ≡ refused w → number_of (entries_to_end (suc k) m bytes) ≡ w
  stops e = ap number_of (from e)

-- ---- entries that are accepted

-- the first of them and the others
pub record FirstEntry (k m : ℕ) (bytes : List ℕ) (x : Entries) : Type 0 where
  pub number : groups.Numeral
  pub rest : Entries
  pub number_read : groups.read_number bytes ≡ accepted number
  pub rest_read : read_entries k m number.rest ≡ accepted rest
  pub entries_are : x.entries ≡ number.value ∷ rest.entries

pub first_entry : (k m : ℕ) (bytes : List ℕ) (x : Entries) → read_entries (suc k) m bytes ≡ accepted x → FirstEntry k m bytes x
first_entry k m bytes x e =
    let entry = passed (read_entry m bytes) (others k m) x (sym (entries_more k m bytes) ∙ e) in
    let y = entry.value in
    let read = passed (groups.read_number bytes) (below_modulus m) y entry.first in
    let tested = passed_test (word_if (not (ltb read.value.value m)) 5) (accepted read.value) y read.then in
    let same : read.value ≡ y = let f = tested.then in cc in
    let more = passed (read_entries k m y.rest) (entry_in_front y.value) x entry.then in
    let whole : record { entries = y.value ∷ more.value.entries; rest = more.value.rest } ≡ x = let f = more.then in cc in
    record {
      number = y;
      rest = more.value;
      number_read = read.first ∙ ap accepted same;
      rest_read = more.first;
      entries_are = ap (λ (z : Entries). z.entries) (sym whole);
    }

-- none is left
pub no_entries : (m : ℕ) (bytes : List ℕ) (x : Entries) → read_entries 0 m bytes ≡ accepted x → x.entries ≡ []
unfolding read_entries
no_entries m bytes x e = let f : record { entries = []; rest = bytes } ≡ x = cc in ap (λ (z : Entries). z.entries) (sym f)

pub length_entries : (k m : ℕ) (bytes : List ℕ) (x : Entries) → read_entries k m bytes ≡ accepted x → length x.entries ≡ k
length_entries zero m bytes x e = ap length (no_entries m bytes x e)
length_entries (suc k) m bytes x e =
    let f = first_entry k m bytes x e in
    ap length f.entries_are ∙ ap suc (length_entries k m f.number.rest f.rest f.rest_read)

-- ---- behind a header

-- the file of a header and its entries, and the same if nothing is behind them
abbrev pub file_with : Header → Entries → TableFile
file_with h x = record { kind = h.kind; controls = h.controls; modulus = h.modulus; entries = x.entries }

abbrev closed : Header → Entries → Outcome TableFile
closed h x = unless (tail_word x.rest) (accepted (file_with h x))

-- what stands behind a header
abbrev pub contents_of : Header → Outcome Entries
contents_of h = read_contents h.kind (2 ^ h.controls) h.modulus h.rest

body_by : (h : Header) (o : Outcome Entries) → number_of (and_then o (closed h)) ≡ number_of (and_then o to_end)
body_by h (accepted x) = number_unless (tail_word x.rest) _ ∙ sym (number_unless (tail_word x.rest) x)
body_by h (refused w) = refl

pub body_number : (h : Header) → number_of (read_body h) ≡ contents_number h.kind (2 ^ h.controls) h.modulus h.rest
body_number h = body_by h (contents_of h)

-- a body that is accepted
pub record BodyRead (h : Header) : Type 0 where
  pub contents : Entries
  pub read : contents_of h ≡ accepted contents
  pub ends_there : tail_word contents.rest ≡ 0
  pub outcome : read_body h ≡ accepted (file_with h contents)

pub body_read : (h : Header) (t : TableFile) → read_body h ≡ accepted t → BodyRead h
body_read h t e =
    let one = passed (contents_of h) (closed h) t e in
    let two = passed_test (tail_word one.value.rest) (accepted (file_with h one.value)) t one.then in
    record {
      contents = one.value;
      read = one.first;
      ends_there = two.none;
      outcome = e ∙ sym two.then;
    }

pub body_accepted : (h : Header) → number_of (read_body h) ≡ 0 → BodyRead h
body_accepted h e = let a = accepts (read_body h) (proper_body h) e in body_read h a.0 a.1

-- what is known if header, table length, entries and end are in order
pub record InOrder (h : Header) (long : ℕ) : Type 0 where
  pub as_long : long ≡ 2 ^ h.controls
  pub body : BodyRead h
  pub outcome : behind_header h long ≡ accepted (file_with h body.contents)

order_by : (h : Header) (long : ℕ) (t : TableFile) (same : Bool) → eqb long (2 ^ h.controls) ≡ same →
    unless (word_if (not same) 3) (read_body h) ≡ accepted t → InOrder h long
order_by h long t true f e =
    let b = body_read h t e in
    record { as_long = eqb-true _ _ f; body = b; outcome = rw f b.outcome }
order_by h long t false f e = absurd (zero_is_not_one (cc))

pub in_order : (h : Header) (long : ℕ) → number_of (behind_header h long) ≡ 0 → InOrder h long
in_order h long e =
    let a = accepts (behind_header h long) (proper_behind h long) e in
    order_by h long a.0 (eqb long (2 ^ h.controls)) refl a.1
