-- The steps of reading a table behind its header.
use mathlib.Core.Path.{◌≡◌, refl, sym, ◌∙◌, ap}
use mathlib.Core.List.{List, ◌∷◌}
use Prim.Native.Nat.{ℕ, zero, suc, ◌+◌, ◌-◌, ◌<◌, ◌≤◌}
use native.Mathlib.Numerals.{add-one}
use native.Mathlib.Omega.{arith}
use Rattle.std.specs.Prelude.{Result, Ok, Err}
use Rattle.std.specs.Result.{IsErrAnd}
use lib.ListN.{length, drop, set, length-set}
use lib.Seq.{sets}
use Rattle.number_groups.specs.Stores.{sets_all}
use Rattle.definitions.specs.Outcomes.{Outcome, accepted, and_then, number_of, value_or}
use Rattle.definitions.specs.Groups as groups
use Rattle.definitions.specs.Limits.{most_controls}
use Rattle.definitions.specs.Files as def
use Rattle.refusals.specs.Words.{word_of}
use Rattle.refusals.specs.declared.Refusal.{Refusal}
use Rattle.number_groups.specs.Outcomes.{handed_on}
use Rattle.number_groups.specs.NumberAnswers.{Accepts, ReadsAgain, outcome_of}
use Rattle.number_groups.specs.declared.Numeral.{Numeral}
use Rattle.table_header.specs.HeaderAnswers.{kind_is, header_at}
use Rattle.table_header.specs.Ends.{at_tail, at_end_lem}
use Rattle.table_header.specs.declared.Opening.{Opening}
use Rattle.sparse_file.specs.Pairs.{Fills}
use Rattle.table_file.specs.Entries.{read_entry, entries_to_end, behind_header, ReadBy}
use Rattle.table_file.specs.Reading.{ends, goes_on, stops, FirstEntry, first_entry, no_entries, length_entries, file_with, InOrder, in_order}

-- ---- the entries and the end

module _ (m : ℕ) (bytes : List ℕ) (place : ℕ) {r : Result Numeral Refusal} (entry : outcome_of bytes r ≡ read_entry m (drop place bytes)) where
  pub turn_stops : (left : ℕ) → 0 < left → {e : Refusal} → r ≡ Err e → {A : Type 0} (s : Result A Refusal) → IsErrAnd s (λ x. x ≡ e) →
      number_of (entries_to_end left m (drop place bytes)) ≡ word_of s
  turn_stops zero h was s f = absurd (omega arith)
  turn_stops (suc k) h was s f = stops k m (drop place bytes) (sym entry ∙ ap (outcome_of bytes) was) ∙ sym (ap word_of (handed_on s f))

  pub turn_goes_on : (left : ℕ) → 0 < left → {x : Numeral} → r ≡ Ok x → (less : ℕ) → less + 1 ≡ left →
      number_of (entries_to_end left m (drop place bytes)) ≡ number_of (entries_to_end less m (drop x.next bytes))
  turn_goes_on zero h was less e = absurd (omega arith)
  turn_goes_on (suc k) h {x} was less e =
      goes_on k m (drop place bytes) (sym entry ∙ ap (outcome_of bytes) was)
      ∙ ap (λ (j : ℕ). number_of (entries_to_end j m (drop x.next bytes))) (omega arith)

module _ (m : ℕ) (bytes : List ℕ) (place left : ℕ) (none : left ≤ 0) where
  ended : number_of (entries_to_end left m (drop place bytes)) ≡ def.tail_word (drop place bytes)
  ended = ap (λ (k : ℕ). number_of (entries_to_end k m (drop place bytes))) (let z : left ≡ 0 = omega arith in z) ∙ ends m (drop place bytes)

  pub tail : place < length bytes → number_of (entries_to_end left m (drop place bytes)) ≡ 9
  tail h = ended ∙ at_tail bytes place h

  pub no_tail : length bytes ≤ place → number_of (entries_to_end left m (drop place bytes)) ≡ 0
  no_tail h = ended ∙ at_end_lem bytes place h

-- ---- filling the table

-- entries that are accepted: those that are left are so too, and with them the table is as it is to be
pub record EntriesLeft (bytes : List ℕ) (m : ℕ) (x : def.Entries) (old table : List ℕ) (i place : ℕ) : Type 0 where
  pub rest : def.Entries
  pub read : def.read_entries (length old - i) m (drop place bytes) ≡ accepted rest
  pub gives : sets table i rest.entries ≡ sets old 0 x.entries

pub record FillingTable (bytes : List ℕ) (at : ℕ) (old table : List ℕ) (i place : ℕ) : Type 0 where
  pub as_long : length table ≡ length old
  pub left : (m : ℕ) (x : def.Entries) → def.read_entries (length old) m (drop at bytes) ≡ accepted x → EntriesLeft bytes m x old table i place

pub none_filled : (bytes : List ℕ) (at : ℕ) (old : List ℕ) → FillingTable bytes at old old 0 at
none_filled bytes at old = record {
  as_long = refl;
  left = λ m x e. record {
    rest = x;
    read = ap (λ (k : ℕ). def.read_entries k m (drop at bytes)) (let d : length old - 0 ≡ length old = omega arith in d) ∙ e;
    gives = refl;
  };
}

next-set : (table : List ℕ) (i v : ℕ) (vs : List ℕ) → sets (set table i v) (i + 1) vs ≡ sets table i (v ∷ vs)
next-set table i v vs = rw (add-one i) refl

module _ {bytes : List ℕ} {at : ℕ} {old table : List ℕ} {i place : ℕ} (filling : FillingTable bytes at old table i place) where
  module _ (h : i < length old) (m : ℕ) (x : def.Entries) (e : def.read_entries (length old) m (drop at bytes) ≡ accepted x) where
    first_left : FirstEntry (length old - (i + 1)) m (drop place bytes) (filling.left m x e).rest
    first_left =
        let l = filling.left m x e in
        let more : length old - i ≡ suc (length old - (i + 1)) = omega (arith, filling.as_long) in
        first_entry (length old - (i + 1)) m (drop place bytes) l.rest (ap (λ (k : ℕ). def.read_entries k m (drop place bytes)) (sym more) ∙ l.read)

  pub entry_stands : i < length old → (m : ℕ) × Accepts (def.read_entries (length old) m (drop at bytes)) → Accepts (groups.read_number (drop place bytes))
  entry_stands h a = let f = first_left h a.0 a.1.0 a.1.1 in (f.number, f.number_read)

  pub one-filled : {r : Numeral} → i < length old → ReadsAgain (groups.read_number (drop place bytes)) bytes r →
      FillingTable bytes at old (set table i r.value) (i + 1) r.next
  one-filled {r} h again = record {
    as_long = length-set table i r.value ∙ filling.as_long;
    left = λ m x e.
        let l = filling.left m x e in
        let f = first_left h m x e in
        let same = again.again f.number f.number_read in
        record {
          rest = f.rest;
          read = ap (λ (y : groups.Numeral). def.read_entries (length old - (i + 1)) m y.rest) same ∙ f.rest_read;
          gives =
              next-set table i r.value f.rest.entries
              ∙ ap (λ (y : groups.Numeral). sets table i (y.value ∷ f.rest.entries)) same
              ∙ ap (λ (vs : List ℕ). sets table i vs) (sym f.entries_are) ∙ l.gives;
        };
  }

  pub all_filled : length old ≤ i → (m : ℕ) → Fills (def.read_entries (length old) m (drop at bytes)) table
  all_filled h m = record {
    fills = λ x e.
        let l = filling.left m x e in
        let none : length old - i ≡ 0 = omega (arith, filling.as_long) in
        let nil = no_entries m (drop place bytes) l.rest (ap (λ (k : ℕ). def.read_entries k m (drop place bytes)) (sym none) ∙ l.read) in
        ap (λ (vs : List ℕ). sets table i vs) (sym nil) ∙ l.gives
        ∙ sets_all old x.entries (length_entries (length old) m (drop at bytes) x e);
  }

-- ---- the reader

module _ (bytes old : List ℕ) (o : Opening) (opened : accepted (header_at bytes o) ≡ def.read_header most_controls bytes)
    (tested : 0 ≡ number_of (behind_header (header_at bytes o) (length old))) where
  order : InOrder (header_at bytes o) (length old)
  order = in_order (header_at bytes o) (length old) (sym tested)

  table_at : def.read_contents (kind_is o.header.kind) (length old) o.header.m (drop o.next bytes) ≡ accepted order.body.contents
  table_at = ap (λ (k : ℕ). def.read_contents (kind_is o.header.kind) k o.header.m (drop o.next bytes)) order.as_long ∙ order.body.read

  pub table_stands : Accepts (def.read_contents (kind_is o.header.kind) (length old) o.header.m (drop o.next bytes))
  table_stands = (order.body.contents, table_at)

  whole : accepted (file_with (header_at bytes o) order.body.contents) ≡ def.read_table bytes (length old)
  unfolding def.read_table
  whole = sym order.outcome ∙ ap (λ (p : Outcome def.Header). and_then p (λ h. behind_header h (length old))) opened

  pub a_table : {table : List ℕ} → Fills (def.read_contents (kind_is o.header.kind) (length old) o.header.m (drop o.next bytes)) table →
      ReadBy bytes old (Ok o.header) table
  a_table f = record {
    answer = record {
      number_is = ap number_of whole;
      kind_agrees = ap (value_or def.full (λ t. t.kind)) whole;
      n_is = ap (value_or 0 (λ t. t.controls)) whole;
      m_is = ap (value_or 0 (λ t. t.modulus)) whole;
    };
    filled = f.fills order.body.contents table_at ∙ ap (value_or old (λ t. t.entries)) whole;
  }
