-- The steps of showing a file.
use mathlib.Core.Path.{◌≡◌, sym, ◌∙◌, ap}
use mathlib.Core.List.{List, [], ◌∷◌, ◌++◌}
use Prim.Native.Nat.{ℕ, ◌^◌, ◌≤◌}
use native.Mathlib.Omega.{arith}
use lib.ListN.{length, drop, take}
use lib.Pow.{pow_mono}
use lib.Seq.{length-take-le}
use Rattle.definitions.specs.Limits.{most_shown}
use Rattle.definitions.specs.Outcomes.{Outcome, accepted, refused, and_then, number_of}
use Rattle.definitions.specs.Files.{Header, read_header, read_contents, read_body}
use Rattle.definitions.specs.Show.{table_text, refusal_text, read_shown, text_of, shown, line}
use Rattle.number_groups.specs.Stores.{sets_front}
use Rattle.number_groups.specs.NumberAnswers.{Accepts}
use Rattle.table_header.specs.HeaderAnswers.{opening_outcome, header_at}
use Rattle.table_header.specs.Words.{refuses}
use Rattle.table_header.specs.Headers.{header_few}
use Rattle.refusals.specs.Words.{word}
use Rattle.refusals.specs.declared.Refusal.{Refusal}
use Rattle.std.specs.Prelude.{Ok, Err}
use Rattle.table_file.specs.Entries.{contents_number}
use Rattle.table_file.specs.Reading.{body_number, BodyRead, body_accepted}
use Rattle.sparse_file.specs.Pairs.{Fills}
use Rattle.text_pieces.specs.Text.{Writes}
use Rattle.table_show.specs.Text.{Shows, headed_text, lines_to, longest_text, TableFits}
use Rattle.text_pieces.specs.TextLaws.{writes_length}

-- ---- behind a header

module _ (h : Header) {long word : ℕ} (as_long : long ≡ 2 ^ h.controls) (tested : word ≡ contents_number h.kind long h.modulus h.rest) where
  body_word : word ≡ number_of (read_body h)
  body_word = tested ∙ ap (λ (k : ℕ). contents_number h.kind k h.modulus h.rest) as_long ∙ sym (body_number h)

  pub refused_text : (word ≡ 0 → ⊥) → refusal_text word ≡ text_of (read_body h)
  refused_text d =
      ap text_of (ap refused body_word ∙ sym (refuses (read_body h) (λ z. d (body_word ∙ z))))

  module _ (z : word ≡ 0) where
    body : BodyRead h
    body = body_accepted h (sym body_word ∙ z)

    contents_at : read_contents h.kind long h.modulus h.rest ≡ accepted body.contents
    contents_at = ap (λ (k : ℕ). read_contents h.kind k h.modulus h.rest) as_long ∙ body.read

    pub contents_stand : Accepts (read_contents h.kind long h.modulus h.rest)
    contents_stand = (body.contents, contents_at)

    -- the lent table has its length still
    pub file_text : {table : List ℕ} → length table ≡ long → Fills (read_contents h.kind long h.modulus h.rest) table →
        headed_text h.controls h.modulus table ≡ text_of (read_body h)
    unfolding table_text
    file_text {table} size f =
        ap (λ (k : ℕ). line h.controls (h.modulus ∷ []) ++ lines_to table k) (size ∙ as_long)
        ∙ ap (λ (l : List ℕ). line h.controls (h.modulus ∷ []) ++ lines_to l (2 ^ h.controls)) (f.fills body.contents contents_at)
        ∙ ap text_of (sym body.outcome)

-- at most 256 entries
pub few_entries : {n : ℕ} → n ≤ most_shown → 2 ^ n ≤ 256
few_entries few = pow_mono few

pub table_fits : {n : ℕ} {table out : List ℕ} → n ≤ most_shown → length table ≡ 2 ^ n → longest_text ≤ length out → TableFits table out
table_fits few e h = record { few = omega (arith, few_entries few); room = omega (arith, few_entries few) }

-- the part of the workspace that is lent
pub part_long : {n count : ℕ} (table : List ℕ) → n ≤ most_shown → count ≡ 2 ^ n → 256 ≤ length table → length (take count table) ≡ count
part_long {n} {count} table few e h = length-take-le count table (omega (arith, few_entries few))

-- ---- the whole

-- the text is at the start
shows : (bytes old : List ℕ) {text last : List ℕ} {next : ℕ} → text ≡ shown bytes → Writes old 0 text next last → Shows bytes old next last
shows bytes old {text} {last} {next} e w =
    let place : next ≡ length text = omega (arith, w.next_is) in
    let form : last ≡ text ++ drop (length text) old = w.text_is ∙ sets_front old text (omega (arith, w.within, writes_length w)) in
    record {
      length_is = place ∙ ap length e;
      whole = rw place (form ∙ ap (λ (l : List ℕ). l ++ drop (length text) old) e);
      within = w.within;
      counted = sym (length-take-le next last w.within);
    }

module _ (bytes old : List ℕ) {r : _} (opened : opening_outcome bytes r ≡ read_header most_shown bytes) where
  opened_as : (o : _) → r ≡ o → and_then (opening_outcome bytes o) read_body ≡ read_shown bytes
  unfolding read_shown
  opened_as o e = ap (λ (p : Outcome Header). and_then p read_body) (ap (opening_outcome bytes) (sym e) ∙ opened)

  pub no_header : {refusal : Refusal} {next : ℕ} {last : List ℕ} → r ≡ Err refusal →
      Writes old 0 (refusal_text (word refusal)) next last → Shows bytes old next last
  no_header e w = shows bytes old (ap text_of (opened_as (Err _) e)) w

  module _ {o : _} (e : r ≡ Ok o) where
    pub few : o.header.n ≤ most_shown
    few = header_few most_shown bytes (header_at bytes o) (sym (ap (opening_outcome bytes) (sym e) ∙ opened))

    pub behind_header_lem : {next : ℕ} {last : List ℕ} →
        Writes old 0 (text_of (read_body (header_at bytes o))) next last → Shows bytes old next last
    behind_header_lem w = shows bytes old (ap text_of (opened_as (Ok o) e)) w
