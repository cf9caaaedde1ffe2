-- What calls that write a text share, and the same of the writers of both kinds.
--   text_short, text_long           what a write leaves, by the buffer's length
--   text_accepted, text_refused     the same behind tests
--   few_entries, as_written, as_refused   and behind `check_table`
--   by_tests                        a writer's number: that of the table, and then the buffer's length
--   accepted_write, refused_write, too_short, long_enough   a file is such a text
use Rattle.std.specs.Prelude.{◌≡◌, refl, true, false, List, ◌∷◌, ◌++◌, ℕ, ◌<◌, ◌≤◌, ltb, length, drop, Result, Ok, Err}
use Rattle.std.proofs.Common.{sym, ◌∙◌, subst, arith, pow_mono, lt-ltb, le-ltb}
use Rattle.std.proofs.lemmas.List.Edits.{sets}
use Rattle.definitions.specs.Files.{Kind, file_of, writer_number}
use Rattle.definitions.specs.Refusals.{or_else, panel_word, modulus_word, buffer_word}
use Rattle.checks.specs.Words.{one_more_word, or_else_go, or_else_stop, refused_list, refused_value}
use Rattle.checks.specs.Accepted.{table_words, table_number, table_accepted}
use Rattle.checks.specs.Answers.{IsChecked, accepted, refused}
use Rattle.refusals.specs.Words.{word, word-not-zero}
use Rattle.refusals.specs.declared.Refusal.{Refusal}
use Rattle.refusals.specs.declared.Refusal.TheVariants.{Short}
use Rattle.residues.specs.declared.Modulus.{Modulus}
use Rattle.number_groups.specs.Stores.{sets_front}
use Rattle.table_writer.specs.Writing.{MostEntries, short_word, TextBy, WrittenBy}

-- ---- any text

module _ (text old : List ℕ) where
  -- a buffer that is too short, and one that is not
  pub text_short : {count : ℕ} → count ≡ length text → length old < count →
      TextBy text (buffer_word (length old) (length text)) old (Err Short) old
  text_short e h =
      let t : ltb (length old) (length text) ≡ true = lt-ltb (length old) (length text) (omega arith) in
      record { number_is = rw t; count_is = rw t; buffer_is = rw t }

  pub text_long : {count : ℕ} {last : List ℕ} → count ≡ length text → count ≤ length old → last ≡ sets old 0 text →
      TextBy text (buffer_word (length old) (length text)) old (Ok count) last
  text_long e h f =
      let t : ltb (length old) (length text) ≡ false = le-ltb (length old) (length text) (omega arith) in
      record { number_is = rw t; count_is = rw t e; buffer_is = rw t (f ∙ sets_front old text (omega arith)) }

  -- tests before it that are passed, and tests that are not
  module _ (k number : ℕ) (by : number ≡ or_else k (buffer_word (length old) (length text))) where
    pub text_accepted : k ≡ 0 → {w : Result ℕ Refusal} {buffer : List ℕ} →
        TextBy text (buffer_word (length old) (length text)) old w buffer → TextBy text number old w buffer
    text_accepted e {w} {buffer} h =
        subst (λ (j : ℕ). TextBy text j old w buffer) (sym (by ∙ or_else_go k (buffer_word (length old) (length text)) e)) h

    pub text_refused : {refusal : Refusal} → word refusal ≡ k → TextBy text number old (Err refusal) old
    text_refused {refusal} e =
        let d = word-not-zero refusal in
        let same : number ≡ word refusal = by ∙ or_else_stop k (buffer_word (length old) (length text)) (λ z. d (e ∙ z)) ∙ sym e in
        rw same (record {
          number_is = refl;
          count_is = refused_value (word refusal) (length text) d;
          buffer_is = refused_list (word refusal) (text ++ drop (length text) old) old d;
        })

-- ---- behind the tests of a table

module _ (n m : ℕ) (a : List ℕ) {r : Result Modulus Refusal} (tests : IsChecked m (table_number n m a) r) where
  pub few_entries : {modulus : _} → r ≡ Ok modulus → MostEntries (length a)
  few_entries e =
      let t = table_accepted n m a (accepted tests e) in
      omega (arith, t.1.size, pow_mono t.0.few)

  module _ (text old : List ℕ) {number : ℕ} (by : number ≡ or_else (table_number n m a) (buffer_word (length old) (length text))) where
    pub as_written : {modulus : _} → r ≡ Ok modulus → {w : Result ℕ Refusal} {buffer : List ℕ} →
        TextBy text (buffer_word (length old) (length text)) old w buffer → TextBy text number old w buffer
    as_written e h = text_accepted text old (table_number n m a) number by (accepted tests e) h

    pub as_refused : {refusal : Refusal} → r ≡ Err refusal → TextBy text number old (Err refusal) old
    as_refused e = text_refused text old (table_number n m a) number by (refused tests e)

-- ---- the file of a table

module _ (kind : Kind) (n m : ℕ) (a old : List ℕ) where
  pub by_tests : writer_number kind n m a (length old) ≡ or_else (table_number n m a) (short_word kind n m a (length old))
  unfolding writer_number
  by_tests = one_more_word (panel_word n ∷ modulus_word m ∷ table_words n m a) (short_word kind n m a (length old))

  pub accepted_write : table_number n m a ≡ 0 → {w : Result ℕ Refusal} {buffer : List ℕ} →
      WrittenBy kind n m a (short_word kind n m a (length old)) old w buffer → WrittenBy kind n m a (writer_number kind n m a (length old)) old w buffer
  accepted_write = text_accepted (file_of kind n m a) old (table_number n m a) (writer_number kind n m a (length old)) by_tests

  pub refused_write : {refusal : Refusal} → word refusal ≡ table_number n m a →
      WrittenBy kind n m a (writer_number kind n m a (length old)) old (Err refusal) old
  refused_write = text_refused (file_of kind n m a) old (table_number n m a) (writer_number kind n m a (length old)) by_tests

  pub too_short : {count : ℕ} → count ≡ length (file_of kind n m a) → length old < count →
      WrittenBy kind n m a (short_word kind n m a (length old)) old (Err Short) old
  too_short = text_short (file_of kind n m a) old

  pub long_enough : {count : ℕ} {last : List ℕ} → count ≡ length (file_of kind n m a) → count ≤ length old → last ≡ sets old 0 (file_of kind n m a) →
      WrittenBy kind n m a (short_word kind n m a (length old)) old (Ok count) last
  long_enough = text_long (file_of kind n m a) old
