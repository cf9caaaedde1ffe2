-- The steps of writing a full file: its length, its entries, the whole.
use mathlib.Core.Path.{◌≡◌, sym, ◌∙◌, ap}
use mathlib.Core.List.{List, [], ◌++◌, flat_map}
use Prim.Native.Nat.{ℕ, ◌+◌, ◌*◌, ◌<◌, ◌≤◌}
use native.Mathlib.Numerals.{add-one}
use native.Mathlib.Omega.{arith}
use lib.ListN.{length, drop, get_or, length-append, drop_of_length-le}
use lib.Seq.{sets, drop-cons, length-sets}
use Rattle.definitions.specs.Groups.{groups}
use Rattle.definitions.specs.Files.{full, file_of}
use Rattle.number_groups.specs.Stores.{sets_append}

-- the entries from a place on
abbrev pub entries_from : List ℕ → ℕ → List ℕ
entries_from a i = flat_map groups (drop i a)

module _ (a : List ℕ) (i : ℕ) where
  one_entry : i < length a → entries_from a i ≡ groups (get_or a i 0) ++ entries_from a (i + 1)
  unfolding flat_map
  one_entry h = rw (add-one i, drop-cons a i 0 h)

  no_entry : length a ≤ i → entries_from a i ≡ []
  unfolding flat_map
  no_entry h = rw (drop_of_length-le a h)

  entry_length : i < length a → length (entries_from a i) ≡ length (groups (get_or a i 0)) + length (entries_from a (i + 1))
  entry_length h = ap length (one_entry h) ∙ length-append (groups (get_or a i 0)) (entries_from a (i + 1))

-- ---- the length

-- so many entries are counted
pub record Counted (n m : ℕ) (a : List ℕ) (count i : ℕ) : Type 0 where
  pub few : count ≤ 10 + 5 * i
  pub inside : i ≤ length a
  pub counts : count + length (entries_from a i) ≡ length (file_of full n m a)

pub header_counted : (n m : ℕ) (a : List ℕ) {j k : ℕ} → (j ≡ length (groups n)) × (j ≤ 5) → (k ≡ length (groups m)) × (k ≤ 5) → Counted n m a (j + k) 0
unfolding file_of
header_counted n m a p q = record {
  few = omega (arith, p.1, q.1);
  inside = omega arith;
  counts = omega (arith, p.0, q.0, length-append (groups n) (groups m ++ flat_map groups a), length-append (groups m) (flat_map groups a));
}

module _ (n m : ℕ) (a : List ℕ) (count i : ℕ) (counted : Counted n m a count i) where
  pub entry_counted : {k : ℕ} → i < length a → (k ≡ length (groups (get_or a i 0))) × (k ≤ 5) → Counted n m a (count + k) (i + 1)
  entry_counted h p = record {
    few = omega (arith, p.1, counted.few);
    inside = omega arith;
    counts = omega (arith, p.0, counted.counts, entry_length a i h);
  }

  pub all_counted : length a ≤ i → count ≡ length (file_of full n m a)
  all_counted h = omega (arith, counted.counts, ap length (no_entry a i h))

-- ---- the entries

-- so many entries are written, and with the others the buffer is as it is to be
pub record EntriesLeft (a : List ℕ) (at : ℕ) (old buffer : List ℕ) (place i : ℕ) : Type 0 where
  pub as_long : length buffer ≡ length old
  pub ends : place + length (entries_from a i) ≡ at + length (flat_map groups a)
  pub gives : sets buffer place (entries_from a i) ≡ sets old at (flat_map groups a)

module _ (a : List ℕ) (at : ℕ) (old buffer : List ℕ) (place i : ℕ) (left : EntriesLeft a at old buffer place i) where
  pub room : i < length a → at + length (flat_map groups a) ≤ length old → place + length (groups (get_or a i 0)) ≤ length buffer
  room h l = omega (arith, left.as_long, left.ends, entry_length a i h)

  pub entry_written : {next : ℕ} {last : List ℕ} → i < length a → next ≡ place + length (groups (get_or a i 0)) → last ≡ sets buffer place (groups (get_or a i 0)) →
      EntriesLeft a at old last next (i + 1)
  entry_written {next} {last} h e f = record {
    as_long = ap length f ∙ length-sets buffer place (groups (get_or a i 0)) ∙ left.as_long;
    ends = omega (arith, e, left.ends, entry_length a i h);
    gives =
        rw (e, f)
        (sym (sets_append buffer place (groups (get_or a i 0)) (entries_from a (i + 1)))
        ∙ ap (λ (l : List ℕ). sets buffer place l) (sym (one_entry a i h)) ∙ left.gives);
  }

  pub entries_written : length a ≤ i → buffer ≡ sets old at (flat_map groups a)
  entries_written h = ap (λ (l : List ℕ). sets buffer place l) (sym (no_entry a i h)) ∙ left.gives

-- ---- the file

pub file_length : (n m : ℕ) (a : List ℕ) → length (file_of full n m a) ≡ length (groups n) + (length (groups m) + length (flat_map groups a))
unfolding file_of
file_length n m a = omega (arith, length-append (groups n) (groups m ++ flat_map groups a), length-append (groups m) (flat_map groups a))

module _ (n m : ℕ) (a old : List ℕ) where
  pub file_written : {second third : ℕ} {one two last : List ℕ} → second ≡ 0 + length (groups n) → one ≡ sets old 0 (groups n) →
      third ≡ second + length (groups m) → two ≡ sets one second (groups m) → last ≡ sets two third (flat_map groups a) →
      last ≡ sets old 0 (file_of full n m a)
  unfolding file_of
  file_written {second} {third} {one} {two} p f q g e =
      let behind : sets two third (flat_map groups a) ≡ sets one second (groups m ++ flat_map groups a) =
      rw (q, g) (sym (sets_append one second (groups m) (flat_map groups a))) in
      let all : sets one second (groups m ++ flat_map groups a) ≡ sets old 0 (groups n ++ (groups m ++ flat_map groups a)) =
      rw (p, f) (sym (sets_append old 0 (groups n) (groups m ++ flat_map groups a))) in
      e ∙ behind ∙ all
