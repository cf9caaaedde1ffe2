-- What `panelshow` prints is decided by the start of its input: a number has at most five groups, so a header, at most 256 entries
-- and one byte behind them lie within the first 1,291 bytes of a full file. In a sparse one header, count, 256 entries of two
-- numbers and the gap that leads beyond them lie within 2,580.
--   shown_start   the statement
use Rattle.std.specs.Prelude.{◌≡◌, refl, true, not, ◌&&◌, List, [], ◌∷◌, ◌++◌, ◌⊎◌, ℕ, zero, suc, ◌+◌, ◌-◌, ◌*◌, ◌^◌, ◌<◌, ◌≤◌, ltb, eqb, length, take, drop}
use Rattle.std.proofs.Common.{sym, ◌∙◌, ap, inl, inr, ⊎_elim, arith, take-append-drop, pow_mono, ltb-true}
use Rattle.std.proofs.Math.Dec.{eqb-suc-zero}
use Rattle.std.proofs.lemmas.Bool.{not-false}
use Rattle.definitions.specs.Limits.{most_shown}
use Rattle.definitions.specs.Outcomes.{Outcome, accepted, refused, and_then, unless}
use Rattle.definitions.specs.Refusals.{word_if, modulus_word}
use Rattle.definitions.specs.Groups.{Numeral, in_front, read_number}
use Rattle.definitions.specs.Files.{Kind, full, sparse, First, Header, Entries, Pair, first_of, read_header, read_entries, leads_on, counts}
use Rattle.definitions.specs.Files.{read_gap, read_value, read_pair, read_pairs, zeros, read_contents, read_body, tail_word}
use Rattle.definitions.specs.Show.{read_shown, shown, text_of}
use Rattle.theory.specs.Tests.{below_or, and_true_left, and_true_right, zero_is_not_one}
use Rattle.checks.specs.Words.{no_word}
use Rattle.number_groups.specs.Numbers.{reads_none, reads_last, reads_more, reads_word, in_front_lem}
use Rattle.table_header.specs.HeaderAnswers.{with_modulus}
use Rattle.table_header.specs.Words.{passed, passed_test}
use Rattle.table_header.specs.Headers.{header_few}
use Rattle.sparse_file.specs.PairLaws.{other_pairs}

-- ---- a number

-- the group and the number behind it, taken apart
record InFront (g : ℕ) (y x : Numeral) : Type 0 where
  some : 0 < y.value
  small : g + 128 * y.value < 2 ^ 32
  same : record { value = g + 128 * y.value; rest = y.rest } ≡ x

in_front_read : (g : ℕ) (y x : Numeral) → in_front g y ≡ accepted x → InFront g y x
in_front_read g y x e =
    let t = ltb 0 y.value && ltb (g + 128 * y.value) (2 ^ 32) in
    let w = passed_test (word_if (not t) 8) (accepted (record { value = g + 128 * y.value; rest = y.rest })) x e in
    let both : t ≡ true = not-false t (no_word (not t) 8 (λ z. omega arith) w.none) in
    record {
      some = ltb-true _ _ (and_true_left (ltb 0 y.value) (ltb (g + 128 * y.value) (2 ^ 32)) both);
      small = ltb-true _ _ (and_true_right (ltb 0 y.value) (ltb (g + 128 * y.value) (2 ^ 32)) both);
      same = let f = w.then in cc;
    }

-- a number with more groups
record MoreRead (b : ℕ) (bs : List ℕ) (x : Numeral) : Type 0 where
  behind : Numeral
  read : read_number bs ≡ accepted behind
  front : InFront (b - 128) behind x

more_read : (b : ℕ) (bs : List ℕ) (x : Numeral) → 128 ≤ b → read_number (b ∷ bs) ≡ accepted x → MoreRead b bs x
more_read b bs x l e =
    let p = passed (read_number bs) (in_front (b - 128)) x (sym (reads_more b bs l) ∙ e) in
    record { behind = p.value; read = p.first; front = in_front_read (b - 128) p.value x p.then }

last_read : (b : ℕ) (bs : List ℕ) (x : Numeral) → b < 128 → read_number (b ∷ bs) ≡ accepted x → record { value = b; rest = bs } ≡ x
last_read b bs x l e = let f = sym (reads_last b bs l) ∙ e in cc

none_read : (x : Numeral) → read_number [] ≡ accepted x → ⊥
none_read x e = let f = sym reads_none ∙ e in zero_is_not_one (cc)

more_reads : (b : ℕ) (bs : List ℕ) (y x : Numeral) (rest : List ℕ) → 128 ≤ b → InFront (b - 128) y x →
    read_number bs ≡ accepted (record { value = y.value; rest = rest }) → read_number (b ∷ bs) ≡ accepted (record { value = x.value; rest = rest })
more_reads b bs y x rest l f e =
    reads_more b bs l
    ∙ ap (λ (o : Outcome Numeral). and_then o (in_front (b - 128))) e
    ∙ in_front_lem (b - 128) (record { value = y.value; rest = rest }) f.some f.small
    ∙ ap (λ (v : ℕ). accepted (record { value = v; rest = rest })) (ap (λ (z : Numeral). z.value) f.same)

value_small : (bs : List ℕ) (x : Numeral) → read_number bs ≡ accepted x → x.value < 2 ^ 32
value_small [] x e = absurd (none_read x e)
value_small (b ∷ bs) x e = ⊎_elim
    (λ (l : b < 128). omega (arith, ap (λ (z : Numeral). z.value) (last_read b bs x l e)))
    (λ (l : 128 ≤ b). let m = more_read b bs x l e in omega (arith, m.front.small, ap (λ (z : Numeral). z.value) m.front.same))
    (below_or b 128)

-- more bytes behind a number change nothing
append_read : (cs ds : List ℕ) (x : Numeral) → read_number cs ≡ accepted x → read_number (cs ++ ds) ≡ accepted (record { value = x.value; rest = x.rest ++ ds })
append_read [] ds x e = absurd (none_read x e)
append_read (b ∷ cs) ds x e = ⊎_elim
    (λ (l : b < 128).
    reads_last b (cs ++ ds) l ∙ ap (λ (z : Numeral). accepted (record { value = z.value; rest = z.rest ++ ds })) (last_read b cs x l e))
    (λ (l : 128 ≤ b).
    let m = more_read b cs x l e in
    more_reads b (cs ++ ds) m.behind x (x.rest ++ ds) l m.front
    (append_read cs ds m.behind m.read
    ∙ ap (λ (z : Numeral). accepted (record { value = m.behind.value; rest = z.rest ++ ds })) m.front.same))
    (below_or b 128)

-- the first k bytes have the number too, and it takes at most j of them
record NumberCut (j k : ℕ) (bs : List ℕ) (x : Numeral) : Type 0 where
  left : ℕ
  enough : k ≤ left + j
  start : read_number (take k bs) ≡ accepted (record { value = x.value; rest = take left x.rest })

last_cut : (j k b : ℕ) (bs : List ℕ) (x : Numeral) → b < 128 → read_number (b ∷ bs) ≡ accepted x → NumberCut (suc j) (suc k) (b ∷ bs) x
last_cut j k b bs x l e = record {
  left = k;
  enough = omega arith;
  start = reads_last b (take k bs) l ∙ ap (λ (z : Numeral). accepted (record { value = z.value; rest = take k z.rest })) (last_read b bs x l e);
}

more_cut : (j k b : ℕ) (bs : List ℕ) (x : Numeral) → 128 ≤ b → (m : MoreRead b bs x) → NumberCut j k bs m.behind → NumberCut (suc j) (suc k) (b ∷ bs) x
more_cut j k b bs x l m c = record {
  left = c.left;
  enough = omega (arith, c.enough);
  start =
      more_reads b (take k bs) m.behind x (take c.left x.rest) l m.front
      (c.start ∙ ap (λ (z : Numeral). accepted (record { value = m.behind.value; rest = take c.left z.rest })) m.front.same);
}

-- a number above 127 has more groups
large : (b : ℕ) (bs : List ℕ) (x : Numeral) (m : MoreRead b bs x) → 128 * m.behind.value ≤ x.value × (0 < m.behind.value)
large b bs x m = (omega (arith, ap (λ (z : Numeral). z.value) m.front.same), m.front.some)

number_cut : (j k : ℕ) (bs : List ℕ) (x : Numeral) → read_number bs ≡ accepted x → x.value < 128 ^ suc j → suc j ≤ k → NumberCut (suc j) k bs x
number_cut j zero bs x e h l = absurd (omega arith)
number_cut j (suc k) [] x e h l = absurd (none_read x e)
number_cut zero (suc k) (b ∷ bs) x e h l = ⊎_elim
    (λ (s : b < 128). last_cut zero k b bs x s e)
    (λ (s : 128 ≤ b). let m = more_read b bs x s e in let g = large b bs x m in absurd (omega arith))
    (below_or b 128)
number_cut (suc j) (suc k) (b ∷ bs) x e h l = ⊎_elim
    (λ (s : b < 128). last_cut (suc j) k b bs x s e)
    (λ (s : 128 ≤ b).
    let m = more_read b bs x s e in
    let g = large b bs x m in
    more_cut (suc j) k b bs x s m (number_cut j k bs m.behind m.read (omega arith) (omega arith)))
    (below_or b 128)

-- ---- what reading gives of the first k bytes and of all: the same value, at most j bytes read; or the same outcome

record Cut {X : Type 0} (cut : ℕ → X → X) (j k : ℕ) (o p : Outcome X) : Type 0 where
  value : X
  left : ℕ
  enough : k ≤ left + j
  start : o ≡ accepted (cut left value)
  whole : p ≡ accepted value

abbrev Same : {X : Type 0} (cut : ℕ → X → X) (j k : ℕ) (o p : Outcome X) → Type 0
Same cut j k o p = Cut cut j k o p ⊎ (o ≡ p)

module _ {X Y : Type 0} {cut : ℕ → X → X} {j k : ℕ} {o p : Outcome X} (f : X → Outcome Y) where
  -- a step behind it
  then_same : {to : ℕ → Y → Y} {i l : ℕ} → Same cut j k o p → ((x : X) (left : ℕ) → k ≤ left + j → Same to i l (f (cut left x)) (f x)) →
      Same to i l (and_then o f) (and_then p f)
  then_same (inl c) g = rw (c.start, c.whole) (g c.value c.left c.enough)
  then_same (inr e) g = inr (ap (λ (q : Outcome X). and_then q f) e)

  then_equal : Same cut j k o p → ((x : X) (left : ℕ) → k ≤ left + j → f (cut left x) ≡ f x) → and_then o f ≡ and_then p f
  then_equal (inl c) g = rw (c.start, c.whole) (g c.value c.left c.enough)
  then_equal (inr e) g = ap (λ (q : Outcome X). and_then q f) e

unless_same : {X : Type 0} {cut : ℕ → X → X} {j k : ℕ} {o p : Outcome X} (w : ℕ) → Same cut j k o p → Same cut j k (unless w o) (unless w p)
unless_same zero s = s
unless_same (suc w) s = inr refl

abbrev cut_number : ℕ → Numeral → Numeral
cut_number left x = record { value = x.value; rest = take left x.rest }

abbrev cut_pair : ℕ → Pair → Pair
cut_pair left p = record { gap = p.gap; value = p.value; rest = take left p.rest }

abbrev cut_header : ℕ → Header → Header
cut_header left h = record { kind = h.kind; controls = h.controls; modulus = h.modulus; rest = take left h.rest }

abbrev cut_entries : ℕ → Entries → Entries
cut_entries left x = record { entries = x.entries; rest = take left x.rest }

-- ---- reading

number_by : (k : ℕ) (bs : List ℕ) (o p : Outcome Numeral) → read_number (take k bs) ≡ o → read_number bs ≡ p → 5 ≤ k → Same cut_number 5 k o p
number_by k bs o (accepted x) d e h =
    let c = number_cut 4 k bs x e (omega (arith, value_small bs x e)) h in
    inl (record { value = x; left = c.left; enough = c.enough; start = sym d ∙ c.start; whole = refl })
number_by k bs (accepted y) (refused w) d e h =
    let all : read_number bs ≡ accepted (record { value = y.value; rest = y.rest ++ drop k bs }) =
    ap read_number (sym (take-append-drop k bs)) ∙ append_read (take k bs) (drop k bs) y d in
    let f = sym e ∙ all in
    absurd (zero_is_not_one (cc))
number_by k bs (refused v) (refused w) d e h = inr (ap refused (reads_word (take k bs) v d ∙ sym (reads_word bs w e)))

number_start : (k : ℕ) (bs : List ℕ) → 5 ≤ k → Same cut_number 5 k (read_number (take k bs)) (read_number bs)
number_start k bs h = number_by k bs (read_number (take k bs)) (read_number bs) refl refl h

header_start : (most k : ℕ) (bs : List ℕ) → 10 ≤ k → Same cut_header 10 k (read_header most (take k bs)) (read_header most bs)
unfolding read_header
header_start most k bs h =
    then_same _ (number_start k bs (omega arith)) (λ v left l.
    said (first_of most v.value) v left l)
  where
    said : (o : Outcome First) (v : Numeral) (left : ℕ) → k ≤ left + 5 →
        Same cut_header 10 k
        (and_then o (λ f. and_then (read_number (take left v.rest)) (with_modulus f)))
        (and_then o (λ f. and_then (read_number v.rest) (with_modulus f)))
    said (refused w) v left l = inr refl
    said (accepted f) v left l =
        then_same _ (number_start left v.rest (omega arith)) (λ second rest m.
        unless_same (modulus_word second.value) (inl (record {
          value = record { kind = f.kind; controls = f.controls; modulus = second.value; rest = second.rest };
          left = rest;
          enough = omega arith;
          start = refl;
          whole = refl;
        })))

entries_start : (c m k : ℕ) (bs : List ℕ) → 5 * c ≤ k → Same cut_entries (5 * c) k (read_entries c m (take k bs)) (read_entries c m bs)
unfolding read_entries
entries_start zero m k bs h = inl (record { value = record { entries = []; rest = bs }; left = k; enough = omega arith; start = refl; whole = refl })
entries_start (suc c) m k bs h =
    then_same _ (number_start k bs (omega arith)) (λ x left l.
    unless_same (word_if (not (ltb x.value m)) 5)
    (then_same _ (entries_start c m left x.rest (omega arith)) (λ y rest l2.
    inl (record {
      value = record { entries = x.value ∷ y.entries; rest = y.rest };
      left = rest;
      enough = omega arith;
      start = refl;
      whole = refl;
    }))))

-- ---- sparse entries

gap_start : (left k : ℕ) (bs : List ℕ) → 5 ≤ k → Same cut_number 5 k (read_gap left (take k bs)) (read_gap left bs)
unfolding read_gap
gap_start left k bs h =
    then_same (leads_on left) (number_start k bs h) (λ x rest l.
    unless_same (word_if (not (ltb x.value left)) 15) (inl (record { value = x; left = rest; enough = l; start = refl; whole = refl })))

value_start : (m k : ℕ) (bs : List ℕ) → 5 ≤ k → Same cut_number 5 k (read_value m (take k bs)) (read_value m bs)
unfolding read_value
value_start m k bs h =
    then_same (counts m) (number_start k bs h) (λ x rest l.
    unless_same (word_if (eqb x.value 0) 16)
    (unless_same (word_if (not (ltb x.value m)) 5) (inl (record { value = x; left = rest; enough = l; start = refl; whole = refl }))))

pair_start : (left m k : ℕ) (bs : List ℕ) → 10 ≤ k → Same cut_pair 10 k (read_pair left m (take k bs)) (read_pair left m bs)
unfolding read_pair
pair_start left m k bs h =
    then_same _ (gap_start left k bs (omega arith)) (λ gap rest l.
    then_same _ (value_start m rest gap.rest (omega arith)) (λ x last l2.
    inl (record {
      value = record { gap = gap.value; value = x.value; rest = x.rest };
      left = last;
      enough = omega arith;
      start = refl;
      whole = refl;
    })))

-- no code is left: a gap is read, and nothing behind it
no_code : (bs : List ℕ) (gap : Numeral) → read_gap 0 bs ≡ accepted gap → ⊥
unfolding read_gap
no_code bs gap e =
    let one = passed (read_number bs) (leads_on 0) gap e in
    let two = passed_test (word_if (not (ltb one.value.value 0)) 15) (accepted one.value) gap one.then in
    let t : ltb one.value.value 0 ≡ true = not-false (ltb one.value.value 0) (no_word (not (ltb one.value.value 0)) 15 (λ z. omega arith) two.none) in
    omega (arith, ltb-true one.value.value 0 t)

abbrev with_gap : ℕ → Numeral → Outcome Pair
with_gap m gap = and_then (read_value m gap.rest) (λ x. accepted (record { gap = gap.value; value = x.value; rest = x.rest }))

last_gap : (m k : ℕ) (bs : List ℕ) → 5 ≤ k → read_pair 0 m (take k bs) ≡ read_pair 0 m bs
unfolding read_pair
last_gap m k bs h = ⊎_elim
    (λ (c : Cut cut_number 5 k (read_gap 0 (take k bs)) (read_gap 0 bs)). absurd (no_code bs c.value c.whole))
    (λ (e : read_gap 0 (take k bs) ≡ read_gap 0 bs). ap (λ (o : Outcome Numeral). and_then o (with_gap m)) e)
    (gap_start 0 k bs h)

pairs_start : (c left m k : ℕ) (bs : List ℕ) → 10 * left + 5 ≤ k → Same cut_entries (10 * left) k (read_pairs c left m (take k bs)) (read_pairs c left m bs)
unfolding read_pairs
pairs_start zero left m k bs h = inl (record { value = record { entries = zeros left; rest = bs }; left = k; enough = omega arith; start = refl; whole = refl })
pairs_start (suc c) zero m k bs h = inr (ap (λ (o : Outcome Pair). and_then o (other_pairs c 0 m)) (last_gap m k bs (omega arith)))
pairs_start (suc c) (suc l) m k bs h =
    then_same _ (pair_start (suc l) m k bs (omega arith)) (λ p rest d.
    then_same _ (pairs_start c (suc l - (p.gap + 1)) m rest p.rest (omega arith)) (λ x last d2.
    inl (record {
      value = record { entries = zeros p.gap ++ (p.value ∷ x.entries); rest = x.rest };
      left = last;
      enough = omega arith;
      start = refl;
      whole = refl;
    })))

-- ---- the entries of either kind

more_room : {X : Type 0} {cut : ℕ → X → X} {i j k : ℕ} {o p : Outcome X} → i ≤ j → Same cut i k o p → Same cut j k o p
more_room h (inl c) = inl (record { value = c.value; left = c.left; enough = omega (arith, c.enough); start = c.start; whole = c.whole })
more_room h (inr e) = inr e

contents_start : (kind : Kind) (long m k : ℕ) (bs : List ℕ) → 10 * long + 10 ≤ k →
    Same cut_entries (10 * long + 5) k (read_contents kind long m (take k bs)) (read_contents kind long m bs)
contents_start full long m k bs h = more_room (omega arith) (entries_start long m k bs (omega arith))
contents_start sparse long m k bs h =
    then_same _ (number_start k bs (omega arith)) (λ count rest l.
    then_more (pairs_start count.value long m rest count.rest (omega arith)) l)
  where
    then_more : {rest : ℕ} {o p : Outcome Entries} → Same cut_entries (10 * long) rest o p → k ≤ rest + 5 → Same cut_entries (10 * long + 5) k o p
    then_more (inl c) l = inl (record { value = c.value; left = c.left; enough = omega (arith, c.enough); start = c.start; whole = c.whole })
    then_more (inr e) l = inr e

-- ---- the end

tail_start : (left : ℕ) (rest : List ℕ) → 0 < left → tail_word (take left rest) ≡ tail_word rest
tail_start zero rest h = absurd (omega arith)
tail_start (suc left) [] h = refl
tail_start (suc left) (x ∷ rest) h = rw (eqb-suc-zero (length (take left rest)), eqb-suc-zero (length rest))

body_start : (h : Header) (left : ℕ) → 10 * 2 ^ h.controls + 10 ≤ left → read_body (cut_header left h) ≡ read_body h
body_start h left l =
    then_equal _ (contents_start h.kind (2 ^ h.controls) h.modulus left h.rest l) (λ x rest m.
    ap (λ (w : ℕ). unless w (accepted (record { kind = h.kind; controls = h.controls; modulus = h.modulus; entries = x.entries })))
    (tail_start rest x.rest (omega arith)))

-- so many bytes decide what is printed
pub shown_start : (k : ℕ) (bytes : List ℕ) → 2580 ≤ k → shown (take k bytes) ≡ shown bytes
unfolding read_shown
shown_start k bytes l =
    ap text_of
    (by_header (read_header most_shown (take k bytes)) (read_header most_shown bytes) (header_start most_shown k bytes (omega arith))
    (λ h e. header_few most_shown bytes h e))
  where
    by_header : (o p : Outcome Header) → Same cut_header 10 k o p → ((h : Header) → p ≡ accepted h → h.controls ≤ most_shown) → and_then o read_body ≡ and_then p read_body
    by_header o p (inl c) few =
        rw (c.start, c.whole) (body_start c.value c.left (omega (arith, c.enough, pow_mono (few c.value c.whole))))
    by_header o p (inr e) few = ap (λ (q : Outcome Header). and_then q read_body) e
