-- The steps of writing the column of a set: blanks, and then labels over them.
use mathlib.Core.Path.{◌≡◌, refl, sym, ◌∙◌, ap, subst}
use mathlib.Core.Bool.{Bool, true, false, cond}
use mathlib.Core.List.{List, [], ◌∷◌, ◌++◌, map, append-nil, append_assoc, map-append}
use mathlib.Core.Logic.{⊎_elim, ◌≢◌}
use Prim.Native.Nat.{ℕ, zero, suc, ◌+◌, ◌*◌, ◌-◌, ◌/◌, ◌%◌, ◌^◌, ◌<◌, ◌≤◌}
use native.Mathlib.Numerals.{add-one}
use native.Mathlib.Nat.{div-eq_of_lt, mul_assoc, mul_comm, pow-suc}
use native.Mathlib.Omega.{arith}
use lib.Bits.{bit_and}
use lib.Dec.{eqb}
use lib.ListN.{length, set, length-append, length-replicate, replicate-append-replicate}
use lib.Pow.{pow_mono, pow-add, shl-shr, shr_le, shr-shr}
use borrow.Author.Tests.{eq-eqb, ne_eqb}
use Rattle.definitions.specs.Limits.{most_controls, longest_label}
use Rattle.definitions.specs.Sums.{tabulate, keep, at}
use Rattle.definitions.specs.Sets.{size}
use Rattle.definitions.specs.Sheets.{label_of}
use Rattle.definitions.specs.Pages.{blanks, filled, has, controls_of, joined, labelled}
use Rattle.theory.specs.Tests.{below_or, zero_is_not_one}
use Rattle.theory.specs.Lists.{length-tabulate}
use Rattle.text_pieces.specs.Text.{Writes}
use Rattle.text_pieces.specs.TextLaws.{writes_same, writes_one, writes_inside, writes_again, writes_there, writes_length}
use Rattle.page_theory.specs.Codes.{keep_snoc, keep_few}
use Rattle.page_theory.specs.Widths.{length-filled}
use Rattle.label_theory.specs.Labels.{GoodLabels}
use Rattle.label_theory.specs.Columns.{AllBelow, kept_below, labelled_few}
use Rattle.label_sheet.specs.declared.labels.Label.{Label}
use Rattle.label_sheet.specs.LabelArrays.{HasLabel, Ready, labels_in}
use Rattle.page_text.specs.PageParts.{Room}
use Rattle.label_column.proofs.ControlSteps.{without_lowest, size-without}
use Rattle.label_column.specs.Columns.{Lowest, joint}

-- ---- the labels of the controls below i

unfoldable pub parts_to : List (List ℕ) → ℕ → ℕ → List (List ℕ)
parts_to ls S i = map (label_of ls) (keep (has S) (tabulate i (λ j. j)))

map-cond : (f : ℕ → List ℕ) (t : Bool) (x : ℕ) → map f (cond t (x ∷ []) []) ≡ cond t (f x ∷ []) []
map-cond f true x = refl
map-cond f false x = refl

parts_step : (ls : List (List ℕ)) (S i : ℕ) → parts_to ls S (suc i) ≡ parts_to ls S i ++ cond (has S i) (label_of ls i ∷ []) []
unfolding parts_to tabulate
parts_step ls S i =
    ap (map (label_of ls)) (keep_snoc (has S) (tabulate i (λ j. j)) i)
    ∙ map-append (label_of ls) (keep (has S) (tabulate i (λ j. j))) (cond (has S i) (i ∷ []) [])
    ∙ ap (λ (l : List (List ℕ)). parts_to ls S i ++ l) (map-cond (label_of ls) (has S i) i)

parts_skip : (ls : List (List ℕ)) (S i k : ℕ) → ((j : ℕ) → j < k → has S (i + j) ≡ false) → parts_to ls S (i + k) ≡ parts_to ls S i
parts_skip ls S i zero h = ap (parts_to ls S) (let e : i + 0 ≡ i = omega arith in e)
parts_skip ls S i (suc k) h =
    ap (parts_to ls S) (let e : i + suc k ≡ suc (i + k) = omega arith in e)
    ∙ parts_step ls S (i + k)
    ∙ ap (λ (b : Bool). parts_to ls S (i + k) ++ cond b (label_of ls (i + k) ∷ []) []) (h k (omega arith))
    ∙ append-nil (parts_to ls S (i + k))
    ∙ parts_skip ls S i k (λ j l. h j (omega arith))

parts_none : (ls : List (List ℕ)) (S : ℕ) → parts_to ls S 0 ≡ []
unfolding parts_to tabulate keep
parts_none ls S = refl

-- ---- labels one after the other

-- each with a + behind it
unfoldable pub marked : List (List ℕ) → List ℕ
marked [] = []
marked (l ∷ ls) = l ++ (43 ∷ marked ls)

-- as they stand in the column while controls are left, and when none is
abbrev pub linked : ℕ → List (List ℕ) → List ℕ
linked rest ls = cond (eqb rest 0) (joined ls) (marked ls)

marked_more : (ls : List (List ℕ)) (x : List ℕ) → marked (ls ++ (x ∷ [])) ≡ (marked ls ++ x) ++ (43 ∷ [])
unfolding marked
marked_more [] x = refl
marked_more (l ∷ ls) x =
    ap (λ (t : List ℕ). l ++ (43 ∷ t)) (marked_more ls x)
    ∙ sym (ap (λ (t : List ℕ). t ++ (43 ∷ [])) (append_assoc l (43 ∷ marked ls) x) ∙ append_assoc l (43 ∷ (marked ls ++ x)) (43 ∷ []))

joined_more : (ls : List (List ℕ)) (x : List ℕ) → joined (ls ++ (x ∷ [])) ≡ marked ls ++ x
unfolding joined marked
joined_more [] x = refl
joined_more (l ∷ []) x = sym (append_assoc l (43 ∷ []) x)
joined_more (l ∷ k ∷ ls) x =
    ap (λ (t : List ℕ). l ++ (43 ∷ t)) (joined_more (k ∷ ls) x) ∙ sym (append_assoc l (43 ∷ marked (k ∷ ls)) x)

linked_more : (rest : ℕ) (ls : List (List ℕ)) (x : List ℕ) → linked rest (ls ++ (x ∷ [])) ≡ (marked ls ++ x) ++ joint rest
linked_more rest ls x = by (eqb rest 0)
  where
    by : (b : Bool) → cond b (joined (ls ++ (x ∷ []))) (marked (ls ++ (x ∷ []))) ≡ (marked ls ++ x) ++ cond b [] (43 ∷ [])
    by true = joined_more ls x ∙ sym (append-nil (marked ls ++ x))
    by false = marked_more ls x

joint_most : (rest : ℕ) → length (joint rest) ≤ 1
joint_most rest = by (eqb rest 0)
  where
    by : (b : Bool) → length {A = ℕ} (cond b [] (43 ∷ [])) ≤ 1
    by true = omega arith
    by false = omega arith

linked_none : (rest : ℕ) → linked rest [] ≡ []
unfolding joined marked
linked_none rest = by (eqb rest 0)
  where
    by : (b : Bool) → cond b (joined []) (marked []) ≡ []
    by true = refl
    by false = refl

marked_few : (ls : List (List ℕ)) → GoodLabels ls → (cs : List ℕ) → AllBelow most_controls cs →
    length (marked (map (label_of ls) cs)) ≤ 9 * length cs
unfolding marked
marked_few ls good [] b = omega arith
marked_few ls good (c ∷ cs) b =
    omega (arith, length-append (label_of ls c) (43 ∷ marked (map (label_of ls) cs)), (good.each c b.0).short, marked_few ls good cs b.1)

-- ---- a piece over the blanks behind a text

module _ (w : ℕ) (text l : List ℕ) (k : ℕ) {piece : List ℕ} (is : piece ≡ l ++ blanks k) where
  module _ (m : ℕ) (all : length text + length piece + m ≡ w) where
    in_two : filled w text ≡ text ++ (blanks (length piece) ++ blanks m)
    unfolding filled
    in_two =
        let e : w - length text ≡ length piece + m = omega arith in
        ap (λ (j : ℕ). text ++ blanks j) e ∙ ap (λ (t : List ℕ). text ++ t) (sym (replicate-append-replicate (length piece) m 32))

    longer : text ++ (piece ++ blanks m) ≡ filled w (text ++ l)
    unfolding filled
    longer =
        let long : length piece ≡ length l + k = ap length is ∙ length-append l (blanks k) ∙ ap (λ (j : ℕ). length l + j) (length-replicate k 32) in
        let e : k + m ≡ w - length (text ++ l) = omega (arith, length-append text l) in
        ap (λ (t : List ℕ). text ++ (t ++ blanks m)) is
        ∙ ap (λ (t : List ℕ). text ++ t) (append_assoc l (blanks k) (blanks m))
        ∙ sym (append_assoc text l (blanks k ++ blanks m))
        ∙ ap (λ (t : List ℕ). (text ++ l) ++ t) (replicate-append-replicate k m 32)
        ∙ ap (λ (j : ℕ). (text ++ l) ++ blanks j) e

  filled_on : length text + length piece ≤ w → {old mid last : List ℕ} {at place r end : ℕ} → place ≡ at + length text →
      Writes old at (filled w text) end mid → Writes mid place piece r last → Writes old at (filled w (text ++ l)) end last
  filled_on room e v p =
      let m = w - length text - length piece in
      let all : length text + length piece + m ≡ w = omega arith in
      writes_same (longer m all)
      (writes_inside text (blanks (length piece)) piece (blanks m) e (length-replicate (length piece) 32) (writes_same (in_two m all) v) p)

name_filled : (l : List ℕ) → filled longest_label l ≡ l ++ blanks (longest_label - length l)
unfolding filled
name_filled l = refl

-- ---- the column

-- blanks, up to where the column ends
pub blank_column : (at : ℕ) {old mid : List ℕ} {end : ℕ} → end ≡ at + 143 → Writes old at (blanks (at + 143 - at)) end mid →
    Writes old at (blanks 143) (at + 143) mid
blank_column at {old} {mid} ends w =
    let wide : at + 143 - at ≡ 143 = omega arith in
    subst (λ (k : ℕ). Writes old at (blanks 143) k mid) ends (writes_same (ap blanks wide) w)

pub column_room : {S first : ℕ} {old text blank : List ℕ} {end : ℕ} → Room S 143 first old → Writes old first text end blank → first + 143 ≤ length blank
column_room r w = omega (arith, r.room, writes_length w)

nothing_yet : filled 143 [] ≡ blanks 143
unfolding filled
nothing_yet = refl

pub no_label : (ls : List (List ℕ)) (S at : ℕ) {old mid : List ℕ} → S ≡ 0 → at < length mid → Writes old at (blanks 143) (at + 143) mid →
    Writes old at (filled 143 (labelled ls S)) (at + 143) (set mid at 45)
unfolding labelled
no_label ls S at {mid = mid} e h w =
    rw (eq-eqb S 0 e)
    (filled_on 143 [] (45 ∷ []) 0 refl (omega arith) (let here : at ≡ at + 0 = omega arith in here)
    (writes_same (sym nothing_yet) w) (writes_one mid at 45 h))

-- the labels of the controls below one stand in the column, and blanks behind them; the controls from that one on are left
pub record ColumnSoFar (S : ℕ) (array : List Label) (first : ℕ) (old out : List ℕ) (rest place count : ℕ) : Type 0 where
  pub control : ℕ
  pub most : control ≤ most_controls
  pub rest_is : rest ≡ S / 2 ^ control * 2 ^ control
  pub counted : count + size rest ≡ size S
  pub place_is : place ≡ first + length (linked rest (parts_to (labels_in array) S control))
  pub writes : Writes old first (filled 143 (linked rest (parts_to (labels_in array) S control))) (first + 143) out

-- the blanks are there already
pub column_start : (S : ℕ) (array : List Label) (first : ℕ) {old blank : List ℕ} → Writes old first (blanks 143) (first + 143) blank →
    ColumnSoFar S array first blank blank S first 0
column_start S array first w =
    let none : linked S (parts_to (labels_in array) S 0) ≡ [] = ap (linked S) (parts_none (labels_in array) S) ∙ linked_none S in
    record {
      control = 0;
      most = omega arith;
      rest_is = omega arith;
      counted = omega arith;
      place_is = omega (arith, ap length none);
      writes = writes_same (sym (ap (filled 143) none ∙ nothing_yet)) (writes_there w);
    }

module _ {S : ℕ} {array : List Label} {first : ℕ} {old out : List ℕ} {rest place count : ℕ}
    (s : ColumnSoFar S array first old out rest place count) (ready : Ready array) (small : S < 2 ^ most_controls) where
  abbrev ls : List (List ℕ)
  ls = labels_in array

  abbrev done : List (List ℕ)
  done = parts_to ls S s.control

  -- the controls that are left are those of S from the next one on
  high : (j : ℕ) → s.control ≤ j → rest / 2 ^ j ≡ S / 2 ^ j
  high j h =
      let c = s.control in
      let e : c + (j - c) ≡ j = omega arith in
      ap (λ (k : ℕ). rest / 2 ^ k) (sym e) ∙ sym (shr-shr rest c (j - c))
      ∙ ap (λ (x : ℕ). x / 2 ^ (j - c)) (ap (λ (x : ℕ). x / 2 ^ c) s.rest_is ∙ shl-shr (S / 2 ^ c) c)
      ∙ shr-shr S c (j - c) ∙ ap (λ (k : ℕ). S / 2 ^ k) e

  low : (j : ℕ) → j < s.control → rest / 2 ^ j % 2 ≡ 0
  low j h =
      let c = s.control in
      let q = S / 2 ^ c * 2 ^ (c - (j + 1)) in
      let e : c ≡ c - (j + 1) + suc j = omega arith in
      let p : rest ≡ q * 2 * 2 ^ j =
      s.rest_is ∙ ap (λ (k : ℕ). S / 2 ^ c * 2 ^ k) e ∙ ap (λ (x : ℕ). S / 2 ^ c * x) (pow-add 2 (c - (j + 1)) (suc j))
      ∙ sym (mul_assoc (S / 2 ^ c) (2 ^ (c - (j + 1))) (2 ^ suc j))
      ∙ ap (λ (x : ℕ). q * x) (pow-suc 2 j ∙ mul_comm (2 ^ j) 2) ∙ sym (mul_assoc q 2 (2 ^ j)) in
      ap (λ (x : ℕ). x % 2) (ap (λ (x : ℕ). x / 2 ^ j) p ∙ shl-shr (q * 2) j) ∙ (let z : q * 2 % 2 ≡ 0 = omega arith in z)

  module _ (some : 0 < rest) {i : ℕ} (l : Lowest rest i) where
    behind : s.control ≤ i
    behind = ⊎_elim
        (λ (h : i < s.control). absurd (zero_is_not_one (sym (low i h) ∙ l.bit)))
        (λ (h : s.control ≤ i). h)
        (below_or i s.control)

    next_bit : S / 2 ^ i % 2 ≡ 1
    next_bit = ap (λ (x : ℕ). x % 2) (sym (high i behind)) ∙ l.bit

    -- the codes of the panel have no control from 16 on
    below_most : (j : ℕ) → (S / 2 ^ j ≡ 0 → ⊥) → j < most_controls
    below_most j d = ⊎_elim
        (λ (h : j < most_controls). h)
        (λ (h : most_controls ≤ j).
        let large : 2 ^ most_controls ≤ 2 ^ j = pow_mono {j = j} h in
        absurd (d (div-eq_of_lt (omega arith))))
        (below_or j most_controls)

    pub next_below : i < most_controls
    next_below = below_most i (λ (e : S / 2 ^ i ≡ 0). omega (arith, next_bit))

    more_parts : parts_to ls S (i + 1) ≡ done ++ (label_of ls i ∷ [])
    more_parts =
        let c = s.control in
        let e : c + (i - c) ≡ i = omega (arith, behind) in
        let same : parts_to ls S i ≡ done =
        ap (parts_to ls S) (sym e) ∙ parts_skip ls S c (i - c) (λ j h.
        ne_eqb (S / 2 ^ (c + j) % 2) 1 (λ (f : S / 2 ^ (c + j) % 2 ≡ 1). omega (arith, l.none_below (c + j) (omega arith), ap (λ (x : ℕ). x % 2) (high (c + j) (omega arith))))) in
        ap (parts_to ls S) (add-one i) ∙ parts_step ls S i
        ∙ ap (λ (b : Bool). parts_to ls S i ++ cond b (label_of ls i ∷ []) []) (eq-eqb (S / 2 ^ i % 2) 1 next_bit)
        ∙ ap (λ (t : List (List ℕ)). t ++ (label_of ls i ∷ [])) same

    -- nine bytes at most for each control before this one
    before_few : length (marked done) ≤ 9 * i
    unfolding parts_to
    before_few =
        omega (
          arith,
          marked_few ls ready.good (keep (has S) (tabulate s.control (λ j. j))) (kept_below (has S) s.control s.most),
          keep_few (has S) (tabulate s.control (λ j. j)),
          length-tabulate s.control (λ j. j),
          behind,
        )

    text_is : linked rest done ≡ marked done
    text_is = rw (ne_eqb rest 0 (λ (e : rest ≡ 0). omega arith))

    place_at : place ≡ first + length (marked done)
    place_at = s.place_is ∙ ap (λ (t : List ℕ). first + length t) text_is

    -- the controls that are left then
    rest_next : bit_and rest (rest - 1) ≡ S / 2 ^ (i + 1) * 2 ^ (i + 1)
    rest_next = without_lowest i rest some l ∙ ap (λ (x : ℕ). x * 2 ^ (i + 1)) (high (i + 1) (omega (arith, behind)))

    label_short : length (label_of ls i) ≤ longest_label
    label_short = (ready.good.each i next_below).short

    joint_few : length (marked done) + length (label_of ls i) + length (joint (bit_and rest (rest - 1))) ≤ 143
    joint_few = by (bit_and rest (rest - 1)) rest_next
      where
        by : (k : ℕ) → k ≡ S / 2 ^ (i + 1) * 2 ^ (i + 1) → length (marked done) + length (label_of ls i) + length (joint k) ≤ 143
        by zero e = omega (arith, before_few, next_below, label_short)
        by (suc k) e =
            let more = below_most (i + 1) (λ (z : S / 2 ^ (i + 1) ≡ 0). omega (arith, ap (λ (x : ℕ). x * 2 ^ (i + 1)) z)) in
            omega (arith, before_few, more, label_short, joint_most (suc k))

    module _ (room : first + 143 ≤ length old) {label : Label} (kept : HasLabel label (label_of ls i)) where
      eight : length label.name ≡ longest_label
      eight = ap length kept.name_is ∙ length-filled longest_label (label_of ls i) label_short

      pub name_room : place + length label.name ≤ length out
      name_room = omega (arith, place_at, before_few, next_below, writes_length s.writes, eight)

      module _ {end : ℕ} {mid : List ℕ} (w : Writes out place label.name end mid) where
        pub joint_fits : place + label.length + length (joint (bit_and rest (rest - 1))) ≤ length mid
        joint_fits = omega (arith, place_at, joint_few, kept.length_is, writes_length w, writes_length s.writes)

        bytes : label.name ≡ label_of ls i ++ blanks (longest_label - length (label_of ls i))
        bytes = kept.name_is ∙ name_filled (label_of ls i)

        with_name : Writes old first (filled 143 (marked done ++ label_of ls i)) (first + 143) mid
        with_name =
            filled_on 143 (marked done) (label_of ls i) (longest_label - length (label_of ls i)) bytes (omega (arith, before_few, next_below, eight)) place_at
            (writes_same (ap (filled 143) text_is) s.writes) w

        pub column_more : {next : ℕ} {last : List ℕ} → Writes mid (place + label.length) (joint (bit_and rest (rest - 1))) next last →
            ColumnSoFar S array first old last (bit_and rest (rest - 1)) next (count + 1)
        column_more j =
            let text : linked (bit_and rest (rest - 1)) (parts_to ls S (i + 1)) ≡ (marked done ++ label_of ls i) ++ joint (bit_and rest (rest - 1)) =
            ap (linked (bit_and rest (rest - 1))) more_parts ∙ linked_more (bit_and rest (rest - 1)) done (label_of ls i) in
            let both = length-append (marked done) (label_of ls i) in
            record {
              control = i + 1;
              most = omega (arith, next_below);
              rest_is = rest_next;
              counted = omega (arith, s.counted, size-without i rest l, ap size (without_lowest i rest some l));
              place_is =
                  omega (arith, place_at, j.next_is, kept.length_is, ap length text, length-append (marked done ++ label_of ls i) (joint (bit_and rest (rest - 1))));
              writes =
                  writes_same (sym (ap (filled 143) text))
                  (filled_on 143 (marked done ++ label_of ls i) (joint (bit_and rest (rest - 1))) 0 (sym (append-nil (joint (bit_and rest (rest - 1)))))
                  (omega (arith, joint_few)) (omega (arith, place_at, kept.length_is)) with_name j);
            }

  module _ (none : rest ≤ 0) where
    bit_none : (j : ℕ) → has S (s.control + j) ≡ false
    bit_none j =
        let zero_rest : rest / 2 ^ (s.control + j) ≤ 0 = omega (arith, shr_le rest (s.control + j)) in
        ne_eqb (S / 2 ^ (s.control + j) % 2) 1 (λ (e : S / 2 ^ (s.control + j) % 2 ≡ 1). omega (arith, high (s.control + j) (omega arith)))

    all_parts : joined (map (label_of ls) (controls_of S)) ≡ linked rest done
    unfolding parts_to controls_of
    all_parts =
        let all : most_controls ≡ s.control + (most_controls - s.control) = omega (arith, s.most) in
        ap (λ (k : ℕ). joined (parts_to ls S k)) all ∙ ap joined (parts_skip ls S s.control (most_controls - s.control) (λ j h. bit_none j))
        ∙ rw (eq-eqb rest 0 (omega arith))

    all_labels : S ≢ 0 → Writes old first (filled 143 (labelled ls S)) (first + 143) out
    unfolding labelled
    all_labels d = rw (ne_eqb S 0 d) (writes_same (ap (filled 143) (sym all_parts)) s.writes)

    -- over the blanks that were there
    pub column_all : {start : List ℕ} → Writes start first (blanks 143) (first + 143) old → S ≢ 0 →
        Writes start first (filled 143 (labelled ls S)) (first + 143) out
    column_all w d =
        let long : length (blanks 143) ≡ length (filled 143 (labelled ls S)) =
        length-replicate {A = ℕ} 143 32 ∙ sym (length-filled 143 (labelled ls S) (labelled_few ls ready.good S)) in
        writes_again long w (all_labels d)
