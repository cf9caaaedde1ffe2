-- The steps of writing pieces of text.
use mathlib.Core.Path.{◌≡◌, sym, ◌∙◌, ap, ap₂, subst}
use Rattle.std.proofs.Common.{drop-drop}
use Rattle.std.proofs.lemmas.List.Edits.{sets, sets-eq}
use borrow.Rule.Slice.PartMut.{put_mid}
use mathlib.Core.List.{List, [], ◌∷◌, ◌++◌, append_assoc, append-nil}
use Prim.Native.Nat.{ℕ, suc, ◌+◌, ◌-◌, ◌/◌, ◌%◌, ◌^◌, ◌<◌, ◌≤◌}
use native.Mathlib.Nat.{pow-suc}
use native.Mathlib.Omega.{arith}
use lib.ListN.{length, take, drop, set, length-append}
use lib.Seq.{length-sets}
use Rattle.definitions.specs.Show.{decimal}
use Rattle.definitions.specs.Pages.{aligned}
use Rattle.text_pieces.specs.Text.{Writes, ColumnFits, digits_left, digit_or_blank}
use Rattle.text_pieces.specs.TextLaws.{decimal-last, decimal_more, decimal_left, aligned-last, aligned_left, nothing_left}
use Rattle.text_pieces.specs.TextLaws.{writes_append, writes_none, writes_same, writes_front}

-- ---- a run of bytes

-- bytes stored as one part of the buffer are written
pub run_written : (old : List ℕ) (at : ℕ) {k end : ℕ} {text part : List ℕ} → part ≡ text → k ≡ length text → end ≡ at + length text →
    end ≤ length old → Writes old at text end (put_mid at k old part)
run_written old at {k} {end} {text} {part} e f next h =
    let all : put_mid at k old part ≡ sets old at text =
    ap₂ (λ (j : ℕ) (ys : List ℕ). take at old ++ (ys ++ drop j (drop at old))) f e
    ∙ ap (λ (zs : List ℕ). take at old ++ (text ++ zs)) (drop-drop (length text) at old)
    ∙ sym (sets-eq text old at (omega arith) ∙ append_assoc (take at old) text (drop (at + length text) old)) in
    record { next_is = next; text_is = all; within = omega (arith, ap length all, length-sets old at text) }

-- ---- a number

module _ (v : ℕ) where
  pub one_digit : v < 10 → length (decimal v) ≡ 1
  one_digit h = ap length (decimal-last v h)

  module _ (more : 10 ≤ v) (small : v < 2 ^ 32) where
    pub digits_above : length (decimal v) ≡ length (decimal (v / 10)) + 1
    digits_above = ap length (decimal_more v more small) ∙ length-append (decimal (v / 10)) ((48 + v % 10) ∷ [])

    pub last_written : {old mid out : List ℕ} {at last next : ℕ} → Writes old at (decimal (v / 10)) last mid →
        Writes mid last ((48 + v % 10) ∷ []) next out → Writes old at (decimal v) next out
    last_written above last = writes_same (sym (decimal_more v more small)) (writes_append above last)

-- ---- a number aligned to the right

-- from a place on the last bytes are written, and in front of them belongs what is then left of the number
pub record Aligning (v at end : ℕ) (old out : List ℕ) (place rest : ℕ) : Type 0 where
  pub behind : List ℕ
  pub from : at ≤ place
  pub small : rest < 2 ^ 32
  pub fits : rest < 10 ^ (place - at)
  pub text : aligned (end - at) (digits_left v) ≡ aligned (place - at) (digits_left rest) ++ behind
  pub writes : Writes old place behind end out

pub left_none : (v at end : ℕ) (old : List ℕ) → v < 2 ^ 32 → v < 10 ^ (end - at) → at ≤ end → end ≤ length old → Aligning v at end old old end v
left_none v at end old h f a l = record {
  behind = [];
  from = a;
  small = h;
  fits = f;
  text = sym (append-nil (aligned (end - at) (digits_left v)));
  writes = writes_none old end l;
}

-- a tenth of a number of at most k + 1 digits
tenth : (k r : ℕ) → r < 10 ^ suc k → r / 10 < 10 ^ k
tenth k r h = omega (arith, pow-suc 10 k)

module _ {v at end : ℕ} {old out : List ℕ} {place rest : ℕ} (s : Aligning v at end old out place rest) where
  pub left_more : at < place → Aligning v at end old (set out (place - 1) (digit_or_blank rest)) (place - 1) (rest / 10)
  left_more h =
      let one : place - at ≡ suc (place - 1 - at) = omega arith in
      record {
        behind = digit_or_blank rest ∷ s.behind;
        from = omega arith;
        small = omega (arith, s.small);
        fits = tenth (place - 1 - at) rest (rw (sym one) s.fits);
        text =
            s.text
            ∙ ap (λ (t : List ℕ). t ++ s.behind)
            (ap (λ (j : ℕ). aligned j (digits_left rest)) one ∙ aligned_left (place - 1 - at) rest s.small)
            ∙ append_assoc (aligned (place - 1 - at) (digits_left (rest / 10))) (digit_or_blank rest ∷ []) s.behind;
        writes = writes_front (digit_or_blank rest) (omega arith) s.writes;
      }

  pub left_all : place ≤ at → Writes old at (aligned (end - at) (digits_left v)) end out
  left_all h =
      let here : place ≡ at = omega (arith, s.from) in
      let none : place - at ≡ 0 = omega arith in
      let all : aligned (end - at) (digits_left v) ≡ s.behind =
      s.text ∙ ap (λ (j : ℕ). aligned j (digits_left rest) ++ s.behind) none
      ∙ ap (λ (t : List ℕ). t ++ s.behind) (nothing_left rest (omega (arith, s.fits, ap (λ (j : ℕ). 10 ^ j) none))) in
      writes_same (sym all) (subst (λ (i : ℕ). Writes old i s.behind end out) here s.writes)

-- the digits above the last one, and that one
module _ (v w at : ℕ) {old : List ℕ} (small : v < 2 ^ 32) (f : ColumnFits v w at old) where
  one_less : w ≡ suc (at + w - 1 - at)
  one_less = omega (arith, f.some)

  pub tenth_fits : v / 10 < 10 ^ (at + w - 1 - at)
  tenth_fits = tenth (at + w - 1 - at) v (rw (sym one_less) f.digits)

  pub all_aligned : {mid out : List ℕ} {next : ℕ} → Writes old at (aligned (at + w - 1 - at) (digits_left (v / 10))) (at + w - 1) mid →
      Writes mid (at + w - 1) ((48 + v % 10) ∷ []) next out → Writes old at (aligned w (decimal v)) next out
  all_aligned left last =
      writes_same
      (sym (aligned-last (at + w - 1 - at) (digits_left (v / 10)) (48 + v % 10))
      ∙ ap₂ aligned (sym one_less) (sym (decimal_left v small)))
      (writes_append left last)
