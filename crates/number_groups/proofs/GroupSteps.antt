-- The steps of reading a number group by group.
use mathlib.Core.Path.{◌≡◌, refl, sym, ◌∙◌, ap, subst}
use mathlib.Core.Bool.{Bool, true, false, cond, not, ◌&&◌, and-false}
use mathlib.Core.List.{List, ◌∷◌}
use Rattle.std.specs.Prelude.{Result, Ok, Err}
use mathlib.Core.Logic.{⊎_elim}
use Prim.Native.Nat.{ℕ, ◌+◌, ◌-◌, ◌*◌, ◌%◌, ◌^◌, ◌<◌, ◌≤◌}
use native.Mathlib.Numerals.{add-one}
use native.Mathlib.Nat.{mul-le-mul_left, mul-le-mul_right, mod-eq_of_lt}
use native.Mathlib.Omega.{arith}
use lib.Dec.{ltb}
use lib.ListN.{length, drop, drop_of_length-le}
use lib.Seq.{drop-cons}
use borrow.Author.Tests.{lt-ltb, le-ltb, ltb-true, ltb-false}
use Rattle.definitions.specs.Outcomes.{Outcome, accepted, refused, and_then, unless}
use Rattle.definitions.specs.Refusals.{word_if}
use Rattle.definitions.specs.Groups.{Numeral, in_front, read_number}
use Rattle.theory.specs.Tests.{zero_is_not_one, below_or}
use Rattle.number_groups.specs.Numbers.{reads_none, reads_last, reads_more, reads_word}
use Rattle.number_groups.specs.NumberAnswers.{ByteIs, IsGroup, placed, outcome_of, next_of, in_front_of, ending_in, fifth_group, ReadsAt, ReadsBehind, cut_to32}
use Rattle.number_groups.specs.declared.Group.{Group}
use Rattle.number_groups.specs.declared.Numeral as code
use Rattle.refusals.specs.declared.Refusal.{Refusal}
use Rattle.refusals.specs.declared.Refusal.TheVariants as refusal

-- seven bits times a scale
pub group_fits : (scale : ℕ) {group : ℕ} → group < 128 → scale * group ≤ scale * 127
group_fits scale h = mul-le-mul_left scale (omega arith)

pub low_bits_fit : (scale : ℕ) {byte : ℕ} → byte < 256 → scale * (byte - 128) ≤ scale * 127
low_bits_fit scale h = mul-le-mul_left scale (omega arith)

-- a group at a place
pub is_group : {bytes : List ℕ} {at byte : ℕ} → ByteIs bytes at byte → IsGroup bytes at (record { byte = byte; next = at + 1 })
is_group b = record { byte_is = b.byte_is; byte_small = b.byte_small; next_is = refl }

module _ {bytes : List ℕ} {at : ℕ} {g : Group} (inside : at < length bytes) (group : IsGroup bytes at g) where
  opened : drop at bytes ≡ g.byte ∷ drop g.next bytes
  opened = rw (group.next_is, add-one at, group.byte_is) (drop-cons bytes at 0 inside)

  within : g.next ≤ length bytes
  within = omega (arith, group.next_is)

-- ---- one group more

-- a group between those read and those to come
merge_by : (low scale g : ℕ) (x : Numeral) (some small whole : Bool) → 0 < scale →
    ltb 0 x.value ≡ some → ltb (g + 128 * x.value) (2 ^ 32) ≡ small → ltb (low + scale * g + scale * 128 * x.value) (2 ^ 32) ≡ whole →
    and_then (unless (word_if (not (some && small)) 8) (accepted (record { value = g + 128 * x.value; rest = x.rest }))) (in_front_of low scale)
    ≡ unless (word_if (not (some && whole)) 8) (accepted (record { value = low + scale * g + scale * 128 * x.value; rest = x.rest }))
merge_by low scale g x false small whole pos p q r = refl
merge_by low scale g x true false false pos p q r = refl
merge_by low scale g x true false true pos p q r =
    let l : 2 ^ 32 ≤ g + 128 * x.value = ltb-false _ _ q in
    let h : low + scale * g + scale * 128 * x.value < 2 ^ 32 = ltb-true _ _ r in
    let k : 1 * (g + 128 * x.value) ≤ scale * (g + 128 * x.value) = mul-le-mul_right (g + 128 * x.value) pos in
    absurd (omega arith)
merge_by low scale g x true true whole pos p q r =
    let l : 0 < x.value = ltb-true _ _ p in
    let e : low + scale * (g + 128 * x.value) ≡ low + scale * g + scale * 128 * x.value = omega arith in
    rw (lt-ltb 0 (g + 128 * x.value) (omega arith), e, r)

merge : (low scale g : ℕ) → 0 < scale → (o : Outcome Numeral) →
    and_then (and_then o (in_front g)) (in_front_of low scale) ≡ and_then o (in_front_of (low + scale * g) (scale * 128))
merge low scale g pos (refused k) = refl
merge low scale g pos (accepted x) = merge_by low scale g x _ _ _ pos refl refl refl

-- no number of 32 bits has a sixth group
sixth_by : (low scale : ℕ) (x : Numeral) (some small : Bool) → 2 ^ 35 ≤ scale →
    ltb 0 x.value ≡ some → ltb (low + scale * x.value) (2 ^ 32) ≡ small →
    unless {X = Numeral} (word_if (not (some && small)) 8) (accepted (record { value = low + scale * x.value; rest = x.rest })) ≡ refused 8
sixth_by low scale x false small h p q = refl
sixth_by low scale x true false h p q = refl
sixth_by low scale x true true h p q =
    let k : scale * 1 ≤ scale * x.value = mul-le-mul_left scale (ltb-true _ _ p) in
    let l : low + scale * x.value < 2 ^ 32 = ltb-true _ _ q in
    absurd (omega arith)

sixth : (low scale : ℕ) (o : Outcome Numeral) → 2 ^ 35 ≤ scale → ((k : ℕ) → o ≡ refused k → k ≡ 8) →
    and_then o (in_front_of low scale) ≡ refused 8
sixth low scale (refused k) h w = ap refused (w k refl)
sixth low scale (accepted x) h w = sixth_by low scale x _ _ h refl refl

module _ (bytes : List ℕ) (v next : ℕ) where
  answered : (t : Bool) →
      outcome_of bytes (cond t (Ok (record { value = v; next = next })) (Err refusal.Group))
      ≡ unless (word_if (not t) 8) (accepted (record { value = v; rest = drop next bytes }))
  answered true = refl
  answered false = refl

  answered_within : (t : Bool) → next ≤ length bytes → next_of (cond t (Ok (record { value = v; next = next })) (Err refusal.Group)) ≤ length bytes
  answered_within true h = h
  answered_within false h = omega arith

-- ---- a group at a place, which counts scale times, behind groups that are worth low

-- low and a last group
abbrev last_group : ℕ → ℕ → Group → Result code.Numeral Refusal
last_group low scale g =
    cond (ltb 0 g.byte && ltb (low + scale * g.byte) (2 ^ 32)) (Ok (record { value = low + scale * g.byte; next = g.next })) (Err refusal.Group)

both_true : (t : Bool) → (t && true) ≡ t
both_true true = refl
both_true false = refl

-- below 2 ^ 32 a last group has one test left: that it is not 0
small_last : (low scale : ℕ) (g : Group) → low + scale * g.byte < 2 ^ 32 → ending_in (low + scale * g.byte) g.byte g.next ≡ last_group low scale g
small_last low scale g h = rw (lt-ltb (low + scale * g.byte) (2 ^ 32) h, both_true (ltb 0 g.byte))

-- a group is taken to those before it, and others follow: the number is the same
pub record GoesOn (low scale : ℕ) (bytes : List ℕ) (at whole next : ℕ) : Type 0 where
  pub below : whole < scale * 128
  pub outcome : and_then (read_number (drop at bytes)) (in_front_of low scale) ≡ and_then (read_number (drop next bytes)) (in_front_of whole (scale * 128))

module _ (low scale : ℕ) (bytes : List ℕ) (at : ℕ) where
  -- behind the end
  none_there : length bytes ≤ at → and_then (read_number (drop at bytes)) (in_front_of low scale) ≡ refused 8
  none_there h = rw (drop_of_length-le bytes h, reads_none)

  pub ends_early : length bytes ≤ at → ReadsBehind low scale bytes at (Err refusal.Group)
  ends_early h = record { outcome = sym (none_there h); within = omega arith }

  module _ {g : Group} (inside : at < length bytes) (group : IsGroup bytes at g) where
    ends_as : g.byte < 128 → and_then (read_number (drop at bytes)) (in_front_of low scale) ≡ outcome_of bytes (last_group low scale g)
    ends_as h =
        ap (λ (bs : List ℕ). and_then (read_number bs) (in_front_of low scale)) (opened inside group)
        ∙ ap (λ (o : Outcome Numeral). and_then o (in_front_of low scale)) (reads_last g.byte (drop g.next bytes) h)
        ∙ sym (answered bytes (low + scale * g.byte) g.next (ltb 0 g.byte && ltb (low + scale * g.byte) (2 ^ 32)))

    ends_here : g.byte < 128 → {r : Result code.Numeral Refusal} → r ≡ last_group low scale g → ReadsBehind low scale bytes at r
    ends_here h e = record {
      outcome = rw e (sym (ends_as h));
      within = rw e (answered_within bytes (low + scale * g.byte) g.next (ltb 0 g.byte && ltb (low + scale * g.byte) (2 ^ 32)) (within inside group));
    }

    pub ends_in : g.byte < 128 → low + scale * g.byte < 2 ^ 32 → {r : Result code.Numeral Refusal} → r ≡ ending_in (low + scale * g.byte) g.byte g.next → ReadsBehind low scale bytes at r
    ends_in h l e = ends_here h (e ∙ small_last low scale g l)

    pub goes_on : low < scale → 128 ≤ g.byte → GoesOn low scale bytes at (low + scale * (g.byte - 128)) g.next
    goes_on small h = record {
      below = omega (arith, low_bits_fit scale group.byte_small);
      outcome = ap (λ (bs : List ℕ). and_then (read_number bs) (in_front_of low scale)) (opened inside group)
          ∙ ap (λ (o : Outcome Numeral). and_then o (in_front_of low scale)) (reads_more g.byte (drop g.next bytes) h)
          ∙ merge low scale (g.byte - 128) (omega arith) (read_number (drop g.next bytes));
    }

-- what stands behind it
pub behind : {low scale : ℕ} {bytes : List ℕ} {at whole next : ℕ} {r : Result code.Numeral Refusal} → GoesOn low scale bytes at whole next →
    ReadsBehind whole (scale * 128) bytes next r → ReadsBehind low scale bytes at r
behind g b = record { outcome = b.outcome ∙ sym g.outcome; within = b.within }

-- ---- the fifth group

module _ (low : ℕ) (bytes : List ℕ) (at : ℕ) {g : Group} (inside : at < length bytes) (group : IsGroup bytes at g) (small : low < 268435456) where
  last_fifth : (t : Bool) → ltb 15 g.byte ≡ t → cond t (Err refusal.Group) (ending_in (low + 268435456 * g.byte) g.byte g.next) ≡ last_group low 268435456 g
  last_fifth true e =
      let l : 15 < g.byte = ltb-true 15 g.byte e in
      rw (le-ltb (low + 268435456 * g.byte) (2 ^ 32) (omega arith), and-false (ltb 0 g.byte))
  last_fifth false e =
      let l : g.byte ≤ 15 = ltb-false 15 g.byte e in
      small_last low 268435456 g (omega arith)

  too_long : 128 ≤ g.byte → and_then (read_number (drop at bytes)) (in_front_of low 268435456) ≡ refused 8
  too_long h =
      (goes_on low 268435456 bytes at inside group small h).outcome
      ∙ sixth (low + 268435456 * (g.byte - 128)) (268435456 * 128) (read_number (drop g.next bytes)) (omega arith) (reads_word (drop g.next bytes))

  refused_fifth : 15 < g.byte → fifth_group low g.byte g.next ≡ Err refusal.Group
  refused_fifth h = rw (lt-ltb 15 g.byte h)

  pub ends_fifth : {r : Result code.Numeral Refusal} → r ≡ fifth_group low g.byte g.next → ReadsBehind low 268435456 bytes at r
  ends_fifth e = ⊎_elim
      (λ (h : g.byte < 128). ends_here low 268435456 bytes at inside group h (e ∙ last_fifth (ltb 15 g.byte) refl))
      (λ (h : 128 ≤ g.byte).
      subst (ReadsBehind low 268435456 bytes at) (sym (e ∙ refused_fifth (omega arith))) (record { outcome = sym (too_long h); within = omega arith }))
      (below_or g.byte 128)

-- ---- the first group

module _ (bytes : List ℕ) (at : ℕ) where
  nothing_there : length bytes ≤ at → read_number (drop at bytes) ≡ refused 8
  nothing_there h = rw (drop_of_length-le bytes h) reads_none

  pub no_group : length bytes ≤ at → ReadsAt bytes at (Err refusal.Group)
  no_group h = record { outcome = sym (nothing_there h); within = omega arith }

  module _ {g : Group} (inside : at < length bytes) (group : IsGroup bytes at g) where
    one_as : g.byte < 128 → read_number (drop at bytes) ≡ accepted (record { value = g.byte; rest = drop g.next bytes })
    one_as h = rw (opened inside group) (reads_last g.byte (drop g.next bytes) h)

    pub more_as : 128 ≤ g.byte → read_number (drop at bytes) ≡ and_then (read_number (drop g.next bytes)) (in_front_of (g.byte - 128) 128)
    more_as h = rw (opened inside group) (reads_more g.byte (drop g.next bytes) h)

    pub one_group : g.byte < 128 → ReadsAt bytes at (Ok (record { value = g.byte; next = g.next }))
    one_group h = record { outcome = sym (one_as h); within = within inside group }

    pub more_groups : 128 ≤ g.byte → {r : Result code.Numeral Refusal} → ReadsBehind (g.byte - 128) 128 bytes g.next r → ReadsAt bytes at r
    more_groups h b = record { outcome = b.outcome ∙ sym (more_as h); within = b.within }

-- ---- a number that stands there, read again

not_there : {X : Type 0} {P : Type 0} {k : ℕ} {o : Outcome X} {x : X} → o ≡ refused k → o ≡ accepted x → P
not_there e f = absurd (zero_is_not_one (let g = sym e ∙ f in cc))

pub first_there : (bytes : List ℕ) (at : ℕ) {x : Numeral} → read_number (drop at bytes) ≡ accepted x → at < length bytes
first_there bytes at stands = ⊎_elim
    (λ (h : at < length bytes). h)
    (λ (h : length bytes ≤ at). not_there (nothing_there bytes at h) stands)
    (below_or at (length bytes))

pub one_there : (bytes : List ℕ) (at : ℕ) {x : Numeral} {g : Group} → read_number (drop at bytes) ≡ accepted x → IsGroup bytes at g → g.byte < 128 →
    placed bytes (cut_to32 g.byte g.next) ≡ x
one_there bytes at {x} {g} stands group h =
    let e = sym (one_as bytes at (first_there bytes at stands) group h) ∙ stands in
    let whole : g.byte % 2 ^ 32 ≡ g.byte = mod-eq_of_lt (omega arith) in
    rw whole (let same : record { value = g.byte; rest = drop g.next bytes } ≡ x = cc in same)

-- the rest of x, behind groups that are worth low
pub record Rest (bytes : List ℕ) (x : Numeral) (low scale at : ℕ) : Type 0 where
  pub small : low < scale
  pub stands : and_then (read_number (drop at bytes)) (in_front_of low scale) ≡ accepted x

pub rest_there : (bytes : List ℕ) (at : ℕ) {x : Numeral} {g : Group} → read_number (drop at bytes) ≡ accepted x → IsGroup bytes at g → 128 ≤ g.byte →
    Rest bytes x (g.byte - 128) 128 g.next
rest_there bytes at stands group h = record {
  small = omega (arith, group.byte_small);
  stands = sym (more_as bytes at (first_there bytes at stands) group h) ∙ stands;
}

module _ {bytes : List ℕ} {x : Numeral} {low scale at : ℕ} (rest : Rest bytes x low scale at) where
  pub there : at < length bytes
  there = ⊎_elim
      (λ (h : at < length bytes). h)
      (λ (h : length bytes ≤ at). not_there (none_there low scale bytes at h) rest.stands)
      (below_or at (length bytes))

  module _ {g : Group} (group : IsGroup bytes at g) where
    last_by : (some small : Bool) → ltb (low + scale * g.byte) (2 ^ 32) ≡ small →
        outcome_of bytes (cond (some && small) (Ok (record { value = low + scale * g.byte; next = g.next })) (Err refusal.Group)) ≡ accepted x →
        placed bytes (cut_to32 (low + scale * g.byte) g.next) ≡ x
    last_by true true h e =
        let whole : (low + scale * g.byte) % 2 ^ 32 ≡ low + scale * g.byte = mod-eq_of_lt (ltb-true _ _ h) in
        rw whole (let same : record { value = low + scale * g.byte; rest = drop g.next bytes } ≡ x = cc in same)
    last_by true false h e = absurd (zero_is_not_one (cc))
    last_by false small h e = absurd (zero_is_not_one (cc))

    pub last_there : g.byte < 128 → placed bytes (cut_to32 (low + scale * g.byte) g.next) ≡ x
    last_there h = last_by (ltb 0 g.byte) (ltb (low + scale * g.byte) (2 ^ 32)) refl (sym (ends_as low scale bytes at there group h) ∙ rest.stands)

    pub more_there : 128 ≤ g.byte → Rest bytes x (low + scale * (g.byte - 128)) (scale * 128) g.next
    more_there h = let on = goes_on low scale bytes at there group rest.small h in record { small = on.below; stands = sym on.outcome ∙ rest.stands }

pub fifth_there : {bytes : List ℕ} {x : Numeral} {low at : ℕ} → Rest bytes x low 268435456 at → {g : Group} → IsGroup bytes at g →
    placed bytes (cut_to32 (low + 268435456 * g.byte) g.next) ≡ x
fifth_there {bytes} {x} {low} {at} rest {g} group = ⊎_elim
    (λ (h : g.byte < 128). last_there rest group h)
    (λ (h : 128 ≤ g.byte). not_there (too_long low bytes at (there rest) group rest.small h) rest.stands)
    (below_or g.byte 128)
