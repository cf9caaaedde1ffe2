-- A factor that is a recipe in parentheses.
use mathlib.Core.Path.{◌≡◌, refl, sym, ◌∙◌, ap, subst}
use mathlib.Core.Bool.{true, false}
use mathlib.Core.List.{List, [], ◌∷◌}
use mathlib.Core.Option.{Option, some, none}
use Rattle.std.specs.Prelude as std
use Rattle.std.specs.Prelude.{Some, None}
use Rattle.std.proofs.lemmas.Option.{same_Some}
use Prim.Native.Nat.{ℕ, zero, suc, ◌+◌, ◌<◌, ◌≤◌}
use native.Mathlib.Omega.{arith}
use lib.ListN.{length, drop, get_or, length-drop, length-append}
use lib.Seq.{drop-drop, drop-cons}
use borrow.Author.Tests.{eq-eqb}
use Rattle.definitions.specs.Outcomes.{Outcome, accepted, refused, and_then}
use Rattle.definitions.specs.Recipes.{factor, sum, inside, Opening, group, exponential, logarithm, inverse, opening_text, closing_byte, nesting}
use Rattle.recipe_theory.specs.Reading.{Parsed, read_level, read_factor, factor_by, opening_of, close, begins}
use Rattle.recipe_theory.specs.ReadingLaws.{begins_splits, opening_begins}
use Rattle.recipe_theory.specs.Postfix.{postfix, opening_code}
use Rattle.recipe_words.specs.Answers.{opening_answer, call_byte, call_code, Gives, Added, Room, Stands, Taken, Reads, Closed, Closes}
use Rattle.recipe_words.specs.AnswerLaws.{is_read, is_refused}
use Rattle.recipe_words.specs.declared.Place.{Place}
use Rattle.recipe_words.specs.declared.Opening as struct
use Rattle.recipe_reader.proofs.Chains.{added_twice}

-- ---- what opens

open_length : (o : Opening) → 0 < length (opening_text o)
open_length group = omega arith
open_length exponential = omega arith
open_length logarithm = omega arith
open_length inverse = omega arith

pub record OpensAt (bytes : List ℕ) (long : ℕ) (call : std.Option ℕ) : Type 0 where
  pub opens : Opening
  pub stands : opening_of bytes ≡ some opens
  pub is_long : length (opening_text opens) ≡ long
  pub is_call : call_byte opens ≡ call

module _ (bytes : List ℕ) where
  pub opens_at : {r : std.Option struct.Opening} {o : struct.Opening} → r ≡ opening_answer (opening_of bytes) → r ≡ Some o → OpensAt bytes o.length o.call
  opens_at {r} {o} e f = by (opening_of bytes) refl (sym e ∙ f)
    where
      by : (p : Option Opening) → opening_of bytes ≡ p → opening_answer p ≡ Some o → OpensAt bytes o.length o.call
      by none p q = absurd (let w : ◌≡◌ {A = ℕ} 0 1 = cc in omega arith)
      by (some a) p q =
          let same : ◌≡◌ {A = struct.Opening} (record { length = length (opening_text a); call = call_byte a }) o = same_Some _ _ q in
          record { opens = a; stands = p; is_long = ap (λ (x : struct.Opening). x.length) same; is_call = ap (λ (x : struct.Opening). x.call) same }

  pub nothing_opens : {r : std.Option struct.Opening} → r ≡ opening_answer (opening_of bytes) → r ≡ None → opening_of bytes ≡ none
  nothing_opens {r} e f = by (opening_of bytes) refl (sym e ∙ f)
    where
      by : (o : Option Opening) → opening_of bytes ≡ o → opening_answer o ≡ None → opening_of bytes ≡ none
      by none p q = p
      by (some o) p q = absurd (let w : ◌≡◌ {A = ℕ} 0 1 = cc in omega arith)

  opening_inside : {long : ℕ} {call : std.Option ℕ} → OpensAt bytes long call → long ≤ length bytes
  opening_inside {long} o =
      let e = simp length-append at (ap length (begins_splits (opening_text o.opens) bytes (opening_begins bytes o.opens o.stands))) in
      omega (arith, o.is_long)

  pub opening_some : {long : ℕ} {call : std.Option ℕ} → OpensAt bytes long call → 0 < long
  opening_some o = omega (arith, open_length o.opens, o.is_long)

-- ---- a recipe in parentheses

call_code_lem : (o : Opening) → call_code (call_byte o) ≡ opening_code o
call_code_lem group = refl
call_code_lem exponential = refl
call_code_lem logarithm = refl
call_code_lem inverse = refl

call_length : (o : Opening) → length (opening_code o) ≤ 1
call_length group = omega arith
call_length exponential = omega arith
call_length logarithm = omega arith
call_length inverse = omega arith

gives_inside : (o : Opening) (bytes : List ℕ) (p : Outcome (Parsed sum)) → opening_of bytes ≡ some o → Gives sum (drop (length (opening_text o)) bytes) p →
    Gives factor bytes (and_then p (close o))
unfolding read_level read_factor opening_of begins
gives_inside o bytes p e g = record { by = by bytes e g }
  where
    by : (bytes : List ℕ) → opening_of bytes ≡ some o → Gives sum (drop (length (opening_text o)) bytes) p → (k : ℕ) → length bytes ≤ k →
        read_level (read_factor k) factor bytes ≡ and_then p (close o)
    by [] e g zero h = absurd (let w : ◌≡◌ {A = ℕ} 0 1 = cc in omega arith)
    by (b ∷ bs) e g zero h = absurd (omega arith)
    by bytes e g (suc k) h =
        ap (factor_by (read_level (read_factor k) sum) bytes) e
        ∙ ap (λ (q : Outcome (Parsed sum)). and_then q (close o)) (g.by k (rw length-drop (omega (arith, open_length o))))

close_refused : (o : Opening) (x : Parsed sum) → begins (closing_byte ∷ []) x.rest ≡ false → close o x ≡ refused 13
unfolding close
close_refused o x e = rw e

close_read : (o : Opening) (x : Parsed sum) → begins (closing_byte ∷ []) x.rest ≡ true → close o x ≡ accepted (record { tree = inside o x.tree; rest = drop 1 x.rest })
unfolding close
close_read o x e = rw e

closing_here : (line : List ℕ) (at : ℕ) → at < length line → get_or line at 0 ≡ closing_byte → begins (closing_byte ∷ []) (drop at line) ≡ true
unfolding begins
closing_here line at h e = rw (drop-cons line at 0, eq-eqb (get_or line at 0) closing_byte e)

module _ (line : List ℕ) (at : ℕ) {long : ℕ} {call : std.Option ℕ} (o : OpensAt (drop at line) long call) where
  behind : (p : Outcome (Parsed sum)) → Gives sum (drop (at + long) line) p → Gives factor (drop at line) (and_then p (close o.opens))
  behind p g = gives_inside o.opens (drop at line) p o.stands (rw (o.is_long, drop-drop) g)

  pub inside_refused : Gives sum (drop (at + long) line) (refused 13) → Gives factor (drop at line) (refused 13)
  inside_refused g = behind (refused 13) g

  pub opening_within : at ≤ length line → at + long ≤ length line
  opening_within h = omega (arith, opening_inside (drop at line) o, length-drop at line)

  pub room_inside : {code : List ℕ} {used : ℕ} → Room line at code used → Room line (at + long) code used
  room_inside room = record { within = opening_within room.within; room = omega (arith, room) }

  module _ {code code' : List ℕ} {used : ℕ} {x : Place} (inner : Taken sum line (at + long) code used x code') where
    reads_closed : (y : Place) (code'' : List ℕ) → Closed line x call code' y code'' →
        Gives factor (drop at line) (accepted (record { tree = inside o.opens inner.tree; rest = drop y.next line }))
    reads_closed y code'' e =
        rw (e.next, ← drop-drop 1 x.next line)
        (subst (Gives factor (drop at line)) (close_read o.opens _ (closing_here line x.next e.inside e.closing)) (behind _ inner.outcome))

    stands_closed : (y : Place) (code'' : List ℕ) → Closed line x call code' y code'' → Stands line at (inside o.opens inner.tree) y
    unfolding postfix nesting
    stands_closed y code'' e =
        record {
          within = omega (arith, e.next, e.inside);
          ahead = rw length-append (omega (arith, e.next, inner.stands, call_length o.opens, opening_some (drop at line) o));
          shallow = omega (arith, e.next, inner.stands);
          depth = omega (arith, e.depth, inner.stands);
        }

    added_closed : (y : Place) (code'' : List ℕ) → Closed line x call code' y code'' → Added code used (postfix (inside o.opens inner.tree)) code'' y.used
    unfolding postfix
    added_closed y code'' e =
        added_twice inner.added
        (subst (λ (p : List ℕ). Added code' x.used p code'' y.used) (ap call_code (sym o.is_call) ∙ call_code_lem o.opens) e.added)

    pub room_call : Room line at code used → length code' ≡ length code → x.next < length line → x.used < length code'
    room_call room long h = omega (arith, inner.stands, inner.added, opening_some (drop at line) o)

    pub closes : (r : std.Option Place) (code'' : List ℕ) → Closes line x call code' r code'' → Reads factor line at code used r code''
    closes None code'' e =
        is_refused (subst (Gives factor (drop at line)) (close_refused o.opens _ e) (behind _ inner.outcome))
    closes (Some y) code'' e =
        is_read
        (record {
          tree = inside o.opens inner.tree;
          outcome = reads_closed y code'' e;
          stands = stands_closed y code'' e;
          added = added_closed y code'' e;
        })
