-- A chain of operands read one after the other: what reading gives, step by step.
use mathlib.Core.Path.{◌≡◌, refl, sym, ◌∙◌, ap, ap₂}
use mathlib.Core.List.{List, [], ◌∷◌, ◌++◌, append_assoc}
use mathlib.Core.Option.{Option, some, none}
use Rattle.std.specs.Prelude as std
use Rattle.std.specs.Prelude.{Some, None}
use Prim.Native.Nat.{ℕ, zero, suc, ◌+◌, ◌-◌, ◌<◌, ◌≤◌, max}
use native.Mathlib.Nat.{le_refl}
use native.Mathlib.Omega.{arith}
use lib.ListN.{length, take, drop, set, length-drop, length-append}
use lib.Seq.{drop-drop}
use Rattle.definitions.specs.Outcomes.{Outcome, accepted, refused, and_then}
use Rattle.definitions.specs.Recipes.{Level, above, Tree, table, inside, only, chain, Sign, sign_byte, nesting}
use Rattle.recipe_theory.specs.Reading.{next_sign, Parsed, read_level, read_factor, read_tail, sign_of, tail_by}
use Rattle.recipe_theory.specs.Postfix.{postfix}
use Rattle.recipe_words.specs.Answers.{sign_answer, Gives, Added, Room, Stands, Taken}
use Rattle.recipe_words.specs.AnswerLaws.{added_byte}
use Rattle.recipe_words.specs.declared.Place.{Place}

-- ---- the outcome of a chain

-- what goes on behind a tree gives this outcome, whatever bounds are taken, if they are large enough
pub record Continues (l : Level) (t : Tree (above l)) (bytes : List ℕ) (o : Outcome (Parsed (above l))) : Type 0 where
  pub by : (j k : ℕ) → length bytes ≤ j → length bytes ≤ k → read_tail (read_level (read_factor k) l) j t bytes ≡ o

module _ {l : Level} where
  -- the readers of the operands behind a tree and a sign
  abbrev behind : ℕ → ℕ → Tree (above l) → Sign (above l) → Outcome (Parsed l) → Outcome (Parsed (above l))
  behind j k t s o = and_then o (λ x. read_tail (read_level (read_factor k) l) j (chain t s x.tree) x.rest)

  abbrev first : ℕ → Outcome (Parsed l) → Outcome (Parsed (above l))
  first k o = and_then o (λ x. read_tail (read_level (read_factor k) l) (length x.rest) (only x.tree) x.rest)

  pub gives_refused : {bytes : List ℕ} → Gives l bytes (refused 13) → Gives (above l) bytes (refused 13)
  unfolding read_level
  gives_refused g = record { by = λ k h. ap (first k) (g.by k h) }

  gives_first : {bytes rest : List ℕ} {t : Tree l} → Gives l bytes (accepted (record { tree = t; rest = rest })) → length rest ≤ length bytes →
      (o : Outcome (Parsed (above l))) → Continues l (only t) rest o → Gives (above l) bytes o
  unfolding read_level
  gives_first {bytes} {rest} {t} g s o c =
      record { by = λ k h. ap (first k) (g.by k h) ∙ c.by (length rest) k (le_refl _) (omega arith) }

  module _ (t : Tree (above l)) where
    by_sign : (j k : ℕ) (b : ℕ) (bs : List ℕ) (s : Option (Sign (above l))) → sign_of (above l) b ≡ s →
        read_tail (read_level (read_factor k) l) (suc j) t (b ∷ bs)
        ≡ tail_by (λ s. behind j k t s (read_level (read_factor k) l bs)) (accepted (record { tree = t; rest = b ∷ bs })) s
    unfolding read_tail
    by_sign j k b bs s e = ap (tail_by (λ s. behind j k t s (read_level (read_factor k) l bs)) (accepted (record { tree = t; rest = b ∷ bs }))) e

    ends : (bytes : List ℕ) → next_sign (above l) bytes ≡ none → (j k : ℕ) →
        read_tail (read_level (read_factor k) l) j t bytes ≡ accepted (record { tree = t; rest = bytes })
    unfolding read_tail
    ends bytes e zero k = refl
    ends [] e (suc j) k = refl
    ends (b ∷ bs) e (suc j) k = by_sign j k b bs none e

    ends_here : (bytes : List ℕ) → next_sign (above l) bytes ≡ none → Continues l t bytes (accepted (record { tree = t; rest = bytes }))
    ends_here bytes e = record { by = λ j k h h'. ends bytes e j k }

    module _ (s : Sign (above l)) where
      nothing_left : {X : Type 0} → ◌≡◌ {A = Option (Sign (above l))} none (some s) → X
      nothing_left e = absurd (let w : ◌≡◌ {A = ℕ} 0 1 = cc in omega arith)

      goes : (bytes : List ℕ) → next_sign (above l) bytes ≡ some s → (o : Outcome (Parsed l)) → Gives l (drop 1 bytes) o → (j k : ℕ) → length bytes ≤ suc j → length bytes ≤ k →
          read_tail (read_level (read_factor k) l) (suc j) t bytes ≡ behind j k t s o
      goes [] e o g j k h h' = nothing_left e
      goes (b ∷ bs) e o g j k h h' = by_sign j k b bs (some s) e ∙ ap (behind j k t s) (g.by k (omega arith))

      refused_behind : (bytes : List ℕ) → next_sign (above l) bytes ≡ some s → Gives l (drop 1 bytes) (refused 13) → Continues l t bytes (refused 13)
      refused_behind bytes e g = record { by = by bytes e g }
        where
          by : (bytes : List ℕ) → next_sign (above l) bytes ≡ some s → Gives l (drop 1 bytes) (refused 13) → (j k : ℕ) → length bytes ≤ j → length bytes ≤ k →
              read_tail (read_level (read_factor k) l) j t bytes ≡ refused 13
          by [] e g j k h h' = nothing_left e
          by (b ∷ bs) e g zero k h h' = absurd (omega arith)
          by (b ∷ bs) e g (suc j) k h h' = goes (b ∷ bs) e (refused 13) g j k h h'

      goes_on : (bytes : List ℕ) {u : Tree l} {rest : List ℕ} → next_sign (above l) bytes ≡ some s →
          Gives l (drop 1 bytes) (accepted (record { tree = u; rest = rest })) → length rest < length bytes →
          (o : Outcome (Parsed (above l))) → Continues l (chain t s u) rest o → Continues l t bytes o
      goes_on bytes {u} {rest} e g r o c = record { by = by bytes e g r }
        where
          by : (bytes : List ℕ) → next_sign (above l) bytes ≡ some s → Gives l (drop 1 bytes) (accepted (record { tree = u; rest = rest })) → length rest < length bytes →
              (j k : ℕ) → length bytes ≤ j → length bytes ≤ k → read_tail (read_level (read_factor k) l) j t bytes ≡ o
          by bytes e g r zero k h h' = absurd (omega arith)
          by bytes e g r (suc j) k h h' = goes bytes e _ g j k h h' ∙ c.by j k (omega arith) (omega arith)

-- ---- code

module _ {code code' code'' piece piece' : List ℕ} {used used' used'' : ℕ} where
  pub added_twice : Added code used piece code' used' → Added code' used' piece' code'' used'' → Added code used (piece ++ piece') code'' used''
  added_twice a b =
      record {
        count = rw length-append (omega (arith, a.count, b.count));
        written = b.written ∙ ap (λ (p : List ℕ). p ++ piece') a.written ∙ append_assoc (take used code) piece piece';
      }

-- a tree has code
postfix-some : {l : Level} (t : Tree l) → 0 < length (postfix t)
unfolding postfix
postfix-some (table x) = omega arith
postfix-some (inside o t) = rw length-append (omega (arith, postfix-some t))
postfix-some (only t) = postfix-some t
postfix-some (chain t s u) = rw length-append (omega arith)

-- ---- a chain that has been read up to a place

pub record Chained (l : Level) (line : List ℕ) (at : ℕ) (code : List ℕ) (used : ℕ) (code' : List ℕ) (x : Place) : Type 0 where
  pub tree : Tree (above l)
  pub so_far : (o : Outcome (Parsed (above l))) → Continues l tree (drop x.next line) o → Gives (above l) (drop at line) o
  pub stands : Stands line at tree x
  pub added : Added code used (postfix tree) code' x.used

module _ {l : Level} {line : List ℕ} {at : ℕ} {code : List ℕ} {used : ℕ} where
  pub chain_starts : {x : Place} {code' : List ℕ} → Taken l line at code used x code' → Chained l line at code used code' x
  unfolding postfix nesting
  chain_starts {x} {code'} r =
      record {
        tree = only r.tree;
        so_far = gives_first r.outcome (rw (length-drop x.next line, length-drop at line) (omega (arith, r.stands, postfix-some r.tree)));
        stands = record { within = r.stands.within; ahead = r.stands.ahead; shallow = r.stands.shallow; depth = r.stands.depth };
        added = r.added;
      }

  pub chain_ends : {x : Place} {code' : List ℕ} → Chained l line at code used code' x → next_sign (above l) (drop x.next line) ≡ none →
      Taken (above l) line at code used x code'
  chain_ends {x} r e =
      record { tree = r.tree; outcome = r.so_far _ (ends_here r.tree (drop x.next line) e); stands = r.stands; added = r.added }

  pub chain_refused : {x : Place} {code' : List ℕ} → Chained l line at code used code' x → (s : Sign (above l)) → next_sign (above l) (drop x.next line) ≡ some s →
      Gives l (drop (x.next + 1) line) (refused 13) → Gives (above l) (drop at line) (refused 13)
  chain_refused {x} r s e g = r.so_far _ (refused_behind r.tree s (drop x.next line) e (rw drop-drop g))

  pub chain_goes_on : {x y z : Place} {code' code'' : List ℕ} → Chained l line at code used code' x → (s : Sign (above l)) →
      next_sign (above l) (drop x.next line) ≡ some s → Taken l line (x.next + 1) code' x.used y code'' → y.used < length code'' →
      z.next ≡ y.next → z.used ≡ y.used + 1 → z.depth ≡ max x.depth y.depth →
      Chained l line at code used (set code'' y.used (sign_byte s)) z
  unfolding postfix nesting
  chain_goes_on {x} {y} {z} {code'} {code''} r s e q room en eu ed =
      record {
        tree = chain r.tree s q.tree;
        so_far =
            λ o c.
            r.so_far o
            (goes_on r.tree s (drop x.next line) e (rw drop-drop q.outcome)
            (rw (length-drop y.next line, length-drop x.next line) (omega (arith, q.stands, postfix-some q.tree))) o (rw en at c));
        stands =
            record {
              within = omega (arith, q.stands);
              ahead = rw (length-append (postfix r.tree ++ postfix q.tree), length-append (postfix r.tree)) (omega (arith, r.stands, q.stands));
              shallow = omega (arith, r.stands, q.stands, postfix-some q.tree);
              depth = ed ∙ ap₂ max r.stands.depth q.stands.depth;
            };
        added = rw eu (added_twice (added_twice r.added q.added) (added_byte (sign_byte s) room));
      }

-- ---- signs

-- a sign that was found
pub record Found (l : Level) (bytes : List ℕ) (b : ℕ) : Type 0 where
  pub sign : Sign l
  pub stands : next_sign l bytes ≡ some sign
  pub byte : sign_byte sign ≡ b

module _ {l : Level} (bytes : List ℕ) where
  pub found : {r : std.Option ℕ} {b : ℕ} → r ≡ sign_answer (next_sign l bytes) → r ≡ Some b → Found l bytes b
  found {r} {b} e f = by (next_sign l bytes) refl (sym e ∙ f)
    where
      by : (o : Option (Sign l)) → next_sign l bytes ≡ o → sign_answer o ≡ Some b → Found l bytes b
      by none p q = absurd (let w : ◌≡◌ {A = ℕ} 0 1 = cc in omega arith)
      by (some s) p q = record { sign = s; stands = p; byte = cc }

  pub not_found : {r : std.Option ℕ} → r ≡ sign_answer (next_sign l bytes) → r ≡ None → next_sign l bytes ≡ none
  not_found {r} e f = by (next_sign l bytes) refl (sym e ∙ f)
    where
      by : (o : Option (Sign l)) → next_sign l bytes ≡ o → sign_answer o ≡ None → next_sign l bytes ≡ none
      by none p q = p
      by (some s) p q = absurd (let w : ◌≡◌ {A = ℕ} 0 1 = cc in omega arith)

-- a sign stands inside the line
pub sign_inside : {l : Level} (line : List ℕ) (at : ℕ) {b : ℕ} → Found l (drop at line) b → at < length line
sign_inside {l} line at {b} f = by (drop at line) (length-drop at line) f.stands
  where
    by : (bytes : List ℕ) → length bytes ≡ length line - at → next_sign l bytes ≡ some f.sign → at < length line
    by [] h e = absurd (let w : ◌≡◌ {A = ℕ} 0 1 = cc in omega arith)
    by (b ∷ bs) h e = omega arith

-- ---- at the head of a reader's loop, and behind one more operand: what has been read, and room for its code

pub record Head (l : Level) (line : List ℕ) (at : ℕ) (code : List ℕ) (used : ℕ) (code' : List ℕ) (x : Place) : Type 0 where
  pub chained : Chained l line at code used code' x
  pub room : Room line at code used
  pub long : length code' ≡ length code

pub record Second (l : Level) (line code : List ℕ) (x : Place) (code' : List ℕ) (y : Place) : Type 0 where
  pub taken : Taken l line (x.next + 1) code x.used y code'
  pub long : length code' ≡ length code

module _ {l : Level} {line : List ℕ} {at : ℕ} {code : List ℕ} {used : ℕ} {code' : List ℕ} {x : Place} (head : Head l line at code used code' x) where
  pub farther : at < x.next
  farther = omega (arith, head.chained.stands, postfix-some head.chained.tree)

  room_left : x.used + (length line - x.next) ≤ length code'
  room_left = omega (arith, head.room, head.chained.stands, head.chained.added, postfix-some head.chained.tree)

  module _ (inside : x.next < length line) where
    pub room_behind : Room line (x.next + 1) code' x.used
    room_behind = record { within = omega arith; room = omega (arith, room_left) }

    module _ {y : Place} {code'' : List ℕ} (second : Second l line code' x code'' y) where
      pub room_sign : y.used < length code''
      room_sign = omega (arith, room_left, second.taken.stands, second.taken.added)

      pub nearer : length line - y.next < length line - x.next
      nearer = omega (arith, second.taken.stands)

-- ---- a turn of a reader's loop: a sign that was answered, and the operand behind it

module _ {l : Level} {line : List ℕ} {at : ℕ} {code : List ℕ} {used : ℕ} {code' : List ℕ} {x : Place} (head : Head l line at code used code' x)
    {r : std.Option ℕ} {b : ℕ} (e : r ≡ sign_answer (next_sign (above l) (drop x.next line))) (f : r ≡ Some b) where
  sign_here : Found (above l) (drop x.next line) b
  sign_here = found (drop x.next line) e f

  pub sign_within : x.next < length line
  sign_within = sign_inside line x.next sign_here

  pub operand_room : Room line (x.next + 1) code' x.used
  operand_room = room_behind head sign_within

  pub operand_refused : Gives l (drop (x.next + 1) line) (refused 13) → Gives (above l) (drop at line) (refused 13)
  operand_refused g = chain_refused head.chained sign_here.sign sign_here.stands g

  module _ {y : Place} {code'' : List ℕ} (taken : Taken l line (x.next + 1) code' x.used y code'') (long : length code'' ≡ length code') where
    second : Second l line code' x code'' y
    second = record { taken = taken; long = long }

    pub sign_room : y.used < length code''
    sign_room = room_sign head sign_within second

    pub operand_nearer : length line - y.next < length line - x.next
    operand_nearer = nearer head sign_within second

    pub head_joined : {z : Place} {new : List ℕ} → (z.next ≡ y.next) × (z.used ≡ y.used + 1) × (z.depth ≡ max x.depth y.depth) → new ≡ set code'' y.used b
        → length new ≡ length code'' → Head l line at code used new z
    head_joined place is kept = record {
      chained =
          rw (is, ← sign_here.byte)
          (chain_goes_on head.chained sign_here.sign sign_here.stands taken sign_room place.0 place.1 place.2);
      room = head.room;
      long = kept ∙ long ∙ head.long;
    }
