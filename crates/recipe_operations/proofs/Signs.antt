-- The call of a sign on the table at a place and on the result: what each core is lent, and what is left.
use mathlib.Core.Path.{◌≡◌, refl, sym, ◌∙◌, ap, ap₂}
use mathlib.Core.Bool.{false}
use mathlib.Core.List.{List}
use Prim.Native.Nat.{ℕ, zero, suc, ◌+◌, ◌-◌, ◌*◌, ◌%◌, ◌^◌, ◌<◌, ◌≤◌}
use native.Mathlib.Omega.{arith}
use Rattle.std.specs.Prelude.{Result, Err}
use lib.Dec.{eqb}
use lib.ListN.{length, take, drop}
use borrow.Author.Tests.{eqb-false}
use borrow.Rule.Slice.PartMut.{put_mid}
use Rattle.definitions.specs.Limits.{pad_length}
use Rattle.definitions.specs.Sums.{at}
use Rattle.definitions.specs.Products.{residues, sum_table, difference_table, subset_table, xor_table}
use Rattle.definitions.specs.Refusals.{halving_word}
use Rattle.definitions.specs.Outcomes.{Outcome, accepted}
use Rattle.refusals.specs.Words.{word, word_of}
use Rattle.refusals.specs.declared.Refusal.{Refusal}
use Rattle.definitions.specs.Recipes.{plus, minus, times, union, xor, call_gives, sign_call}
use Rattle.theory.specs.Lists.{length-residues}
use Rattle.theory.specs.Parts.{at_part}
use Rattle.residues.specs.declared.Modulus.{Modulus}
use Rattle.checks.specs.Words.{no_word}
use Rattle.checks.specs.Accepted.{InRange}
use Rattle.pointwise.specs.Pairs.{Inputs}
use Rattle.pointwise.specs.Tables.{Ready}
use Rattle.ranked_theory.specs.Layout.{rows_and_tables}
use Rattle.ranked_within.specs.Within.{table_at, Standing, WithinReady, WithinMade}
use Rattle.transform_passes.specs.Steps.{zeta, moebius, walsh, Transformed, products, Halves}
use Rattle.transform_passes.specs.Made.{union_made, xor_made}
use Rattle.recipe_theory.specs.Values.{plus_gives, minus_gives, times_gives, union_gives, xor_gives}
use Rattle.refusals.specs.Handed.{handed_word, never_accepts}
use Rattle.recipe_operations.specs.Operands.{Operands, PairReady, Saved, Done}
use Rattle.recipe_operations.specs.Places.{part_size, table_by, same_table, saved}

-- ---- a call that is done, and one that refuses

pub refused_gives : (word : ℕ) (a b : List ℕ) → (word ≡ 0 → ⊥) → call_gives word a ≡ call_gives word b
refused_gives zero a b h = absurd (h refl)
refused_gives (suc k) a b h = refl

module _ {n : ℕ} {call : Outcome (List ℕ)} {place : ℕ} {result pad : List ℕ} where
  pub is_done : {made result' pad' : List ℕ} → call ≡ accepted made → result' ≡ made
      → ((x : ℕ) → pad_length n ≤ x → x < place → at pad' x ≡ at pad x) → Done n call place result pad 0 result' pad'
  is_done gives e rest = record { gives = gives ∙ ap accepted (sym e); kept = λ h. absurd (h refl); rest = rest }

  -- the word of its test refuses it, and nothing is changed
  pub is_refused : (made : List ℕ) (word : ℕ) {w : ℕ} → call ≡ call_gives word made → w ≡ word → (w ≡ 0 → ⊥) → Done n call place result pad w result pad
  is_refused made word {w} gives e h =
      record {
        gives = gives ∙ ap (λ (k : ℕ). call_gives k made) (sym e) ∙ refused_gives w made result h;
        kept = λ z. refl;
        rest = λ x a b. refl;
      }

  -- a `?` hands its refusal on
  pub is_refused_on : {A : Type 0} {refusal : Refusal} {r : Result A Refusal} (made : List ℕ) (test : ℕ) → call ≡ call_gives test made → word refusal ≡ test
      → r ≡ Err refusal → Done n call place result pad (word_of r) result pad
  is_refused_on made test gives e h = is_refused made test gives (handed_word h ∙ e) (never_accepts h)

-- ---- two tables side by side

module _ {n : ℕ} {modulus : Modulus} {place : ℕ} {pad result : List ℕ} (h : PairReady n modulus place pad result) where
  abbrev long : ℕ
  long = length result

  pub pair_inputs : Inputs modulus long (take ((place + long) - place) (drop place pad)) (take ((place + long + long) - (place + long)) (drop (place + long) pad))
  pair_inputs = rw (h.long, part_size place (2 ^ n), part_size (place + 2 ^ n) (2 ^ n)) (record { first = h.left; second = h.right })

  -- what is made of two parts is made of the two tables
  pub pair_made : (rule : ℕ → List ℕ → List ℕ → List ℕ) {last : List ℕ}
      → last ≡ rule long (take ((place + long) - place) (drop place pad)) (take ((place + long + long) - (place + long)) (drop (place + long) pad))
      → last ≡ rule (2 ^ n) (table_at n place pad) (table_at n (place + 2 ^ n) pad)
  pair_made rule e = rw (h.long, part_size place (2 ^ n), part_size (place + 2 ^ n) (2 ^ n)) at e

-- ---- the operands

module _ {n : ℕ} {modulus : Modulus} {place : ℕ} {result pad : List ℕ} (h : Operands n modulus place result pad) where
  abbrev m : ℕ
  m = modulus.value

  abbrev left : List ℕ
  left = table_at n place pad

  range : InRange n m
  range = record { few = h.few; lowest = modulus.valid.lowest; largest = modulus.valid.largest }

  -- ---- the right one put behind the left one

  module _ {pad' : List ℕ} (kept : length pad' ≡ length pad) (s : Saved (place + length result) result pad pad') where
    left_same : table_at n place pad' ≡ left
    left_same =
        same_table n place pad' (omega (arith, h.inside, kept)) pad (omega (arith, h.inside))
        (λ x low high. s.before x (omega (arith, h.right.size)))

    right_same : table_at n (place + 2 ^ n) pad' ≡ result
    right_same = rw h.right.size at s.there

    pub pair_ready : PairReady n modulus place pad' result
    pair_ready =
        record {
          left = rw left_same h.left;
          right = rw right_same h.right;
          long = h.right.size;
          inside = omega (arith, h.inside, kept);
        }

    pair_rest : (x : ℕ) → pad_length n ≤ x → x < place → at pad' x ≡ at pad x
    pair_rest x low high = s.before x (omega arith)

    pub added : {last : List ℕ} → last ≡ sum_table n m (table_at n place pad') (table_at n (place + 2 ^ n) pad')
        → Done n (sign_call n m plus left result) place result pad 0 last pad'
    added e = is_done (plus_gives range h.left h.right) (e ∙ ap₂ (sum_table n m) left_same right_same) pair_rest

    pub subtracted : {last : List ℕ} → last ≡ difference_table n m (table_at n place pad') (table_at n (place + 2 ^ n) pad')
        → Done n (sign_call n m minus left result) place result pad 0 last pad'
    subtracted e = is_done (minus_gives range h.left h.right) (e ∙ ap₂ (difference_table n m) left_same right_same) pair_rest

  -- ---- the product inside the pad

  pub within_ready : WithinReady m n place place result pad
  within_ready =
      let stands : Standing n place pad = record { few = h.few; behind = omega (arith, rows_and_tables n, h.behind); inside = omega (arith, h.inside) } in
      record {
        from = stands;
        to = stands;
        left_below = λ i c. rw (at_part place (2 ^ n) pad i c) at (h.left.below i);
        right = h.right.size;
        right_below = λ i c. h.right.below i;
      }

  pub multiplied : {pad' last : List ℕ} → length pad' ≡ length pad → WithinMade m n place place result pad pad'
      → last ≡ take (length result) (drop place pad') → Done n (sign_call n m times left result) place result pad 0 last pad'
  multiplied {pad'} kept w e =
      is_done (times_gives range h.left h.right)
      ((rw h.right.size at e) ∙ table_by n place pad' (omega (arith, h.inside, kept)) (subset_table n m left result) (length-residues n m _) w.there)
      (λ x low high. w.rest x (omega (arith, rows_and_tables n)) (λ i c e. omega arith))

  -- ---- transforms at the place

  abbrev part : List ℕ
  part = take ((place + length result) - place) (drop place pad)

  part_is : part ≡ left
  part_is = ap (λ (k : ℕ). take k (drop place pad)) (part_size place (length result) ∙ h.right.size)

  pub both_ready : Ready n modulus part × Ready n modulus result
  both_ready = (
    record { few = h.few; table = rw part_is h.left },
    record { few = h.few; table = h.right },
  )

  -- the place holds what was made there, and is put into the result
  module _ (new : List ℕ) (kept : length new ≡ length part) where
    abbrev pad_then : List ℕ
    pad_then = put_mid place ((place + length result) - place) pad new

    new_long : length new ≡ length result
    new_long = kept ∙ ap length part_is ∙ h.left.size ∙ sym h.right.size

    put : Saved place new pad pad_then
    put = saved place (length result) pad new new_long (omega (arith, h.inside, h.right.size))

    restored : {long : ℕ} {last : List ℕ} → long ≡ length result → last ≡ take long (drop place pad_then) → last ≡ new
    restored l e = e ∙ ap (λ (k : ℕ). take k (drop place pad_then)) (l ∙ sym new_long) ∙ put.there

    rest : (x : ℕ) → pad_length n ≤ x → x < place → at pad_then x ≡ at pad x
    rest x low high = put.before x high

    pub united : {long : ℕ} {last : List ℕ} → long ≡ length result → Transformed m moebius n (products n m zeta part result) new
        → last ≡ take long (drop place pad_then) → Done n (sign_call n m union left result) place result pad 0 last pad_then
    united l t e = is_done (union_gives range h.left h.right) (restored l e ∙ union_made h.left h.right (rw part_is at t)) rest

    pub xored : {long u : ℕ} {taken last : List ℕ} → halving_word m ≡ 0 → long ≡ length result → Transformed m walsh n (products n m walsh part result) new
        → taken ≡ take long (drop place pad_then) → Halves n m u → last ≡ residues n m (λ S. u * at taken S)
        → Done n (sign_call n m xor left result) place result pad 0 last pad_then
    xored z l t e half f =
        is_done (xor_gives range h.left h.right ∙ ap (λ (k : ℕ). call_gives k (xor_table n m left result)) z)
        (xor_made h.left h.right (rw part_is at t) half (rw (restored l e) at f)) rest

    -- before it is scaled
    pub scale_ready : {long : ℕ} {taken : List ℕ} → long ≡ length result → Transformed m walsh n (products n m walsh part result) new
        → taken ≡ take long (drop place pad_then) → Ready n modulus taken
    scale_ready l t e = record { few = h.few; table = rw (restored l e) t.table }

  pub xor_refused : {A : Type 0} {refusal : Refusal} {r : Result A Refusal} → word refusal ≡ halving_word m → r ≡ Err refusal
      → Done n (sign_call n m xor left result) place result pad (word_of r) result pad
  xor_refused e stop = is_refused_on (xor_table n m left result) (halving_word m) (xor_gives range h.left h.right) e stop

pub odd : (m : ℕ) → halving_word m ≡ 0 → m % 2 ≡ 1
odd m z =
    let no : eqb (m % 2) 0 ≡ false = no_word (eqb (m % 2) 0) 7 (λ z. omega arith) z in
    omega (arith, eqb-false (m % 2) 0 no)
