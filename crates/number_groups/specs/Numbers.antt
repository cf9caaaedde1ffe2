-- Laws of numbers in groups of seven bits: what is written reads back, and what reads is what is written.
--   groups-last, groups_more, one_long, more_long   the groups of a number by its lowest one, and how many they are
--   reads_none, reads_last, reads_more, in_front_lem    reading, by the first byte
--   reads_word                                      a number is refused with word 8 only
--   reads_back, reads_written                       the two laws
use Rattle.std.specs.Prelude.{◌≡◌, refl, Bool, true, false, not, ◌&&◌, List, [], ◌∷◌, ◌++◌, ℕ, zero, suc, ◌+◌, ◌-◌, ◌*◌, ◌/◌, ◌%◌, ◌^◌, ◌<◌, ◌≤◌, ltb, length}
use Rattle.std.proofs.Common.{sym, ◌∙◌, ap, subst, ⊎_elim, arith, lt-ltb, le-ltb, ltb-true}
use Rattle.definitions.specs.Outcomes.{Outcome, accepted, refused, and_then, unless}
use Rattle.definitions.specs.Refusals.{word_if}
use Rattle.definitions.specs.Groups.{Numeral, groups, groups_in, in_front, read_number}
use Rattle.definitions.specs.Partitions.{all_below}
use Rattle.theory.specs.Tests.{below_or, and_true_left, and_true_right, zero_is_not_one}

-- ---- writing

module _ (k v : ℕ) where
  last_group_lem : v < 128 → groups_in (suc k) v ≡ v ∷ []
  unfolding groups_in
  last_group_lem h = rw (lt-ltb v 128 h)

  more_groups : 128 ≤ v → groups_in (suc k) v ≡ (128 + v % 128) ∷ groups_in k (v / 128)
  unfolding groups_in
  more_groups h = rw (le-ltb v 128 h)

-- one more group than a number needs is not used
unused : (k v : ℕ) → (128 ≤ v → groups_in k (v / 128) ≡ groups_in (suc k) (v / 128)) → groups_in (suc k) v ≡ groups_in (suc (suc k)) v
unused k v further =
    ⊎_elim (λ (l : v < 128). last_group_lem k v l ∙ sym (last_group_lem (suc k) v l))
    (λ (l : 128 ≤ v). more_groups k v l ∙ ap (λ (gs : List ℕ). (128 + v % 128) ∷ gs) (further l) ∙ sym (more_groups (suc k) v l))
    (below_or v 128)

enough : (k v : ℕ) → v < 128 ^ suc k → groups_in (suc k) v ≡ groups_in (suc (suc k)) v
enough zero v h = unused zero v (λ l. absurd (omega arith))
enough (suc k) v h = unused (suc k) v (λ l. enough k (v / 128) (omega arith))

pub groups-last : (v : ℕ) → v < 128 → groups v ≡ v ∷ []
groups-last v h = last_group_lem 4 v h

pub groups_more : (v : ℕ) → 128 ≤ v → v < 2 ^ 32 → groups v ≡ (128 + v % 128) ∷ groups (v / 128)
groups_more v l h =
    more_groups 4 v l ∙ ap (λ (gs : List ℕ). (128 + v % 128) ∷ gs) (enough 3 (v / 128) (omega arith))

pub one_long : (v : ℕ) → v < 128 → length (groups v) ≡ 1
one_long v h = ap length (groups-last v h)

pub more_long : (k v : ℕ) → 128 ≤ v → v < 2 ^ 32 → length (groups (v / 128)) ≡ k → length (groups v) ≡ suc k
more_long k v l h e = ap length (groups_more v l h) ∙ ap suc e

-- ---- reading

pub reads_none : read_number [] ≡ refused 8
unfolding read_number
reads_none = refl

module _ (b : ℕ) (bs : List ℕ) where
  pub reads_last : b < 128 → read_number (b ∷ bs) ≡ accepted (record { value = b; rest = bs })
  unfolding read_number
  reads_last h = rw (lt-ltb b 128 h)

  pub reads_more : 128 ≤ b → read_number (b ∷ bs) ≡ and_then (read_number bs) (in_front (b - 128))
  unfolding read_number
  reads_more h = rw (le-ltb b 128 h)

module _ (g : ℕ) (x : Numeral) where
  -- the group and the number make a longer one
  pub in_front_lem : 0 < x.value → g + 128 * x.value < 2 ^ 32 →
      in_front g x ≡ accepted (record { value = g + 128 * x.value; rest = x.rest })
  in_front_lem p l = rw (lt-ltb 0 x.value p, lt-ltb (g + 128 * x.value) (2 ^ 32) l)

-- a number is refused with word 8 only
word_by : (g : ℕ) (o : Outcome Numeral) → ((k : ℕ) → o ≡ refused k → k ≡ 8) → (k : ℕ) → and_then o (in_front g) ≡ refused k → k ≡ 8
word_by g (refused j) w k e = let f : j ≡ k = cc in sym f ∙ w j refl
word_by g (accepted x) w k e = tested (ltb 0 x.value && ltb (g + 128 * x.value) (2 ^ 32)) (record { value = g + 128 * x.value; rest = x.rest }) k e
  where
    tested : (t : Bool) (y : Numeral) (k : ℕ) → unless (word_if (not t) 8) (accepted y) ≡ refused k → k ≡ 8
    tested true y k e = absurd (zero_is_not_one (cc))
    tested false y k e = cc

pub reads_word : (bs : List ℕ) (k : ℕ) → read_number bs ≡ refused k → k ≡ 8
reads_word [] k e = let f = sym reads_none ∙ e in cc
reads_word (b ∷ bs) k e = ⊎_elim
    (λ (l : b < 128). let f = sym (reads_last b bs l) ∙ e in absurd (zero_is_not_one (cc)))
    (λ (l : 128 ≤ b). word_by (b - 128) (read_number bs) (reads_word bs) k (sym (reads_more b bs l) ∙ e))
    (below_or b 128)

-- a number by its lowest group, and what stands behind it
by_group : (v : ℕ) (bs rest : List ℕ) → 128 ≤ v → v < 2 ^ 32 → read_number bs ≡ accepted (record { value = v / 128; rest = rest }) →
    read_number ((128 + v % 128) ∷ bs) ≡ accepted (record { value = v; rest = rest })
by_group v bs rest s l e =
    reads_more (128 + v % 128) bs (omega arith)
    ∙ ap (λ (o : Outcome Numeral). and_then o (in_front (128 + v % 128 - 128))) e
    ∙ in_front_lem (128 + v % 128 - 128) (record { value = v / 128; rest = rest }) (omega arith) (omega arith)
    ∙ ap (λ (w : ℕ). accepted (record { value = w; rest = rest })) (omega arith)

back_by : (k v : ℕ) (rest : List ℕ) → v < 2 ^ 32 →
    (128 ≤ v → read_number (groups_in k (v / 128) ++ rest) ≡ accepted (record { value = v / 128; rest = rest })) →
    read_number (groups_in (suc k) v ++ rest) ≡ accepted (record { value = v; rest = rest })
back_by k v rest l further = ⊎_elim
    (λ (s : v < 128). rw (last_group_lem k v s) (reads_last v rest s))
    (λ (s : 128 ≤ v). rw (more_groups k v s) (by_group v (groups_in k (v / 128) ++ rest) rest s l (further s)))
    (below_or v 128)

back_in : (k v : ℕ) (rest : List ℕ) → v < 128 ^ suc k → v < 2 ^ 32 →
    read_number (groups_in (suc k) v ++ rest) ≡ accepted (record { value = v; rest = rest })
back_in zero v rest h l = back_by zero v rest l (λ s. absurd (omega arith))
back_in (suc k) v rest h l = back_by (suc k) v rest l (λ s. back_in k (v / 128) rest (omega arith) (omega arith))

-- what is written reads back
pub reads_back : (v : ℕ) (rest : List ℕ) → v < 2 ^ 32 → read_number (groups v ++ rest) ≡ accepted (record { value = v; rest = rest })
reads_back v rest l = back_in 4 v rest (omega arith) l

-- bytes that begin with the groups of a number
pub record Written (bytes : List ℕ) (x : Numeral) : Type 0 where
  pub form : bytes ≡ groups x.value ++ x.rest
  pub small : x.value < 2 ^ 32

longer_form : (b : ℕ) (bs : List ℕ) (y x : Numeral) (some small : Bool) → 128 ≤ b → b < 256 → Written bs y →
    ltb 0 y.value ≡ some → ltb (b - 128 + 128 * y.value) (2 ^ 32) ≡ small →
    unless (word_if (not (some && small)) 8) (accepted (record { value = b - 128 + 128 * y.value; rest = y.rest })) ≡ accepted x →
    Written (b ∷ bs) x
longer_form b bs y x false small l h w p q e = absurd (zero_is_not_one (cc))
longer_form b bs y x true false l h w p q e = absurd (zero_is_not_one (cc))
longer_form b bs y x true true l h w p q e =
    let v = b - 128 + 128 * y.value in
    let pos : 0 < y.value = ltb-true 0 y.value p in
    let top : v < 2 ^ 32 = ltb-true v (2 ^ 32) q in
    let gs : groups v ≡ b ∷ groups y.value =
    groups_more v (omega arith) top ∙ ap (λ (a : ℕ). a ∷ groups (v / 128)) (omega arith) ∙ ap (λ (a : ℕ). b ∷ groups a) (omega arith) in
    let same : record { value = v; rest = y.rest } ≡ x = cc in
    subst (Written (b ∷ bs)) same
    (record { form = ap (λ (l : List ℕ). b ∷ l) w.form ∙ ap (λ (l : List ℕ). l ++ y.rest) (sym gs); small = top })

written_by : (b : ℕ) (bs : List ℕ) (o : Outcome Numeral) (x : Numeral) → 128 ≤ b → b < 256 →
    ((y : Numeral) → o ≡ accepted y → Written bs y) → and_then o (in_front (b - 128)) ≡ accepted x → Written (b ∷ bs) x
written_by b bs (refused k) x l h w e = absurd (zero_is_not_one (cc))
written_by b bs (accepted y) x l h w e = longer_form b bs y x _ _ l h (w y refl) refl refl e

-- what reads is what is written
pub reads_written : (bs : List ℕ) (x : Numeral) → all_below 256 bs ≡ true → read_number bs ≡ accepted x → Written bs x
unfolding all_below
reads_written [] x h e = let f = sym reads_none ∙ e in absurd (zero_is_not_one (cc))
reads_written (b ∷ bs) x h e = ⊎_elim
    (λ (l : b < 128).
    let same : record { value = b; rest = bs } ≡ x = let f = sym (reads_last b bs l) ∙ e in cc in
    subst (Written (b ∷ bs)) same (record { form = rw (groups-last b l); small = omega arith }))
    (λ (l : 128 ≤ b).
    written_by b bs (read_number bs) x l (ltb-true b 256 (and_true_left (ltb b 256) (all_below 256 bs) h))
    (λ y f. reads_written bs y (and_true_right (ltb b 256) (all_below 256 bs) h) f)
    (sym (reads_more b bs l) ∙ e))
    (below_or b 128)
