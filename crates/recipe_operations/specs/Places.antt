-- Tables at places of a pad: what is put there, what stays, and a front that comes back.
use Rattle.std.specs.Prelude.{◌≡◌, List, ◌++◌, ℕ, ◌+◌, ◌-◌, ◌^◌, ◌<◌, ◌≤◌, length, take, drop}
use Rattle.std.proofs.Common.{sym, ◌∙◌, ap, subst, arith, length-drop, get_or-take, get_or-drop, length-take-le, drop_at}
use Rattle.std.proofs.Math.Seq.{take-append_seam}
use borrow.Rule.Slice.PartMut.{put_mid}
use Rattle.definitions.specs.Sums.{at}
use Rattle.theory.specs.Lists.{tabulate_of, tabulate_self}
use Rattle.theory.specs.Parts.{at_part, behind_front}
use Rattle.ranked_within.specs.Within.{table_at}
use Rattle.recipe_operations.specs.Operands.{Saved}

-- the part from a place on, as long as a list
pub part_size : (place long : ℕ) → (place + long) - place ≡ long
part_size place long = omega arith

-- lists of one length with the same entries
same_entries : (k : ℕ) (a b : List ℕ) → length a ≡ k → length b ≡ k → ((i : ℕ) → i < k → at a i ≡ at b i) → a ≡ b
same_entries k a b e f h = tabulate_of k a (at b) e h ∙ tabulate_self k b f

pub table_long : (n place : ℕ) (l : List ℕ) → place + 2 ^ n ≤ length l → length (table_at n place l) ≡ 2 ^ n
table_long n place l h = length-take-le (2 ^ n) (drop place l) (omega (arith, length-drop place l))

-- the table at a place, by its entries
module _ (n place : ℕ) (l : List ℕ) (room : place + 2 ^ n ≤ length l) where
  pub table_by : (t : List ℕ) → length t ≡ 2 ^ n → ((i : ℕ) → i < 2 ^ n → at l (place + i) ≡ at t i) → table_at n place l ≡ t
  table_by t long h =
      same_entries (2 ^ n) (table_at n place l) t (table_long n place l room) long (λ i c. at_part place (2 ^ n) l i c ∙ h i c)

  pub same_table : (k : List ℕ) → place + 2 ^ n ≤ length k → ((x : ℕ) → place ≤ x → x < place + 2 ^ n → at l x ≡ at k x) → table_at n place l ≡ table_at n place k
  same_table k room' h =
      table_by (table_at n place k) (table_long n place k room')
      (λ i c. h (place + i) (omega arith) (omega arith) ∙ sym (at_part place (2 ^ n) k i c))

-- before the end of the first list
at_first : (p q : List ℕ) (x : ℕ) → x < length p → at (p ++ q) x ≡ at p x
at_first p q x h = sym (get_or-take (length p) (p ++ q) x 0 h) ∙ ap (λ (l : List ℕ). at l x) (take-append_seam p q)

-- a list put at a place
pub saved : (place long : ℕ) (pad new : List ℕ) → length new ≡ long → place + long ≤ length pad → Saved place new pad (put_mid place ((place + long) - place) pad new)
saved place long pad new e room = record { there = there; before = before } where
  front : length (take place pad) ≡ place
  front = length-take-le place pad (omega arith)

  there : take (length new) (drop place (put_mid place ((place + long) - place) pad new)) ≡ new
  there = ap (take (length new)) (drop_at (take place pad) _ place front) ∙ take-append_seam new _

  before : (x : ℕ) → x < place → at (put_mid place ((place + long) - place) pad new) x ≡ at pad x
  before x h = at_first (take place pad) _ x (omega (arith, front)) ∙ get_or-take place pad x 0 h

pub saved_as : (place : ℕ) (t pad new : List ℕ) → new ≡ t → place + length t ≤ length pad → Saved place t pad (put_mid place ((place + length t) - place) pad new)
saved_as place t pad new e room =
    subst (λ (l : List ℕ). Saved place l pad (put_mid place ((place + length t) - place) pad new)) e
    (saved place (length t) pad new (ap length e) room)

-- a front that comes back leaves what stands behind it
pub behind : (used : ℕ) (pad new : List ℕ) → length new ≡ length (take used pad) → used ≤ length pad → (x : ℕ) → used ≤ x → at (new ++ drop used pad) x ≡ at pad x
behind used pad new kept room x h =
    let long : length new ≡ used = kept ∙ length-take-le used pad room in
    let split : used + (x - used) ≡ x = omega arith in
    rw (← split) (sym (at_drop (new ++ drop used pad)) ∙ ap (λ (l : List ℕ). at l (x - used)) (behind_front used used pad new long (omega arith)) ∙ at_drop pad)
  where
    at_drop : (l : List ℕ) → at (drop used l) (x - used) ≡ at l (used + (x - used))
    at_drop l = get_or-drop used l (x - used) 0
