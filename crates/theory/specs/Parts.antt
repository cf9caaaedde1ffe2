-- Parts of a list: what is lent of one, and the list with a part put back.
--   part_behind, put_behind   the part from mid to the end
--   behind_front              what stands behind a front that has come back
--   at_part                   a part, entry by entry
use Rattle.std.specs.Prelude.{◌≡◌, List, ◌++◌, ℕ, ◌+◌, ◌-◌, ◌<◌, ◌≤◌, length, take, drop}
use Rattle.std.proofs.Common.{ap, ◌∙◌, append-nil, le_of_eq, arith, length-drop, drop_of_length-le, get_or-take, get_or-drop, take_all, drop-drop}
use Rattle.std.proofs.Math.Seq.{drop-append-add}
use borrow.Rule.Slice.PartMut.{put_mid}
use Rattle.definitions.specs.Sums.{at}

pub part_behind : (mid : ℕ) (l : List ℕ) → take (length l - mid) (drop mid l) ≡ drop mid l
part_behind mid l = take_all (length l - mid) (drop mid l) (le_of_eq (length-drop mid l))

pub put_behind : (mid : ℕ) (l new : List ℕ) → put_mid mid (length l - mid) l new ≡ take mid l ++ new
put_behind mid l new =
    ap (λ (b : List ℕ). take mid l ++ (new ++ b)) (drop_of_length-le (drop mid l) (le_of_eq (length-drop mid l)))
    ∙ ap (λ (b : List ℕ). take mid l ++ b) (append-nil new)

pub behind_front : (long place : ℕ) (l new : List ℕ) → length new ≡ long → long ≤ place → drop place (new ++ drop long l) ≡ drop place l
behind_front long place l new e h =
    let split : place ≡ length new + (place - long) = omega arith in
    let back : long + (place - long) ≡ place = omega arith in
    ap (λ (k : ℕ). drop k (new ++ drop long l)) split ∙ drop-append-add new (drop long l) (place - long)
    ∙ drop-drop (place - long) long l ∙ ap (λ (k : ℕ). drop k l) back

pub at_part : (a k : ℕ) (l : List ℕ) (i : ℕ) → i < k → at (take k (drop a l)) i ≡ at l (a + i)
at_part a k l i h = get_or-take k (drop a l) i 0 h ∙ get_or-drop a l i 0
