-- A list of two halves, of which first the one and then the other is lent and worked on.
--   second, joined     what the second half is when it is lent, and the whole when it has come back
use Rattle.std.specs.Prelude.{◌≡◌, List, ◌++◌, ℕ, ◌+◌, ◌-◌, length, take, drop}
use Rattle.std.proofs.Common.{ap, ap₂, ◌∙◌, append-nil, le_of_eq, arith, length-append, length-drop, drop_of_length-le, take_at, drop_at, take_all, length-take-le}
use borrow.Rule.Slice.PartMut.{put_mid}

module _ (mid : ℕ) (ys l : List ℕ) (long : length ys ≡ mid + mid) (same : length l ≡ length (take mid ys)) where
  pub first_length : length l ≡ mid
  first_length = same ∙ length-take-le mid ys (omega arith)

  pub both-length : length (l ++ drop mid ys) ≡ mid + mid
  both-length = simp (length-append, length-drop) (omega (arith, first_length))

  pub second : take (length (l ++ drop mid ys) - mid) (drop mid (l ++ drop mid ys)) ≡ drop mid ys
  second =
      ap (take (length (l ++ drop mid ys) - mid)) (drop_at l (drop mid ys) mid first_length)
      ∙ take_all (length (l ++ drop mid ys) - mid) (drop mid ys) (omega (arith, length-drop mid ys, both-length))

  pub joined : (k : List ℕ) → put_mid mid (length (l ++ drop mid ys) - mid) (l ++ drop mid ys) k ≡ l ++ k
  joined k =
      ap₂ (λ (a b : List ℕ). a ++ (k ++ b)) (take_at l (drop mid ys) mid first_length)
      (drop_of_length-le (drop mid (l ++ drop mid ys)) (le_of_eq (length-drop mid (l ++ drop mid ys))))
      ∙ ap (λ (b : List ℕ). l ++ b) (append-nil k)
