-- Laws of bytes stored one after the other from a place on (`sets`).
--   sets_append   two runs, one behind the other
--   sets_front    a run at the start, and what is left behind it
--   sets_all      a run as long as the list
use Rattle.std.specs.Prelude.{◌≡◌, List, [], ◌∷◌, ◌++◌, ℕ, suc, ◌+◌, ◌≤◌, length, drop, set}
use Rattle.std.proofs.Common.{◌∙◌, ap, append-nil, arith, drop_of_length-le}
use Rattle.std.proofs.lemmas.List.Edits.{sets, sets-eq}

pub sets_append : (l : List ℕ) (i : ℕ) (xs ys : List ℕ) → sets l i (xs ++ ys) ≡ sets (sets l i xs) (i + length xs) ys
sets_append l i [] ys = ap (λ (k : ℕ). sets l k ys) (omega arith)
sets_append l i (x ∷ xs) ys =
    sets_append (set l i x) (suc i) xs ys ∙ ap (λ (k : ℕ). sets (sets (set l i x) (suc i) xs) k ys) (omega arith)

pub sets_front : (l xs : List ℕ) → length xs ≤ length l → sets l 0 xs ≡ xs ++ drop (length xs) l
sets_front l xs h =
    let e : 0 + length xs ≡ length xs = omega arith in
    sets-eq xs l 0 (omega arith) ∙ ap (λ (k : ℕ). xs ++ drop k l) e

pub sets_all : (l xs : List ℕ) → length xs ≡ length l → sets l 0 xs ≡ xs
sets_all l xs e =
    sets_front l xs (omega arith) ∙ ap (λ (r : List ℕ). xs ++ r) (drop_of_length-le l {i = length xs} (omega arith)) ∙ append-nil xs
