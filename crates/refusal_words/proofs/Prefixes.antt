-- The entries of a list looked at from its start, turn by turn.
use Rattle.std.proofs.Common.{◌≡◌, refl, sym, ◌∙◌, ap, ℕ, ◌+◌, ◌<◌, ◌≤◌, List, [], ◌∷◌, ◌++◌, Bool, true, false, length, take, ltb, lt-ltb, le-ltb, add-one}
use mathlib.Core.Bool.{◌&&◌, and-true, and-false, and_assoc}
use Rattle.std.proofs.Math.Seq.{take-suc}
use Rattle.definitions.specs.Sums.{at}
use Rattle.definitions.specs.Partitions.{all_below}

below_snoc : (m : ℕ) (l : List ℕ) (x : ℕ) → all_below m (l ++ (x ∷ [])) ≡ all_below m l && ltb x m
unfolding all_below
below_snoc m [] x = and-true (ltb x m)
below_snoc m (y ∷ l) x = rw (below_snoc m l x) (sym (and_assoc (ltb y m) (all_below m l) (ltb x m)))

pub below_none : (m : ℕ) (a : List ℕ) → all_below m (take 0 a) ≡ true
unfolding all_below
below_none m a = refl

module _ (m : ℕ) (a : List ℕ) (i : ℕ) (h : i < length a) where
  below_more : all_below m (take (i + 1) a) ≡ all_below m (take i a) && ltb (at a i) m
  below_more = rw (add-one i, take-suc a i 0 h) (below_snoc m (take i a) (at a i))

  pub entry_above : m ≤ at a i → false ≡ all_below m (take (i + 1) a)
  entry_above l = sym (below_more ∙ ap (λ (t : Bool). all_below m (take i a) && t) (le-ltb (at a i) m l) ∙ and-false (all_below m (take i a)))

  pub entry_below : at a i < m → all_below m (take i a) ≡ all_below m (take (i + 1) a)
  entry_below l = sym (below_more ∙ ap (λ (t : Bool). all_below m (take i a) && t) (lt-ltb (at a i) m l) ∙ and-true (all_below m (take i a)))
