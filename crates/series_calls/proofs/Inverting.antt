-- The inverse call: its number, and what its result is.
use mathlib.Core.Path.{◌≡◌, sym, ap, subst, ◌∙◌}
use mathlib.Core.Bool.{Bool, true, false}
use mathlib.Core.List.{List}
use Prim.Native.Nat.{ℕ, ◌<◌, ◌≤◌}
use native.Mathlib.Nat.{mod-eq_of_lt}
use native.Mathlib.Omega.{arith}
use lib.ListN.{length}
use lib.Pow.{pow_pos}
use Rattle.definitions.specs.Sums.{at}
use Rattle.definitions.specs.Partitions.{IsInverse, shares_divisor}
use Rattle.definitions.specs.Refusals.{word_if, shared_start_word, single_number, inverse_number}
use Rattle.theory.specs.Inverse.{inverse_of, inverse_is}
use Rattle.residues.specs.Reciprocals.{IsReciprocal, IsCommonDivisor, reciprocal_shares, common_shares}
use Rattle.residues.specs.declared.Modulus.{Modulus}
use Rattle.checks.specs.Words.{or_else_go}
use Rattle.checks.specs.Accepted.{Single, single_accepted}
use Rattle.checks.specs.Answers.{IsChecked, passed, stands_in, same_number}
use Rattle.std.specs.Prelude.{Ok}
use Rattle.series_calls.specs.InverseTables.{inverse_table, reciprocal_is}

module _ (n m : ℕ) (a : List ℕ) (r p : ℕ) where
  -- the first entry decides
  by_first : single_number n m a r p ≡ 0 → (b : Bool) → shares_divisor m (at a 0) ≡ b → inverse_number n m a r p ≡ word_if b 6
  unfolding inverse_number
  by_first z b e = or_else_go (single_number n m a r p) (shared_start_word m a) z ∙ ap (λ (t : Bool). word_if t 6) e

  module _ {modulus : Modulus} (h : IsChecked m (single_number n m a r p) (Ok modulus)) where
    value_is : modulus.value ≡ m
    value_is = (stands_in h).value_is

    pub checked : Single n m a r p
    checked = single_accepted n m a r p (passed h)

    pub has_first : 0 < length a
    has_first = omega (arith, checked.table.size, pow_pos n)

    pub first_below : at a 0 < modulus.value
    first_below = rw value_is (checked.table.below 0)

    pub divisor_shared : (d : ℕ) → IsCommonDivisor modulus.value (at a 0) d → 6 ≡ inverse_number n m a r p
    divisor_shared d s =
        let pos : 0 < m = omega (arith, checked.range.lowest) in
        sym (by_first (passed h) true (common_shares pos (subst (λ (k : ℕ). IsCommonDivisor k (at a 0) d) value_is s)))

    module _ (u : ℕ) (i : IsReciprocal modulus.value (at a 0) u) where
      own : IsReciprocal m (at a 0) u
      own = subst (λ (k : ℕ). IsReciprocal k (at a 0) u) value_is i

      -- the last test accepts too
      pub invertible : IsChecked m (inverse_number n m a r p) (Ok modulus)
      invertible = same_number (passed h ∙ sym (by_first (passed h) false (reciprocal_shares own))) h

      pub inverted : {l : List ℕ} → l ≡ inverse_of n modulus.value u a → l ≡ inverse_table n modulus.value a
      inverted made =
          made ∙ ap (λ (v : ℕ). inverse_of n modulus.value v a) (sym (reciprocal_is modulus.value (at a 0) u i.below i.one))

      pub is_inverse : {l : List ℕ} → l ≡ inverse_table n m a → IsInverse n m a l
      is_inverse made =
          let two : 2 ≤ m = checked.range.lowest in
          rw (made, reciprocal_is m (at a 0) u own.below own.one) (inverse_is n m a u two (own.one ∙ sym (mod-eq_of_lt two)))
