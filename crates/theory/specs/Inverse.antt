-- The inverse under the subset product is a composition: of the table's own sets with the row of inverses.
--   inverse_of n m u A            the inverse of A, where u is a reciprocal of A's first entry
--   unit_table                   modulo m, 1 at the empty set is 1
--   inverse_is                   it is an inverse
--   inverse_unique               there is but one
--   inverse_coprime, inverse_exists    there is one exactly where the first entry and m have no common divisor above 1
use Rattle.std.specs.Prelude.{◌≡◌, refl, Bool, true, false, cond, List, eqb}
use Rattle.std.proofs.Common.{sym, ap, ◌∙◌, mod-eq_of_lt, arith, pow_pos}
use Prim.Native.Nat.{ℕ, ◌*◌, ◌%◌, ◌^◌, ◌<◌, ◌≤◌}
use Rattle.std.proofs.Math.Nat.{zero-mod}
use Rattle.definitions.specs.Sums.{tabulate, at}
use Rattle.definitions.specs.Products.{residues, subset_sum, subset_table}
use Rattle.definitions.specs.Partitions.{composition_sum, unit, IsInverse, shares_divisor}
use Rattle.theory.specs.Lists.{length-residues, residues_ext, at-tabulate, tabulate_ext}
use Rattle.theory.specs.Entries.{below_at, below_residues}
use Rattle.theory.specs.Divisors.{coprime, reciprocal}
use Rattle.theory.specs.Semiring.{one-mul}
use Rattle.theory.specs.Halves.{Table, scalar, mul, comp, laws, empty, one, linear, comp-conv, comp-linear, comp-one, tab, tab-empty, tab-unit}
use Rattle.theory.specs.Product.{tab-mul}
use Rattle.theory.specs.Composition.{tab-comp}
use Rattle.theory.specs.Congruence.{red, mul-same, comp-same, same_at}
use Rattle.theory.specs.Series.{subset_mod}
use Rattle.theory.specs.Tables.{at-mod, product_comm, product_assoc, product-unit, product_first}
use Rattle.theory.specs.Rows.{inverse_row, row_inverts}

-- ---- by halves

module _ (m : ℕ) (pos : 0 < m) where
  pub comp_inverts : (n u : ℕ) (A : Table n) → u * empty n A % m ≡ 1 % m → red m n (mul n (comp n (inverse_row m u) A) A) ≡ red m n (scalar n 1)
  comp_inverts n u A e =
      ap (λ (t : Table n). red m n (mul n (comp n (inverse_row m u) A) t)) (sym (comp-linear n A))
      ∙ ap (red m n) (sym (comp-conv n (inverse_row m u) (linear (empty n A)) A))
      ∙ comp-same m n _ one A A (λ k h. row_inverts m pos (empty n A) u e k) refl
      ∙ ap (red m n) (comp-one n A)

  -- what is inverted cancels
  pub cancel : (n : ℕ) (x y z : Table n) → red m n (mul n x y) ≡ red m n (scalar n 1) → red m n (mul n x (mul n y z)) ≡ red m n z
  cancel n x y z e =
      ap (red m n) (sym ((laws n).mul_assoc x y z)) ∙ mul-same m n _ z (scalar n 1) z e refl ∙ ap (red m n) (one-mul (laws n) z)

-- ---- on tables

unfoldable pub inverse_of : ℕ → ℕ → ℕ → List ℕ → List ℕ
inverse_of n m u A = residues n m (composition_sum n (inverse_row m u) (at A))

-- modulo m, 1 at the empty set is 1
pub unit_table : (n m : ℕ) → 2 ≤ m → residues n m unit ≡ tabulate (2 ^ n) unit
unfolding residues
unit_table n m two = tabulate_ext (2 ^ n) _ _ (λ S h. small (eqb S 0)) where
  small : (b : Bool) → cond b 1 0 % m ≡ cond b 1 0
  small true = mod-eq_of_lt two
  small false = zero-mod m

module _ (n m : ℕ) (A : List ℕ) where
  pub inverse_is : (u : ℕ) → 2 ≤ m → u * at A 0 % m ≡ 1 % m → IsInverse n m A (inverse_of n m u A)
  unfolding inverse_of
  inverse_is u two e = record {
    long = length-residues n m _;
    below = below_residues n m _ (omega arith);
    product = product_comm n m A (inverse_of n m u A) ∙ product ∙ unit_table n m two;
  } where
    R : ℕ → ℕ
    R = composition_sum n (inverse_row m u) (at A)

    product : subset_table n m (residues n m R) A ≡ residues n m unit
    product = residues_ext n m _ _ (λ S h.
        subset_mod n m _ _ R (at A) (at-mod n m R) (λ T k. refl) S h
        ∙ same_at m n (subset_sum n R (at A)) unit
        (rw (← tab-mul n R (at A), ← tab-comp n (inverse_row m u) (at A), tab-unit n)
        (comp_inverts m (omega arith) n u (tab n (at A)) (rw (tab-empty n (at A)) e))) S h)

  -- I = I (A J) = (I A) J = J
  pub inverse_unique : (I J : List ℕ) → IsInverse n m A I → IsInverse n m A J → I ≡ J
  inverse_unique I J i j =
      sym (product-unit n m I i.long (λ S h. below_at m I i.below S (omega (arith, i.long))))
      ∙ ap (subset_table n m I) (sym j.product) ∙ sym (product_assoc n m I A J)
      ∙ ap (λ t. subset_table n m t J) (product_comm n m I A ∙ i.product) ∙ product_comm n m (tabulate (2 ^ n) unit) J
      ∙ product-unit n m J j.long (λ S h. below_at m J j.below S (omega (arith, j.long)))

  -- the first entry of an inverse is a reciprocal of the first entry
  pub inverse_first : (I : List ℕ) → IsInverse n m A I → at A 0 * at I 0 % m ≡ 1
  inverse_first I i =
      sym (product_first n m A I) ∙ ap (λ t. at t 0) i.product ∙ at-tabulate (2 ^ n) unit 0 (pow_pos n)

  pub inverse_coprime : (I : List ℕ) → IsInverse n m A I → shares_divisor m (at A 0) ≡ false
  inverse_coprime I i = coprime m (at A 0) (at I 0) (inverse_first I i)

  pub inverse_exists : 2 ≤ m → shares_divisor m (at A 0) ≡ false → (I : List ℕ) × IsInverse n m A I
  inverse_exists two h = let r = reciprocal m (at A 0) (omega arith) h in (inverse_of n m r.0 A, inverse_is r.0 two r.1)
