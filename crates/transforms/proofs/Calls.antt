-- From what a check tells to what a product needs.
use mathlib.Core.Path.{◌≡◌}
use mathlib.Core.Bool.{false}
use mathlib.Core.List.{List}
use Prim.Native.Nat.{ℕ, ◌%◌}
use native.Mathlib.Omega.{arith}
use lib.Dec.{eqb}
use borrow.Author.Tests.{eqb-false}
use Rattle.definitions.specs.Refusals.{product_number, xor_number, halving_word}
use Rattle.residues.specs.declared.Modulus.{Modulus}
use Rattle.checks.specs.Accepted.{Product, IsTable, product_accepted}
use Rattle.checks.specs.Answers.{Stands}
use Rattle.checks.specs.Words.{no_word, or_else_first, or_else_second}
use Rattle.pointwise.specs.Tables.{Ready}
use Rattle.transforms.specs.Inputs.{Inputs}

module _ {n m r p : ℕ} {a b : List ℕ} {modulus : Modulus} (s : Stands modulus m) (h : Product n m a b r p) where
  ready : {l : List ℕ} → IsTable n m l → Ready n modulus l
  ready t =
      record {
        few = h.range.few;
        table = record { size = t.size; below = λ i. rw s.value_is (t.below i) };
      }

  pub inputs : Inputs n modulus a b r p
  inputs = record { first = ready h.first; second = ready h.second; result_is = h.result; room = h.pad }

module _ (n m : ℕ) (a b : List ℕ) (r p : ℕ) where
  pub xor_accepted : xor_number n m a b r p ≡ 0 → Product n m a b r p
  unfolding xor_number
  xor_accepted zero = product_accepted n m a b r p (or_else_first (product_number n m a b r p) (halving_word m) zero)

  pub xor_odd : xor_number n m a b r p ≡ 0 → m % 2 ≡ 1
  unfolding xor_number
  xor_odd zero =
      let no : eqb (m % 2) 0 ≡ false = no_word (eqb (m % 2) 0) 7 (λ z. omega arith) (or_else_second (product_number n m a b r p) (halving_word m) zero) in
      omega (arith, eqb-false (m % 2) 0 no)
