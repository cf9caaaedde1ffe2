-- From one step of a product to the next.
use mathlib.Core.Path.{◌≡◌, ap₂, subst}
use mathlib.Core.List.{List}
use Prim.Native.Nat.{ℕ, ◌*◌, ◌<◌}
use native.Mathlib.Nat.{mod-lt}
use native.Mathlib.Omega.{arith}
use Rattle.definitions.specs.Sums.{at}
use Rattle.definitions.specs.Products.{residues}
use Rattle.theory.specs.Convolution.{point_table}
use Rattle.residues.specs.declared.Modulus.{Modulus}
use Rattle.checks.specs.Accepted.{IsTable}
use Rattle.pointwise.specs.Tables.{Ready}
use Rattle.transform_passes.specs.Steps.{Step, Transformed, products}
use Rattle.transform_passes.proofs.Controls.{tabulated}

point_table_lem : (n m : ℕ) (a b : List ℕ) → 0 < m → IsTable n m (point_table n m a b)
unfolding point_table residues
point_table_lem n m a b pos = tabulated n (λ S. mod-lt (at a S * at b S) pos)

module _ {n : ℕ} {modulus : Modulus} where
  -- another table of residues
  ready : {l k : List ℕ} → Ready n modulus l → IsTable n modulus.value k → Ready n modulus k
  ready h t = record { few = h.few; table = t }

  pub multiplied : {l : List ℕ} → Ready n modulus l → (a b : List ℕ) {k : List ℕ} → k ≡ point_table n modulus.value a b → Ready n modulus k
  multiplied h a b e = ready h (rw e (point_table_lem n modulus.value a b (omega (arith, h.table.below 0))))

-- the last transform is of the product of the first two
pub convolved : {m n : ℕ} {there back : Step} {a b r o l : List ℕ} → Transformed m there n a r → Transformed m there n b o
    → Transformed m back n (point_table n m r o) l → Transformed m back n (products n m there a b) l
convolved {m} {n} {back = back} {l = l} p q h =
    subst (λ (x : List ℕ). Transformed m back n x l) (ap₂ (point_table n m) p.is q.is) h
