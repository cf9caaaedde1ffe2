-- The laws of set power series on tables, lists of 2 ^ n remainders.
--   at-mod                                     what stands in a table of remainders, modulo m
--   product_comm, product_assoc, product-unit, product_of_sum    the subset product
--   sum_of_difference                          A - B + B = A
--   exponential_of_sum                         exp (A + B) = exp A · exp B
--   exponential_of_zeros                       exp 0 = 1
--   exponential_as_composition                 exp A is the composition of A with a row of ones
--   composition_of_product                     composition with a binomial product of rows
--   product-residues, composition_residues     remainders taken early do not matter; composition-row: in the row neither
--   exponential_first, sum_first, difference_first, product_first    first entries
--   composition_halves, exponential_halves     the halves of the result from those of the table
use Rattle.std.specs.Prelude.{◌≡◌, refl, List, ◌++◌, ℕ, suc, ◌+◌, ◌*◌, ◌-◌, ◌%◌, ◌^◌, ◌<◌, ◌≤◌, length, take, drop}
use Rattle.std.proofs.Math.Path.{sym}
use Rattle.std.proofs.Common.{ap, ap₂, ◌∙◌, mod-eq_of_lt, arith, pow_pos, get_or-take, get_or-drop}
use Rattle.std.proofs.Math.Nat.{mod-mod, mod_self, zero-mod}
use Rattle.definitions.specs.Sums.{tabulate, at}
use Rattle.definitions.specs.Products.{residues, sum_table, difference_table, subset_sum, subset_table}
use Rattle.definitions.specs.Rows.{binomial_sum, binomial_row}
use Rattle.definitions.specs.Partitions.{composition_sum, composition_table, exponential_table, all_ones, unit}
use Rattle.theory.specs.Lists.{at-tabulate, at-residues, residues_ext, residues_self, residues_halves}
use Rattle.theory.specs.Remainders.{mod-add, mod_back}
use Rattle.theory.specs.Halves.{Row, shift}
use Rattle.theory.specs.Product.{subset_empty}
use Rattle.theory.specs.Composition.{composition_empty, composition_lo, composition_hi}
use Rattle.theory.specs.Series.{subset_comm, subset_assoc, subset_plus, subset_unit, exponential_plus, exponential_nothing, composition_binomial, subset_mod, composition_mod}

-- the row of ones
unfoldable pub ones_row : ℕ → List ℕ
ones_row n = tabulate (n + 1) all_ones

module _ (n m : ℕ) where
  pub at-mod : (f : ℕ → ℕ) (S : ℕ) → S < 2 ^ n → at (residues n m f) S % m ≡ f S % m
  at-mod f S h = ap (λ (k : ℕ). k % m) (at-residues n m f S h) ∙ mod-mod (f S) m

  pub product-residues : (A B : ℕ → ℕ) → subset_table n m (residues n m A) (residues n m B) ≡ residues n m (subset_sum n A B)
  product-residues A B = residues_ext n m _ _ (subset_mod n m _ _ A B (at-mod A) (at-mod B))

  pub composition_residues : (f : Row) (A : ℕ → ℕ) → residues n m (composition_sum n f (at (residues n m A))) ≡ residues n m (composition_sum n f A)
  composition_residues f A = residues_ext n m _ _ (composition_mod n m f f _ A (λ k h. refl) (at-mod A))

  -- equal numbers have equal remainders
  same : {A B : ℕ → ℕ} → ((S : ℕ) → S < 2 ^ n → A S ≡ B S) → residues n m A ≡ residues n m B
  same h = residues_ext n m _ _ (λ S k. ap (λ (x : ℕ). x % m) (h S k))

  pub product_comm : (A B : List ℕ) → subset_table n m A B ≡ subset_table n m B A
  product_comm A B = same (subset_comm n (at A) (at B))

  pub product_assoc : (A B C : List ℕ) → subset_table n m (subset_table n m A B) C ≡ subset_table n m A (subset_table n m B C)
  product_assoc A B C =
      residues_ext n m _ _ (subset_mod n m _ _ (subset_sum n (at A) (at B)) (at C) (at-mod _) (λ S h. refl))
      ∙ same (subset_assoc n (at A) (at B) (at C))
      ∙ sym (residues_ext n m _ _ (subset_mod n m _ _ (at A) (subset_sum n (at B) (at C)) (λ S h. refl) (at-mod _)))

  pub product-unit : (A : List ℕ) → length A ≡ 2 ^ n → ((S : ℕ) → S < 2 ^ n → at A S < m) → subset_table n m A (tabulate (2 ^ n) unit) ≡ A
  product-unit A l b =
      residues_ext n m _ _ (subset_mod n m _ _ (at A) unit (λ S h. refl) (λ S h. ap (λ (k : ℕ). k % m) (at-tabulate (2 ^ n) unit S h)))
      ∙ same (subset_unit n (at A)) ∙ residues_self n m A l b

  pub product_of_sum : (A B C : List ℕ) → subset_table n m A (sum_table n m B C) ≡ sum_table n m (subset_table n m A B) (subset_table n m A C)
  product_of_sum A B C =
      residues_ext n m _ _ (subset_mod n m _ _ (at A) (λ S. at B S + at C S) (λ S h. refl) (at-mod _))
      ∙ same (subset_plus n (at A) (at B) (at C))
      ∙ sym (residues_ext n m _ _ (λ S h. mod-add m _ _ _ _ (at-mod (subset_sum n (at A) (at B)) S h) (at-mod (subset_sum n (at A) (at C)) S h)))

  -- what was taken off comes back
  pub sum_of_difference : (A B : List ℕ) → length A ≡ 2 ^ n → ((S : ℕ) → S < 2 ^ n → at A S < m) → ((S : ℕ) → S < 2 ^ n → at B S < m)
      → sum_table n m (difference_table n m A B) B ≡ A
  sum_of_difference A B l a b =
      residues_ext n m _ (at A) (λ S h.
      ap (λ (k : ℕ). (k + at B S) % m) (at-residues n m _ S h) ∙ mod_back m (at A S) (at B S) (omega (arith, b S h)))
      ∙ residues_self n m A l a

  pub exponential_of_sum : (A B : List ℕ) → exponential_table n m (sum_table n m A B) ≡ subset_table n m (exponential_table n m A) (exponential_table n m B)
  exponential_of_sum A B =
      composition_residues all_ones _ ∙ same (exponential_plus n (at A) (at B)) ∙ sym (product-residues _ _)

  pub exponential_of_zeros : (Z : List ℕ) → ((S : ℕ) → S < 2 ^ n → at Z S ≡ 0) → exponential_table n m Z ≡ residues n m unit
  exponential_of_zeros Z z = same (exponential_nothing n (at Z) z)

  -- a row counts up to its entry n, and modulo m
  row_mod : (f g : Row) (A : List ℕ) → ((k : ℕ) → g k % m ≡ f k % m) → composition_table n m (tabulate (n + 1) g) A ≡ residues n m (composition_sum n f (at A))
  row_mod f g A e = residues_ext n m _ _ (composition_mod n m _ f (at A) (at A)
      (λ k h. ap (λ (x : ℕ). x % m) (at-tabulate (n + 1) g k (omega arith)) ∙ e k) (λ S h. refl))

  -- a row of remainders does for the row
  pub composition_row : (f : Row) (A : List ℕ) → composition_table n m (tabulate (n + 1) (λ k. f k % m)) A ≡ residues n m (composition_sum n f (at A))
  composition_row f A = row_mod f _ A (λ k. mod-mod (f k) m)

  -- 01: exponential is composition with a row of ones (`checks`, Accepted: the call takes that row)
  pub exponential_as_composition : (A : List ℕ) → exponential_table n m A ≡ composition_table n m (ones_row n) A
  unfolding ones_row
  exponential_as_composition A = sym (row_mod all_ones all_ones A (λ k. refl))

  pub composition_of_product : (f g A : List ℕ) → composition_table n m (binomial_row n m f g) A ≡ subset_table n m (composition_table n m f A) (composition_table n m g A)
  unfolding binomial_row
  composition_of_product f g A =
      composition_row (binomial_sum (at f) (at g)) A
      ∙ same (composition_binomial n (at f) (at g) (at A)) ∙ sym (product-residues _ _)

  -- ---- first entries

  pub exponential_first : 2 ≤ m → (A : List ℕ) → at (exponential_table n m A) 0 ≡ 1
  exponential_first two A =
      at-residues n m _ 0 (pow_pos n) ∙ ap (λ (k : ℕ). k % m) (composition_empty n all_ones (at A)) ∙ mod-eq_of_lt two

  pub sum_first : (A B : List ℕ) → at A 0 ≡ 0 → at B 0 ≡ 0 → at (sum_table n m A B) 0 ≡ 0
  sum_first A B a b = at-residues n m _ 0 (pow_pos n) ∙ ap₂ (λ (x y : ℕ). (x + y) % m) a b ∙ zero-mod m

  pub difference_first : (A B : List ℕ) → at A 0 ≡ 0 → at B 0 ≡ 0 → at (difference_table n m A B) 0 ≡ 0
  difference_first A B a b =
      let whole : at A 0 + (m - at B 0) ≡ m = omega (arith, a, b) in
      at-residues n m _ 0 (pow_pos n) ∙ ap (λ (k : ℕ). k % m) whole ∙ mod_self m

  pub product_first : (A B : List ℕ) → at (subset_table n m A B) 0 ≡ at A 0 * at B 0 % m
  product_first A B = at-residues n m _ 0 (pow_pos n) ∙ ap (λ (k : ℕ). k % m) (subset_empty n (at A) (at B))

  -- ---- by halves: the upper half of a composition is the product of the next one's lower half and the table's upper half

  pub composition_halves : (f : Row) (A : List ℕ)
      → residues (suc n) m (composition_sum (suc n) f (at A))
      ≡ residues n m (composition_sum n f (at (take (2 ^ n) A))) ++ subset_table n m (residues n m (composition_sum n (shift f) (at (take (2 ^ n) A)))) (drop (2 ^ n) A)
  composition_halves f A =
      residues_halves n m _
      ∙ ap₂ ◌++◌ (residues_ext n m _ _ (λ S h. ap (λ (k : ℕ). k % m) (composition_lo n f (at A) S h) ∙ half f S h))
      (residues_ext n m _ _ (λ S h.
      ap (λ (k : ℕ). k % m) (composition_hi n f (at A) S ∙ subset_comm n _ _ S h)
      ∙ subset_mod n m _ _ _ _ (λ T k. half (shift f) T k ∙ sym (at-mod _ T k)) (λ T k. ap (λ (x : ℕ). x % m) (sym (get_or-drop (2 ^ n) A T 0))) S h))
    where
      half : (g : Row) (S : ℕ) → S < 2 ^ n → composition_sum n g (at A) S % m ≡ composition_sum n g (at (take (2 ^ n) A)) S % m
      half g = composition_mod n m g g _ _ (λ k h. refl) (λ S h. ap (λ (x : ℕ). x % m) (sym (get_or-take (2 ^ n) A S 0 h)))

  pub exponential_halves : (A : List ℕ)
      → exponential_table (suc n) m A ≡ exponential_table n m (take (2 ^ n) A) ++ subset_table n m (exponential_table n m (take (2 ^ n) A)) (drop (2 ^ n) A)
  exponential_halves A = composition_halves all_ones A
