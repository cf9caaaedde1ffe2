-- Composition sums over the partitions; on tables by halves it is `comp`.
--   partitions_lo, partitions-hi      the partitions of a set without the top control, and with it
--   composition_lo, composition_hi    the same of the sum over them
--   composition_empty                 at the empty set
--   tab-comp                          on whole tables
use Rattle.std.specs.Prelude.{◌≡◌, ℕ, zero, suc, ◌+◌, ◌*◌, ◌-◌, ◌^◌, ◌<◌, length}
use Rattle.std.proofs.Common.{sym, ap, ◌∙◌, mul_left_comm, arith, lt-ltb, le-ltb, pow_pos}
use Rattle.std.proofs.Math.Path.{fun_ext}
use mathlib.Core.List.{List, ◌∷◌, map, flat_map}
use Rattle.definitions.specs.Sums.{list_sum}
use Rattle.definitions.specs.Sets.{subsets}
use Rattle.definitions.specs.Products.{subset_sum}
use Rattle.definitions.specs.Partitions.{partitions, block_product, composition_sum}
use Rattle.theory.specs.Sums.{list_sum-map, list_sum_flat, list_sum_scale, list_sum-subsets}
use Rattle.theory.specs.Semiring.{both}
use Rattle.theory.specs.Halves.{Row, shift, mul, comp, laws, tab, tab_ext}
use Rattle.theory.specs.Product.{tab-mul}

-- ---- the partitions with the top control and without it

pub partitions_lo : (n S : ℕ) → S < 2 ^ n → partitions (suc n) S ≡ partitions n S
unfolding partitions
partitions_lo n S h = rw (lt-ltb S (2 ^ n) h)

pub partitions-hi : (n R : ℕ) → partitions (suc n) (2 ^ n + R) ≡ flat_map (λ T. map (λ p. (2 ^ n + T) ∷ p) (partitions n (R - T))) (subsets n R)
unfolding partitions
partitions-hi n R =
    let off : 2 ^ n + R - 2 ^ n ≡ R = omega arith in
    rw (le-ltb (2 ^ n + R) (2 ^ n) (omega arith), off)

-- ---- composition sums over the partitions

pub composition_hi : (n : ℕ) (f : Row) (A : ℕ → ℕ) (R : ℕ)
    → composition_sum (suc n) f A (2 ^ n + R) ≡ subset_sum n (λ c. A (2 ^ n + c)) (composition_sum n (shift f) A) R
unfolding composition_sum subset_sum block_product
composition_hi n f A R =
    let u : List ℕ → ℕ = λ p. f (length p) * block_product A p in
    let block : (T : ℕ) → list_sum u (map (λ p. (2 ^ n + T) ∷ p) (partitions n (R - T))) ≡ A (2 ^ n + T) * composition_sum n (shift f) A (R - T) =
    λ T. list_sum-map u (λ p. (2 ^ n + T) ∷ p) (partitions n (R - T))
    ∙ ap (λ (h : List ℕ → ℕ). list_sum h (partitions n (R - T))) (fun_ext (λ p. mul_left_comm _ _ _))
    ∙ list_sum_scale _ (A (2 ^ n + T)) (partitions n (R - T)) in
    ap (list_sum u) (partitions-hi n R) ∙ list_sum_flat u _ (subsets n R) ∙ ap (λ (h : ℕ → ℕ). list_sum h (subsets n R)) (fun_ext block)
    ∙ list_sum-subsets _ n R

pub composition_lo : (n : ℕ) (f : Row) (A : ℕ → ℕ) (S : ℕ) → S < 2 ^ n → composition_sum (suc n) f A S ≡ composition_sum n f A S
unfolding composition_sum
composition_lo n f A S h = rw (partitions_lo n S h)

-- at the empty set, with its one partition
pub composition_empty : (n : ℕ) (f : Row) (A : ℕ → ℕ) → composition_sum n f A 0 ≡ f 0
unfolding composition_sum partitions list_sum block_product
composition_empty zero f A = omega arith
composition_empty (suc n) f A = composition_lo n f A 0 (pow_pos n) ∙ composition_empty n f A

pub tab-comp : (n : ℕ) (f : Row) (A : ℕ → ℕ) → comp n f (tab n A) ≡ tab n (composition_sum n f A)
unfolding comp tab composition_sum partitions list_sum block_product
tab-comp zero f A = omega arith
tab-comp (suc n) f A = both
    (tab-comp n f A ∙ sym (tab_ext n _ _ (composition_lo n f A)))
    ((laws n).mul_comm _ _ ∙ ap (mul n (tab n (λ c. A (2 ^ n + c)))) (tab-comp n (shift f) A)
    ∙ tab-mul n _ _ ∙ sym (tab_ext n _ _ (λ R h. composition_hi n f A R)))
