-- What entry i of the projection sums: over all sets L and all partitions of the other controls into i blocks, A[L] times the product
-- of B over the blocks.
use Rattle.std.specs.Prelude.{◌≡◌, Bool, true, cond, List, ℕ, ◌-◌, ◌*◌, ◌%◌, ◌^◌, ◌<◌, length}
use Rattle.std.proofs.Common.{ap, ◌∙◌, mod-eq_of_lt, eq-eqb}
use Rattle.std.proofs.lemmas.Nat.{and_mask}
use Rattle.definitions.specs.Sums.{sum, list_sum, at}
use Rattle.definitions.specs.Sets.{inside, without}
use Rattle.definitions.specs.Products.{subset_sum}
use Rattle.definitions.specs.Partitions.{partitions, block_product, composition_sum}
use Rattle.definitions.specs.Projection.{one_at, projection_entry}
use Rattle.theory.specs.Sums.{sum_ext}
use Rattle.projection_theory.specs.Pairing.{paired, entry_is}

-- every set is inside the whole panel
inside-whole : (n L : ℕ) → L < 2 ^ n → inside L (2 ^ n - 1) ≡ true
unfolding inside
inside-whole n L h = eq-eqb _ L (and_mask L n ∙ mod-eq_of_lt h)

pub entry_by_blocks : (n m : ℕ) (A B : List ℕ) (i : ℕ) → projection_entry n m A B i
    ≡ sum (2 ^ n) (λ L. at A L * list_sum (λ p. one_at i (length p) * block_product (at B) p) (partitions n (without (2 ^ n - 1) L))) % m
unfolding paired subset_sum composition_sum
entry_by_blocks n m A B i =
    let C : ℕ → ℕ = composition_sum n (one_at i) (at B) in
    entry_is n m A B i
    ∙ ap (λ (x : ℕ). x % m) (sum_ext (2 ^ n) _ _ (λ L h. ap (λ (t : Bool). cond t (at A L * C (without (2 ^ n - 1) L)) 0) (inside-whole n L h)))
