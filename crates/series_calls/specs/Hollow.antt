-- 01's hollow composer: an exponential that copies its input and writes 1 at the empty set, and a logarithm that copies and
-- writes 0 there, undo each other; neither gives what is defined.
use Rattle.std.specs.Prelude.{◌≡◌, refl, ℕ}
use Rattle.std.proofs.Common.{sym, ap, ◌∙◌, arith}
use mathlib.Core.List.{List, [], ◌∷◌, flat_map}
use Rattle.definitions.specs.Sums.{list_sum, tabulate, keep, at}
use Rattle.definitions.specs.Sets.{inside, subsets}
use Rattle.definitions.specs.Products.{residues}
use Rattle.definitions.specs.Partitions.{partitions, block_product, composition_sum, exponential_table, IsLogarithm}

-- the last entry is 2 · 3 + 4, not 4
defined : exponential_table 2 101 (0 ∷ 2 ∷ 3 ∷ 4 ∷ []) ≡ (1 ∷ 2 ∷ 3 ∷ 10 ∷ [])
unfolding residues tabulate composition_sum partitions subsets keep inside list_sum block_product flat_map
defined = refl

pub no_copy : exponential_table 2 101 (0 ∷ 2 ∷ 3 ∷ 4 ∷ []) ≡ (1 ∷ 2 ∷ 3 ∷ 4 ∷ []) → ⊥
no_copy e = let same : ◌≡◌ {A = ℕ} 10 4 = ap (λ (l : List ℕ). at l 3) (sym defined ∙ e) in omega arith

pub no_copied_logarithm : IsLogarithm 2 101 (1 ∷ 2 ∷ 3 ∷ 4 ∷ []) (0 ∷ 2 ∷ 3 ∷ 4 ∷ []) → ⊥
no_copied_logarithm h = no_copy h.exponential
