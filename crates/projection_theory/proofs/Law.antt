-- 02's law: for each row f, the sum of f[i] times the projection's entry i is the whole-panel entry of the subset product of A and
-- the composition of B with f.
use Rattle.std.specs.Prelude.{◌≡◌, refl, List, ℕ, ◌+◌, ◌*◌, ◌%◌}
use Rattle.std.proofs.Common.{sym, ap, ◌∙◌, add-one}
use Rattle.std.proofs.Math.Nat.{mod-mod}
use Rattle.definitions.specs.Sums.{sum, at}
use Rattle.definitions.specs.Products.{subset_table}
use Rattle.definitions.specs.Partitions.{composition_table}
use Rattle.definitions.specs.Projection.{one_at, whole_entry, projection_entry, projection_row}
use Rattle.theory.specs.Sums.{sum-mod}
use Rattle.theory.specs.Remainders.{mod-mul}
use Rattle.theory.specs.Lists.{at-tabulate}
use Rattle.projection_theory.specs.Pairing.{paired, entry_paired, entry_is}
use Rattle.projection_theory.proofs.Halves.{paired_rows}

pub projection_law : (n m : ℕ) (A B f : List ℕ)
    → sum (n + 1) (λ i. at f i * at (projection_row n m A B) i) % m ≡ whole_entry n (subset_table n m A (composition_table n m f B))
unfolding projection_row
projection_law n m A B f =
    sum-mod m (n + 1) _ (λ i. at f i * paired n (at A) (one_at i) (at B)) (λ i h.
    mod-mul m (at f i) _ (at f i) (paired n (at A) (one_at i) (at B)) refl
    (ap (λ (x : ℕ). x % m) (at-tabulate (n + 1) (projection_entry n m A B) i h ∙ entry_is n m A B i) ∙ mod-mod _ m))
    ∙ ap (λ (k : ℕ). sum k (λ i. at f i * paired n (at A) (one_at i) (at B)) % m) (add-one n)
    ∙ ap (λ (x : ℕ). x % m) (paired_rows n (at A) (at f) (at B)) ∙ sym (entry_paired n m A B f (at f) (λ k h. refl))
