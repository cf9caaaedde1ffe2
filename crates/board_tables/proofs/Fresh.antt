-- The tables of a fresh board.
use mathlib.Core.Path.{◌≡◌, refl, sym, ap, ◌∙◌}
use mathlib.Core.Bool.{Bool, cond}
use mathlib.Core.List.{List}
use Prim.Native.Nat.{ℕ, ◌<◌}
use borrow.Author.Tests.{ne_eqb}
use lib.ListN.{set, replicate, length-replicate, get_or-replicate}
use Rattle.definitions.specs.Sums.{tabulate}
use Rattle.definitions.specs.Partitions.{unit}
use Rattle.theory.specs.Lists.{set-tabulate, tabulate_of}

pub zeros : (n : ℕ) → replicate n 0 ≡ tabulate n (λ S. 0)
zeros n = tabulate_of n (replicate n 0) (λ S. 0) (length-replicate n 0) (λ S h. get_or-replicate n S 0 0 h)

pub unit-set : (N : ℕ) {l : List ℕ} → 0 < N → l ≡ tabulate N (λ S. 0) → set l 0 1 ≡ tabulate N unit
unit-set N h e =
    ap (λ (u : List ℕ). set u 0 1) e
    ∙ set-tabulate N (λ S. 0) unit 0 1 h refl (λ S k d. sym (ap (λ (b : Bool). cond b 1 0) (ne_eqb S 0 d)))
