use mathlib.Core.Path.{◌≡◌, ap, ◌∙◌}
use Prim.Native.Nat.{ℕ}
use lib.ListN.{replicate, drop}
use Rattle.std.proofs.Common.{rules, List, ◌++◌}
use Rattle.std.proofs.lemmas.List.{length-replicate, get_or-replicate, length-take-le}
use Rattle.definitions.specs.Sums.{tabulate}
use Rattle.definitions.specs.Refusals.{cleared}
use Rattle.theory.specs.Lists.{tabulate_of}
use Rattle.pads.proofs.clear.Goals as goal

zeros : (n : ℕ) → replicate n 0 ≡ tabulate n (λ i. 0)
zeros n = tabulate_of n (replicate n 0) (λ i. 0) (length-replicate n 0) (λ i l. get_or-replicate n i 0 0 l)

pub returns : goal.returns
unfolding cleared
returns c =
    let a = c.args in
    let filled : c.fill.new.self ≡ replicate a.long 0 =
    c.fill.ensures.after (λ y p. search rules) ∙ ap (λ (n : ℕ). replicate n 0) (length-take-le a.long a.workspace.now c.requires) in
    ap (λ (l : List ℕ). l ++ drop a.long a.workspace.now) (filled ∙ zeros a.long)
