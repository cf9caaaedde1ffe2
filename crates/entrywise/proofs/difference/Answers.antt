use Rattle.std.proofs.Common.{ℕ}
use Rattle.definitions.specs.Products.{residues}
use Rattle.checks.specs.Accepted.{sum_accepted}
use Rattle.checks.specs.Answers.{passed, stands_in}
use Rattle.entrywise.specs.Rules.{difference_at}
use Rattle.pointwise.specs.Pairs.{inputs, tabled}
use Rattle.entrywise.proofs.difference.Goals as goal

pub subtract_entries-requires : goal.subtract_entries-requires
subtract_entries-requires c = let h = c.in_ok-modulus.ensures in inputs (stands_in h) (sum_accepted _ _ _ _ _ (passed h))

pub returns-clause-res_after : goal.returns-clause-res_after
unfolding residues
returns-clause-res_after c = let s = c.args in
    let h = c.in_ok-modulus.ensures in
    tabled (stands_in h) (sum_accepted _ _ _ _ _ (passed h)) (λ (m : ℕ). difference_at m s.a.now s.b.now) c.subtract_entries.ensures
