use Rattle.std.proofs.Common.{ℕ, arith}
use Rattle.definitions.specs.Rows.{binomial_row}
use Rattle.checks.specs.Accepted.{binomial_accepted}
use Rattle.checks.specs.Answers.{passed, stands_in}
use Rattle.binomial.specs.Rules.{binomial_at}
use Rattle.pointwise.specs.Pairs.{inputs, tabled}
use Rattle.binomial.proofs.binomial_product.Goals as goal

pub binomial_entries-requires-clause-inputs : goal.binomial_entries-requires-clause-inputs
binomial_entries-requires-clause-inputs c = let h = c.in_ok-modulus.ensures in inputs (stands_in h) (binomial_accepted _ _ _ _ _ (passed h))

pub binomial_entries-requires-clause-res_len_bound : goal.binomial_entries-requires-clause-res_len_bound
binomial_entries-requires-clause-res_len_bound c = let p = binomial_accepted _ _ _ _ _ (passed c.in_ok-modulus.ensures) in omega (arith, p.result, p.range.few)

pub returns-clause-res_after : goal.returns-clause-res_after
unfolding binomial_row
returns-clause-res_after c = let s = c.args in
    let h = c.in_ok-modulus.ensures in
    tabled (stands_in h) (binomial_accepted _ _ _ _ _ (passed h)) (λ (m : ℕ). binomial_at m s.f.now s.g.now) c.binomial_entries.ensures
