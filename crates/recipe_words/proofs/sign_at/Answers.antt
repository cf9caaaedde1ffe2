use Rattle.recipe_words.proofs.Words.{sum_found, sum_not-found, alternative_found, alternative_not-found, product_found, product_not-found}
use Rattle.recipe_words.proofs.sign_at.Goals as goal

pub returns-in-Sum-eq43 : goal.returns-in-Sum-eq43
returns-in-Sum-eq43 c = let x = c.in_ok-sign.ensures.lookup in rw c.in-Sum-eq43.is-0 (sum_found _ _ x.3.0 (x.3.1 0) c.in-Sum-eq43.is-1)

pub returns-in-Alternative-eq124 : goal.returns-in-Alternative-eq124
returns-in-Alternative-eq124 c = let x = c.in_ok-sign.ensures.lookup in rw c.in-Alternative-eq124.is-0 (alternative_found _ _ x.3.0 (x.3.1 0) c.in-Alternative-eq124.is-1)

pub returns-in-Product-eq42 : goal.returns-in-Product-eq42
returns-in-Product-eq42 c = let x = c.in_ok-sign.ensures.lookup in rw c.in-Product-eq42.is-0 (product_found _ _ x.3.0 (x.3.1 0) c.in-Product-eq42.is-1)

pub returns-in_default : goal.returns-in_default
returns-in_default c = let x = c.in_ok-sign.ensures.lookup in rw c.in_default.is-0 (sum_not-found _ _ x.3.0 (x.3.1 0) c.in_default.is-1.1)

pub returns-in_default-2 : goal.returns-in_default-2
returns-in_default-2 c = let x = c.in_ok-sign.ensures.lookup in rw c.in_default.is-0 (alternative_not-found _ _ x.3.0 (x.3.1 0) c.in_default.is-1.1)

pub returns-in_default-3 : goal.returns-in_default-3
returns-in_default-3 c = let x = c.in_ok-sign.ensures.lookup in rw c.in_default.is-0 (product_not-found _ _ x.3.0 (x.3.1 0) c.in_default.is-1.1)
