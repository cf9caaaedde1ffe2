use Rattle.std.proofs.Common.{ℕ, refl}
use Rattle.definitions.specs.Products.{xor_table}
use Rattle.checks.specs.Answers.{passed, stands_in}
use Rattle.checks.specs.Ends.{accepted_call}
use Rattle.transforms.proofs.Calls.{inputs, xor_accepted, xor_odd}
use Rattle.transforms.proofs.xor_product.Goals as goal

pub xor_tables-requires : goal.xor_tables-requires
xor_tables-requires c = let h = c.in_ok-modulus.ensures in record {
  inputs = inputs (stands_in h) (xor_accepted _ _ _ _ _ _ (passed h));
  value_value = rw (stands_in h).value_is (xor_odd _ _ _ _ _ _ (passed h));
}

pub returns : goal.returns
returns c = let s = c.args in
    let done = c.xor_tables.ensures in
    let all = accepted_call c.in_ok-modulus.ensures refl (λ (m : ℕ). xor_table s.n m s.a.now s.b.now) done.res_after _ _ done.workspace_after in
    record { value = all.0; res_after = all.1.0; pad_after = all.1.1 }
