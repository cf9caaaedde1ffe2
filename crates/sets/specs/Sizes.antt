-- Of which codes a size is asked, and how large it can be.
use Rattle.std.specs.Prelude.{◌≡◌, ℕ, ◌^◌, ◌<◌, ◌≤◌}
use Rattle.std.proofs.Common.{subst, sym}
use Rattle.std.proofs.lemmas.Nat.{ones-le}
use Rattle.definitions.specs.Sets.{size}

-- the codes of three bytes
abbrev pub code_limit : ℕ
code_limit = 2 ^ 24

-- a set of the first n controls has at most n
pub size-le : (n : ℕ) {code r : ℕ} → code < 2 ^ n → r ≡ size code → r ≤ n
size-le n {code} h e = subst (λ (k : ℕ). k ≤ n) (sym e) (ones-le n code h)
