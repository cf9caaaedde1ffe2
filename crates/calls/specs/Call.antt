-- The byte that begins the word of each call.
use Rattle.std.specs.Prelude.{◌≡◌, ◌≢◌, ℕ, Bool, true, false, Result, MatchResult}
use Rattle.calls.specs.declared.call.Call.{Call}
use Rattle.calls.specs.declared.call.Call.TheVariants.{Sum, Difference, BinomialProduct, SubsetProduct, UnionProduct, XorProduct, Exponential, Composition, Logarithm, Inverse, Projection}
use Rattle.calls.specs.declared.call.UnknownCall.{UnknownCall}

-- in ASCII: + - b s u x e c l i p
abbrev pub initial_of : Call → ℕ
initial_of Sum = 43
initial_of Difference = 45
initial_of BinomialProduct = 98
initial_of SubsetProduct = 115
initial_of UnionProduct = 117
initial_of XorProduct = 120
initial_of Exponential = 101
initial_of Composition = 99
initial_of Logarithm = 108
initial_of Inverse = 105
initial_of Projection = 112

-- the call with this initial, or that there is none
abbrev pub Decodes : ℕ → Result Call UnknownCall → Type 0
Decodes initial r = MatchResult r (λ call. initial_of call ≡ initial) (λ _. (call : Call) → initial_of call ≢ initial)

-- whether a call's result is a row
abbrev pub gives_row_of : Call → Bool
gives_row_of BinomialProduct = true
gives_row_of Projection = true
gives_row_of _ = false
