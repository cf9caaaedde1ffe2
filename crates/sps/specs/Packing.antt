-- How a C function returns two numbers in one of 64 bits.
use Rattle.std.specs.Prelude.{ℕ, ◌+◌, ◌*◌, ◌^◌}

-- a ceiling or a count above the refusal number
abbrev pub with_number : ℕ → ℕ → ℕ
with_number value number = value * 2 ^ 32 + number
