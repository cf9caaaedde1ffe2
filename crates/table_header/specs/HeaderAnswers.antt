-- What header check and reader answer: number, kind, n and m of a header or a refusal. And the answers of the steps between, as
-- the outcomes of the definitions.
use Rattle.std.specs.Prelude.{◌≡◌, Result, Ok, Err, List, ℕ, drop}
use Rattle.definitions.specs.Outcomes.{Outcome, accepted, and_then, unless}
use Rattle.definitions.specs.Refusals.{modulus_word}
use Rattle.definitions.specs.Groups.{Numeral, read_number}
use Rattle.definitions.specs.Files as def
use Rattle.refusals.specs.Words.{word_of}
use Rattle.refusals.specs.declared.Refusal.{Refusal}
use Rattle.number_groups.specs.Outcomes.{outcome}
use Rattle.table_header.specs.declared.Kind.{Kind}
use Rattle.table_header.specs.declared.Kind.TheVariants as kind
use Rattle.table_header.specs.declared.First.{First}
use Rattle.table_header.specs.declared.Header.{Header}
use Rattle.table_header.specs.declared.Opening.{Opening}

-- a kind of the code
abbrev pub kind_is : Kind → def.Kind
kind_is kind.Full = def.full
kind_is kind.Sparse = def.sparse

-- beside a refusal n and m are 0, and the kind, which nobody can read, is `full`
abbrev pub kind_of : Result Header Refusal → def.Kind
kind_of (Ok h) = kind_is h.kind
kind_of (Err r) = def.full

abbrev pub n_of : Result Header Refusal → ℕ
n_of (Ok h) = h.n
n_of (Err r) = 0

abbrev pub m_of : Result Header Refusal → ℕ
m_of (Ok h) = h.m
m_of (Err r) = 0

-- an answer with this number, which is 0 if a header is answered, and with this kind, n and m
pub record AnswerIs (number : ℕ) (kind : def.Kind) (n m : ℕ) (r : Result Header Refusal) : Type 0 where
  pub number_is : word_of r ≡ number
  pub kind_agrees : kind_of r ≡ kind
  pub n_is : n_of r ≡ n
  pub m_is : m_of r ≡ m

-- ---- the steps between

abbrev pub first_is : First → def.First
first_is f = record { kind = kind_is f.kind; controls = f.n }

abbrev pub first_outcome : Result First Refusal → Outcome def.First
first_outcome r = outcome first_is r

-- a header of the code, with the bytes behind its place
abbrev pub header_at : List ℕ → Opening → def.Header
header_at bytes o = record { kind = kind_is o.header.kind; controls = o.header.n; modulus = o.header.m; rest = drop o.next bytes }

abbrev pub opening_outcome : List ℕ → Result Opening Refusal → Outcome def.Header
opening_outcome bytes r = outcome (header_at bytes) r

-- a header by what its first number says and by the number behind it
abbrev pub with_modulus : def.First → Numeral → Outcome def.Header
with_modulus f second =
    unless (modulus_word second.value)
    (accepted (record { kind = f.kind; controls = f.controls; modulus = second.value; rest = second.rest }))

-- a header by what its first number says and by what stands at a place
abbrev pub modulus_behind : def.First → List ℕ → ℕ → Outcome def.Header
modulus_behind f bytes at = and_then (read_number (drop at bytes)) (with_modulus f)
