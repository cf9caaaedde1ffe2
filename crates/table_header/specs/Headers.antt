-- Laws of first numbers and of an accepted header.
--   says_full, says_sparse     what a first number says
--   says_number, number_says   a number by what it says, and what the number of a kind and n says
--   header_read                the two numbers of an accepted header
--   header_few                 n is at most the most controls that are taken
use Rattle.std.specs.Prelude.{◌≡◌, List, ℕ, ◌+◌, ◌-◌, ◌<◌, ◌≤◌, ltb}
use Rattle.std.proofs.Common.{sym, ◌∙◌, ap, ap₂, ⊎_elim, arith, ltb-false, lt-ltb, le-ltb}
use Rattle.definitions.specs.Limits.{sparse_mark}
use Rattle.definitions.specs.Outcomes.{accepted}
use Rattle.definitions.specs.Refusals.{word_if, modulus_word}
use Rattle.definitions.specs.Groups as groups
use Rattle.definitions.specs.Files.{Kind, full, sparse, first_number, Header, First, first_says, first_of, read_header}
use Rattle.theory.specs.Tests.{below_or}
use Rattle.checks.specs.Words.{no_word}
use Rattle.table_header.specs.Words.{passed, passed_test}

-- ---- the first number

pub says_full : (v : ℕ) → v < sparse_mark → first_says v ≡ record { kind = full; controls = v }
unfolding first_says
says_full v h = rw (lt-ltb v sparse_mark h)

pub says_sparse : (v : ℕ) → sparse_mark ≤ v → first_says v ≡ record { kind = sparse; controls = v - sparse_mark }
unfolding first_says
says_sparse v h = rw (le-ltb v sparse_mark h)

-- a number by what it says, and what the number of a kind and n says
pub says_number : (v : ℕ) → v ≡ first_number (first_says v).kind (first_says v).controls
says_number v = ⊎_elim (λ (h : v < sparse_mark). rw (says_full v h)) (λ (h : sparse_mark ≤ v). rw (says_sparse v h) (omega arith)) (below_or v sparse_mark)

pub number_says : (kind : Kind) (n : ℕ) → n < sparse_mark → first_says (first_number kind n) ≡ record { kind = kind; controls = n }
number_says full n h = says_full n h
number_says sparse n h =
    says_sparse (sparse_mark + n) (omega arith)
    ∙ ap (λ (k : ℕ). record { kind = sparse; controls = k }) (let e : sparse_mark + n - sparse_mark ≡ n = omega arith in e)

-- ---- the header

-- the two numbers of an accepted header
pub record HeaderRead (most : ℕ) (bytes : List ℕ) (h : Header) : Type 0 where
  pub first : groups.Numeral
  pub second : groups.Numeral
  pub first_read : groups.read_number bytes ≡ accepted first
  pub second_read : groups.read_number first.rest ≡ accepted second
  pub number_is : first.value ≡ first_number h.kind h.controls
  pub few : h.controls ≤ most
  pub modulus_is : second.value ≡ h.modulus
  pub modulus_taken : modulus_word h.modulus ≡ 0
  pub rest_is : second.rest ≡ h.rest

few_by : (most v : ℕ) (f : First) → first_of most v ≡ accepted f → (f.controls ≤ most) × (first_says v ≡ f)
unfolding first_of
few_by most v f e =
    let w = passed_test (word_if (ltb most (first_says v).controls) 1) (accepted (first_says v)) f e in
    let same : first_says v ≡ f = let g = w.then in cc in
    let l : (first_says v).controls ≤ most = ltb-false most (first_says v).controls (no_word (ltb most (first_says v).controls) 1 (λ z. omega arith) w.none) in
    (rw (sym same) l, same)

pub header_read : (most : ℕ) (bytes : List ℕ) (h : Header) → read_header most bytes ≡ accepted h → HeaderRead most bytes h
unfolding read_header
header_read most bytes h e =
    let one = passed (groups.read_number bytes) _ h e in
    let two = passed (first_of most one.value.value) _ h one.then in
    let three = passed (groups.read_number one.value.rest) _ h two.then in
    let four = passed_test (modulus_word three.value.value) _ h three.then in
    let f = few_by most one.value.value two.value two.first in
    let same : record { kind = two.value.kind; controls = two.value.controls; modulus = three.value.value; rest = three.value.rest } ≡ h =
    let g = four.then in cc in
    let kind-same : two.value.kind ≡ h.kind = ap (λ (x : Header). x.kind) same in
    let n-same : two.value.controls ≡ h.controls = ap (λ (x : Header). x.controls) same in
    let m-same : three.value.value ≡ h.modulus = ap (λ (x : Header). x.modulus) same in
    record {
      first = one.value;
      second = three.value;
      first_read = one.first;
      second_read = three.first;
      number_is = says_number one.value.value ∙ ap (λ (x : First). first_number x.kind x.controls) f.1
          ∙ ap₂ first_number kind-same n-same;
      few = rw (sym n-same) f.0;
      modulus_is = m-same;
      modulus_taken = rw (sym m-same) four.none;
      rest_is = ap (λ (x : Header). x.rest) same;
    }

pub header_few : (most : ℕ) (bytes : List ℕ) (h : Header) → read_header most bytes ≡ accepted h → h.controls ≤ most
header_few most bytes h e = (header_read most bytes h e).few
