-- 02's law of the projection, as one statement about three calls under one n and m, in this order: the calls, what each promises,
-- the law.
use Rattle.std.specs.Prelude.{◌≡◌, List, [], ◌∷◌, ℕ, ◌+◌, ◌*◌, ◌%◌, length}
use Rattle.definitions.specs.Sums.{sum, at}
use Rattle.definitions.specs.Projection.{whole_entry, projection_row}
use Rattle.definitions.specs.Refusals.{first_word, row_word, pad_word, AcceptedTable, AcceptedRow, projection_number}
use Rattle.laws_theory.specs.Calls.{Call, Done, MadeInPad, lent_word, Product, Composition}

-- ---- the calls

-- Each reads what is named beside it: as it was given, or as it stands in an earlier call's result, which is what that call
-- returned if it was accepted, and else what it was lent.
pub record Calls : Type 0 where
  pub projection : Call  -- of A and B
  pub composition : Call  -- B composed with f
  pub product : Call  -- the subset product of A and `composition`

-- ---- what each promises

abbrev pub Projection : ℕ → ℕ → List ℕ → List ℕ → Call → Type 0
Projection n m A B c =
    MadeInPad n (projection_number n m A B (length c.lent) (length c.pad)) (λ r. r ≡ projection_row n m A B) c

pub record Run (n m : ℕ) (A B f : List ℕ) (c : Calls) : Type 0 where
  pub projection : Projection n m A B c.projection
  pub composition : Composition n m B f c.composition
  pub product : Product n m A c.composition.result c.product

-- ---- the law

-- accepted tables A and B, B with first entry 0, and an accepted row f
pub record Inputs (n m : ℕ) (A B f : List ℕ) : Type 0 where
  pub table_A : AcceptedTable n m A
  pub table_B : AcceptedTable n m B
  pub first_B : at B 0 ≡ 0
  pub row_f : AcceptedRow n m f

-- the number that the lent lengths alone give a call whose result is a row: 3, then 4
abbrev pub lent_row_word : ℕ → Call → ℕ
lent_row_word n c = first_word (row_word n (length c.lent) ∷ pad_word n (length c.pad) ∷ [])

pub record Law (n m : ℕ) (f : List ℕ) (c : Calls) : Type 0 where
  -- No call is refused for an entry or a first entry: its number is that of the lent lengths, provided the call that it reads
  -- from returned something.
  pub number_of_projection : c.projection.number ≡ lent_row_word n c.projection
  pub number_of_composition : c.composition.number ≡ lent_word n c.composition
  pub number_of_product : Done c.composition → c.product.number ≡ lent_word n c.product
  -- The sum of f[i] times the projection's entry i is the whole-panel entry of the product.
  pub weighted_sum : Done c.projection → Done c.composition → Done c.product
      → sum (n + 1) (λ i. at f i * at c.projection.result i) % m ≡ whole_entry n c.product.result

-- what the function that makes the calls promises: each call's own promise, whatever it was given and lent, and the law
pub record Lawful (n m : ℕ) (A B f : List ℕ) (c : Calls) : Type 0 where
  pub run : Run n m A B f c
  pub law : Inputs n m A B f → Law n m f c
