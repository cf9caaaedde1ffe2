-- One call in a run of calls, and what each kind of call promises by itself on every outcome: of its number, of its result and
-- of its pad. (Of the subset product without the returned ceiling: 01 compares none.)
use Rattle.std.specs.Prelude.{◌≡◌, List, [], ◌∷◌, ℕ, length}
use Rattle.definitions.specs.Products.{sum_table, subset_table}
use Rattle.definitions.specs.Rows.{binomial_row}
use Rattle.definitions.specs.Partitions.{composition_table, exponential_table, IsLogarithm}
use Rattle.definitions.specs.Refusals.{first_word, table_word, pad_word, pad_after, sum_number, binomial_number, product_number, exponential_number, logarithm_number, composition_number}

-- one call: the result and the pad that it was lent as they were, the number that it returned, and what result and pad then
-- held. Of a call that takes no pad nothing is said of `pad` and `pad_left`: write [] there.
pub record Call : Type 0 where
  pub lent : List ℕ
  pub pad : List ℕ
  pub number : ℕ
  pub result : List ℕ
  pub pad_left : List ℕ

-- the call was accepted
abbrev pub Done : Call → Type 0
Done c = c.number ≡ 0

-- number and result: the call returns this number; what is right stands in its result if that is 0, and what it was lent if not
pub record Made (number : ℕ) (Right : List ℕ → Type 0) (c : Call) : Type 0 where
  pub says : c.number ≡ number
  pub holds : Done c → Right c.result
  pub kept : (Done c → ⊥) → c.result ≡ c.lent

-- number, result and pad
pub record MadeInPad (n number : ℕ) (Right : List ℕ → Type 0) (c : Call) : Type 0 where
  pub made : Made number Right c
  pub clears : c.pad_left ≡ pad_after c.number n c.pad

-- the number that the lent lengths alone give a call with a pad: 3, then 4
abbrev pub lent_word : ℕ → Call → ℕ
lent_word n c = first_word (table_word n (length c.lent) ∷ pad_word n (length c.pad) ∷ [])

-- ---- the calls of demand 3, each on its inputs under n and m

module _ (n m : ℕ) where
  abbrev pub Sum : List ℕ → List ℕ → Call → Type 0
  Sum A B c = Made (sum_number n m A B (length c.lent)) (λ r. r ≡ sum_table n m A B) c

  abbrev pub Binomial : List ℕ → List ℕ → Call → Type 0
  Binomial f g c = Made (binomial_number n m f g (length c.lent)) (λ r. r ≡ binomial_row n m f g) c

  abbrev pub Product : List ℕ → List ℕ → Call → Type 0
  Product A B c =
      MadeInPad n (product_number n m A B (length c.lent) (length c.pad)) (λ r. r ≡ subset_table n m A B) c

  abbrev pub Exponential : List ℕ → Call → Type 0
  Exponential A c =
      MadeInPad n (exponential_number n m A (length c.lent) (length c.pad)) (λ r. r ≡ exponential_table n m A) c

  abbrev pub Logarithm : List ℕ → Call → Type 0
  Logarithm E c = MadeInPad n (logarithm_number n m E (length c.lent) (length c.pad)) (IsLogarithm n m E) c

  abbrev pub Composition : List ℕ → List ℕ → Call → Type 0
  Composition A f c =
      MadeInPad n (composition_number n m A f (length c.lent) (length c.pad)) (λ r. r ≡ composition_table n m f A) c
