-- The numbers of the calls when their inputs are accepted: only the lent lengths count. And that what a call returns is
-- accepted by the next.
use Rattle.std.specs.Prelude.{◌≡◌, refl, List, [], ◌∷◌}
use Rattle.std.proofs.Math.Path.{ap}
use Rattle.std.proofs.Common.{◌∙◌, mod-lt, arith}
use Prim.Native.Nat.{ℕ, zero, suc, ◌+◌, ◌%◌, ◌<◌}
use Rattle.std.proofs.Math.ListN.{length}
use Rattle.definitions.specs.Sums.{at, tabulate}
use Rattle.definitions.specs.Products.{residues}
use Rattle.definitions.specs.Rows.{binomial_sum, binomial_row}
use Rattle.definitions.specs.Partitions.{IsLogarithm}
use Rattle.definitions.specs.Refusals.{or_else, first_word, panel_word, modulus_word, table_word, row_word, pad_word, entry_word, sum_number, binomial_number, product_number, single_number, exponential_number, logarithm_number, composition_number}
use Rattle.theory.specs.Lists.{length-residues, length-tabulate, at-tabulate}
use Rattle.theory.specs.Entries.{below_residues, below_anywhere, at_below}
use Rattle.checks.specs.Words.{or_else_go}
use Rattle.checks.specs.Accepted.{InRange, IsTable, IsRow, range_panel, range_modulus, entries_length, entries_below, start_right}

-- what follows does not count
no_more : (j : ℕ) {k : ℕ} → k ≡ 0 → or_else j k ≡ j
no_more zero e = e
no_more (suc j) e = refl

module _ {n m : ℕ} (range : InRange n m) where
  -- panel and modulus pass
  in_range : (rest : ℕ) → or_else (panel_word n) (or_else (modulus_word m) rest) ≡ rest
  in_range rest = or_else_go _ _ (range_panel range) ∙ or_else_go _ _ (range_modulus range)

  module _ {a b : List ℕ} (ha : IsTable n m a) (hb : IsTable n m b) where
    entries_pass : first_word (entry_word m a ∷ entry_word m b ∷ []) ≡ 0
    entries_pass = or_else_go _ _ (entries_below ha) ∙ or_else_go _ _ (entries_below hb)

    lengths_pass : (rest : ℕ) → or_else (table_word n (length a)) (or_else (table_word n (length b)) rest) ≡ rest
    lengths_pass rest = or_else_go _ _ (entries_length ha) ∙ or_else_go _ _ (entries_length hb)

    pub number_of_sum : (r : ℕ) → sum_number n m a b r ≡ table_word n r
    unfolding sum_number
    number_of_sum r = in_range _ ∙ lengths_pass _ ∙ no_more (table_word n r) entries_pass

    pub number_of_product : (r p : ℕ) → product_number n m a b r p ≡ first_word (table_word n r ∷ pad_word n p ∷ [])
    unfolding product_number
    number_of_product r p =
        in_range _ ∙ lengths_pass _ ∙ ap (λ (k : ℕ). or_else (table_word n r) (or_else (pad_word n p) k)) entries_pass

  pub number_of_binomial : {f g : List ℕ} → IsRow n m f → IsRow n m g → (r : ℕ) → binomial_number n m f g r ≡ row_word n r
  unfolding binomial_number
  number_of_binomial hf hg r =
      in_range _ ∙ or_else_go _ _ (entries_length hf) ∙ or_else_go _ _ (entries_length hg)
      ∙ no_more (row_word n r) (or_else_go _ _ (entries_below hf) ∙ or_else_go _ _ (entries_below hg))

  module _ {a : List ℕ} (ha : IsTable n m a) (r p : ℕ) where
    pub single_number_lem : single_number n m a r p ≡ first_word (table_word n r ∷ pad_word n p ∷ [])
    unfolding single_number
    single_number_lem =
        in_range _ ∙ or_else_go _ _ (entries_length ha)
        ∙ ap (λ (k : ℕ). or_else (table_word n r) (or_else (pad_word n p) k)) (or_else_go _ 0 (entries_below ha))

    pub exponential_number_lem : at a 0 ≡ 0 → exponential_number n m a r p ≡ first_word (table_word n r ∷ pad_word n p ∷ [])
    unfolding exponential_number
    exponential_number_lem e = no_more (single_number n m a r p) (start_right 0 a e) ∙ single_number_lem

    pub logarithm_number_lem : at a 0 ≡ 1 → logarithm_number n m a r p ≡ first_word (table_word n r ∷ pad_word n p ∷ [])
    unfolding logarithm_number
    logarithm_number_lem e = no_more (single_number n m a r p) (start_right 1 a e) ∙ single_number_lem

    pub number_of_composition : {f : List ℕ} → IsRow n m f → at a 0 ≡ 0
        → composition_number n m a f r p ≡ first_word (table_word n r ∷ pad_word n p ∷ [])
    unfolding composition_number
    number_of_composition hf e =
        in_range _ ∙ or_else_go _ _ (entries_length ha) ∙ or_else_go _ _ (entries_length hf)
        ∙ ap (λ (k : ℕ). or_else (table_word n r) (or_else (pad_word n p) k))
        (or_else_go _ _ (entries_below ha) ∙ or_else_go _ _ (entries_below hf) ∙ or_else_go _ 0 (start_right 0 a e))

  -- ---- what the calls return is accepted again

  pub residues_table : (f : ℕ → ℕ) → IsTable n m (residues n m f)
  residues_table f =
      let pos : 0 < m = omega (arith, range.lowest) in
      record { size = length-residues n m f; below = below_anywhere m _ pos (below_residues n m f pos) }

  pub logarithm_table : {E r : List ℕ} → IsLogarithm n m E r → IsTable n m r
  logarithm_table l = record { size = l.long; below = below_anywhere m _ (omega (arith, range.lowest)) l.below }

  pub binomial_row_lem : (f g : List ℕ) → IsRow n m (binomial_row n m f g)
  unfolding binomial_row
  binomial_row_lem f g =
      let rule : ℕ → ℕ = λ i. binomial_sum (at f) (at g) i % m in
      let long : length (tabulate (n + 1) rule) ≡ n + 1 = length-tabulate (n + 1) rule in
      let pos : 0 < m = omega (arith, range.lowest) in
      let each : (i : ℕ) → i < length (tabulate (n + 1) rule) → at (tabulate (n + 1) rule) i < m =
      λ i h. rw (at-tabulate (n + 1) rule i (rw long at h)) (mod-lt _ pos) in
      record { size = long; below = below_anywhere m _ pos (at_below m (tabulate (n + 1) rule) each) }
