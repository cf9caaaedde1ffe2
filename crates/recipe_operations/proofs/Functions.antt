-- The call of a function on the result: what each core is lent, and what is left.
use mathlib.Core.Path.{◌≡◌, sym, ◌∙◌, ap}
use mathlib.Core.List.{List, ◌++◌}
use Prim.Native.Nat.{ℕ, ◌<◌, ◌≤◌}
use native.Mathlib.Nat.{mod-eq_of_lt}
use native.Mathlib.Omega.{arith}
use Rattle.std.specs.Prelude.{Result, Err}
use lib.ListN.{length, take, drop}
use lib.Pow.{pow_pos}
use lib.Seq.{length-take-le}
use Rattle.definitions.specs.Limits.{pad_length}
use Rattle.definitions.specs.Sums.{at}
use Rattle.definitions.specs.Partitions.{exponential_table, IsLogarithm, IsInverse}
use Rattle.definitions.specs.Refusals.{word_if, start_word, shared_start_word}
use Rattle.refusals.specs.Words.{word, word_of}
use Rattle.refusals.specs.declared.Refusal.{Refusal}
use Rattle.definitions.specs.Recipes.{exponential, logarithm, inverse, Choice, call_gives, opening_call}
use Rattle.theory.specs.Entries.{at_below}
use Rattle.theory.specs.Logarithm.{logarithm_of, logarithm_is, logarithm_unique}
use Rattle.theory.specs.Inverse.{inverse_of, inverse_is, inverse_unique}
use Rattle.residues.specs.Reciprocals.{IsReciprocal, IsCommonDivisor, reciprocal_shares, common_shares}
use Rattle.residues.specs.declared.Modulus.{Modulus}
use Rattle.checks.specs.Accepted.{InRange, right_start}
use Rattle.ranked_theory.specs.Layout.{rows_and_tables}
use Rattle.composition.specs.Ready as composed
use Rattle.composition.specs.Results.{Front}
use Rattle.exponential.specs.Ready as exponentials
use Rattle.recipe_theory.specs.Values.{exponential_gives, logarithm_gives, inverse_gives, logarithm_passes, inverse_passes}
use Rattle.recipe_operations.specs.Operands.{Operand, Done}
use Rattle.recipe_operations.specs.Places.{behind}
use Rattle.recipe_operations.proofs.Signs.{is_done, is_refused, is_refused_on}

module _ {n : ℕ} {modulus : Modulus} {result pad : List ℕ} (h : Operand n modulus result pad) where
  abbrev m : ℕ
  m = modulus.value

  range : InRange n m
  range = record { few = h.few; lowest = modulus.valid.lowest; largest = modulus.valid.largest }

  pub has_first : 0 < length result
  has_first = omega (arith, h.table.size, pow_pos n)

  is_logarithm : start_word 1 result ≡ 0 → IsLogarithm n m result (logarithm_of n m result)
  is_logarithm z =
      logarithm_is n m result h.table.size (at_below m result (λ i c. h.table.below i)) (right_start 1 result z)

  module _ {u : ℕ} (one : IsReciprocal m (at result 0) u) where
    shares_none : shared_start_word m result ≡ 0
    shares_none = ap (λ t. word_if t 6) (reciprocal_shares one)

    is_inverse : IsInverse n m result (inverse_of n m u result)
    is_inverse = inverse_is n m result u range.lowest (one.one ∙ sym (mod-eq_of_lt range.lowest))

  -- ---- the workspace

  module _ {used : ℕ} (is : used ≡ pad_length n) where
    pub used_long : used ≡ length (take used pad)
    used_long = sym (length-take-le used pad (omega (arith, h.room)))

    pub front : Front n used pad
    front = record { few = h.few; room = omega (arith, rows_and_tables n); inside = omega (arith, h.room) }

    pub composed_ready : composed.Ready n m result (take used pad)
    composed_ready =
        record { few = h.few; long = h.table.size; below = λ S c. h.table.below S; room = omega (arith, used_long, front.room) }

    pub exponential_ready : exponentials.Ready n m result (take used pad)
    exponential_ready =
        record { few = h.few; long = h.table.size; below = λ S c. h.table.below S; room = omega (arith, used_long, front.room) }

    workspace_left : (new : List ℕ) → length new ≡ length (take used pad)
        → (x : ℕ) → pad_length n ≤ x → x < length pad → at (new ++ drop used pad) x ≡ at pad x
    workspace_left new kept x low high = behind used pad new kept (omega (arith, h.room)) x (omega arith)

    -- ---- what is left

    module _ (by : Choice n m) (new : List ℕ) (kept : length new ≡ length (take used pad)) {last : List ℕ} where
      pub exponential_done : start_word 0 result ≡ 0 → last ≡ exponential_table n m result
          → Done n (opening_call n m by exponential result) (length pad) result pad 0 last (new ++ drop used pad)
      exponential_done z e =
          is_done (exponential_gives range by h.table ∙ ap (λ (k : ℕ). call_gives k (exponential_table n m result)) z) e (workspace_left new kept)

      pub logarithm_done : start_word 1 result ≡ 0 → last ≡ logarithm_of n m result
          → Done n (opening_call n m by logarithm result) (length pad) result pad 0 last (new ++ drop used pad)
      logarithm_done z e =
          is_done (logarithm_gives range by h.table ∙ ap (λ (k : ℕ). call_gives k (by.logarithm_of result)) z)
          (e ∙ logarithm_unique n m result _ _ (is_logarithm z) (by.is_logarithm result (logarithm_passes range by h.table z)))
          (workspace_left new kept)

      module _ {u : ℕ} (one : IsReciprocal m (at result 0) u) where
        pub inverse_done : last ≡ inverse_of n m u result
            → Done n (opening_call n m by inverse result) (length pad) result pad 0 last (new ++ drop used pad)
        inverse_done e =
            is_done (inverse_gives range by h.table ∙ ap (λ (k : ℕ). call_gives k (by.inverse_of result)) (shares_none one))
            (e ∙ inverse_unique n m result _ _ (is_inverse one) (by.is_inverse result (inverse_passes range by h.table (shares_none one))))
            (workspace_left new kept)

  -- ---- what refuses

  module _ (by : Choice n m) where
    pub exponential_refused : {A : Type 0} {refusal : Refusal} {r : Result A Refusal} → word refusal ≡ start_word 0 result → r ≡ Err refusal
        → Done n (opening_call n m by exponential result) (length pad) result pad (word_of r) result pad
    exponential_refused e stop = is_refused_on (exponential_table n m result) (start_word 0 result) (exponential_gives range by h.table) e stop

    pub logarithm_refused : {A : Type 0} {refusal : Refusal} {r : Result A Refusal} → word refusal ≡ start_word 1 result → r ≡ Err refusal
        → Done n (opening_call n m by logarithm result) (length pad) result pad (word_of r) result pad
    logarithm_refused e stop = is_refused_on (by.logarithm_of result) (start_word 1 result) (logarithm_gives range by h.table) e stop

    pub inverse_refused : {d : ℕ} → IsCommonDivisor m (at result 0) d
        → Done n (opening_call n m by inverse result) (length pad) result pad 6 result pad
    inverse_refused s =
        let pos : 0 < m = omega (arith, range.lowest) in
        is_refused (by.inverse_of result) (shared_start_word m result) (inverse_gives range by h.table)
        (sym (ap (λ t. word_if t 6) (common_shares pos s))) (λ z. omega arith)
