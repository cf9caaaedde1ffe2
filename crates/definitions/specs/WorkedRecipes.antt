-- Recipes by hand: some lines and the calls that each is worth, and what a refused call, an accepted recipe and a refused line leave.
use Rattle.std.specs.Prelude.{◌≡◌, refl, List, [], ◌∷◌, ℕ, ◌≤◌, length}
use Rattle.std.proofs.Common.{arith}
use Rattle.definitions.specs.Limits.{pad_length, longest_recipe, deepest_nesting, recipe_pad_length}
use Rattle.definitions.specs.Sums.{tabulate}
use Rattle.definitions.specs.Products.{residues}
use Rattle.definitions.specs.Partitions.{all_below}
use Rattle.definitions.specs.Refusals.{sum_number, single_number, exponential_number, cleared}
use Rattle.definitions.specs.Outcomes.{Outcome, accepted, refused, and_then}
use Rattle.definitions.specs.Recipes.{factor, alternative, sum, tableA, tableB, tableC, times, union, xor, plus, minus, exponential, logarithm, inverse, Tree, table, inside, only, chain, text, Choice, sign_call, opening_call, worth, lettered, Letter, ReadAs, recipe, nesting, lent_word, entries_word, tested, recipe_outcome, recipe_number, recipe_result, recipe_pad}

-- a factor alone: as an operand of + and -, and as a recipe
abbrev pub operand : Tree factor → Tree alternative
operand x = only (only x)

abbrev pub alone : Tree factor → Tree sum
alone x = only (operand x)

module _ (n m : ℕ) (by : Choice n m) (a b c d : List ℕ) where
  -- a line is read as a recipe that is worth this outcome
  abbrev pub Worth : List ℕ → Outcome (List ℕ) → Type 0
  Worth line outcome = (t : Tree sum) × (ReadAs line (accepted t) × (worth n m by (lettered a b c d) t ≡ outcome))

  says : (t : Tree sum) → length (text t) ≤ longest_recipe → nesting t ≤ deepest_nesting → Worth (text t) (worth n m by (lettered a b c d) t)
  says t short shallow = (t, (recipe t refl short shallow, refl))

  -- A: that table
  pub letter : Worth (65 ∷ []) (accepted a)
  unfolding text nesting worth
  letter = says (alone (table tableA)) (omega arith) (omega arith)

  -- A*B+exp(C): the subset product of A and B, then the exponential of C, then their sum
  pub star_first : Worth (65 ∷ 42 ∷ 66 ∷ 43 ∷ 101 ∷ 120 ∷ 112 ∷ 40 ∷ 67 ∷ 41 ∷ [])
      (and_then (sign_call n m times a b) (λ x. and_then (opening_call n m by exponential c) (λ y. sign_call n m plus x y)))
  unfolding text nesting worth
  star_first =
      says (chain (only (only (chain (only (table tableA)) times (table tableB)))) plus (operand (inside exponential (alone (table tableC)))))
      (omega arith) (omega arith)

  -- A-B-C: C taken from the difference of A and B
  pub left_to_right : Worth (65 ∷ 45 ∷ 66 ∷ 45 ∷ 67 ∷ []) (and_then (sign_call n m minus a b) (λ x. sign_call n m minus x c))
  unfolding text nesting worth
  left_to_right =
      says (chain (chain (alone (table tableA)) minus (operand (table tableB))) minus (operand (table tableC))) (omega arith) (omega arith)

  -- A|B^C: the union product of A and B, then the xor product of that and C
  pub signs_alike : Worth (65 ∷ 124 ∷ 66 ∷ 94 ∷ 67 ∷ []) (and_then (sign_call n m union a b) (λ x. sign_call n m xor x c))
  unfolding text nesting worth
  signs_alike =
      says (only (chain (chain (operand (table tableA)) union (only (table tableB))) xor (only (table tableC)))) (omega arith) (omega arith)

  -- inv(A)*log(exp(B)): the inverse of A, then the exponential of B, then the logarithm of that, then the subset product of the two
  pub left_operand_first :
      Worth (105 ∷ 110 ∷ 118 ∷ 40 ∷ 65 ∷ 41 ∷ 42 ∷ 108 ∷ 111 ∷ 103 ∷ 40 ∷ 101 ∷ 120 ∷ 112 ∷ 40 ∷ 66 ∷ 41 ∷ 41 ∷ [])
      (and_then (opening_call n m by inverse a)
      (λ x. and_then (and_then (opening_call n m by exponential b) (opening_call n m by logarithm)) (λ y. sign_call n m times x y)))
  unfolding text nesting worth
  left_operand_first =
      says (only (only (chain (only (inside inverse (alone (table tableA)))) times (inside logarithm (alone (inside exponential (alone (table tableB))))))))
      (omega arith) (omega arith)

-- ---- what is left

-- n = 0 and m = 101: four tables of one entry, and a pad of as many entries as stated, 36
abbrev pub lent : ℕ → Letter → List ℕ
lent x = lettered (x ∷ []) (1 ∷ []) (2 ∷ []) (3 ∷ [])

module _ (by : Choice 0 101) (pad : List ℕ) (long : length pad ≡ 36) where
  -- exp(B): a first entry that is not 0 refuses the call, the result is as it came and the pad is 0
  pub call_refuses : let read = accepted (alone (inside exponential (alone (table tableB)))) in
      (recipe_number 0 101 read (lent 0) by (9 ∷ []) pad ≡ 6)
      × ((recipe_result 0 101 read (lent 0) by (9 ∷ []) pad ≡ (9 ∷ [])) × (recipe_pad 0 101 read (lent 0) 1 pad ≡ cleared 36 pad))
  unfolding recipe_outcome tested lent_word entries_word recipe_pad_length pad_length all_below worth opening_call exponential_number single_number
  call_refuses = rw long (refl, (refl, refl))

  -- A+B: the sum, and the pad is 0
  pub call_accepted : let read = accepted (chain (alone (table tableA)) plus (operand (table tableB))) in
      (recipe_number 0 101 read (lent 5) by (9 ∷ []) pad ≡ 0)
      × ((recipe_result 0 101 read (lent 5) by (9 ∷ []) pad ≡ (6 ∷ [])) × (recipe_pad 0 101 read (lent 5) 1 pad ≡ cleared 36 pad))
  unfolding recipe_outcome tested lent_word entries_word recipe_pad_length pad_length all_below worth sign_call sum_number residues tabulate
  call_accepted = rw long (refl, (refl, refl))

  -- a line outside the grammar and an entry that is not below m: 13, and nothing changes
  pub line_before_entries :
      (recipe_number 0 101 (refused 13) (lent 101) by (9 ∷ []) pad ≡ 13)
      × ((recipe_result 0 101 (refused 13) (lent 101) by (9 ∷ []) pad ≡ (9 ∷ [])) × (recipe_pad 0 101 (refused 13) (lent 101) 1 pad ≡ pad))
  unfolding recipe_outcome tested lent_word entries_word recipe_pad_length pad_length
  line_before_entries = rw long (refl, (refl, refl))
