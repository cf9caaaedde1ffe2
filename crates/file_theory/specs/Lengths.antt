-- How long a file can be.
--   full_most, sparse_most   at most 6 + 5 · 2 ^ n bytes, and at most 9 + 6 · 2 ^ n
--   file_most                so 9 + 6 · 2 ^ n are enough for either kind
use Rattle.std.specs.Prelude.{◌≡◌, refl, true, ltb, length}
use mathlib.Core.List.{List, [], ◌∷◌, ◌++◌, flat_map}
use Rattle.std.proofs.Common.{⊎_elim, pow_mono}
use Prim.Native.Nat.{ℕ, zero, suc, ◌+◌, ◌*◌, ◌/◌, ◌^◌, ◌<◌, ◌≤◌}
use native.Mathlib.Omega.{arith}
use Rattle.std.proofs.Math.ListN.{length-append}
use borrow.Author.Tests.{ltb-true}
use Rattle.definitions.specs.Limits.{sparse_mark, largest_modulus}
use Rattle.definitions.specs.Refusals.{AcceptedTable}
use Rattle.definitions.specs.Groups.{groups}
use Rattle.definitions.specs.Partitions.{all_below}
use Rattle.definitions.specs.Files.{Kind, full, sparse, file_of, nonzero_count, pairs_from}
use Rattle.theory.specs.Tests.{below_or, and_true_left, and_true_right}
use Rattle.theory.specs.Gaps.{count_few}
use Rattle.number_groups.specs.Numbers.{one_long, more_long}
use Rattle.file_theory.specs.Parts.{Writable, writable}

-- ---- a number

one_more : (k v : ℕ) → v < 2 ^ 32 → length (groups (v / 128)) ≤ suc k → length (groups v) ≤ suc (suc k)
one_more k v l h = ⊎_elim
    (λ (s : v < 128). omega (arith, one_long v s))
    (λ (s : 128 ≤ v). omega (arith, more_long (length (groups (v / 128))) v s l refl))
    (below_or v 128)

one_most : (v : ℕ) → v < 128 → length (groups v) ≤ 1
one_most v h = omega (arith, one_long v h)

three_most : (v : ℕ) → v < 128 ^ 3 → length (groups v) ≤ 3
three_most v h = one_more 1 v (omega arith) (one_more 0 (v / 128) (omega arith) (one_most (v / 128 / 128) (omega arith)))

five_most : (v : ℕ) → v < 2 ^ 32 → length (groups v) ≤ 5
five_most v h = one_more 3 v h (one_more 2 (v / 128) (omega arith) (three_most (v / 128 / 128) (omega arith)))

-- a gap has at most one byte more than the number of codes it skips
gap_most : (g : ℕ) → g < 2 ^ 32 → length (groups g) ≤ 1 + g
gap_most g l = ⊎_elim (λ (s : g < 128). omega (arith, one_long g s)) (λ (s : 128 ≤ g). omega (arith, five_most g l)) (below_or g 128)

-- ---- the entries

module _ (m : ℕ) (top : m ≤ largest_modulus) where
  entries_most : (a : List ℕ) → all_below m a ≡ true → length (flat_map groups a) ≤ 5 * length a
  unfolding flat_map all_below
  entries_most [] h = omega arith
  entries_most (v ∷ a) h =
      let small : v < m = ltb-true v m (and_true_left (ltb v m) (all_below m a) h) in
      omega (arith, length-append (groups v) (flat_map groups a), five_most v (omega arith), entries_most a (and_true_right (ltb v m) (all_below m a) h))

  pairs_most : (g : ℕ) (a : List ℕ) → g + length a < 2 ^ 32 → all_below m a ≡ true → length (flat_map groups (pairs_from g a)) ≤ 6 * length a + g
  unfolding flat_map pairs_from all_below
  pairs_most g [] l h = omega arith
  pairs_most g (zero ∷ a) l h = omega (arith, pairs_most (suc g) a (omega arith) (and_true_right (ltb 0 m) (all_below m a) h))
  pairs_most g (suc v ∷ a) l h =
      let small : suc v < m = ltb-true (suc v) m (and_true_left (ltb (suc v) m) (all_below m a) h) in
      let rest = flat_map groups (pairs_from 0 a) in
      omega (
        arith,
        length-append (groups g) (groups (suc v) ++ rest),
        length-append (groups (suc v)) rest,
        gap_most g (omega arith),
        five_most (suc v) (omega arith),
        pairs_most 0 a (omega arith) (and_true_right (ltb (suc v) m) (all_below m a) h),
      )

-- ---- the file

module _ (n m : ℕ) (a : List ℕ) (w : Writable n m a) where
  few_entries : length a ≤ 65536
  few_entries = omega (arith, w.as_long, pow_mono w.few)

  pub full_most : length (file_of full n m a) ≤ 6 + 5 * 2 ^ n
  unfolding file_of
  full_most =
      omega (
        arith,
        length-append (groups n) (groups m ++ flat_map groups a),
        length-append (groups m) (flat_map groups a),
        one_most n (omega (arith, w.few)),
        five_most m (omega (arith, w.largest)),
        entries_most m w.largest a w.below,
        w.as_long,
      )

  pub sparse_most : length (file_of sparse n m a) ≤ 9 + 6 * 2 ^ n
  unfolding file_of flat_map
  sparse_most =
      let pairs = flat_map groups (pairs_from 0 a) in
      omega (
        arith,
        length-append (groups (sparse_mark + n)) (groups m ++ (groups (nonzero_count a) ++ pairs)),
        length-append (groups m) (groups (nonzero_count a) ++ pairs),
        length-append (groups (nonzero_count a)) pairs,
        one_most (sparse_mark + n) (omega (arith, w.few)),
        five_most m (omega (arith, w.largest)),
        three_most (nonzero_count a) (omega (arith, count_few a, few_entries)),
        pairs_most m w.largest 0 a (omega (arith, few_entries)) w.below,
        w.as_long,
      )

pub file_most : (kind : Kind) (n m : ℕ) (a : List ℕ) → AcceptedTable n m a → length (file_of kind n m a) ≤ 9 + 6 * 2 ^ n
file_most full n m a h = omega (arith, full_most n m a (writable n m a h))
file_most sparse n m a h = sparse_most n m a (writable n m a h)
