-- The loop that raises a table over S: the sets up to t have their new entries.
use mathlib.Core.Path.{◌≡◌, refl, sym, ap, ap₂, ◌∙◌}
use mathlib.Core.Bool.{Bool, true, false, cond}
use mathlib.Core.List.{List}
use mathlib.Core.Logic.{◌≢◌, ⊎_elim}
use Prim.Native.Nat.{ℕ, ◌+◌, ◌*◌, ◌-◌, ◌%◌, ◌^◌, ◌<◌, ◌≤◌}
use native.Mathlib.Nat.{mod-lt, mod-eq_of_lt, add-zero}
use native.Mathlib.Omega.{arith}
use borrow.Author.Tests.{lt-ltb, le-ltb, eq-eqb, ne_eqb}
use lib.Bits.{bit_and, bit_or, and_self, and_le_r}
use lib.Dec.{ltb, eqb}
use lib.ListN.{length, set, length-set}
use Rattle.definitions.specs.Sums.{tabulate, at}
use Rattle.definitions.specs.Sets.{inside, without}
use Rattle.definitions.specs.Products.{residues}
use Rattle.definitions.specs.Boards.{Board, added_at, raised_over}
use Rattle.theory.specs.Tests.{no_test, yes_test, below_or}
use Rattle.theory.specs.Lists.{at-tabulate, tabulate_ext, tabulate_of, tabulate_self, set-tabulate}
use Rattle.theory.specs.Entries.{at_below, below_anywhere}
use Rattle.theory.specs.Codes.{inside→eq, eq→inside, inside-le, apart_rest}
use Rattle.residues.specs.declared.Modulus.{Modulus}
use Rattle.checks.specs.Accepted.{IsTable}
use Rattle.board_tables.specs.Ready.{TableReady, BoardReady}
use Rattle.board_tables.proofs.Supersets.{next_contains, next_above, next_least}

-- the new entry of T, and what T has when the loop is at t
unfoldable pub raised_entry : ℕ → ℕ → ℕ → List ℕ → ℕ → ℕ
raised_entry m S c r T = (at r T + cond (inside S T) (c * at r (without T S)) 0) % m

unfoldable pub raised_to : ℕ → ℕ → ℕ → List ℕ → ℕ → ℕ → ℕ
raised_to m S c r t T = cond (ltb T t) (raised_entry m S c r T) (at r T)

pub record Raising (n m S c : ℕ) (r : List ℕ) (t : ℕ) (l : List ℕ) : Type 0 where
  pub contains : bit_and S t ≡ S
  pub size : length l ≡ length r
  pub is : l ≡ tabulate (2 ^ n) (raised_to m S c r t)

module _ {n : ℕ} {modulus : Modulus} {S c : ℕ} {r : List ℕ} (h : TableReady n modulus S c r) where
  abbrev m : ℕ
  m = modulus.value

  -- entries of sets that do not contain S stay
  entry_stays : (T : ℕ) → inside S T ≡ false → raised_entry m S c r T ≡ at r T
  unfolding raised_entry
  entry_stays T e =
      ap (λ (b : Bool). (at r T + cond b (c * at r (T - S)) 0) % m) e ∙ ap (λ (x : ℕ). x % m) (add-zero (at r T)) ∙ mod-eq_of_lt (h.table.below T)

  to_stays : (t T : ℕ) → inside S T ≡ false → raised_to m S c r t T ≡ at r T
  unfolding raised_to
  to_stays t T e = by (ltb T t) where
    by : (b : Bool) → cond b (raised_entry m S c r T) (at r T) ≡ at r T
    by true = entry_stays T e
    by false = refl

  to_behind : (t T : ℕ) → t ≤ T → raised_to m S c r t T ≡ at r T
  unfolding raised_to
  to_behind t T k = ap (λ (b : Bool). cond b (raised_entry m S c r T) (at r T)) (le-ltb T t k)

  to_passed : (t T : ℕ) → T < t → raised_to m S c r t T ≡ raised_entry m S c r T
  unfolding raised_to
  to_passed t T k = ap (λ (b : Bool). cond b (raised_entry m S c r T) (at r T)) (lt-ltb T t k)

  to_small : (t T : ℕ) → raised_to m S c r t T < m
  unfolding raised_to raised_entry
  to_small t T = by (ltb T t) where
    by : (b : Bool) → cond b (raised_entry m S c r T) (at r T) < m
    by true = mod-lt _ (omega (arith, modulus.valid.lowest))
    by false = h.table.below T

  -- no set below S contains it
  pub raising_none : Raising n m S c r S r
  raising_none = record {
    contains = and_self S;
    size = refl;
    is = tabulate_of (2 ^ n) r _ h.table.size (λ T k. sym (⊎_elim
        (λ (l : T < S). to_stays S T (no_test (inside S T) (λ q. omega (arith, inside-le S T q))))
        (λ (l : S ≤ T). to_behind S T l)
        (below_or T S)));
  }

  module _ {t : ℕ} {l : List ℕ} (p : Raising n m S c r t l) where
    pub rest_fits : S ≤ t
    rest_fits = omega (arith, p.contains, and_le_r S t)

    -- what stands there at any time is a residue
    pub small : (i : ℕ) → at l i < m
    small = below_anywhere m l (omega (arith, modulus.valid.lowest)) (at_below m l (λ i k.
        let j : i < 2 ^ n = omega (arith, p.size, h.table.size) in
        omega (arith, ap (λ (u : List ℕ). at u i) p.is, at-tabulate (2 ^ n) (raised_to m S c r t) i j, to_small t i)))

    pub raising_all : 2 ^ n ≤ t → l ≡ raised_over n m S c r
    unfolding raised_over residues raised_entry
    raising_all k = p.is ∙ tabulate_ext (2 ^ n) _ (raised_entry m S c r) (λ T j. to_passed t T (omega arith))

    module _ (more : t < 2 ^ n) where
      pub fits : t < length l
      fits = omega (arith, p.size, h.table.size)

      -- T without S does not contain S
      rest_lacks : inside S (t - S) ≡ false
      rest_lacks = no_test (inside S (t - S)) (λ q. omega (arith, h.some, inside→eq S (t - S) q, apart_rest S t p.contains))

      read_rest : at l (t - S) ≡ at r (t - S)
      read_rest = ap (λ (u : List ℕ). at u (t - S)) p.is ∙ at-tabulate (2 ^ n) _ (t - S) (omega arith) ∙ to_stays t (t - S) rest_lacks

      read_here : at l t ≡ at r t
      read_here = ap (λ (u : List ℕ). at u t) p.is ∙ at-tabulate (2 ^ n) _ t more ∙ to_behind t t (omega arith)

      entry_here : raised_entry m S c r t ≡ (at r t + c * at r (t - S)) % m
      unfolding raised_entry
      entry_here = ap (λ (b : Bool). (at r t + cond b (c * at r (t - S)) 0) % m) (yes_test (inside S t) (eq→inside S t p.contains))

      -- between t and the next set that contains S nothing changes
      skipped : (T : ℕ) → T ≢ t → raised_to m S c r t T ≡ raised_to m S c r (bit_or (t + 1) S) T
      skipped T d = ⊎_elim
          (λ (k : T < t). to_passed t T k ∙ sym (to_passed (bit_or (t + 1) S) T (omega (arith, next_above S t))))
          (λ (k : t ≤ T). to_behind t T k ∙ sym (⊎_elim
          (λ (j : T < bit_or (t + 1) S). to_stays (bit_or (t + 1) S) T
          (no_test (inside S T) (λ q. omega (arith, next_least S t T p.contains (inside→eq S T q) (above T d k)))))
          (λ (j : bit_or (t + 1) S ≤ T). to_behind (bit_or (t + 1) S) T j)
          (below_or T (bit_or (t + 1) S))))
          (below_or T t)
        where
          above : (T : ℕ) → T ≢ t → t ≤ T → t < T
          above T d k = omega arith

      pub raising_more : {v : ℕ} → v ≡ (at l t + c * at l (t - S)) % m → Raising n m S c r (bit_or (t + 1) S) (set l t v)
      raising_more {v} e = record {
        contains = next_contains S (t + 1);
        size = length-set l t v ∙ p.size;
        is = ap (λ (u : List ℕ). set u t v) p.is
            ∙ set-tabulate (2 ^ n) (raised_to m S c r t) (raised_to m S c r (bit_or (t + 1) S)) t v more
            (e ∙ ap₂ (λ (x y : ℕ). (x + c * y) % m) read_here read_rest ∙ sym entry_here ∙ sym (to_passed (bit_or (t + 1) S) t (next_above S t)))
            (λ T k d. skipped T d);
      }

-- c added at S
pub added_set : {n : ℕ} {modulus : Modulus} {S c d : ℕ} {b : Board} → BoardReady n modulus S c d b → {v : ℕ} → v ≡ (at b.weights S + c) % modulus.value
    → set b.weights S v ≡ added_at n modulus.value S c b.weights
unfolding added_at residues
added_set {n} {modulus} {S} {c} {b = b} h {v} e =
    ap (λ (u : List ℕ). set u S v) (sym (tabulate_self (2 ^ n) A table.size))
    ∙ set-tabulate (2 ^ n) (at A) (λ T. (at A T + cond (eqb T S) c 0) % m) S v h.change.code
    (e ∙ ap (λ (g : Bool). (at A S + cond g c 0) % m) (sym (eq-eqb S S refl))) (λ T k d. sym (stays T d))
  where
    m : ℕ
    m = modulus.value

    A : List ℕ
    A = b.weights

    table : IsTable n m A
    table = h.change.board.weights

    stays : (T : ℕ) → T ≢ S → (at A T + cond (eqb T S) c 0) % m ≡ at A T
    stays T d =
        ap (λ (g : Bool). (at A T + cond g c 0) % m) (ne_eqb T S d) ∙ ap (λ (x : ℕ). x % m) (add-zero (at A T)) ∙ mod-eq_of_lt (table.below T)
