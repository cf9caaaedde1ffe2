-- Tables over the subsets of n controls by halves, as nested pairs: .0 the sets without the top control n - 1, .1 those with it.
-- All in natural numbers, exact.
--   Table, zeros, scalar, add, mul     sum and subset product; laws: a commutative semiring
--   Row, conv, comp                    rows of numbers, their binomial product, and composition with a row
--   from, from_none, from_next         a row from one of its entries on
--   comp-conv, exp_add                 composition takes binomial products, and the exponential sums, to products
--   null, one, linear                  the rows 0, 0, ..; 1, 0, 0, ..; a, 1, 0, .. and what composition with them gives
--   comp-zeros                         zeros composed with a row: its first entry at the empty set, and 0 elsewhere
--   tab                                the table of a function of codes; tab_ext, tab_inj, tab-add, tab-empty, tab-zeros, tab-unit
use Rattle.std.specs.Prelude.{◌≡◌, refl, cond, ℕ, zero, suc, ◌+◌, ◌*◌, ◌^◌, ◌<◌}
use Rattle.std.proofs.Common.{sym, ap, ap₂, ◌∙◌, arith, ne_eqb}
use Rattle.std.proofs.Math.Path.{fun_ext}
use Rattle.std.proofs.Math.Nat as N
use Rattle.std.proofs.Math.Arith.{lt-one}
use Rattle.definitions.specs.Partitions.{all_ones, unit}
use Rattle.theory.specs.Semiring.{Laws, dual, both, add-mul, one-mul, zero_mul, leibniz, exp_rule}
use Rattle.theory.specs.Codes.{by_top}

abbrev pub Table : ℕ → Type 0
Table zero = ℕ
Table (suc n) = Table n × Table n

-- 0 everywhere; a at the empty set and 0 elsewhere
unfoldable pub zeros : (n : ℕ) → Table n
zeros zero = 0
zeros (suc n) = (zeros n, zeros n)

unfoldable pub scalar : (n : ℕ) → ℕ → Table n
scalar zero a = a
scalar (suc n) a = (scalar n a, zeros n)

unfoldable pub add : (n : ℕ) → Table n → Table n → Table n
add zero a b = a + b
add (suc n) a b = (add n a.0 b.0, add n a.1 b.1)

-- the subset product
unfoldable pub mul : (n : ℕ) → Table n → Table n → Table n
mul zero a b = a * b
mul (suc n) a b = (mul n a.0 b.0, add n (mul n a.0 b.1) (mul n a.1 b.0))

pub laws : (n : ℕ) → Laws (add n) (mul n) (zeros n) (scalar n 1)
unfolding add mul zeros scalar
laws zero = record {
  add_comm = N.add_comm;
  add_assoc = N.add_assoc;
  add_zero = N.add-zero;
  mul_comm = N.mul_comm;
  mul_assoc = N.mul_assoc;
  mul_one = N.mul-one;
  mul_zero = N.mul-zero;
  mul_add = N.mul-add;
}
laws (suc n) = dual (laws n)

-- ---- composition with a row of numbers: f k for k blocks

abbrev pub Row : Type 0
Row = ℕ → ℕ

abbrev pub shift : Row → Row
shift f k = f (suc k)

-- the row from its entry i on
abbrev pub from : ℕ → Row → Row
from i f k = f (i + k)

pub from_none : (f : Row) → from 0 f ≡ f
from_none f = fun_ext (λ k. ap f (N.zero-add k))

pub from_next : (i : ℕ) (f : Row) → from (suc i) f ≡ shift (from i f)
from_next i f = fun_ext (λ k. ap f (N.suc-add i k ∙ sym (N.add-suc i k)))

abbrev plus : Row → Row → Row
plus f g k = f k + g k

-- the binomial product of rows, by Leibniz's rule
unfoldable pub conv : Row → Row → Row
conv f g zero = f 0 * g 0
conv f g (suc i) = conv (shift f) g i + conv f (shift g) i

unfoldable pub comp : (n : ℕ) → Row → Table n → Table n
comp zero f a = f 0
comp (suc n) f a = (comp n f a.0, mul n (comp n (shift f) a.0) a.1)

comp-plus : (n : ℕ) (f g : Row) (a : Table n) → comp n (plus f g) a ≡ add n (comp n f a) (comp n g a)
unfolding comp add
comp-plus zero f g a = refl
comp-plus (suc n) f g a = both (comp-plus n f g a.0) (rw (comp-plus n (shift f) (shift g) a.0, add-mul (laws n)))

pub comp-conv : (n : ℕ) (f g : Row) (a : Table n) → comp n (conv f g) a ≡ mul n (comp n f a) (comp n g a)
unfolding comp mul conv
comp-conv zero f g a = refl
comp-conv (suc n) f g a =
    both (comp-conv n f g a.0)
    (rw (comp-plus n (conv (shift f) g) (conv f (shift g)) a.0, comp-conv n (shift f) g a.0, comp-conv n f (shift g) a.0, leibniz (laws n)))

pub exp_add : (n : ℕ) (a b : Table n) → comp n all_ones (add n a b) ≡ mul n (comp n all_ones a) (comp n all_ones b)
unfolding comp mul add
exp_add zero a b = refl
exp_add (suc n) a b = both (exp_add n a.0 b.0) (rw (exp_add n a.0 b.0, exp_rule (laws n)))

-- the entry of the empty set
unfoldable pub empty : (n : ℕ) → Table n → ℕ
empty zero a = a
empty (suc n) a = empty n a.0

-- ---- rows: 0, 0, ..; 1, 0, 0, ..; a, 1, 0, 0, ..

abbrev null : Row
null k = 0

abbrev pub one : Row
one zero = 1
one (suc k) = 0

abbrev pub linear : ℕ → Row
linear a zero = a
linear a (suc k) = one k

comp-null : (n : ℕ) (a : Table n) → comp n null a ≡ zeros n
unfolding comp zeros
comp-null zero a = refl
comp-null (suc n) a = both (comp-null n a.0) (rw (comp-null n a.0) (zero_mul (laws n) _))

pub comp-one : (n : ℕ) (a : Table n) → comp n one a ≡ scalar n 1
unfolding comp scalar
comp-one zero a = refl
comp-one (suc n) a = both (comp-one n a.0) (rw (comp-null n a.0) (zero_mul (laws n) _))

pub comp-linear : (n : ℕ) (a : Table n) → comp n (linear (empty n a)) a ≡ a
unfolding comp empty
comp-linear zero a = refl
comp-linear (suc n) a = both (comp-linear n a.0) (rw (comp-one n a.0) (one-mul (laws n) _))

pub empty-comp : (n : ℕ) (f : Row) (a : Table n) → empty n (comp n f a) ≡ f 0
unfolding comp empty
empty-comp zero f a = refl
empty-comp (suc n) f a = empty-comp n f a.0

pub comp-zeros : (n : ℕ) (f : Row) → comp n f (zeros n) ≡ scalar n (f 0)
unfolding comp zeros scalar
comp-zeros zero f = refl
comp-zeros (suc n) f = both (comp-zeros n f) ((laws n).mul_zero _)

conv-null : (f : Row) (i : ℕ) → conv f null i ≡ 0
unfolding conv
conv-null f zero = N.mul-zero _
conv-null f (suc i) = ap₂ ◌+◌ (conv-null (shift f) i) (conv-null f i)

conv-one : (f : Row) (i : ℕ) → conv f one i ≡ f i
unfolding conv
conv-one f zero = N.mul-one _
conv-one f (suc i) = ap₂ ◌+◌ (conv-one (shift f) i) (conv-null f i) ∙ N.add-zero _

pub conv-linear : (a : ℕ) (f : Row) (i : ℕ) → conv f (linear a) (suc i) ≡ f (suc i) * a + suc i * f i
unfolding conv
conv-linear a f zero = omega arith
conv-linear a f (suc i) = rw (conv-linear a (shift f) i, conv-one (shift f) i, conv-null f i) (omega arith)

-- ---- the table of a function of codes

unfoldable pub tab : (n : ℕ) → (ℕ → ℕ) → Table n
tab zero A = A 0
tab (suc n) A = (tab n A, tab n (λ c. A (2 ^ n + c)))

pub tab_ext : (n : ℕ) (A B : ℕ → ℕ) → ((c : ℕ) → c < 2 ^ n → A c ≡ B c) → tab n A ≡ tab n B
unfolding tab
tab_ext zero A B h = h 0 (omega arith)
tab_ext (suc n) A B h = both (tab_ext n A B (λ c k. h c (omega arith))) (tab_ext n _ _ (λ c k. h (2 ^ n + c) (omega arith)))

pub tab-add : (n : ℕ) (A B : ℕ → ℕ) → tab n (λ c. A c + B c) ≡ add n (tab n A) (tab n B)
unfolding tab add
tab-add zero A B = refl
tab-add (suc n) A B = both (tab-add n A B) (tab-add n _ _)

-- a table says what the function is at each code
pub tab_inj : (n : ℕ) (A B : ℕ → ℕ) → tab n A ≡ tab n B → (c : ℕ) → c < 2 ^ n → A c ≡ B c
unfolding tab
tab_inj zero A B e c h = rw (lt-one h) e
tab_inj (suc n) A B e c h = by_top n c (λ x. A x ≡ B x) h
    (λ k. tab_inj n A B (ap (λ t. t.0) e) c k) (λ r k. tab_inj n _ _ (ap (λ t. t.1) e) r k)

pub tab-empty : (k : ℕ) (A : ℕ → ℕ) → empty k (tab k A) ≡ A 0
unfolding empty tab
tab-empty zero A = refl
tab-empty (suc k) A = tab-empty k A

pub tab-zeros : (k : ℕ) (A : ℕ → ℕ) → ((c : ℕ) → c < 2 ^ k → A c ≡ 0) → tab k A ≡ zeros k
unfolding tab zeros
tab-zeros zero A h = h 0 (omega arith)
tab-zeros (suc k) A h = both (tab-zeros k A (λ c l. h c (omega arith))) (tab-zeros k _ (λ c l. h (2 ^ k + c) (omega arith)))

pub tab-unit : (k : ℕ) → tab k unit ≡ scalar k 1
unfolding tab scalar
tab-unit zero = refl
tab-unit (suc k) = both (tab-unit k) (tab-zeros k _ (λ c h. ap (λ b. cond b 1 0) (ne_eqb (2 ^ k + c) 0 (omega arith))))
