-- Union and xor product by transforms in place: transform both tables, multiply entry by entry, and transform back.
--   transformed, point_table    what a program computes: `passes` over a table, and the products of the entries
--   union_by_zeta              sums over subsets, and back by subtracting (zeta and Möbius)
--   xor_by_walsh               sums and differences (Walsh and Hadamard), twice: 2 ^ n times the xor product;
--   xor_halved                 so, for odd m, what is left after multiplying by the inverse of 2 ^ n
use Rattle.std.specs.Prelude.{◌≡◌, refl, List}
use Rattle.std.proofs.Common.{sym, ap, ◌∙◌, add_comm, mod-eq_of_lt, one-mul, zero-mul, pow-suc, mul_assoc, arith}
use Prim.Native.Nat.{ℕ, zero, suc, ◌+◌, ◌-◌, ◌*◌, ◌%◌, ◌^◌, ◌<◌}
use Rattle.std.proofs.Math.Nat.{add-mod, mod-mod, pow-zero, mod_self, zero-mod}
use Rattle.std.proofs.Math.ListN.{length}
use Rattle.std.specs.Int.Bits.{bit_or, bit_xor}
use Rattle.definitions.specs.Sums.{tabulate, at}
use Rattle.definitions.specs.Products.{residues, pair_sum, union_table, xor_table}
use Rattle.theory.specs.Lists.{length-tabulate, at-tabulate, at-residues, residues_ext, residues_of}
use Rattle.theory.specs.Remainders.{mod-add, mod-mul, minus-times, minus_one_squared}
use Rattle.theory.specs.Semiring.{both}
use Rattle.theory.specs.Halves.{Table, tab, tab_ext, tab_inj}
use Rattle.theory.specs.Congruence.{red, tab_red}
use Rattle.theory.specs.Transform.{lin, point, compose, lin_diagonal, lin-same, lin-star, star}
use Rattle.theory.specs.Pairs.{Joins, tab_join, or_joins, xor_joins}
use Rattle.theory.specs.Passes.{lower, passes, passes_lin}

unfoldable pub transformed : (ℕ → ℕ → ℕ) → (ℕ → ℕ → ℕ) → ℕ → List ℕ → List ℕ
transformed p q n A = tabulate (2 ^ n) (passes p q n (at A))

unfoldable pub point_table : ℕ → ℕ → List ℕ → List ℕ → List ℕ
point_table n m A B = residues n m (λ S. at A S * at B S)

pub length-transformed : (p q : ℕ → ℕ → ℕ) (n : ℕ) (A : List ℕ) → length (transformed p q n A) ≡ 2 ^ n
unfolding transformed
length-transformed p q n A = length-tabulate (2 ^ n) _

-- ---- any operation that a transform takes to the product of entries, and a transform that undoes it but for a factor d

-- a row r of a program's step is that of a matrix
record IsRow (m : ℕ) (r : ℕ → ℕ → ℕ) (α β : ℕ) : Type 0 where
  acts : (x y : ℕ) → r (x % m) (y % m) ≡ (α * x + β * y) % m

module _ (m : ℕ) where
  tab-point : (n : ℕ) (F G : ℕ → ℕ) (x y : Table n) → tab n F ≡ red m n x → tab n G ≡ red m n y → tab n (λ c. F c * G c % m) ≡ red m n (point n x y)
  unfolding tab red point
  tab-point zero F G x y e d = mod-mul m (F 0) (G 0) x y (ap (λ (k : ℕ). k % m) e ∙ mod-mod x m) (ap (λ (k : ℕ). k % m) d ∙ mod-mod y m)
  tab-point (suc n) F G x y e d = both
      (tab-point n F G _ _ (ap (λ t. t.0) e) (ap (λ t. t.0) d)) (tab-point n _ _ _ _ (ap (λ t. t.1) e) (ap (λ t. t.1) d))

  module _ {p q : ℕ → ℕ → ℕ} {α β γ δ : ℕ} (hp : IsRow m p α β) (hq : IsRow m q γ δ) (n : ℕ) (A : List ℕ) (a : Table n) where
    tab-transformed : tab n (at A) ≡ red m n a → tab n (at (transformed p q n A)) ≡ red m n (lin α β γ δ n a)
    unfolding transformed
    tab-transformed e = tab_ext n _ _ (at-tabulate (2 ^ n) (passes p q n (at A))) ∙ passes_lin m p q α β γ δ hp.acts hq.acts n (at A) a e

  record Undoes (β δ α' β' γ' δ' d : ℕ) : Type 0 where
    first : (α' * 1 + β' * 1) % m ≡ d % m
    second : (α' * β + β' * δ) % m ≡ 0 % m
    third : (γ' * 1 + δ' * 1) % m ≡ 0 % m
    fourth : (γ' * β + δ' * δ) % m ≡ d % m

  module _ {join : ℕ → ℕ → ℕ} {s t : ℕ} (J : Joins join s t) {β δ α' β' γ' δ' d : ℕ}
      (hβ : (s + t * β) % m ≡ β * β % m) (hδ : (s + t * δ) % m ≡ δ * δ % m) (U : Undoes β δ α' β' γ' δ' d) where
    undone : (n : ℕ) (A B : ℕ → ℕ) → red m n (lin α' β' γ' δ' n (point n (lin 1 β 1 δ n (tab n A)) (lin 1 β 1 δ n (tab n B))))
        ≡ tab n (λ c. d ^ n * pair_sum join n A B c % m)
    undone n A B =
        lin-same m α' β' γ' δ' α' β' γ' δ' refl refl refl refl n _ _ (sym (lin-star m s t β δ hβ hδ n (tab n A) (tab n B)))
        ∙ ap (red m n) (compose α' β' γ' δ' 1 β 1 δ n (star s t n (tab n A) (tab n B)))
        ∙ lin-same m _ _ _ _ d 0 0 d U.first U.second U.third U.fourth n _ _ refl
        ∙ ap (λ (x : Table n). red m n (lin d 0 0 d n x)) (tab_join J n A B)
        ∙ ap (red m n) (lin_diagonal d n (pair_sum join n A B)) ∙ tab_red m n _

    module _ {p q p' q' : ℕ → ℕ → ℕ} (hp : IsRow m p 1 β) (hq : IsRow m q 1 δ) (hp' : IsRow m p' α' β') (hq' : IsRow m q' γ' δ') where
      by_transforms : (n : ℕ) (A B : List ℕ) → ((S : ℕ) → S < 2 ^ n → at A S < m) → ((S : ℕ) → S < 2 ^ n → at B S < m)
          → transformed p' q' n (point_table n m (transformed p q n A) (transformed p q n B)) ≡ residues n m (λ S. d ^ n * pair_sum join n (at A) (at B) S)
      unfolding point_table
      by_transforms n A B a b =
          residues_of n m _ _ long
          (tab_inj n _ _ (tab-transformed hp' hq' n _ _ product ∙ undone n (at A) (at B)))
        where
          long : length (transformed p' q' n (point_table n m (transformed p q n A) (transformed p q n B))) ≡ 2 ^ n
          long = length-transformed p' q' n _

          own : (C : List ℕ) → ((S : ℕ) → S < 2 ^ n → at C S < m) → tab n (at C) ≡ red m n (tab n (at C))
          own C c = tab_ext n _ _ (λ S h. sym (mod-eq_of_lt (c S h))) ∙ sym (tab_red m n (at C))

          product : tab n (at (point_table n m (transformed p q n A) (transformed p q n B))) ≡ red m n (point n (lin 1 β 1 δ n (tab n (at A))) (lin 1 β 1 δ n (tab n (at B))))
          product = tab_ext n _ _ (at-residues n m _)
              ∙ tab-point n _ _ _ _ (tab-transformed hp hq n A _ (own A a)) (tab-transformed hp hq n B _ (own B b))

one-pow : (n : ℕ) → 1 ^ n ≡ 1
one-pow zero = pow-zero 1
one-pow (suc n) = pow-suc 1 n ∙ omega (arith, one-pow n)

-- ---- the steps of a program, lo and hi being the entries without and with the control

-- hi + lo
abbrev pub add_lower : ℕ → ℕ → ℕ → ℕ
add_lower m lo hi = (hi + lo) % m

-- hi - lo
abbrev pub take_lower : ℕ → ℕ → ℕ → ℕ
take_lower m lo hi = (hi + (m - lo)) % m

-- lo + hi
abbrev pub add_upper : ℕ → ℕ → ℕ → ℕ
add_upper m lo hi = (lo + hi) % m

-- lo - hi
abbrev pub take_upper : ℕ → ℕ → ℕ → ℕ
take_upper m lo hi = (lo + (m - hi)) % m

lower_row : (m : ℕ) → IsRow m lower 1 0
lower_row m = record { acts = λ x y. ap (λ (k : ℕ). k % m) (let e : x ≡ 1 * x + 0 * y = omega arith in e) }

add_upper_row : (m : ℕ) → IsRow m (add_upper m) 1 1
add_upper_row m = record { acts = λ x y. sym (add-mod x y m) ∙ ap (λ (k : ℕ). k % m) (let e : x + y ≡ 1 * x + 1 * y = omega arith in e) }

add_lower_row : (m : ℕ) → IsRow m (add_lower m) 1 1
add_lower_row m = record { acts = λ x y. ap (λ (k : ℕ). k % m) (add_comm (y % m) (x % m)) ∙ (add_upper_row m).acts x y }

module _ (m : ℕ) (pos : 0 < m) where
  take_lower_row : IsRow m (take_lower m) (m - 1) 1
  take_lower_row = record { acts = λ x y. minus-times m pos x y ∙ ap (λ (k : ℕ). k % m) (let e : (m - 1) * x + y ≡ (m - 1) * x + 1 * y = omega arith in e) }

  take_upper_row : IsRow m (take_upper m) 1 (m - 1)
  take_upper_row = record { acts = λ x y. minus-times m pos y x ∙ ap (λ (k : ℕ). k % m) (let e : (m - 1) * y + x ≡ 1 * x + (m - 1) * y = omega arith in e) }

  zero_sum : (k : ℕ) → k ≡ m → k % m ≡ 0 % m
  zero_sum k e = ap (λ (x : ℕ). x % m) e ∙ mod_self m ∙ sym (zero-mod m)

  module _ (n : ℕ) (A B : List ℕ) (a : (S : ℕ) → S < 2 ^ n → at A S < m) (b : (S : ℕ) → S < 2 ^ n → at B S < m) where
    pub union_by_zeta : transformed lower (take_lower m) n (point_table n m (transformed lower (add_lower m) n A) (transformed lower (add_lower m) n B)) ≡ union_table n m A B
    union_by_zeta =
        by_transforms m or_joins {β = 0} {δ = 1} {d = 1} refl refl undoes (lower_row m) (add_lower_row m) (lower_row m) take_lower_row n A B a b
        ∙ residues_ext n m _ _ (λ S h. ap (λ (k : ℕ). k % m) (ap (λ (k : ℕ). k * pair_sum bit_or n (at A) (at B) S) (one-pow n) ∙ one-mul _))
      where
        undoes : Undoes m 0 1 1 0 (m - 1) 1 1
        undoes = record {
          first = refl;
          second = refl;
          third = zero_sum _ (omega arith);
          fourth = ap (λ (k : ℕ). k % m) (let e : (m - 1) * 0 + 1 * 1 ≡ 1 = omega arith in e);
        }

    pub xor_by_walsh : transformed (add_upper m) (take_upper m) n (point_table n m (transformed (add_upper m) (take_upper m) n A) (transformed (add_upper m) (take_upper m) n B))
        ≡ residues n m (λ S. 2 ^ n * pair_sum bit_xor n (at A) (at B) S)
    xor_by_walsh =
        by_transforms m xor_joins {β = 1} {δ = m - 1} {d = 2} refl (rw (zero-mul (m - 1)) (sym (minus_one_squared m pos))) undoes
        (add_upper_row m) take_upper_row (add_upper_row m) take_upper_row n A B a b
      where
        undoes : Undoes m 1 (m - 1) 1 1 1 (m - 1) 2
        undoes = record {
          first = refl;
          second = zero_sum _ (omega arith);
          third = zero_sum _ (omega arith);
          fourth = mod-add m (1 * 1) ((m - 1) * (m - 1)) 1 1 refl (minus_one_squared m pos);
        }

    -- u is the inverse of 2 ^ n
    pub xor_halved : (u : ℕ) → u * 2 ^ n % m ≡ 1 % m
        → residues n m (λ S. u * at (transformed (add_upper m) (take_upper m) n (point_table n m (transformed (add_upper m) (take_upper m) n A) (transformed (add_upper m) (take_upper m) n B))) S)
        ≡ xor_table n m A B
    xor_halved u e = residues_ext n m _ _ (λ S h.
        let x : ℕ = pair_sum bit_xor n (at A) (at B) S in
        mod-mul m u _ u (2 ^ n * x) refl (ap (λ (k : ℕ). k % m) (ap (λ (C : List ℕ). at C S) xor_by_walsh ∙ at-residues n m _ S h) ∙ mod-mod (2 ^ n * x) m)
        ∙ ap (λ (k : ℕ). k % m) (sym (mul_assoc u (2 ^ n) x))
        ∙ mod-mul m (u * 2 ^ n) x 1 x e refl ∙ ap (λ (k : ℕ). k % m) (one-mul x))
