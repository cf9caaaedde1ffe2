-- Sums over pairs of sets that an operation joins to S, by halves: they are the products `star`.
--   Joins      how an operation acts on the top control, both without it s times and with it t times
--   tab_join   on whole tables; or-joins: the union; xor-joins: the symmetric difference
use Rattle.std.specs.Prelude.{◌≡◌, refl, cond, ◌≢◌, eqb}
use Rattle.std.proofs.Math.Path.{sym, ap₂}
use Rattle.std.proofs.Common.{◌∙◌, zero-mul, one-mul, arith, eqb→eq, ne_eqb}
use Prim.Native.Nat.{ℕ, zero, suc, ◌+◌, ◌*◌, ◌^◌, ◌<◌}
use Rattle.std.proofs.Math.Nat.{zero-add}
use Rattle.std.specs.Int.Bits.{bit_or, bit_xor}
use Rattle.std.proofs.lemmas.Nat.{or_lt, xor_lt}
use Rattle.std.proofs.Math.Dec.{eqb_refl}
use Rattle.definitions.specs.Sums.{sum}
use Rattle.definitions.specs.Products.{pair_sum}
use Rattle.theory.specs.Tests.{same_test}
use Rattle.theory.specs.Sums.{sum_ext, sum_zero, sum-plus, sum_halves}
use Rattle.theory.specs.Codes.{or_hh, or_lh, or_hl, xor_hh, xor_lh, xor_hl}
use Rattle.theory.specs.Semiring.{both}
use Rattle.theory.specs.Halves.{tab, tab_ext}
use Rattle.theory.specs.Transform.{mix, star, tab-mix}

-- ---- pairs with the top control and without it

-- the terms of the pairs f L, g R
unfoldable quad : (ℕ → ℕ → ℕ) → ℕ → (ℕ → ℕ) → (ℕ → ℕ) → (ℕ → ℕ) → (ℕ → ℕ) → ℕ → ℕ
quad join n f g A B S = sum (2 ^ n) (λ L. sum (2 ^ n) (λ R. cond (eqb (join (f L) (g R)) S) (A (f L) * B (g R)) 0))

abbrev low : ℕ → ℕ
low c = c

abbrev high : ℕ → ℕ → ℕ
high n c = 2 ^ n + c

module _ (join : ℕ → ℕ → ℕ) (n : ℕ) (A B : ℕ → ℕ) (S : ℕ) where
  pair_quads : pair_sum join (suc n) A B S
      ≡ quad join n low low A B S + quad join n (high n) low A B S + (quad join n low (high n) A B S + quad join n (high n) (high n) A B S)
  unfolding pair_sum quad
  pair_quads =
      sum_ext (2 ^ suc n) _ _ (λ L h. sum_halves n _)
      ∙ sum-plus (2 ^ suc n) _ _ ∙ ap₂ ◌+◌ (sum_halves n _) (sum_halves n _)

  module _ (f g : ℕ → ℕ) where
    quad_none : ((L R : ℕ) → L < 2 ^ n → R < 2 ^ n → join (f L) (g R) ≢ S) → quad join n f g A B S ≡ 0
    unfolding quad
    quad_none h = sum_zero (2 ^ n) _ (λ L k. sum_zero (2 ^ n) _ (λ R l. rw (ne_eqb (join (f L) (g R)) S (h L R k l))))

    quad-same : (U : ℕ) → ((L R : ℕ) → L < 2 ^ n → R < 2 ^ n → eqb (join (f L) (g R)) S ≡ eqb (join L R) U)
        → quad join n f g A B S ≡ pair_sum join n (λ c. A (f c)) (λ c. B (g c)) U
    unfolding quad pair_sum
    quad-same U h = sum_ext (2 ^ n) _ _ (λ L k. sum_ext (2 ^ n) _ _ (λ R l. rw (h L R k l)))

same_top : (n a b : ℕ) → eqb (2 ^ n + a) (2 ^ n + b) ≡ eqb a b
same_top n a b = same_test _ _
    (λ t. let e : a ≡ b = omega (arith, eqb→eq (2 ^ n + a) (2 ^ n + b) t) in rw e (eqb_refl b))
    (λ t. rw (eqb→eq a b t) (eqb_refl (2 ^ n + b)))

-- ---- what an operation does to the top control

pub record Joins (join : ℕ → ℕ → ℕ) (s t : ℕ) : Type 0 where
  nothing : join 0 0 ≡ 0
  below : (n L R : ℕ) → L < 2 ^ n → R < 2 ^ n → join L R < 2 ^ n
  with_left : (n L R : ℕ) → L < 2 ^ n → R < 2 ^ n → join (2 ^ n + L) R ≡ 2 ^ n + join L R
  with_right : (n L R : ℕ) → L < 2 ^ n → R < 2 ^ n → join L (2 ^ n + R) ≡ 2 ^ n + join L R
  both_without : (n : ℕ) (A B : ℕ → ℕ) (S : ℕ) → S < 2 ^ n → quad join n (high n) (high n) A B S ≡ s * pair_sum join n (λ c. A (2 ^ n + c)) (λ c. B (2 ^ n + c)) S
  both_with : (n : ℕ) (A B : ℕ → ℕ) (S : ℕ) → S < 2 ^ n → quad join n (high n) (high n) A B (2 ^ n + S) ≡ t * pair_sum join n (λ c. A (2 ^ n + c)) (λ c. B (2 ^ n + c)) S

module _ {join : ℕ → ℕ → ℕ} {s t : ℕ} (J : Joins join s t) where
  module _ (n : ℕ) (A B : ℕ → ℕ) (S : ℕ) (h : S < 2 ^ n) where
    pair_lo : pair_sum join (suc n) A B S ≡ 1 * pair_sum join n A B S + s * pair_sum join n (λ c. A (2 ^ n + c)) (λ c. B (2 ^ n + c)) S
    pair_lo =
        let ll = quad-same join n A B S low low S (λ L R k l. refl) in
        let hl = quad_none join n A B S (high n) low (λ L R k l. omega (arith, J.with_left n L R k l)) in
        let lh = quad_none join n A B S low (high n) (λ L R k l. omega (arith, J.with_right n L R k l)) in
        omega (arith, pair_quads join n A B S, J.both_without n A B S h)

    pair_hi : pair_sum join (suc n) A B (2 ^ n + S)
        ≡ 1 * (1 * pair_sum join n A (λ c. B (2 ^ n + c)) S + 1 * pair_sum join n (λ c. A (2 ^ n + c)) B S) + t * pair_sum join n (λ c. A (2 ^ n + c)) (λ c. B (2 ^ n + c)) S
    pair_hi =
        let ll = quad_none join n A B (2 ^ n + S) low low (λ L R k l. omega (arith, J.below n L R k l)) in
        let hl = quad-same join n A B (2 ^ n + S) (high n) low S (λ L R k l. rw (J.with_left n L R k l) (same_top n (join L R) S)) in
        let lh = quad-same join n A B (2 ^ n + S) low (high n) S (λ L R k l. rw (J.with_right n L R k l) (same_top n (join L R) S)) in
        omega (arith, pair_quads join n A B (2 ^ n + S), J.both_with n A B S h)

  pub tab_join : (n : ℕ) (A B : ℕ → ℕ) → star s t n (tab n A) (tab n B) ≡ tab n (pair_sum join n A B)
  unfolding star tab pair_sum sum
  tab_join zero A B = rw J.nothing (sym (zero-add _ ∙ zero-add _))
  tab_join (suc n) A B = both
      (ap₂ (mix n 1 s) (tab_join n A B) (tab_join n _ _) ∙ tab-mix n 1 s _ _ ∙ sym (tab_ext n _ _ (pair_lo n A B)))
      (ap₂ (mix n 1 t) (ap₂ (mix n 1 1) (tab_join n A _) (tab_join n _ B) ∙ tab-mix n 1 1 _ _) (tab_join n _ _)
      ∙ tab-mix n 1 t _ _ ∙ sym (tab_ext n _ _ (pair_hi n A B)))

-- in the union a control of both stays
pub or_joins : Joins bit_or 0 1
or_joins = record {
  nothing = refl;
  below = or_lt;
  with_left = or_hl;
  with_right = or_lh;
  both_without = λ n A B S h. quad_none bit_or n A B S (high n) (high n) (λ L R k l. omega (arith, or_hh n L R k l)) ∙ sym (zero-mul _);
  both_with = λ n A B S h.
      quad-same bit_or n A B (2 ^ n + S) (high n) (high n) S (λ L R k l. rw (or_hh n L R k l) (same_top n (bit_or L R) S)) ∙ sym (one-mul _);
}

-- in the symmetric difference it goes
pub xor_joins : Joins bit_xor 1 0
xor_joins = record {
  nothing = refl;
  below = xor_lt;
  with_left = xor_hl;
  with_right = xor_lh;
  both_without = λ n A B S h.
      quad-same bit_xor n A B S (high n) (high n) S (λ L R k l. rw (xor_hh n L R k l)) ∙ sym (one-mul _);
  both_with = λ n A B S h.
      quad_none bit_xor n A B (2 ^ n + S) (high n) (high n) (λ L R k l. omega (arith, xor_hh n L R k l, xor_lt n L R k l)) ∙ sym (zero-mul _);
}
