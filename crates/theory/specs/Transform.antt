-- Linear transforms that act on one control at a time by a matrix (α β; γ δ): without it α lo + β hi, with it γ lo + δ hi.
--   mix, lin          by halves; compose: one transform after another acts by the product of the matrices
--   lin_diagonal      (d 0; 0 d) multiplies by d ^ n
--   star              the product of tables where a control met twice counts s times without it and t times with it
--   lin-star          a transform whose rows are 1, β with β² = s + t β takes it to the product entry by entry
use Rattle.std.specs.Prelude.{◌≡◌}
use Rattle.std.proofs.Math.Path.{refl, ap, ap₂}
use Rattle.std.proofs.Common.{◌∙◌, pow-suc}
use Prim.Native.Nat.{ℕ, zero, suc, ◌+◌, ◌*◌, ◌%◌, ◌^◌}
use Rattle.std.proofs.Math.Nat.{pow-zero}
use native.Mathlib.Omega.{arith}
use Rattle.theory.specs.Remainders.{mod-add, mod-mul}
use Rattle.theory.specs.Semiring.{both}
use Rattle.theory.specs.Halves.{Table, tab, tab_ext}
use Rattle.theory.specs.Congruence.{red}

-- α a + β b, entry by entry
unfoldable pub mix : (n : ℕ) → ℕ → ℕ → Table n → Table n → Table n
mix zero α β a b = α * a + β * b
mix (suc n) α β a b = (mix n α β a.0 b.0, mix n α β a.1 b.1)

unfoldable pub lin : (α β γ δ n : ℕ) → Table n → Table n
lin α β γ δ zero a = a
lin α β γ δ (suc n) a =
    (mix n α β (lin α β γ δ n a.0) (lin α β γ δ n a.1), mix n γ δ (lin α β γ δ n a.0) (lin α β γ δ n a.1))

mix_swap : (n α β γ δ : ℕ) (x y z w : Table n) → mix n α β (mix n γ δ x y) (mix n γ δ z w) ≡ mix n γ δ (mix n α β x z) (mix n α β y w)
unfolding mix
mix_swap zero α β γ δ x y z w = omega arith
mix_swap (suc n) α β γ δ x y z w = both (mix_swap n α β γ δ _ _ _ _) (mix_swap n α β γ δ _ _ _ _)

mix_compose : (n α β p q r s : ℕ) (x y : Table n) → mix n α β (mix n p q x y) (mix n r s x y) ≡ mix n (α * p + β * r) (α * q + β * s) x y
unfolding mix
mix_compose zero α β p q r s x y = omega arith
mix_compose (suc n) α β p q r s x y = both (mix_compose n α β p q r s _ _) (mix_compose n α β p q r s _ _)

module _ (α β γ δ : ℕ) where
  lin-mix : (n p q : ℕ) (x y : Table n) → lin α β γ δ n (mix n p q x y) ≡ mix n p q (lin α β γ δ n x) (lin α β γ δ n y)
  unfolding lin mix
  lin-mix zero p q x y = refl
  lin-mix (suc n) p q x y = both
      (ap₂ (mix n α β) (lin-mix n p q _ _) (lin-mix n p q _ _) ∙ mix_swap n α β p q _ _ _ _)
      (ap₂ (mix n γ δ) (lin-mix n p q _ _) (lin-mix n p q _ _) ∙ mix_swap n γ δ p q _ _ _ _)

  pub compose : (p q r s n : ℕ) (a : Table n)
      → lin α β γ δ n (lin p q r s n a) ≡ lin (α * p + β * r) (α * q + β * s) (γ * p + δ * r) (γ * q + δ * s) n a
  unfolding lin
  compose p q r s zero a = refl
  compose p q r s (suc n) a = both
      (ap₂ (mix n α β) (lin-mix n p q _ _) (lin-mix n r s _ _) ∙ mix_compose n α β p q r s _ _
      ∙ ap₂ (mix n (α * p + β * r) (α * q + β * s)) (compose p q r s n a.0) (compose p q r s n a.1))
      (ap₂ (mix n γ δ) (lin-mix n p q _ _) (lin-mix n r s _ _) ∙ mix_compose n γ δ p q r s _ _
      ∙ ap₂ (mix n (γ * p + δ * r) (γ * q + δ * s)) (compose p q r s n a.0) (compose p q r s n a.1))

pub tab-mix : (n α β : ℕ) (A B : ℕ → ℕ) → mix n α β (tab n A) (tab n B) ≡ tab n (λ c. α * A c + β * B c)
unfolding mix tab
tab-mix zero α β A B = refl
tab-mix (suc n) α β A B = both (tab-mix n α β A B) (tab-mix n α β _ _)

pub lin_diagonal : (d n : ℕ) (A : ℕ → ℕ) → lin d 0 0 d n (tab n A) ≡ tab n (λ c. d ^ n * A c)
unfolding lin tab
lin_diagonal d zero A = rw (pow-zero d) (omega arith)
lin_diagonal d (suc n) A = both
    (ap₂ (mix n d 0) (lin_diagonal d n A) (lin_diagonal d n _) ∙ tab-mix n d 0 _ _
    ∙ tab_ext n _ _ (λ c h. rw (pow-suc d n) (omega arith)))
    (ap₂ (mix n 0 d) (lin_diagonal d n A) (lin_diagonal d n _) ∙ tab-mix n 0 d _ _
    ∙ tab_ext n _ _ (λ c h. rw (pow-suc d n) (omega arith)))

-- ---- products

-- entry by entry
unfoldable pub point : (n : ℕ) → Table n → Table n → Table n
point zero a b = a * b
point (suc n) a b = (point n a.0 b.0, point n a.1 b.1)

unfoldable pub star : (s t n : ℕ) → Table n → Table n → Table n
star s t zero a b = a * b
star s t (suc n) a b = (
  mix n 1 s (star s t n a.0 b.0) (star s t n a.1 b.1),
  mix n 1 t (mix n 1 1 (star s t n a.0 b.1) (star s t n a.1 b.0)) (star s t n a.1 b.1),
)

module _ (m : ℕ) where
  mix-same : (n α β α' β' : ℕ) (x y z w : Table n) → α % m ≡ α' % m → β % m ≡ β' % m → red m n x ≡ red m n z → red m n y ≡ red m n w
      → red m n (mix n α β x y) ≡ red m n (mix n α' β' z w)
  unfolding red mix
  mix-same zero α β α' β' x y z w a b p q = mod-add m _ _ _ _ (mod-mul m α x α' z a p) (mod-mul m β y β' w b q)
  mix-same (suc n) α β α' β' x y z w a b p q = both
      (mix-same n α β α' β' _ _ _ _ a b (ap (λ t. t.0) p) (ap (λ t. t.0) q)) (mix-same n α β α' β' _ _ _ _ a b (ap (λ t. t.1) p) (ap (λ t. t.1) q))

  pub lin-same : (α β γ δ α' β' γ' δ' : ℕ) → α % m ≡ α' % m → β % m ≡ β' % m → γ % m ≡ γ' % m → δ % m ≡ δ' % m
      → (n : ℕ) (a b : Table n) → red m n a ≡ red m n b → red m n (lin α β γ δ n a) ≡ red m n (lin α' β' γ' δ' n b)
  unfolding red lin
  lin-same α β γ δ α' β' γ' δ' p q r s zero a b e = e
  lin-same α β γ δ α' β' γ' δ' p q r s (suc n) a b e =
      let lo = lin-same α β γ δ α' β' γ' δ' p q r s n a.0 b.0 (ap (λ t. t.0) e) in
      let hi = lin-same α β γ δ α' β' γ' δ' p q r s n a.1 b.1 (ap (λ t. t.1) e) in
      both (mix-same n α β α' β' _ _ _ _ p q lo hi) (mix-same n γ δ γ' δ' _ _ _ _ r s lo hi)

  module _ (s t : ℕ) where
    -- (x₀ + β x₁)(y₀ + β y₁), where β² = s + t β
    foil : (β : ℕ) → (s + t * β) % m ≡ β * β % m → (n : ℕ) (x y z w : Table n)
        → red m n (mix n 1 β (mix n 1 s (point n x z) (point n y w)) (mix n 1 t (mix n 1 1 (point n x w) (point n y z)) (point n y w)))
        ≡ red m n (point n (mix n 1 β x y) (mix n 1 β z w))
    unfolding red mix point
    foil β e zero x y z w =
        let left : 1 * (1 * (x * z) + s * (y * w)) + β * (1 * (1 * (x * w) + 1 * (y * z)) + t * (y * w))
        ≡ x * z + β * (x * w + y * z) + (s + t * β) * (y * w) = omega arith in
        let right : x * z + β * (x * w + y * z) + β * β * (y * w) ≡ (1 * x + β * y) * (1 * z + β * w) = omega arith in
        ap (λ (k : ℕ). k % m) left
        ∙ mod-add m _ _ _ _ refl (mod-mul m (s + t * β) (y * w) (β * β) (y * w) e refl)
        ∙ ap (λ (k : ℕ). k % m) right
    foil β e (suc n) x y z w = both (foil β e n _ _ _ _) (foil β e n _ _ _ _)

    module _ (β δ : ℕ) (hβ : (s + t * β) % m ≡ β * β % m) (hδ : (s + t * δ) % m ≡ δ * δ % m) where
      abbrev L : (n : ℕ) → Table n → Table n
      L n a = lin 1 β 1 δ n a

      row : (u : ℕ) → (s + t * u) % m ≡ u * u % m → (n : ℕ) → ((x y : Table n) → red m n (L n (star s t n x y)) ≡ red m n (point n (L n x) (L n y)))
          → (a b c d : Table n)
          → red m n (mix n 1 u (L n (mix n 1 s (star s t n a c) (star s t n b d))) (L n (mix n 1 t (mix n 1 1 (star s t n a d) (star s t n b c)) (star s t n b d))))
          ≡ red m n (point n (mix n 1 u (L n a) (L n b)) (mix n 1 u (L n c) (L n d)))
      row u h n ih a b c d =
          ap (red m n) (ap₂ (mix n 1 u) (lin-mix 1 β 1 δ n 1 s _ _)
          (lin-mix 1 β 1 δ n 1 t _ _ ∙ ap (λ (x : Table n). mix n 1 t x (L n (star s t n b d))) (lin-mix 1 β 1 δ n 1 1 _ _)))
          ∙ mix-same n 1 u 1 u _ _ _ _ refl refl
          (mix-same n 1 s 1 s _ _ _ _ refl refl (ih a c) (ih b d))
          (mix-same n 1 t 1 t _ _ _ _ refl refl (mix-same n 1 1 1 1 _ _ _ _ refl refl (ih a d) (ih b c)) (ih b d))
          ∙ foil u h n (L n a) (L n b) (L n c) (L n d)

      pub lin-star : (n : ℕ) (a b : Table n) → red m n (lin 1 β 1 δ n (star s t n a b)) ≡ red m n (point n (lin 1 β 1 δ n a) (lin 1 β 1 δ n b))
      unfolding lin star point red
      lin-star zero a b = refl
      lin-star (suc n) a b = both
          (row β hβ n (lin-star n) a.0 a.1 b.0 b.1) (row δ hδ n (lin-star n) a.0 a.1 b.0 b.1)
