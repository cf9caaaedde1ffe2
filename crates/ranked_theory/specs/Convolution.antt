-- The product of two polynomials, by their coefficients.
--   conv                              the coefficient at the rank k
--   conv_add_left, conv_add_right     it is bilinear
--   conv_window                       of factors of degree d at most: the terms that count
--   conv_past, conv_lowest            above both degrees, and where both factors start
use Rattle.std.specs.Prelude.{◌≡◌, ◌⊎◌}
use Rattle.std.proofs.Math.Path.{sym, ap, ap₂}
use Rattle.std.proofs.Common.{◌∙◌, ⊎_elim, add-mul, mul-add, zero-mul, mul-zero}
use Rattle.std.proofs.Math.Logic.{inl, inr}
use Prim.Native.Nat.{ℕ, suc, ◌+◌, ◌-◌, ◌*◌, ◌≤◌, ◌<◌}
use Rattle.std.proofs.Math.Nat.{add-zero, zero-add}
use native.Mathlib.Omega.{arith}
use Rattle.definitions.specs.Sums.{sum}
use Rattle.theory.specs.Tests.{below_or}
use Rattle.theory.specs.Sums.{sum_ext, sum-plus, sum_zero, sum_split}

unfoldable pub conv : (ℕ → ℕ) → (ℕ → ℕ) → ℕ → ℕ
conv a b k = sum (suc k) (λ l. a l * b (k - l))

pub conv_add_left : (a a' b : ℕ → ℕ) (k : ℕ) → conv (λ l. a l + a' l) b k ≡ conv a b k + conv a' b k
unfolding conv
conv_add_left a a' b k =
    sum_ext (suc k) _ _ (λ i l. add-mul (a i) (a' i) (b (k - i))) ∙ sum-plus (suc k) (λ l. a l * b (k - l)) (λ l. a' l * b (k - l))

pub conv_add_right : (a b b' : ℕ → ℕ) (k : ℕ) → conv a (λ l. b l + b' l) k ≡ conv a b k + conv a b' k
unfolding conv
conv_add_right a b b' k =
    sum_ext (suc k) _ _ (λ i l. mul-add (a i) (b (k - i)) (b' (k - i))) ∙ sum-plus (suc k) (λ l. a l * b (k - l)) (λ l. a l * b' (k - l))

-- a product with a factor 0
pub nothing : (x y : ℕ) → (x ≡ 0) ⊎ (y ≡ 0) → x * y ≡ 0
nothing x y h = ⊎_elim (λ (e : x ≡ 0). ap (λ (z : ℕ). z * y) e ∙ zero-mul y) (λ (e : y ≡ 0). ap (λ (z : ℕ). x * z) e ∙ mul-zero x) h

-- what is 0 below e adds nothing there, and what is 0 from m on adds nothing after
sum-from : (e m : ℕ) (f : ℕ → ℕ) → ((i : ℕ) → i < e → f i ≡ 0) → sum (e + m) f ≡ sum m (λ i. f (e + i))
sum-from e m f h = sum_split e m f ∙ ap (λ (x : ℕ). x + sum m (λ i. f (e + i))) (sum_zero e f h) ∙ zero-add _

sum_to : (m r : ℕ) (f : ℕ → ℕ) → ((i : ℕ) → m ≤ i → i < m + r → f i ≡ 0) → sum (m + r) f ≡ sum m f
sum_to m r f h = sum_split m r f ∙ ap (λ (x : ℕ). sum m f + x) (sum_zero r (λ i. f (m + i)) (λ i l. h (m + i) (omega arith) (omega arith))) ∙ add-zero _

module _ (d : ℕ) (f g : ℕ → ℕ) (hf : (k : ℕ) → d < k → f k ≡ 0) (hg : (k : ℕ) → d < k → g k ≡ 0) where
  pub conv_window : (e : ℕ) → e ≤ d → sum (d - e + 1) (λ i. f (e + i) * g (d - i)) ≡ conv f g (d + e)
  unfolding conv
  conv_window e h =
      let m = d - e + 1 in
      let q : suc (d + e) ≡ e + (m + e) = omega arith in
      sym (ap (λ (k : ℕ). sum k (λ l. f l * g (d + e - l))) q
      ∙ sum-from e (m + e) (λ l. f l * g (d + e - l)) (λ i l. nothing _ _ (inr (hg (d + e - i) (omega arith))))
      ∙ sum_to m e (λ i. f (e + i) * g (d + e - (e + i))) (λ i l o. nothing _ _ (inl (hf (e + i) (omega arith))))
      ∙ sum_ext m (λ i. f (e + i) * g (d + e - (e + i))) (λ i. f (e + i) * g (d - i))
      (λ i l. let z : d + e - (e + i) ≡ d - i = omega arith in ap (λ (k : ℕ). f (e + i) * g k) z))

pub conv_past : (d d' : ℕ) (f g : ℕ → ℕ) → ((k : ℕ) → d < k → f k ≡ 0) → ((k : ℕ) → d' < k → g k ≡ 0) → (k : ℕ) → d + d' < k → conv f g k ≡ 0
unfolding conv
conv_past d d' f g hf hg k h =
    sum_zero (suc k) (λ l. f l * g (k - l))
    (λ i l. nothing _ _ (⊎_elim (λ (o : d < i). inl (hf i o)) (λ (o : i ≤ d). inr (hg (k - i) (omega arith))) (below_or d i)))

module _ (l l' : ℕ) (f g : ℕ → ℕ) (hf : (k : ℕ) → k < l → f k ≡ 0) (hg : (k : ℕ) → k < l' → g k ≡ 0) where
  pub conv_before : (k : ℕ) → k < l + l' → conv f g k ≡ 0
  unfolding conv
  conv_before k h =
      sum_zero (suc k) (λ i. f i * g (k - i))
      (λ i o. nothing _ _ (⊎_elim (λ (a : i < l). inl (hf i a)) (λ (a : l ≤ i). inr (hg (k - i) (omega arith))) (below_or i l)))

  pub conv_lowest : conv f g (l + l') ≡ f l * g l'
  unfolding conv sum
  conv_lowest =
      let q : suc (l + l') ≡ l + (1 + l') = omega arith in
      let a : l + 0 ≡ l = add-zero l in
      let b : l + l' - (l + 0) ≡ l' = omega arith in
      ap (λ (m : ℕ). sum m (λ i. f i * g (l + l' - i))) q
      ∙ sum-from l (1 + l') (λ i. f i * g (l + l' - i)) (λ i o. nothing _ _ (inl (hf i o)))
      ∙ sum_to 1 l' (λ i. f (l + i) * g (l + l' - (l + i))) (λ i o o'. nothing _ _ (inr (hg (l + l' - (l + i)) (omega arith))))
      ∙ zero-add (f (l + 0) * g (l + l' - (l + 0))) ∙ ap₂ (λ (x y : ℕ). f x * g y) a b
