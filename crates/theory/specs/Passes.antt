-- Passes over a table in place, one for each control: the entries lo and hi of the sets without and with it become
-- p lo hi and q lo hi.
--   pass, passes             on functions of codes
--   pass_lo, pass_hi         at a set without the control, and with it
--   passes_none, passes_more a loop over the controls
--   crossed, pass_block      what is left of a block of 2 ^ suc i entries (PassLoops has the loops over it and over the blocks)
--   passes_lin               modulo m the passes are a linear transform
use Rattle.std.specs.Prelude.{◌≡◌, cond, eqb, length}
use Rattle.std.proofs.Math.Path.{refl, sym, ap, ap₂, fun_ext}
use Rattle.std.proofs.Common.{◌∙◌, zero-add, zero-mul, mod-lt, mul-le-mul_right, lt_of_mul-lt-mul_right, div-add-mod', pow_pos, pow-add}
use mathlib.Core.List.{List, ◌++◌}
use Prim.Native.Nat.{ℕ, zero, suc, ◌+◌, ◌-◌, ◌*◌, ◌/◌, ◌%◌, ◌^◌, ◌<◌, ◌≤◌}
use native.Mathlib.Omega.{arith}
use Rattle.std.proofs.Math.Arith.{digits_div}
use Rattle.definitions.specs.Sums.{tabulate, at}
use Rattle.theory.specs.Lists.{tabulate_ext, tabulate-append, tabulate_self, at-tabulate}
use Rattle.theory.specs.Codes.{by_top}
use Rattle.theory.specs.Semiring.{both}
use Rattle.theory.specs.Halves.{Table, tab, tab_ext}
use Rattle.theory.specs.Congruence.{red}
use Rattle.theory.specs.Transform.{mix, lin}

twice : (i : ℕ) → 2 ^ suc i ≡ 2 * 2 ^ i
twice i = omega arith

module _ (p q : ℕ → ℕ → ℕ) where
  -- over control i
  unfoldable pub pass : ℕ → (ℕ → ℕ) → ℕ → ℕ
  pass i f S = cond (eqb (S / 2 ^ i % 2) 1) (q (f (S - 2 ^ i)) (f S)) (p (f S) (f (S + 2 ^ i)))

  -- over the first n controls, in rising order
  unfoldable pub passes : ℕ → (ℕ → ℕ) → ℕ → ℕ
  passes zero f = f
  passes (suc i) f = pass i (passes i f)

  module _ (i a c : ℕ) (h : c < 2 ^ i) (f : ℕ → ℕ) where
    pub pass_lo : pass i f (a * 2 ^ suc i + c) ≡ p (f (a * 2 ^ suc i + c)) (f (a * 2 ^ suc i + (2 ^ i + c)))
    unfolding pass
    pass_lo =
        let e : a * 2 ^ suc i + c ≡ a * 2 * 2 ^ i + c = ap (λ (w : ℕ). a * w + c) (twice i) ∙ omega arith in
        let d : (a * 2 ^ suc i + c) / 2 ^ i ≡ a * 2 = ap (λ (x : ℕ). x / 2 ^ i) e ∙ digits_div (a * 2) h in
        let even : a * 2 % 2 ≡ 0 = omega arith in
        rw (d, even) (ap (λ (x : ℕ). p (f (a * 2 ^ suc i + c)) (f x)) (omega arith))

    pub pass_hi : pass i f (a * 2 ^ suc i + (2 ^ i + c)) ≡ q (f (a * 2 ^ suc i + c)) (f (a * 2 ^ suc i + (2 ^ i + c)))
    unfolding pass
    pass_hi =
        let e : a * 2 ^ suc i + (2 ^ i + c) ≡ (a * 2 + 1) * 2 ^ i + c = ap (λ (w : ℕ). a * w + (2 ^ i + c)) (twice i) ∙ omega arith in
        let d : (a * 2 ^ suc i + (2 ^ i + c)) / 2 ^ i ≡ a * 2 + 1 = ap (λ (x : ℕ). x / 2 ^ i) e ∙ digits_div (a * 2 + 1) h in
        let odd : (a * 2 + 1) % 2 ≡ 1 = omega arith in
        rw (d, odd) (ap (λ (x : ℕ). q (f x) (f (a * 2 ^ suc i + (2 ^ i + c)))) (omega arith))

  -- over the top control
  module _ (n c : ℕ) (h : c < 2 ^ n) (f : ℕ → ℕ) where
    top_lo : pass n f c ≡ p (f c) (f (2 ^ n + c))
    top_lo = simp (zero-mul, zero-add) at (pass_lo n 0 c h f)

    top_hi : pass n f (2 ^ n + c) ≡ q (f c) (f (2 ^ n + c))
    top_hi = simp (zero-mul, zero-add) at (pass_hi n 0 c h f)

-- a code by its block of 2 ^ suc i and its place there
by_block : (i S : ℕ) (P : ℕ → Type 0) → ((a c : ℕ) → c < 2 ^ i → P (a * 2 ^ suc i + c)) → ((a c : ℕ) → c < 2 ^ i → P (a * 2 ^ suc i + (2 ^ i + c))) → P S
by_block i S P lo hi =
    let a : ℕ = S / 2 ^ suc i in
    rw (div-add-mod' S (2 ^ suc i)) at (by_top i (S % 2 ^ suc i) (λ r. P (a * 2 ^ suc i + r)) (mod-lt S (pow_pos (suc i))) (λ h. lo a _ h) (λ c h. hi a c h))

module _ (n i : ℕ) (h : i < n) where
  -- the n controls above the block's
  above : 2 ^ n ≡ 2 ^ (n - suc i) * 2 ^ suc i
  above = let e : n ≡ n - suc i + suc i = omega arith in ap (λ (k : ℕ). 2 ^ k) e ∙ pow-add 2 (n - suc i) (suc i)

  -- with a place of a block the whole block is below 2 ^ n
  whole_block : (a c : ℕ) → a * 2 ^ suc i + c < 2 ^ n → a * 2 ^ suc i + 2 ^ suc i ≤ 2 ^ n
  whole_block a c k =
      let l : a * 2 ^ suc i < 2 ^ (n - suc i) * 2 ^ suc i = omega (arith, above) in
      omega (arith, above, mul-le-mul_right {m = suc a} {n = 2 ^ (n - suc i)} (2 ^ suc i) (lt_of_mul-lt-mul_right (2 ^ suc i) l))

module _ (p q : ℕ → ℕ → ℕ) where
  -- a pass reads below 2 ^ n only
  pass_ext : (n i : ℕ) → i < n → (f g : ℕ → ℕ) → ((S : ℕ) → S < 2 ^ n → f S ≡ g S) → (S : ℕ) → S < 2 ^ n → pass p q i f S ≡ pass p q i g S
  pass_ext n i h f g e S = by_block i S (λ S. S < 2 ^ n → pass p q i f S ≡ pass p q i g S)
      (λ a c k l. pass_lo p q i a c k f
      ∙ ap₂ p (e _ l) (e _ (omega (arith, whole_block n i h a c l))) ∙ sym (pass_lo p q i a c k g))
      (λ a c k l. pass_hi p q i a c k f
      ∙ ap₂ q (e _ (omega arith)) (e _ l) ∙ sym (pass_hi p q i a c k g))

  -- on the codes with control n above
  pass_above : (n i : ℕ) → i < n → (f : ℕ → ℕ) (S : ℕ) → pass p q i f (2 ^ n + S) ≡ pass p q i (λ c. f (2 ^ n + c)) S
  pass_above n i h f S = by_block i S (λ S. pass p q i f (2 ^ n + S) ≡ pass p q i (λ c. f (2 ^ n + c)) S)
      (λ a c k. ap (pass p q i f) (up a c) ∙ pass_lo p q i (2 ^ (n - suc i) + a) c k f
      ∙ ap₂ (λ (x y : ℕ). p (f x) (f y)) (sym (up a c)) (sym (up a (2 ^ i + c))) ∙ sym (pass_lo p q i a c k (λ c. f (2 ^ n + c))))
      (λ a c k. ap (pass p q i f) (up a (2 ^ i + c)) ∙ pass_hi p q i (2 ^ (n - suc i) + a) c k f
      ∙ ap₂ (λ (x y : ℕ). q (f x) (f y)) (sym (up a c)) (sym (up a (2 ^ i + c))) ∙ sym (pass_hi p q i a c k (λ c. f (2 ^ n + c))))
    where
      up : (a c : ℕ) → 2 ^ n + (a * 2 ^ suc i + c) ≡ (2 ^ (n - suc i) + a) * 2 ^ suc i + c
      up a c = omega (arith, above n i h)

  passes_above : (n i : ℕ) → i ≤ n → (f : ℕ → ℕ) (S : ℕ) → passes p q i f (2 ^ n + S) ≡ passes p q i (λ c. f (2 ^ n + c)) S
  unfolding passes
  passes_above n zero h f S = refl
  passes_above n (suc i) h f S =
      pass_above n i h (passes p q i f) S
      ∙ ap (λ (g : ℕ → ℕ). pass p q i g S) (fun_ext (passes_above n i (omega arith) f))

-- ---- on lists: a loop over the controls, and in it one over the blocks

module _ (p q : ℕ → ℕ → ℕ) where
  pub passes_none : (n : ℕ) (A : List ℕ) → length A ≡ 2 ^ n → A ≡ tabulate (2 ^ n) (passes p q 0 (at A))
  unfolding passes
  passes_none n A l = sym (tabulate_self (2 ^ n) A l)

  pub passes_more : (n i : ℕ) (f : ℕ → ℕ) → i < n → tabulate (2 ^ n) (pass p q i (at (tabulate (2 ^ n) (passes p q i f)))) ≡ tabulate (2 ^ n) (passes p q (suc i) f)
  unfolding passes
  passes_more n i f h = tabulate_ext (2 ^ n) _ _ (pass_ext p q n i h _ _ (at-tabulate (2 ^ n) (passes p q i f)))

  -- the two halves of a block after the pass over its top control
  unfoldable pub crossed : ℕ → List ℕ → List ℕ
  crossed half xs = tabulate half (λ t. p (at xs t) (at xs (half + t))) ++ tabulate half (λ t. q (at xs t) (at xs (half + t)))

  pub pass_block : (i a : ℕ) (f : ℕ → ℕ) (xs : List ℕ) → ((t : ℕ) → t < 2 ^ suc i → at xs t ≡ f (a * 2 ^ suc i + t))
      → crossed (2 ^ i) xs ≡ tabulate (2 ^ suc i) (λ t. pass p q i f (a * 2 ^ suc i + t))
  unfolding crossed
  pass_block i a f xs e =
      ap₂ ◌++◌
      (tabulate_ext (2 ^ i) _ _ (λ t h. ap₂ p (e t (omega arith)) (e (2 ^ i + t) (omega arith)) ∙ sym (pass_lo p q i a t h f)))
      (tabulate_ext (2 ^ i) _ _ (λ t h. ap₂ q (e t (omega arith)) (e (2 ^ i + t) (omega arith)) ∙ sym (pass_hi p q i a t h f)))
      ∙ sym (tabulate-append (2 ^ i) (2 ^ i) _) ∙ ap (λ (k : ℕ). tabulate k (λ t. pass p q i f (a * 2 ^ suc i + t))) (omega arith)

-- a pass that leaves the lower half as it is
abbrev pub lower : ℕ → ℕ → ℕ
lower x y = x

-- ---- modulo m

module _ (m : ℕ) (p q : ℕ → ℕ → ℕ) (α β γ δ : ℕ)
    (hp : (x y : ℕ) → p (x % m) (y % m) ≡ (α * x + β * y) % m) (hq : (x y : ℕ) → q (x % m) (y % m) ≡ (γ * x + δ * y) % m) where
  -- one row of the matrix
  tab_row : (r : ℕ → ℕ → ℕ) (u v : ℕ) → ((x y : ℕ) → r (x % m) (y % m) ≡ (u * x + v * y) % m) → (n : ℕ) (F G : ℕ → ℕ) (X Y : Table n)
      → tab n F ≡ red m n X → tab n G ≡ red m n Y → tab n (λ c. r (F c) (G c)) ≡ red m n (mix n u v X Y)
  unfolding tab red mix
  tab_row r u v h zero F G X Y e d = ap₂ r e d ∙ h X Y
  tab_row r u v h (suc n) F G X Y e d = both
      (tab_row r u v h n F G _ _ (ap (λ t. t.0) e) (ap (λ t. t.0) d)) (tab_row r u v h n _ _ _ _ (ap (λ t. t.1) e) (ap (λ t. t.1) d))

  pub passes_lin : (n : ℕ) (f : ℕ → ℕ) (a : Table n) → tab n f ≡ red m n a → tab n (passes p q n f) ≡ red m n (lin α β γ δ n a)
  unfolding tab red lin passes
  passes_lin zero f a e = e
  passes_lin (suc n) f a e =
      let lo = passes_lin n f a.0 (ap (λ t. t.0) e) in
      let hi = tab_ext n _ _ (λ c h. passes_above p q n n (omega arith) f c) ∙ passes_lin n _ a.1 (ap (λ t. t.1) e) in
      both
      (tab_ext n _ _ (λ c h. top_lo p q n c h (passes p q n f)) ∙ tab_row p α β hp n _ _ _ _ lo hi)
      (tab_ext n _ _ (λ c h. top_hi p q n c h (passes p q n f)) ∙ tab_row q γ δ hq n _ _ _ _ lo hi)
