-- Equality modulo m, entry by entry: `red m n a` has the remainders of a's entries, and each operation respects them.
--   add_same, mul-same, comp-same      sums, products and compositions of tables with the same remainders
--   same_at, at_same                   the same of functions of codes
use Rattle.std.specs.Prelude.{◌≡◌}
use Rattle.std.proofs.Math.Path.{refl}
use Rattle.std.proofs.Common.{sym, ap, ◌∙◌, arith}
use Prim.Native.Nat.{ℕ, zero, suc, ◌%◌, ◌^◌, ◌<◌, ◌≤◌}
use Rattle.theory.specs.Remainders.{mod-add, mod-mul}
use Rattle.theory.specs.Semiring.{both}
use Rattle.theory.specs.Halves.{Table, Row, shift, add, mul, comp, tab, tab_ext, tab_inj}

module _ (m : ℕ) where
  unfoldable pub red : (n : ℕ) → Table n → Table n
  red zero a = a % m
  red (suc n) a = (red n a.0, red n a.1)

  pub add_same : (n : ℕ) (a b c d : Table n) → red n a ≡ red n c → red n b ≡ red n d → red n (add n a b) ≡ red n (add n c d)
  unfolding red add
  add_same zero a b c d p q = mod-add m a b c d p q
  add_same (suc n) a b c d p q = both
      (add_same n _ _ _ _ (ap (λ t. t.0) p) (ap (λ t. t.0) q)) (add_same n _ _ _ _ (ap (λ t. t.1) p) (ap (λ t. t.1) q))

  pub mul-same : (n : ℕ) (a b c d : Table n) → red n a ≡ red n c → red n b ≡ red n d → red n (mul n a b) ≡ red n (mul n c d)
  unfolding red mul
  mul-same zero a b c d p q = mod-mul m a b c d p q
  mul-same (suc n) a b c d p q = both (mul-same n _ _ _ _ (ap (λ t. t.0) p) (ap (λ t. t.0) q))
      (add_same n _ _ _ _ (mul-same n _ _ _ _ (ap (λ t. t.0) p) (ap (λ t. t.1) q)) (mul-same n _ _ _ _ (ap (λ t. t.1) p) (ap (λ t. t.0) q)))

  -- composition reads the row up to n only
  pub comp-same : (n : ℕ) (f g : Row) (a b : Table n) → ((k : ℕ) → k ≤ n → f k % m ≡ g k % m) → red n a ≡ red n b → red n (comp n f a) ≡ red n (comp n g b)
  unfolding red comp
  comp-same zero f g a b h p = h 0 (omega arith)
  comp-same (suc n) f g a b h p = both (comp-same n f g _ _ (λ k j. h k (omega arith)) (ap (λ t. t.0) p))
      (mul-same n _ _ _ _ (comp-same n (shift f) (shift g) _ _ (λ k j. h (suc k) (omega arith)) (ap (λ t. t.0) p)) (ap (λ t. t.1) p))

  pub tab_red : (n : ℕ) (A : ℕ → ℕ) → red n (tab n A) ≡ tab n (λ c. A c % m)
  unfolding red tab
  tab_red zero A = refl
  tab_red (suc n) A = both (tab_red n A) (tab_red n _)

  pub same_at : (n : ℕ) (A B : ℕ → ℕ) → red n (tab n A) ≡ red n (tab n B) → (S : ℕ) → S < 2 ^ n → A S % m ≡ B S % m
  same_at n A B e = tab_inj n _ _ (sym (tab_red n A) ∙ e ∙ tab_red n B)

  pub at_same : (n : ℕ) (A B : ℕ → ℕ) → ((S : ℕ) → S < 2 ^ n → A S % m ≡ B S % m) → red n (tab n A) ≡ red n (tab n B)
  at_same n A B h = tab_red n A ∙ tab_ext n _ _ h ∙ sym (tab_red n B)
