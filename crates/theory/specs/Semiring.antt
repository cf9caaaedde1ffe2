-- Commutative semirings, and the pairs (a₀, a₁) = a₀ + a₁ε with ε² = 0 over one: again a commutative semiring.
--   Laws                        the record of the laws; add_left, add-mul, zero_add, .. follow
--   leibniz, exp_rule           the product rule, and that of exponentials
--   dual                        the laws of the pairs
use Rattle.std.specs.Prelude.{◌≡◌}
use Rattle.std.proofs.Common.{ap₂, ◌∙◌}

pub both : {A B : Type 0} {x y : A × B} → x.0 ≡ y.0 → x.1 ≡ y.1 → x ≡ y
both p q = λ i. (p i, q i)

module _ {A : Type 0} (◌⊞◌ ◌⊠◌ : A → A → A) (𝟘 𝟙 : A) where
  infixl 65 ◌⊞◌
  infixl 70 ◌⊠◌
  pub record Laws : Type 0 where
    pub add_comm : (a b : A) → a ⊞ b ≡ b ⊞ a
    pub add_assoc : (a b c : A) → (a ⊞ b) ⊞ c ≡ a ⊞ (b ⊞ c)
    pub add_zero : (a : A) → a ⊞ 𝟘 ≡ a
    pub mul_comm : (a b : A) → a ⊠ b ≡ b ⊠ a
    pub mul_assoc : (a b c : A) → (a ⊠ b) ⊠ c ≡ a ⊠ (b ⊠ c)
    pub mul_one : (a : A) → a ⊠ 𝟙 ≡ a
    pub mul_zero : (a : A) → a ⊠ 𝟘 ≡ 𝟘
    pub mul_add : (a b c : A) → a ⊠ (b ⊞ c) ≡ a ⊠ b ⊞ a ⊠ c

  abbrev pub addε : A × A → A × A → A × A
  addε a b = (a.0 ⊞ b.0, a.1 ⊞ b.1)

  abbrev pub mulε : A × A → A × A → A × A
  mulε a b = (a.0 ⊠ b.0, a.0 ⊠ b.1 ⊞ a.1 ⊠ b.0)

module _ {A : Type 0} {◌⊞◌ ◌⊠◌ : A → A → A} {𝟘 𝟙 : A} (L : Laws ◌⊞◌ ◌⊠◌ 𝟘 𝟙) where
  infixl 65 ◌⊞◌
  infixl 70 ◌⊠◌
  add_left : (a b c : A) → a ⊞ (b ⊞ c) ≡ b ⊞ (a ⊞ c)
  add_left a b c = cc (L.add_assoc a b c, L.add_assoc b a c, L.add_comm a b)

  pub add-mul : (a b c : A) → (a ⊞ b) ⊠ c ≡ a ⊠ c ⊞ b ⊠ c
  add-mul a b c = L.mul_comm (a ⊞ b) c ∙ L.mul_add c a b ∙ ap₂ ◌⊞◌ (L.mul_comm c a) (L.mul_comm c b)

  pub zero_add : (a : A) → 𝟘 ⊞ a ≡ a
  zero_add a = L.add_comm 𝟘 a ∙ L.add_zero a

  pub zero_mul : (a : A) → 𝟘 ⊠ a ≡ 𝟘
  zero_mul a = L.mul_comm 𝟘 a ∙ L.mul_zero a

  pub one-mul : (a : A) → 𝟙 ⊠ a ≡ a
  one-mul a = L.mul_comm 𝟙 a ∙ L.mul_one a

  -- the product rule, and that of exponentials
  pub leibniz : (p f q g x : A) → (p ⊠ g ⊞ f ⊠ q) ⊠ x ≡ f ⊠ (q ⊠ x) ⊞ (p ⊠ x) ⊠ g
  leibniz p f q g x = simp (add-mul, L.mul_assoc, L.mul_comm, L.add_comm)

  pub exp_rule : (f g x y : A) → (f ⊠ g) ⊠ (x ⊞ y) ≡ f ⊠ (g ⊠ y) ⊞ (f ⊠ x) ⊠ g
  exp_rule f g x y = simp (L.mul_add, L.mul_assoc, L.mul_comm, L.add_comm)

  pub dual : Laws (addε ◌⊞◌ ◌⊠◌ 𝟘 𝟙) (mulε ◌⊞◌ ◌⊠◌ 𝟘 𝟙) (𝟘, 𝟘) (𝟙, 𝟘)
  dual = record {
    add_comm = λ a b i. (L.add_comm a.0 b.0 i, L.add_comm a.1 b.1 i);
    add_assoc = λ a b c i. (L.add_assoc a.0 b.0 c.0 i, L.add_assoc a.1 b.1 c.1 i);
    add_zero = λ a i. (L.add_zero a.0 i, L.add_zero a.1 i);
    mul_comm = λ a b. simp (L.mul_comm, L.add_comm);
    mul_assoc = λ a b c. simp (L.mul_assoc, L.mul_add, add-mul, L.add_assoc);
    mul_one = λ a. simp (L.mul_one, L.mul_zero, zero_add);
    mul_zero = λ a. simp (L.mul_zero, L.add_zero);
    mul_add = λ a b c. simp (L.mul_add, L.add_assoc, add_left);
  }
