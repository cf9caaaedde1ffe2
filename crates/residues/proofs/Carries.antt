-- Carries: what a sum in two words leaves modulo m, and that the last carry fits.
use Rattle.std.proofs.Common.{◌≡◌, ℕ, ◌+◌, ◌-◌, ◌*◌, ◌%◌, ◌^◌, ◌<◌, ◌≤◌, sym, refl, ap, ◌∙◌, mod-lt, mul_comm, mul-le-mul, one-mul, zero-mul, arith}
use native.Mathlib.Nat.{mod-add-mod}
use Rattle.theory.specs.Remainders.{mod-add, mul_mod_l}
use Rattle.residues.specs.declared.Modulus.{Modulus}

-- the residue of 2 ^ 64 as `Modulus::new` forms it
pub two_64 : (m : ℕ) → ((2 ^ 64 - 1) % m + 1) % m ≡ 2 ^ 64 % m
two_64 m = mod-add-mod (2 ^ 64 - 1) m 1

-- each carry counts as the residue of 2 ^ 64
carried : (m x k : ℕ) → (x + k * (2 ^ 64 % m)) % m ≡ (x + 2 ^ 64 * k) % m
carried m x k =
    mod-add m x (k * (2 ^ 64 % m)) x (2 ^ 64 * k) refl (ap (λ (y : ℕ). y % m) (mul_comm k (2 ^ 64 % m)) ∙ sym (mul_mod_l m (2 ^ 64) k))

-- the carries of a sum, each as the residue of 2 ^ 64, are added to its lowest 64 bits: `lowest` is what 64 bits hold of that
module _ (modulus : Modulus) (low carries lowest : ℕ) where
  joined : (k : ℕ) → lowest + 2 ^ 64 * k ≡ low + carries * modulus.two_64 → (lowest + k * modulus.two_64) % modulus.value ≡ (low + 2 ^ 64 * carries) % modulus.value
  joined k summed =
      let m = modulus.value in
      ap (λ (y : ℕ). (lowest + k * y) % m) modulus.valid.two_64_is
      ∙ carried m lowest k
      ∙ ap (λ (y : ℕ). y % m) summed
      ∙ ap (λ (y : ℕ). (low + carries * y) % m) modulus.valid.two_64_is
      ∙ carried m low carries

  pub joined_all : lowest ≡ low + carries * modulus.two_64 → lowest % modulus.value ≡ (low + 2 ^ 64 * carries) % modulus.value
  joined_all e = ap (λ (x : ℕ). x % modulus.value) (omega (arith, zero-mul modulus.two_64)) ∙ joined 0 (omega arith)

  -- one carry more
  pub joined-last : lowest + 2 ^ 64 ≡ low + carries * modulus.two_64 → (lowest + modulus.two_64) % modulus.value ≡ (low + 2 ^ 64 * carries) % modulus.value
  joined-last e = ap (λ (x : ℕ). (lowest + x) % modulus.value) (sym (one-mul modulus.two_64)) ∙ joined 1 (omega arith)
