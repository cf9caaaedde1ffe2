-- One step of a board. What is added at S to a table raises its exponential over S; raising over S is a product, and lowering by c is
-- raising by what c lacks to m.
--   exponential_fresh               the exponential of zeros
--   raised_product, raised_factor, raised_comm     raising over S is the product with 1 + c x^S, so it may be done to a factor, and
--                                   two raisings may change places
--   added_at_lem, added_first           what is added at S: modulo m, and at the empty set
--   added_comm                      two additions may change places too
--   raised_twice, added_twice       two at one set are one with both weights
--   raised_nothing, added_nothing   a multiple of m changes no table of residues
--   lowered_raised, raised_lowered  lowering by c is raising by what c lacks to m, and the other way round
--   product_kept                    E · I stays if E is raised by c and I by d, which together are 0 modulo m
--   lacking_back, lacking-whole, with_lacking      c, and what c lacks to m
use Rattle.std.specs.Prelude.{◌≡◌, Bool, List, eqb}
use Rattle.std.proofs.Math.Path.{refl, sym, ap, ap₂}
use Rattle.std.proofs.Common.{◌∙◌, mod-lt, mod-eq_of_lt, add-zero, zero-add, add_comm, zero-mul, pow_pos}
use Rattle.std.proofs.Math.Bool.{true, false, cond}
use Prim.Native.Nat.{ℕ, ◌+◌, ◌*◌, ◌-◌, ◌%◌, ◌^◌, ◌<◌, ◌≤◌}
use Rattle.std.proofs.Math.Nat.{mod-mod, zero-mod}
use native.Mathlib.Omega.{arith}
use Rattle.definitions.specs.Sums.{tabulate, at}
use Rattle.definitions.specs.Sets.{inside}
use Rattle.definitions.specs.Products.{residues, subset_table}
use Rattle.definitions.specs.Partitions.{exponential_table, unit}
use Rattle.definitions.specs.Boards.{added_at, raised_over, lowered_over, lacking}
use Rattle.theory.specs.Tests.{no_test}
use Rattle.theory.specs.Lists.{at-tabulate, at-residues, residues_ext, residues_self}
use Rattle.theory.specs.Codes.{inside→eq, apart_rest}
use Rattle.theory.specs.Remainders.{mod-add, mod-mul, mod_back, mod_cancel, lacks}
use Rattle.theory.specs.Series.{subset_mod}
use Rattle.theory.specs.Tables.{at-mod, product_comm, product_assoc, exponential_of_zeros}
use Rattle.theory.specs.Inverse.{unit_table}
use Rattle.checks.specs.Accepted.{IsTable}
use Rattle.board_theory.specs.Single.{single, single_away, times-single}

-- ---- c, and what c lacks to m

pub lacking_back : (m w c : ℕ) → c ≤ m → (w + lacking m c + c) % m ≡ w % m
lacking_back m w c h =
    mod-add m (w + lacking m c) c ((w + (m - c)) % m) c
    (mod-add m w (lacking m c) w (m - c) refl (mod-mod (m - c) m) ∙ sym (mod-mod (w + (m - c)) m)) refl
    ∙ mod_back m w c h

pub lacking-whole : (m c : ℕ) → c < m → (lacking m c + c) % m ≡ 0
lacking-whole m c h = ap (λ (k : ℕ). (k + c) % m) (sym (zero-add (lacking m c))) ∙ lacking_back m 0 c (omega arith) ∙ zero-mod m

pub with_lacking : (m c : ℕ) → c < m → (c + lacking m c) % m ≡ 0
with_lacking m c h = ap (λ (k : ℕ). k % m) (add_comm c (lacking m c)) ∙ lacking-whole m c h

lacking_below : (m c : ℕ) → c < m → lacking m c < m
lacking_below m c h = mod-lt (m - c) (omega arith)

lacking-twice : (m c : ℕ) → c < m → lacking m (lacking m c) ≡ c
lacking-twice m c h =
    let d : ℕ = lacking m c in
    let k : d < m = lacking_below m c h in
    sym (mod-eq_of_lt (lacking_below m d k))
    ∙ mod_cancel m (omega arith) d (lacking m d) d c refl (with_lacking m d k ∙ sym (lacking-whole m c h)) ∙ mod-eq_of_lt h

module _ (n m : ℕ) where
  -- ---- what is added at S

  pub added_at_lem : (S c : ℕ) (A : List ℕ) (T : ℕ) → T < 2 ^ n → at (added_at n m S c A) T % m ≡ (at A T + single S c T) % m
  unfolding added_at
  added_at_lem S c A T h = at-mod n m _ T h

  -- the first entry stays 0
  pub added_first : (S c : ℕ) → 0 < S → (A : List ℕ) → at A 0 ≡ 0 → at (added_at n m S c A) 0 ≡ 0
  unfolding added_at
  added_first S c some A z =
      at-residues n m _ 0 (pow_pos n) ∙ ap₂ (λ (x y : ℕ). (x + y) % m) z (single_away S c 0 (λ e. omega arith)) ∙ zero-mod m

  -- two additions, the first first
  added_both : (S c R d : ℕ) (A : List ℕ) → added_at n m R d (added_at n m S c A) ≡ residues n m (λ T. at A T + single S c T + single R d T)
  unfolding added_at
  added_both S c R d A = residues_ext n m _ _ (λ T h. mod-add m _ (single R d T) _ (single R d T) (at-mod n m _ T h) refl)

  pub added_comm : (S c R d : ℕ) (A : List ℕ) → added_at n m R d (added_at n m S c A) ≡ added_at n m S c (added_at n m R d A)
  added_comm S c R d A =
      added_both S c R d A
      ∙ residues_ext n m _ _ (λ T h.
      ap (λ (x : ℕ). x % m) (let e : at A T + single S c T + single R d T ≡ at A T + single R d T + single S c T = omega arith in e))
      ∙ sym (added_both R d S c A)

  pub added_twice : (S c d : ℕ) (A : List ℕ) → added_at n m S d (added_at n m S c A) ≡ added_at n m S (c + d) A
  unfolding added_at
  added_twice S c d A = added_both S c S d A ∙ residues_ext n m _ _ (λ T h. ap (λ (x : ℕ). x % m) (together (at A T) (eqb T S))) where
    together : (x : ℕ) (b : Bool) → x + cond b c 0 + cond b d 0 ≡ x + cond b (c + d) 0
    together x true = omega arith
    together x false = omega arith

  pub added_nothing : (S w : ℕ) (A : List ℕ) → w % m ≡ 0 → IsTable n m A → added_at n m S w A ≡ A
  unfolding added_at
  added_nothing S w A z h = residues_ext n m _ (at A) (λ T k. stays (at A T) (eqb T S)) ∙ residues_self n m A h.size (λ T k. h.below T) where
    stays : (x : ℕ) (b : Bool) → (x + cond b w 0) % m ≡ x % m
    stays x true = mod-add m x w x 0 refl (z ∙ sym (zero-mod m)) ∙ ap (λ (y : ℕ). y % m) (add-zero x)
    stays x false = ap (λ (y : ℕ). y % m) (add-zero x)

  -- ---- raising over S

  module _ (S c : ℕ) where
    -- 1 + c x^S
    abbrev pub one_and : ℕ → ℕ
    one_and T = unit T + single S c T

    pub raised_product : S < 2 ^ n → (E : List ℕ) → raised_over n m S c E ≡ subset_table n m E (residues n m one_and)
    unfolding raised_over
    raised_product code E = residues_ext n m _ _ (λ T h.
        ap (λ (x : ℕ). x % m) (sym (times-single n S c code (at E) T h))
        ∙ subset_mod n m (at E) one_and (at E) _ (λ R k. refl) (λ R k. sym (at-mod n m one_and R k)) T h)

    module _ (some : 0 < S) where
      -- T without S does not contain S, so there nothing is raised
      raised_rest : (E : List ℕ) (T : ℕ) → T < 2 ^ n → inside S T ≡ true → at (raised_over n m S c E) (T - S) % m ≡ at E (T - S) % m
      unfolding raised_over
      raised_rest E T h i =
          at-mod n m _ (T - S) (omega arith)
          ∙ ap (λ (b : Bool). (at E (T - S) + cond b (c * at E (T - S - S)) 0) % m)
          (no_test (inside S (T - S)) (λ q. omega (arith, inside→eq S (T - S) q, apart_rest S T (inside→eq S T (rw i tt)))))
          ∙ ap (λ (x : ℕ). x % m) (add-zero (at E (T - S)))

  pub raised_factor : (S c : ℕ) → S < 2 ^ n → (D E : List ℕ) → raised_over n m S c (subset_table n m D E) ≡ subset_table n m D (raised_over n m S c E)
  raised_factor S c code D E =
      raised_product S c code (subset_table n m D E) ∙ product_assoc n m D E (residues n m (one_and S c))
      ∙ ap (subset_table n m D) (sym (raised_product S c code E))

  pub raised_comm : (S c R d : ℕ) → S < 2 ^ n → R < 2 ^ n → (E : List ℕ) → raised_over n m R d (raised_over n m S c E) ≡ raised_over n m S c (raised_over n m R d E)
  raised_comm S c R d s r E =
      both S c R d s r ∙ ap (subset_table n m E) (product_comm n m (residues n m (one_and S c)) (residues n m (one_and R d))) ∙ sym (both R d S c r s)
    where
      both : (S c R d : ℕ) → S < 2 ^ n → R < 2 ^ n
          → raised_over n m R d (raised_over n m S c E) ≡ subset_table n m E (subset_table n m (residues n m (one_and S c)) (residues n m (one_and R d)))
      both S c R d s r =
          raised_product R d r (raised_over n m S c E) ∙ ap (λ (t : List ℕ). subset_table n m t (residues n m (one_and R d))) (raised_product S c s E)
          ∙ product_assoc n m E (residues n m (one_and S c)) (residues n m (one_and R d))

  pub raised_twice : (S c d : ℕ) → 0 < S → (E : List ℕ) → raised_over n m S d (raised_over n m S c E) ≡ raised_over n m S (c + d) E
  unfolding raised_over
  raised_twice S c d some E = residues_ext n m _ _ (λ T h. by T h (inside S T) refl) where
    by : (T : ℕ) → T < 2 ^ n → (b : Bool) → inside S T ≡ b
        → (at (raised_over n m S c E) T + cond (inside S T) (d * at (raised_over n m S c E) (T - S)) 0) % m ≡ (at E T + cond (inside S T) ((c + d) * at E (T - S)) 0) % m
    by T h true e =
        rw e (
        mod-add m _ _ (at E T + c * at E (T - S)) (d * at E (T - S))
        (at-mod n m _ T h ∙ ap (λ (b : Bool). (at E T + cond b (c * at E (T - S)) 0) % m) e)
        (mod-mul m d _ d _ refl (raised_rest S c some E T h e))
        ∙ ap (λ (x : ℕ). x % m) (let e : at E T + c * at E (T - S) + d * at E (T - S) ≡ at E T + (c + d) * at E (T - S) = omega arith in e))
    by T h false e =
        rw e (
        mod-add m _ 0 (at E T + 0) 0 (at-mod n m _ T h ∙ ap (λ (b : Bool). (at E T + cond b (c * at E (T - S)) 0) % m) e) refl
        ∙ ap (λ (x : ℕ). x % m) (add-zero (at E T + 0)))

  pub raised_nothing : (S w : ℕ) (E : List ℕ) → w % m ≡ 0 → IsTable n m E → raised_over n m S w E ≡ E
  unfolding raised_over
  raised_nothing S w E z h =
      residues_ext n m _ (at E) (λ T k. stays (at E T) (at E (T - S)) (inside S T)) ∙ residues_self n m E h.size (λ T k. h.below T)
    where
      stays : (x y : ℕ) (b : Bool) → (x + cond b (w * y) 0) % m ≡ x % m
      stays x y true =
          mod-add m x (w * y) x 0 refl (mod-mul m w y 0 y (z ∙ sym (zero-mod m)) refl ∙ ap (λ (k : ℕ). k % m) (zero-mul y))
          ∙ ap (λ (k : ℕ). k % m) (add-zero x)
      stays x y false = ap (λ (k : ℕ). k % m) (add-zero x)

  -- E (1 + c x^S) · I (1 + d x^S) = E · I (1 + (d + c) x^S) = E · I
  pub product_kept : (S c d : ℕ) → 0 < S → S < 2 ^ n → (d + c) % m ≡ 0 → (E I : List ℕ) → IsTable n m I
      → subset_table n m (raised_over n m S c E) (raised_over n m S d I) ≡ subset_table n m E I
  product_kept S c d some code z E I h =
      let P : List ℕ = residues n m (one_and S c) in
      let J : List ℕ = raised_over n m S d I in
      ap (λ (t : List ℕ). subset_table n m t J) (raised_product S c code E) ∙ product_assoc n m E P J
      ∙ ap (subset_table n m E)
      (product_comm n m P J ∙ sym (raised_product S c code J) ∙ raised_twice S d c some I ∙ raised_nothing S (d + c) I z h)

  -- ---- lowering over S

  pub lowered_raised : (S c : ℕ) → c < m → (I : List ℕ) → lowered_over n m S c I ≡ raised_over n m S (lacking m c) I
  unfolding lowered_over raised_over
  lowered_raised S c h I = residues_ext n m _ _ (λ T k. by (at I T) (at I (T - S)) (inside S T)) where
    d : ℕ
    d = lacking m c

    -- both give 0 when c y is added
    opposite : (y : ℕ) → (m - c * y % m) % m ≡ d * y % m
    opposite y =
        let front : c * y + (m - c * y % m) ≡ m - c * y % m + c * y = omega arith in
        let back : c * y + d * y ≡ (d + c) * y = omega arith in
        mod_cancel m (omega arith) (c * y) (m - c * y % m) (c * y) (d * y) refl
        (ap (λ (k : ℕ). k % m) front ∙ lacks m (omega arith) (c * y)
        ∙ sym (ap (λ (k : ℕ). k % m) back
        ∙ mod-mul m (d + c) y 0 y (lacking-whole m c h ∙ sym (zero-mod m)) refl ∙ ap (λ (k : ℕ). k % m) (zero-mul y) ∙ zero-mod m))

    by : (x y : ℕ) (b : Bool) → (x + cond b (m - c * y % m) 0) % m ≡ (x + cond b (d * y) 0) % m
    by x y true = mod-add m x (m - c * y % m) x (d * y) refl (opposite y)
    by x y false = refl

  pub raised_lowered : (S c : ℕ) → c < m → (I : List ℕ) → raised_over n m S c I ≡ lowered_over n m S (lacking m c) I
  raised_lowered S c h I =
      ap (λ (d : ℕ). raised_over n m S d I) (sym (lacking-twice m c h)) ∙ sym (lowered_raised S (lacking m c) (lacking_below m c h) I)

  -- ---- the fresh board

  pub exponential_fresh : 2 ≤ m → exponential_table n m (tabulate (2 ^ n) (λ S. 0)) ≡ tabulate (2 ^ n) unit
  exponential_fresh two = exponential_of_zeros n m (tabulate (2 ^ n) (λ S. 0)) (at-tabulate (2 ^ n) (λ S. 0)) ∙ unit_table n m two
