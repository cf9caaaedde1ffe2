-- What the step by halves gives, on tables by halves and on functions of codes.
--   pairing_rows, paired_rows    linear in the row
--   paired_half                  by halves
use Rattle.std.specs.Prelude.{◌≡◌, Bool, cond, ℕ, zero, suc, ◌+◌, ◌-◌, ◌*◌, ◌^◌}
use Rattle.std.proofs.Common.{sym, ap, ap₂, ◌∙◌, arith, ne_eqb}
use Rattle.std.proofs.Math.Nat as N
use Rattle.std.proofs.Math.Dec.{eqb-suc-zero}
use Rattle.definitions.specs.Sums.{sum}
use Rattle.definitions.specs.Projection.{one_at}
use Rattle.theory.specs.Sums.{sum-last, sum_front, sum-plus, sum_ext}
use Rattle.theory.specs.Halves.{Table, Row, shift, mul, comp, tab}
use Rattle.definitions.specs.Products.{subset_sum}
use Rattle.theory.specs.Product.{tab-mul}
use Rattle.projection_theory.specs.Halves.{last, pairing, pairing_step, pairing_none, shift_one}
use Rattle.projection_theory.specs.Pairing.{paired, paired-tab}

pub pairing_rows : (n : ℕ) (a b : Table n) (f : Row) → sum (suc n) (λ i. f i * pairing n a (one_at i) b) ≡ pairing n a f b
unfolding pairing last mul comp sum
pairing_rows zero a b f = omega arith
pairing_rows (suc n) a b f =
    let c : Table n = b.0 in
    let d : Table n = mul n a.0 b.1 in
    let g : ℕ → ℕ = λ i. f i * pairing n a.1 (one_at i) c in
    let h : ℕ → ℕ = λ i. f i * pairing n d (shift (one_at i)) c in
    let parts : (i : ℕ) → f i * pairing (suc n) a (one_at i) b ≡ g i + h i =
    λ i. ap (λ (x : ℕ). f i * x) (pairing_step n a b (one_at i)) ∙ N.mul-add (f i) _ _ in
    -- of n controls there are no n + 1 blocks, and no 0 blocks with one taken off
    let top : g (suc n) ≡ 0 =
    ap (λ (x : ℕ). f (suc n) * x) (pairing_none n a.1 c (one_at (suc n)) (λ k l. ap (λ (t : Bool). cond t 1 0) (ne_eqb k (suc n) (omega arith))))
    ∙ N.mul-zero _ in
    let first : h 0 ≡ 0 =
    ap (λ (x : ℕ). f 0 * x) (pairing_none n d c (shift (one_at 0)) (λ k l. ap (λ (t : Bool). cond t 1 0) (eqb-suc-zero k))) ∙ N.mul-zero _ in
    let lower : sum (suc (suc n)) g ≡ pairing n a.1 f c = sum-last (suc n) g ∙ ap₂ ◌+◌ (pairing_rows n a.1 c f) top ∙ N.add-zero _ in
    let upper : sum (suc (suc n)) h ≡ pairing n d (shift f) c =
    sum_front (suc n) h
    ∙ ap₂ ◌+◌ first
    (sum_ext (suc n) _ _ (λ i l. ap (λ (r : Row). f (suc i) * pairing n d r c) (shift_one i)) ∙ pairing_rows n d c (shift f)) ∙ N.zero-add _ in
    sum_ext (suc (suc n)) _ _ (λ i l. parts i) ∙ sum-plus (suc (suc n)) g h ∙ ap₂ ◌+◌ lower upper ∙ sym (pairing_step n a b f)

pub paired_half : (k : ℕ) (G : ℕ → ℕ) (f : Row) (B : ℕ → ℕ)
    → paired (suc k) G f B ≡ paired k (λ S. G (2 ^ k + S)) f B + paired k (subset_sum k G (λ S. B (2 ^ k + S))) (shift f) B
unfolding tab
paired_half k G f B =
    paired-tab (suc k) G f B ∙ pairing_step k (tab (suc k) G) (tab (suc k) B) f
    ∙ ap₂ ◌+◌ (sym (paired-tab k (λ S. G (2 ^ k + S)) f B))
    (ap (λ (t : Table k). pairing k t (shift f) (tab k B)) (tab-mul k G (λ S. B (2 ^ k + S)))
    ∙ sym (paired-tab k (subset_sum k G (λ S. B (2 ^ k + S))) (shift f) B))

pub paired_rows : (k : ℕ) (G : ℕ → ℕ) (f : Row) (B : ℕ → ℕ) → sum (suc k) (λ i. f i * paired k G (one_at i) B) ≡ paired k G f B
paired_rows k G f B =
    sum_ext (suc k) _ _ (λ i h. ap (λ (x : ℕ). f i * x) (paired-tab k G (one_at i) B)) ∙ pairing_rows k (tab k G) (tab k B) f
    ∙ sym (paired-tab k G f B)
