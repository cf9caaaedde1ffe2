-- The whole-panel entry, on tables by halves, exact.
--   last, last-add, last-zeros, tab-last   the entry of the set of all controls
--   pairing n a f b                        the last entry of a · f(b), where f(b) is b composed with the row f
--   pairing_step                           by halves: the step of source 001 section 4
use Rattle.std.specs.Prelude.{◌≡◌, refl, Bool, cond, ℕ, zero, suc, ◌+◌, ◌-◌, ◌^◌, ◌≤◌}
use Rattle.std.proofs.Common.{sym, ap, ◌∙◌, arith, pow_pos}
use Rattle.std.proofs.Math.Path.{fun_ext}
use Rattle.std.proofs.Math.Nat as N
use Rattle.std.proofs.Math.Dec.{eqb-suc-suc}
use Rattle.definitions.specs.Projection.{one_at}
use Rattle.theory.specs.Semiring.{both, zero_mul}
use Rattle.theory.specs.Halves.{Table, Row, shift, zeros, add, mul, comp, laws, tab}

unfoldable pub last : (n : ℕ) → Table n → ℕ
last zero a = a
last (suc n) a = last n a.1

last-add : (n : ℕ) (a b : Table n) → last n (add n a b) ≡ last n a + last n b
unfolding last add
last-add zero a b = refl
last-add (suc n) a b = last-add n a.1 b.1

last-zeros : (n : ℕ) → last n (zeros n) ≡ 0
unfolding last zeros
last-zeros zero = refl
last-zeros (suc n) = last-zeros n

pub tab-last : (n : ℕ) (A : ℕ → ℕ) → last n (tab n A) ≡ A (2 ^ n - 1)
unfolding last tab
tab-last zero A = refl
tab-last (suc n) A =
    let code : 2 ^ n + (2 ^ n - 1) ≡ 2 ^ suc n - 1 = omega (arith, pow_pos n) in
    tab-last n (λ c. A (2 ^ n + c)) ∙ ap A code

unfoldable pub pairing : (n : ℕ) → Table n → Row → Table n → ℕ
pairing n a f b = last n (mul n a (comp n f b))

-- [whole] a · f(b) = [whole] a1 · f(b0) + [whole] (a0 · b1) · f'(b0), where f' is the row f from its entry 1 on
pub pairing_step : (n : ℕ) (a b : Table (suc n)) (f : Row)
    → pairing (suc n) a f b ≡ pairing n a.1 f b.0 + pairing n (mul n a.0 b.1) (shift f) b.0
unfolding pairing last mul comp
pairing_step n a b f =
    let C : Table n = comp n (shift f) b.0 in
    let D : Table n = mul n a.1 (comp n f b.0) in
    let turned : mul n a.0 (mul n C b.1) ≡ mul n (mul n a.0 b.1) C =
    ap (mul n a.0) ((laws n).mul_comm C b.1) ∙ sym ((laws n).mul_assoc a.0 b.1 C) in
    last-add n (mul n a.0 (mul n C b.1)) D
    ∙ N.add_comm (last n (mul n a.0 (mul n C b.1))) (last n D)
    ∙ ap (λ (t : Table n). last n D + last n t) turned

-- ---- linear in the row

-- composition reads the row up to n only
comp_none : (n : ℕ) (f : Row) (b : Table n) → ((k : ℕ) → k ≤ n → f k ≡ 0) → comp n f b ≡ zeros n
unfolding comp zeros
comp_none zero f b h = h 0 (omega arith)
comp_none (suc n) f b h =
    both (comp_none n f b.0 (λ k l. h k (omega arith)))
    (rw (comp_none n (shift f) b.0 (λ k l. h (suc k) (omega arith))) (zero_mul (laws n) _))

pub pairing_none : (n : ℕ) (a b : Table n) (f : Row) → ((k : ℕ) → k ≤ n → f k ≡ 0) → pairing n a f b ≡ 0
unfolding pairing
pairing_none n a b f h =
    ap (λ (t : Table n). last n (mul n a t)) (comp_none n f b h) ∙ ap (last n) ((laws n).mul_zero a) ∙ last-zeros n

pub shift_one : (i : ℕ) → shift (one_at (suc i)) ≡ one_at i
shift_one i = fun_ext (λ k. ap (λ (b : Bool). cond b 1 0) (eqb-suc-suc k i))
