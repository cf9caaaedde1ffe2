-- Euclid's algorithm for m and a: what the pair of remainders keeps, from the first pair to the last.
use Rattle.std.proofs.Common.{◌≡◌, ℕ, ◌/◌, ◌%◌, ◌<◌, ap, ◌∙◌, subst, mod-lt, mod-eq_of_lt, arith, Ok, Err}
use native.Mathlib.Nat.{mod-mod, div-lt_self}
use Rattle.theory.specs.Tests.{zero_is_not_one}
use Rattle.theory.specs.Divisors.{Euclid, euclid_first, euclid_next, euclid_last}
use Rattle.residues.specs.Moduli.{Below}
use Rattle.residues.specs.Reciprocals.{IsReciprocal, IsCommonDivisor, ReciprocalIs, InRange, Next}
use Rattle.residues.specs.declared.CommonDivisor.{CommonDivisor}
use Rattle.residues.specs.declared.Remainders.{Remainders}

-- the pair is in range, and one that Euclid's algorithm comes to
pub record Bezout (m a : ℕ) (pair : Remainders) : Type 0 where
  pub range : InRange m pair
  pub above : 1 < pair.larger
  pub euclid : Euclid m a pair.larger pair.smaller pair.of_larger pair.of_smaller

pub first : {m a : ℕ} → 1 < m → a < m →
    Bezout m a (record { larger = m; smaller = a; of_larger = 0; of_smaller = 1 })
first {m} {a} h l = record {
  range = record { falling = l; larger_in = omega arith; of_larger_in = omega arith; of_smaller_in = h };
  above = h;
  euclid = euclid_first m a;
}

-- as the smaller remainder is above 1
pub quotient_below : {m : ℕ} {pair : Remainders} → InRange m pair → 1 < pair.smaller →
    Below m (pair.larger / pair.smaller) pair.of_smaller
quotient_below {m} {pair} r h =
    let l : pair.larger / pair.smaller < pair.larger = div-lt_self (omega arith) h in
    record { first = omega arith; second = r.of_smaller_in }

pub falls : {m : ℕ} {pair r : Remainders} → Next m pair r → 1 < pair.smaller → r.smaller < pair.smaller
falls {m} {pair} {r} n h =
    let l : pair.larger % pair.smaller < pair.smaller = mod-lt pair.larger (omega arith) in
    omega arith

pub next : {m a : ℕ} {pair r : Remainders} → Bezout m a pair → 1 < pair.smaller → Next m pair r → Bezout m a r
next {m} {a} {pair} {r} b h n =
    let less = falls n h in
    let same = ap (λ (k : ℕ). k % m) n.of_smaller_is.same ∙ mod-mod _ m in
    record {
      range = record { falling = omega arith; larger_in = omega arith; of_larger_in = omega arith; of_smaller_in = n.of_smaller_is.below };
      above = omega arith;
      euclid = rw (n.larger_is, n.smaller_is, n.of_larger_is) (euclid_next b.euclid (omega arith) r.of_smaller same);
    }

-- the last pair: its smaller remainder is 1 or 0
pub is_reciprocal : {m a : ℕ} {pair : Remainders} → Bezout m a pair → pair.smaller ≡ 1 →
    ReciprocalIs m a (Ok pair.of_smaller)
is_reciprocal {m} {a} {pair} b e =
    let above : 1 < m = omega arith in
    let it : IsReciprocal m a pair.of_smaller =
    record {
      below = b.range.of_smaller_in;
      one = b.euclid.smaller ∙ ap (λ (k : ℕ). k % m) e ∙ mod-eq_of_lt above;
    } in
    record {
      reciprocal = λ u q. subst (IsReciprocal m a) (cc) it;
      common = λ d q. absurd (zero_is_not_one (cc));
    }

pub is_common : {m a : ℕ} {pair : Remainders} → Bezout m a pair → pair.smaller ≡ 0 →
    ReciprocalIs m a (Err (record { 0 = pair.larger }))
is_common {m} {a} {pair} b e =
    let d = pair.larger in
    let both = euclid_last b.euclid e in
    let it : IsCommonDivisor m a d = record { above = b.above; of_modulus = both.0; of_number = both.1 } in
    record {
      reciprocal = λ u q. absurd (zero_is_not_one (cc));
      common = λ x q. let same : d ≡ x.0 = cc in subst (IsCommonDivisor m a) same it;
    }
