-- A turn of the recursion: one level from the one above, a table a turn.
use Rattle.std.specs.Prelude.{◌≡◌}
use Rattle.std.proofs.Common.{sym, ◌∙◌}
use Rattle.std.proofs.Math.Path.{ap}
use Prim.Native.Nat.{ℕ, suc, ◌+◌, ◌%◌, ◌^◌, ◌<◌}
use native.Mathlib.Omega.{arith}
use Rattle.definitions.specs.Sums.{sum}
use Rattle.definitions.specs.Products.{subset_sum}
use Rattle.theory.specs.Sums.{sum-last, sum-mod}
use Rattle.theory.specs.Remainders.{mod-add}
use Rattle.theory.specs.Halves.{Row, from, from_next}
use Rattle.projection_theory.specs.Pairing.{paired, paired-plus, paired-mod}
use Rattle.projection_theory.specs.Levels.{paired_all, Same}
use Rattle.projection_theory.proofs.Halves.{paired_half}

module _ (m k : ℕ) (B : ℕ → ℕ) (G : ℕ → ℕ → ℕ) where
  -- turn i adds the upper half of G i to table i, and puts the lower half times B's upper one into table i + 1
  pub turn : (i : ℕ) (Y Z : ℕ → ℕ → ℕ)
      → ((j S : ℕ) → j < i → S < 2 ^ k → Z j S ≡ Y j S)
      → ((S : ℕ) → S < 2 ^ k → Z i S % m ≡ (Y i S + G i (2 ^ k + S)) % m)
      → ((S : ℕ) → S < 2 ^ k → Z (suc i) S % m ≡ subset_sum k (G i) (λ S. B (2 ^ k + S)) S % m)
      → Same m k (suc i) Y (suc k) i G B → Same m k (suc (suc i)) Z (suc k) (suc i) G B
  unfolding paired_all
  turn i Y Z before here next s = record {
    same = λ f.
        let r : Row = from i f in
        let pY : ℕ → ℕ = λ j. paired k (Y j) (from j f) B in
        let pZ : ℕ → ℕ = λ j. paired k (Z j) (from j f) B in
        let pG : ℕ → ℕ = λ j. paired (suc k) (G j) (from j f) B in
        let Q : ℕ → ℕ = λ S. G i (2 ^ k + S) in
        let P : ℕ → ℕ = subset_sum k (G i) (λ S. B (2 ^ k + S)) in
        let u : ℕ = paired k Q r B in
        let v : ℕ = paired k P (from (suc i) f) B in
        let old : sum i pZ % m ≡ sum i pY % m =
        sum-mod m i pZ pY (λ j h. paired-mod k (from j f) B m (Z j) (Y j) (λ S l. ap (λ (x : ℕ). x % m) (before j S h l))) in
        let mid : pZ i % m ≡ (pY i + u) % m =
        paired-mod k r B m (Z i) (λ S. Y i S + Q S) here ∙ ap (λ (x : ℕ). x % m) (paired-plus k r B (Y i) Q) in
        let new : pZ (suc i) % m ≡ v % m = paired-mod k (from (suc i) f) B m (Z (suc i)) P next in
        let split : pG i ≡ u + v = paired_half k (G i) r B ∙ ap (λ (t : Row). u + paired k P t B) (sym (from_next i f)) in
        let left : sum (suc (suc i)) pZ ≡ sum i pZ + pZ i + pZ (suc i) =
        sum-last (suc i) pZ ∙ ap (λ (x : ℕ). x + pZ (suc i)) (sum-last i pZ) in
        let shape : sum i pY + (pY i + u) + v ≡ sum i pY + pY i + (u + v) = omega arith in
        ap (λ (x : ℕ). x % m) left
        ∙ mod-add m _ _ (sum i pY + (pY i + u)) v (mod-add m _ _ (sum i pY) (pY i + u) old mid) new
        ∙ ap (λ (x : ℕ). x % m) shape
        ∙ mod-add m _ _ (sum i pG) (pG i) (ap (λ (x : ℕ). x % m) (sym (sum-last i pY)) ∙ s.same f) (ap (λ (x : ℕ). x % m) (sym split))
        ∙ ap (λ (x : ℕ). x % m) (sym (sum-last i pG));
  }
