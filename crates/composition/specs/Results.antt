-- The result of a composition that was worked in the front of a pad, once that front has come back.
--   result_ready, result_taken   it may be copied out of the whole pad, and is what the composition left
use Rattle.std.specs.Prelude.{◌≡◌, List, ◌++◌, ℕ, ◌+◌, ◌^◌, ◌≤◌, length, take, drop}
use Rattle.std.proofs.Common.{ap, ◌∙◌, arith, length-drop, length-take-le}
use Rattle.std.proofs.Math.Seq.{length_front}
use Rattle.std.proofs.lemmas.List.{take-append-le, drop-append-le}
use Rattle.definitions.specs.Limits.{most_controls}
use Rattle.ranked_theory.specs.Layout.{rows_length}
use Rattle.composition.specs.Ready.{ResultReady, result_in}

-- the front of so many entries of a pad has room for a composition of n controls
pub record Front (n used : ℕ) (pad : List ℕ) : Type 0 where
  pub few : n ≤ most_controls
  pub room : rows_length n + 2 ^ n ≤ used
  pub inside : used ≤ length pad

module _ {n used : ℕ} {pad : List ℕ} (l : Front n used pad) (new : List ℕ) (kept : length new ≡ length (take used pad)) where
  pub result_ready : (result : List ℕ) → length result ≡ 2 ^ n → ResultReady n (new ++ drop used pad) result
  result_ready result long = record { few = l.few; room = omega (arith, length_front pad new used kept, l.room, l.inside); as_long = long }

  pub result_taken : {made last : List ℕ} → result_in n new ≡ made → last ≡ result_in n (new ++ drop used pad) → last ≡ made
  result_taken made taken =
      let long : length new ≡ used = kept ∙ length-take-le used pad l.inside in
      taken ∙ ap (take (2 ^ n)) (drop-append-le (rows_length n) new (drop used pad) (omega (arith, l.room)))
      ∙ take-append-le (2 ^ n) (drop (rows_length n) new) (drop used pad) (omega (arith, l.room, length-drop (rows_length n) new)) ∙ made
