-- What stands at a place: a word, an opening, a sign.
use mathlib.Core.Path.{◌≡◌, refl, sym, ap, ap₂, ◌∙◌}
use mathlib.Core.Bool.{Bool, true, false, ◌&&◌}
use mathlib.Core.List.{List, [], ◌∷◌}
use Prim.Native.Nat.{ℕ, ◌-◌, ◌<◌, ◌≤◌}
use mathlib.Core.Logic.{◌⊎◌, inl, inr}
use lib.Dec.{eqb}
use lib.ListN.{length, take, drop, get_or, length-drop, drop_of_length-le}
use Rattle.std.proofs.Common.{le_of_eq, take_all}
use lib.Seq.{drop-cons}
use borrow.Author.Tests.{eq-eqb, ne_eqb, eqb-true, eqb-false}
use Rattle.std.specs.Prelude.{Option, Some, None}
use Rattle.std.specs.List.{starts_with}
use Rattle.definitions.specs.Recipes.{Level, product, alternative, sum, Opening, group, exponential, logarithm, inverse, opening_text}
use Rattle.recipe_theory.specs.Reading.{next_sign, begins, opening_of, sign_of}
use Rattle.recipe_words.specs.Answers.{sign_answer, opening_answer}
use Rattle.recipe_words.specs.declared.Opening as struct

eqb_comm : (a b : ℕ) → eqb a b ≡ eqb b a
eqb_comm a b = by (eqb b a) refl
  where
    by : (t : Bool) → eqb b a ≡ t → eqb a b ≡ t
    by true e = eq-eqb a b (sym (eqb-true b a e))
    by false e = ne_eqb a b (λ q. eqb-false b a e (sym q))

-- the library's test of a word at the front
begun_is : (word bytes : List ℕ) → starts_with eqb bytes word ≡ begins word bytes
unfolding begins
begun_is [] bytes = refl
begun_is (w ∷ ws) [] = refl
begun_is (w ∷ ws) (b ∷ bs) = ap₂ (λ (p q : Bool). p && q) (eqb_comm w b) (begun_is ws bs)

pub begins_is : {test b : Bool} (word line : List ℕ) (at : ℕ) → test ≡ starts_with eqb (take (length line - at) (drop at line)) word → test ≡ b
    → begins word (drop at line) ≡ b
begins_is word line at e f =
    let rest : take (length line - at) (drop at line) ≡ drop at line = take_all (length line - at) (drop at line) (le_of_eq (length-drop at line)) in
    sym (begun_is word (drop at line)) ∙ ap (λ (l : List ℕ). starts_with eqb l word) (sym rest) ∙ sym e ∙ f

-- the tests for what opens, one after the other
abbrev opens : ℕ → Option ℕ → Option struct.Opening
opens long call = Some (record { length = long; call = call })

module _ (bytes : List ℕ) where
  abbrev begun : Opening → Bool
  begun o = begins (opening_text o) bytes

  pub opens_group : begun group ≡ true → opens 1 None ≡ opening_answer (opening_of bytes)
  unfolding opening_of
  opens_group e = rw e

  module _ (g : begun group ≡ false) where
    pub opens_exponential : begun exponential ≡ true → opens 4 (Some 101) ≡ opening_answer (opening_of bytes)
    unfolding opening_of
    opens_exponential e = rw (g, e)

    module _ (h : begun exponential ≡ false) where
      pub opens_logarithm : begun logarithm ≡ true → opens 4 (Some 108) ≡ opening_answer (opening_of bytes)
      unfolding opening_of
      opens_logarithm e = rw (g, h, e)

      module _ (i : begun logarithm ≡ false) where
        pub opens_inverse : begun inverse ≡ true → opens 4 (Some 105) ≡ opening_answer (opening_of bytes)
        unfolding opening_of
        opens_inverse e = rw (g, h, i, e)

        pub opens_nothing : begun inverse ≡ false → None ≡ opening_answer (opening_of bytes)
        unfolding opening_of
        opens_nothing e = rw (g, h, i, e)

-- the signs of each level
pub no_sign : (l : Level) (line : List ℕ) (at : ℕ) → length line ≤ at → None ≡ sign_answer (next_sign l (drop at line))
no_sign l line at h = rw (drop_of_length-le line {i = at} h)

module _ (line : List ℕ) (at : ℕ) {s : ℕ} (h : at < length line) (e : s ≡ get_or line at 0) where
  sign_here : (l : Level) → next_sign l (drop at line) ≡ sign_of l s
  sign_here l = rw (drop-cons line at 0, e)

  pub sum_found : (s ≡ 43) ⊎ (s ≡ 45) → Some s ≡ sign_answer (next_sign sum (drop at line))
  sum_found (inl p) = rw (sign_here sum, p)
  sum_found (inr p) = rw (sign_here sum, p)

  pub sum_not-found : ((s ≡ 43) ⊎ (s ≡ 45) → ⊥) → None ≡ sign_answer (next_sign sum (drop at line))
  sum_not-found n = rw (sign_here sum, ne_eqb s 43 (λ p. n (inl p)), ne_eqb s 45 (λ p. n (inr p)))

  pub alternative_found : (s ≡ 94) ⊎ (s ≡ 124) → Some s ≡ sign_answer (next_sign alternative (drop at line))
  alternative_found (inl p) = rw (sign_here alternative, p)
  alternative_found (inr p) = rw (sign_here alternative, p)

  pub alternative_not-found : ((s ≡ 94) ⊎ (s ≡ 124) → ⊥) → None ≡ sign_answer (next_sign alternative (drop at line))
  alternative_not-found n = rw (sign_here alternative, ne_eqb s 124 (λ p. n (inr p)), ne_eqb s 94 (λ p. n (inl p)))

  pub product_found : s ≡ 42 → Some s ≡ sign_answer (next_sign product (drop at line))
  product_found p = rw (sign_here product, p)

  pub product_not-found : (s ≡ 42 → ⊥) → None ≡ sign_answer (next_sign product (drop at line))
  product_not-found n = rw (sign_here product, ne_eqb s 42 n)
