-- Lines with labels, read backwards: the bytes of the set column before the first blank, split at +.
--   parts-joined      joined texts without + are taken apart again
--   word_column       the column of a line has its text before the first blank
--   some_controls     a set that is not empty has controls
--   same_bits         two codes with the same controls are one
use Rattle.std.specs.Prelude.{◌≡◌, refl, Bool, true, false, cond, List, [], ◌∷◌, ◌++◌, ℕ, zero, suc, ◌+◌, ◌*◌, ◌-◌, ◌/◌, ◌%◌, ◌^◌, ◌<◌, ◌≤◌, eqb, length, take}
use Rattle.std.proofs.Common.{sym, ◌∙◌, ap, append-nil, div-lt_iff_lt-mul, pow-suc, arith, take_at, pow_pos, eq-eqb, ne_eqb, eqb-true}
use Rattle.std.proofs.Math.Nat.{div-div-eq-div-mul}
use Rattle.std.proofs.Math.Decide.{ℕ_discrete}
use Rattle.definitions.specs.Limits.{most_controls}
use Rattle.definitions.specs.Sums.{tabulate, keep}
use Rattle.definitions.specs.Sets.{size}
use Rattle.definitions.specs.Sheets.{alphanumeric}
use Rattle.definitions.specs.Pages.{blanks, filled, behind_column, Layout, line_of, has, controls_of, joined}
use Rattle.theory.specs.Tests.{zero_is_not_one}
use Rattle.page_theory.specs.Codes.{keep_snoc}
use Rattle.page_theory.specs.Widths.{length-filled}
use Rattle.label_theory.specs.Labels.{AllAlphanumeric}

-- ---- reading a line backwards

-- the bytes before the first blank
unfoldable pub word : List ℕ → List ℕ
word [] = []
word (x ∷ xs) = cond (eqb x 32) [] (x ∷ word xs)

abbrev on_first : ℕ → List (List ℕ) → List (List ℕ)
on_first x [] = (x ∷ []) ∷ []
on_first x (l ∷ ls) = (x ∷ l) ∷ ls

-- the parts of a text between +
unfoldable pub parts : List ℕ → List (List ℕ)
parts [] = [] ∷ []
parts (x ∷ xs) = cond (eqb x 43) ([] ∷ parts xs) (on_first x (parts xs))

-- the set column of a line, and what it shows
abbrev pub column_of : List ℕ → List ℕ
column_of line = take 143 line

abbrev pub shown_in : List ℕ → List (List ℕ)
shown_in column = parts (word column)

-- ---- texts without a byte

abbrev pub Free : ℕ → List ℕ → Type 0
Free b [] = Unit {0}
Free b (x ∷ xs) = (x ≡ b → ⊥) × Free b xs

abbrev pub AllFree : ℕ → List (List ℕ) → Type 0
AllFree b [] = Unit {0}
AllFree b (l ∷ ls) = Free b l × AllFree b ls

pub good_not : (b x : ℕ) → alphanumeric b ≡ false → alphanumeric x ≡ true → x ≡ b → ⊥
good_not b x f t e = let g : false ≡ true = sym f ∙ ap alphanumeric (sym e) ∙ t in zero_is_not_one (cc)

pub good_free : (b : ℕ) (l : List ℕ) → alphanumeric b ≡ false → AllAlphanumeric l → Free b l
good_free b [] f h = tt
good_free b (x ∷ l) f h = (good_not b x f h.0, good_free b l f h.1)

free_both : (b : ℕ) (xs ys : List ℕ) → Free b xs → Free b ys → Free b (xs ++ ys)
free_both b [] ys f g = g
free_both b (x ∷ xs) ys f g = (f.0, free_both b xs ys f.1 g)

pub free_joined : (b : ℕ) (ls : List (List ℕ)) → (43 ≡ b → ⊥) → AllFree b ls → Free b (joined ls)
unfolding joined
free_joined b [] d f = tt
free_joined b (x ∷ []) d f = f.0
free_joined b (x ∷ y ∷ ys) d f = free_both b x (43 ∷ joined (y ∷ ys)) f.0 (d, free_joined b (y ∷ ys) d f.1)

-- ---- splitting

parts-one : (x : List ℕ) → Free 43 x → parts x ≡ x ∷ []
unfolding parts
parts-one [] f = refl
parts-one (b ∷ x) f = rw (ne_eqb b 43 f.0, parts-one x f.1)

parts_join : (x rest : List ℕ) → Free 43 x → parts (x ++ (43 ∷ rest)) ≡ x ∷ parts rest
unfolding parts
parts_join [] rest f = refl
parts_join (b ∷ x) rest f = rw (ne_eqb b 43 f.0, parts_join x rest f.1)

pub parts-joined : (l : List ℕ) (ls : List (List ℕ)) → AllFree 43 (l ∷ ls) → parts (joined (l ∷ ls)) ≡ l ∷ ls
unfolding joined
parts-joined l [] f = parts-one l f.0
parts-joined l (k ∷ ls) f = parts_join l (joined (k ∷ ls)) f.0 ∙ ap (λ (t : List (List ℕ)). l ∷ t) (parts-joined k ls f.1)

-- ---- the column of a line

pub word-filled : (text : List ℕ) (k : ℕ) → Free 32 text → word (text ++ blanks k) ≡ text
unfolding word
word-filled [] zero f = refl
word-filled [] (suc k) f = refl
word-filled (x ∷ text) k f = rw (ne_eqb x 32 f.0) (ap (λ (l : List ℕ). x ∷ l) (word-filled text k f.1))

pub word_column : (y : Layout) (S v : ℕ) → y.column_width ≡ 143 → length (y.column S) ≤ 143 → Free 32 (y.column S) →
    word (column_of (line_of y S v)) ≡ y.column S
unfolding line_of filled
word_column y S v w h f =
    let text = y.column S in
    ap word (take_at (filled y.column_width text) (behind_column (size S) v) 143 (length-filled y.column_width text (omega (arith, w)) ∙ w))
    ∙ word-filled text (y.column_width - length text) f

-- ---- codes by their controls

append-some : (xs : List ℕ) (x : ℕ) → xs ++ (x ∷ []) ≡ [] → ⊥
append-some [] x e = zero_is_not_one (cc)
append-some (y ∷ xs) x e = zero_is_not_one (cc)

some_kept : (S n : ℕ) → S < 2 ^ n → (S ≡ 0 → ⊥) → keep (has S) (tabulate n (λ i. i)) ≡ [] → ⊥
unfolding tabulate
some_kept S zero h d e = d (omega arith)
some_kept S (suc n) h d e =
    let top : S / 2 ^ n < 2 = (div-lt_iff_lt-mul (pow_pos n)).1 (omega arith) in
    let split = sym (keep_snoc (has S) (tabulate n (λ i. i)) n) ∙ e in
    elim (ℕ_discrete (S / 2 ^ n) 0) [
      | yes z ↦ some_kept S n (small z) d (no_top (ne_eqb (S / 2 ^ n % 2) 1 (λ (o : S / 2 ^ n % 2 ≡ 1). omega arith)) split)
      | no z ↦ append-some (keep (has S) (tabulate n (λ i. i))) n (with_top (eq-eqb (S / 2 ^ n % 2) 1 (omega arith)) split)
    ]
  where
    small : S / 2 ^ n ≡ 0 → S < 2 ^ n
    small z = omega (arith, (div-lt_iff_lt-mul (pow_pos n)).0 (one_below z))
      where
        one_below : S / 2 ^ n ≡ 0 → S / 2 ^ n < 1
        one_below z = omega arith

    with_top : has S n ≡ true → keep (has S) (tabulate n (λ i. i)) ++ cond (has S n) (n ∷ []) [] ≡ [] → keep (has S) (tabulate n (λ i. i)) ++ (n ∷ []) ≡ []
    with_top t e = ap (λ (b : Bool). keep (has S) (tabulate n (λ i. i)) ++ cond b (n ∷ []) []) (sym t) ∙ e

    no_top : has S n ≡ false → keep (has S) (tabulate n (λ i. i)) ++ cond (has S n) (n ∷ []) [] ≡ [] → keep (has S) (tabulate n (λ i. i)) ≡ []
    no_top t e = sym (append-nil _) ∙ ap (λ (b : Bool). keep (has S) (tabulate n (λ i. i)) ++ cond b (n ∷ []) []) (sym t) ∙ e

pub some_controls : (S : ℕ) → S < 2 ^ most_controls → (S ≡ 0 → ⊥) → controls_of S ≡ [] → ⊥
unfolding controls_of
some_controls S h d e = some_kept S most_controls h d e

bit_same : (x y : ℕ) → eqb (x % 2) 1 ≡ eqb (y % 2) 1 → x % 2 ≡ y % 2
bit_same x y e = elim (ℕ_discrete (y % 2) 1) [
  | yes o ↦ eqb-true (x % 2) 1 (e ∙ eq-eqb (y % 2) 1 o) ∙ sym o
  | no z ↦ elim (ℕ_discrete (x % 2) 1) [
    | yes o ↦ absurd (let f : true ≡ false = sym (eq-eqb (x % 2) 1 o) ∙ e ∙ ne_eqb (y % 2) 1 z in zero_is_not_one (cc))
    | no w ↦ omega arith
  ]
]

pub same_bits : (n S T : ℕ) → S < 2 ^ n → T < 2 ^ n → ((i : ℕ) → i < n → has S i ≡ has T i) → S ≡ T
same_bits zero S T h k e = omega arith
same_bits (suc n) S T h k e =
    let first : S % 2 ≡ T % 2 = bit_same S T (let f = e 0 (omega arith) in one S ∙ f ∙ sym (one T)) in
    let rest : S / 2 ≡ T / 2 = same_bits n (S / 2) (T / 2) (omega arith) (omega arith) (λ i l. half S i ∙ e (suc i) (omega arith) ∙ sym (half T i)) in
    omega arith
  where
    one : (x : ℕ) → eqb (x % 2) 1 ≡ has x 0
    one x = let f : x ≡ x / 2 ^ 0 = omega arith in ap (λ (k : ℕ). eqb (k % 2) 1) f

    half : (x i : ℕ) → has (x / 2) i ≡ has x (suc i)
    half x i = ap (λ (k : ℕ). eqb (k % 2) 1) (div-div-eq-div-mul x 2 (2 ^ i) ∙ ap (λ (k : ℕ). x / k) (double i))
      where
        double : (i : ℕ) → 2 * 2 ^ i ≡ 2 ^ suc i
        double i = omega (arith, pow-suc 2 i)
