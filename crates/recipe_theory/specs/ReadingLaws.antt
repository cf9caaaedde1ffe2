-- A tree is read from a line just when the line is its text. So no line has two trees, and what is outside the grammar is
-- decided.
use Rattle.std.specs.Prelude.{◌≡◌, Bool, true, false, cond, ◌&&◌, not, eqb, length, drop}
use Rattle.std.proofs.Math.Path.{refl, sym, ap}
use Rattle.std.proofs.Common.{◌∙◌, le_refl, arith, length-append}
use mathlib.Core.List.{List, [], ◌∷◌, ◌++◌, append_assoc, append-nil}
use Rattle.std.proofs.Math.Option.{Option, some, none}
use Prim.Native.Nat.{ℕ, zero, suc, ◌+◌, ◌<◌, ◌≤◌}
use Rattle.std.proofs.Math.Dec.{eqb-suc-zero}
use Rattle.std.proofs.Math.Seq.{drop-append_seam}
use borrow.Author.Tests.{eqb-true, lt-ltb, le-ltb}
use Rattle.definitions.specs.Limits.{longest_recipe, deepest_nesting}
use Rattle.definitions.specs.Outcomes.{Outcome, accepted, refused, and_then, unless}
use Rattle.definitions.specs.Refusals.{word_if}
use Rattle.definitions.specs.Recipes.{Level, factor, above, sum, Letter, tableA, tableB, tableC, tableD, Sign, times, union, xor, plus, minus, Opening, group, exponential, logarithm, inverse, Tree, table, inside, only, chain, letter_byte, sign_byte, opening_text, closing_byte, text, nesting}
use Rattle.recipe_theory.specs.Reading.{Parsed, letter_of, sign_of, next_sign, begins, opening_of, letter_by, read_letter, close, factor_by, tail_by, read_tail, read_level, read_factor, at_end, tree_of, recipe_of}

-- ---- words

and_true : (a b : Bool) → (a && b) ≡ true → (a ≡ true) × (b ≡ true)
and_true true b e = (refl, e)
and_true false b e = absurd (let w : ◌≡◌ {A = ℕ} 0 1 = cc in omega arith)

pub begins_splits : (w bytes : List ℕ) → begins w bytes ≡ true → bytes ≡ w ++ drop (length w) bytes
unfolding begins
begins_splits [] bytes e = refl
begins_splits (w ∷ ws) [] e = absurd (let z : ◌≡◌ {A = ℕ} 0 1 = cc in omega arith)
begins_splits (w ∷ ws) (b ∷ bs) e =
    let both = and_true (eqb b w) (begins ws bs) e in
    let same : b ≡ w = eqb-true b w both.0 in
    let rest : bs ≡ ws ++ drop (length ws) bs = begins_splits ws bs both.1 in
    ap (λ (x : ℕ). x ∷ bs) same ∙ ap (λ (l : List ℕ). w ∷ l) rest

-- the first of four tests that holds names the opening
opening_by : (test : Opening → Bool) (o : Opening) (a b c d : Bool) → test group ≡ a → test exponential ≡ b → test logarithm ≡ c → test inverse ≡ d →
    cond a (some group) (cond b (some exponential) (cond c (some logarithm) (cond d (some inverse) none))) ≡ some o → test o ≡ true
opening_by test o true b c d ea eb ec ed e = let f : group ≡ o = cc in ap test (sym f) ∙ ea
opening_by test o false true c d ea eb ec ed e = let f : exponential ≡ o = cc in ap test (sym f) ∙ eb
opening_by test o false false true d ea eb ec ed e = let f : logarithm ≡ o = cc in ap test (sym f) ∙ ec
opening_by test o false false false true ea eb ec ed e = let f : inverse ≡ o = cc in ap test (sym f) ∙ ed
opening_by test o false false false false ea eb ec ed e = absurd (let z : ◌≡◌ {A = ℕ} 0 1 = cc in omega arith)

pub opening_begins : (bytes : List ℕ) (o : Opening) → opening_of bytes ≡ some o → begins (opening_text o) bytes ≡ true
unfolding opening_of
opening_begins bytes o e = opening_by (λ p. begins (opening_text p) bytes) o _ _ _ _ refl refl refl refl e

-- ---- what is read is the text

-- a reader of a level takes nothing but the text of what it gives
Sound : (l : Level) → (List ℕ → Outcome (Parsed l)) → Type 0
Sound l read = (bytes : List ℕ) (x : Parsed l) → read bytes ≡ accepted x → text x.tree ++ x.rest ≡ bytes

contradiction : {X : Type 0} → ◌≡◌ {A = ℕ} 0 1 → X
contradiction e = absurd (omega arith)

sign_by : (l : Level) (b : ℕ) (s : Sign l) → sign_of l b ≡ some s → sign_byte s ≡ b
sign_by factor b s e = contradiction cc
sign_by (above factor) b s e = by (eqb b 42) refl e
  where
    by : (p : Bool) → eqb b 42 ≡ p → cond p (some times) none ≡ some s → sign_byte s ≡ b
    by true ep f = let g : times ≡ s = cc in ap sign_byte (sym g) ∙ sym (eqb-true b 42 ep)
    by false ep f = contradiction cc
sign_by (above (above factor)) b s e = by (eqb b 124) (eqb b 94) refl refl e
  where
    by : (p q : Bool) → eqb b 124 ≡ p → eqb b 94 ≡ q → cond p (some union) (cond q (some xor) none) ≡ some s → sign_byte s ≡ b
    by true q ep eq f = let g : union ≡ s = cc in ap sign_byte (sym g) ∙ sym (eqb-true b 124 ep)
    by false true ep eq f = let g : xor ≡ s = cc in ap sign_byte (sym g) ∙ sym (eqb-true b 94 eq)
    by false false ep eq f = contradiction cc
sign_by (above (above (above factor))) b s e = by (eqb b 43) (eqb b 45) refl refl e
  where
    by : (p q : Bool) → eqb b 43 ≡ p → eqb b 45 ≡ q → cond p (some plus) (cond q (some minus) none) ≡ some s → sign_byte s ≡ b
    by true q ep eq f = let g : plus ≡ s = cc in ap sign_byte (sym g) ∙ sym (eqb-true b 43 ep)
    by false true ep eq f = let g : minus ≡ s = cc in ap sign_byte (sym g) ∙ sym (eqb-true b 45 eq)
    by false false ep eq f = contradiction cc
sign_by (above (above (above (above l)))) b s e = contradiction cc

letter_by_lem : (b : ℕ) (x : Letter) → letter_of b ≡ some x → letter_byte x ≡ b
letter_by_lem b x e = by (eqb b 65) (eqb b 66) (eqb b 67) (eqb b 68) refl refl refl refl e
  where
    by : (p q r s : Bool) → eqb b 65 ≡ p → eqb b 66 ≡ q → eqb b 67 ≡ r → eqb b 68 ≡ s →
        cond p (some tableA) (cond q (some tableB) (cond r (some tableC) (cond s (some tableD) none))) ≡ some x → letter_byte x ≡ b
    by true q r s ep eq er es f = let g : tableA ≡ x = cc in ap letter_byte (sym g) ∙ sym (eqb-true b 65 ep)
    by false true r s ep eq er es f = let g : tableB ≡ x = cc in ap letter_byte (sym g) ∙ sym (eqb-true b 66 eq)
    by false false true s ep eq er es f = let g : tableC ≡ x = cc in ap letter_byte (sym g) ∙ sym (eqb-true b 67 er)
    by false false false true ep eq er es f = let g : tableD ≡ x = cc in ap letter_byte (sym g) ∙ sym (eqb-true b 68 es)
    by false false false false ep eq er es f = contradiction cc

-- the text of what was parsed, and what is behind it
abbrev whole : {l : Level} → Parsed l → List ℕ
whole x = text x.tree ++ x.rest

same_whole : {l : Level} (x y : Parsed l) → accepted x ≡ accepted y → whole y ≡ whole x
same_whole {l} x y e = let f : y ≡ x = cc in ap whole f

module _ {l : Level} (read : List ℕ → Outcome (Parsed l)) (sound : Sound l read) where
  tail_by_lem : (k : ℕ) (t : Tree (above l)) (b : ℕ) (bs : List ℕ) (x : Parsed (above l)) →
      ((u : Tree (above l)) (rest : List ℕ) → read_tail read k u rest ≡ accepted x → whole x ≡ text u ++ rest) →
      (o : Option (Sign (above l))) → sign_of (above l) b ≡ o → (p : Outcome (Parsed l)) → read bs ≡ p →
      tail_by (λ s. and_then p (λ y. read_tail read k (chain t s y.tree) y.rest)) (accepted (record { tree = t; rest = b ∷ bs })) o ≡ accepted x →
      whole x ≡ text t ++ (b ∷ bs)
  unfolding Sound text
  tail_by_lem k t b bs x ih none eo p ep e = same_whole _ x e
  tail_by_lem k t b bs x ih (some s) eo (refused w) ep e = contradiction cc
  tail_by_lem k t b bs x ih (some s) eo (accepted y) ep e =
      ih (chain t s y.tree) y.rest e
      ∙ append_assoc (text t) (sign_byte s ∷ text y.tree) y.rest
      ∙ ap (λ (r : List ℕ). text t ++ (sign_byte s ∷ r)) (sound bs y ep)
      ∙ ap (λ (c : ℕ). text t ++ (c ∷ bs)) (sign_by (above l) b s eo)

  tail_sound : (k : ℕ) (t : Tree (above l)) (bytes : List ℕ) (x : Parsed (above l)) → read_tail read k t bytes ≡ accepted x → whole x ≡ text t ++ bytes
  unfolding read_tail
  tail_sound zero t bytes x e = same_whole _ x e
  tail_sound (suc k) t [] x e = same_whole _ x e
  tail_sound (suc k) t (b ∷ bs) x e = tail_by_lem k t b bs x (λ u rest. tail_sound k u rest x) (sign_of (above l) b) refl (read bs) refl e

  chain_by : (bytes : List ℕ) (x : Parsed (above l)) (p : Outcome (Parsed l)) → read bytes ≡ p →
      and_then p (λ y. read_tail read (length y.rest) (only y.tree) y.rest) ≡ accepted x → whole x ≡ bytes
  unfolding Sound text
  chain_by bytes x (refused w) ep e = contradiction cc
  chain_by bytes x (accepted y) ep e = tail_sound (length y.rest) (only y.tree) y.rest x e ∙ sound bytes y ep

level_sound : (read : List ℕ → Outcome (Parsed factor)) → Sound factor read → (l : Level) → Sound l (read_level read l)
unfolding Sound read_level
level_sound read sound factor = sound
level_sound read sound (above l) = λ bytes x e. chain_by (read_level read l) (level_sound read sound l) bytes x (read_level read l bytes) refl e

close_by : (o : Opening) (y : Parsed sum) (x : Parsed factor) (t : Bool) → begins (closing_byte ∷ []) y.rest ≡ t →
    cond t (accepted (record { tree = inside o y.tree; rest = drop 1 y.rest })) (refused 13) ≡ accepted x → whole x ≡ opening_text o ++ whole y
unfolding text
close_by o y x false et e = contradiction cc
close_by o y x true et e =
    same_whole _ x e
    ∙ append_assoc (opening_text o) (text y.tree ++ (closing_byte ∷ [])) (drop 1 y.rest)
    ∙ ap (λ (r : List ℕ). opening_text o ++ r)
    (append_assoc (text y.tree) (closing_byte ∷ []) (drop 1 y.rest) ∙ ap (λ (r : List ℕ). text y.tree ++ r) (sym (begins_splits (closing_byte ∷ []) y.rest et)))

module _ (read : List ℕ → Outcome (Parsed sum)) (sound : Sound sum read) where
  inside_by : (o : Opening) (bytes : List ℕ) (x : Parsed factor) → opening_of bytes ≡ some o →
      (p : Outcome (Parsed sum)) → read (drop (length (opening_text o)) bytes) ≡ p → and_then p (close o) ≡ accepted x → whole x ≡ bytes
  unfolding Sound close
  inside_by o bytes x eo (refused w) ep e = contradiction cc
  inside_by o bytes x eo (accepted y) ep e =
      close_by o y x _ refl e
      ∙ ap (λ (r : List ℕ). opening_text o ++ r) (sound (drop (length (opening_text o)) bytes) y ep)
      ∙ sym (begins_splits (opening_text o) bytes (opening_begins bytes o eo))

  letter_sound : (bytes : List ℕ) (x : Parsed factor) → read_letter bytes ≡ accepted x → whole x ≡ bytes
  unfolding read_letter text
  letter_sound [] x e = contradiction cc
  letter_sound (b ∷ bs) x e = by (letter_of b) refl e
    where
      by : (o : Option Letter) → letter_of b ≡ o → letter_by bs o ≡ accepted x → whole x ≡ b ∷ bs
      by none eo f = contradiction cc
      by (some c) eo f = same_whole _ x f ∙ ap (λ (d : ℕ). d ∷ bs) (letter_by_lem b c eo)

  factor_by_lem : (bytes : List ℕ) (x : Parsed factor) (o : Option Opening) → opening_of bytes ≡ o → factor_by read bytes o ≡ accepted x → whole x ≡ bytes
  factor_by_lem bytes x none eo e = letter_sound bytes x e
  factor_by_lem bytes x (some o) eo e = inside_by o bytes x eo (read (drop (length (opening_text o)) bytes)) refl e

factor_sound : (k : ℕ) → Sound factor (read_factor k)
unfolding Sound read_factor
factor_sound zero = λ bytes x e. contradiction cc
factor_sound (suc k) = λ bytes x e. factor_by_lem (read_level (read_factor k) sum) (level_sound (read_factor k) (factor_sound k) sum) bytes x (opening_of bytes) refl e

-- ---- a text is read

-- bytes that do not go on with a sign of this level or of one below
abbrev Stops : Level → List ℕ → Type 0
Stops factor bytes = Unit {0}
Stops (above l) bytes = Stops l bytes × (next_sign (above l) bytes ≡ none)

sign_own : {l : Level} (s : Sign l) → sign_of l (sign_byte s) ≡ some s
sign_own times = refl
sign_own union = refl
sign_own xor = refl
sign_own plus = refl
sign_own minus = refl

-- a sign is none of a level below its own
sign_stops : {l : Level} (s : Sign (above l)) (bytes : List ℕ) → Stops l (sign_byte s ∷ bytes)
sign_stops times bytes = tt
sign_stops union bytes = (tt, refl)
sign_stops xor bytes = (tt, refl)
sign_stops plus bytes = ((tt, refl), refl)
sign_stops minus bytes = ((tt, refl), refl)

-- what reads the whole of a tree's text, and what reads it and looks on for the signs of its level
Back : (l : Level) → Tree l → Type 0
Back factor t = (k : ℕ) (rest : List ℕ) → length (text t) ≤ k → read_factor k (text t ++ rest) ≡ accepted (record { tree = t; rest = rest })
Back (above l) t =
    (k : ℕ) (rest : List ℕ) → length (text t) ≤ k → Stops l rest →
    (j : ℕ) × (length rest ≤ j) × (read_level (read_factor k) (above l) (text t ++ rest) ≡ read_tail (read_level (read_factor k) l) j t rest)

tail_stops : {l : Level} (read : List ℕ → Outcome (Parsed l)) (j : ℕ) (t : Tree (above l)) (rest : List ℕ) → next_sign (above l) rest ≡ none →
    read_tail read j t rest ≡ accepted (record { tree = t; rest = rest })
unfolding read_tail
tail_stops read zero t rest e = refl
tail_stops read (suc j) t [] e = refl
tail_stops read (suc j) t (b ∷ bs) e =
    ap (tail_by (λ s. and_then (read bs) (λ x. read_tail read j (chain t s x.tree) x.rest)) (accepted (record { tree = t; rest = b ∷ bs }))) e

module _ (k : ℕ) (rest : List ℕ) where
  whole_back : (l : Level) (t : Tree l) → Back l t → length (text t) ≤ k → Stops l rest →
      read_level (read_factor k) l (text t ++ rest) ≡ accepted (record { tree = t; rest = rest })
  unfolding Back read_level
  whole_back factor t back h stops = back k rest h
  whole_back (above l) t back h stops =
      let b = back k rest h stops.0 in
      b.2 ∙ tail_stops (read_level (read_factor k) l) b.0 t rest stops.1

opening_own : (o : Opening) (rest : List ℕ) → opening_of (opening_text o ++ rest) ≡ some o
unfolding opening_of begins
opening_own group rest = refl
opening_own exponential rest = refl
opening_own logarithm rest = refl
opening_own inverse rest = refl

letter_own : (x : Letter) (k : ℕ) (rest : List ℕ) → read_factor (suc k) (letter_byte x ∷ rest) ≡ accepted (record { tree = table x; rest = rest })
unfolding read_factor opening_of begins read_letter
letter_own tableA k rest = refl
letter_own tableB k rest = refl
letter_own tableC k rest = refl
letter_own tableD k rest = refl

table_back : (x : Letter) → Back factor (table x)
unfolding Back text
table_back x = by
  where
    by : (k : ℕ) (rest : List ℕ) → 1 ≤ k → read_factor k (letter_byte x ∷ rest) ≡ accepted (record { tree = table x; rest = rest })
    by zero rest h = absurd (omega arith)
    by (suc k) rest h = letter_own x k rest

inside_read : (o : Opening) (t : Tree sum) → Back sum t → (k : ℕ) (rest : List ℕ) → length (text t) ≤ k →
    read_factor (suc k) (opening_text o ++ (text t ++ (closing_byte ∷ rest))) ≡ accepted (record { tree = inside o t; rest = rest })
unfolding read_factor close begins
inside_read o t back k rest h =
    ap (factor_by (read_level (read_factor k) sum) (opening_text o ++ (text t ++ (closing_byte ∷ rest)))) (opening_own o (text t ++ (closing_byte ∷ rest)))
    ∙ ap (λ (bytes : List ℕ). and_then (read_level (read_factor k) sum bytes) (close o)) (drop-append_seam (opening_text o) (text t ++ (closing_byte ∷ rest)))
    ∙ ap (λ (p : Outcome (Parsed sum)). and_then p (close o)) (whole_back k (closing_byte ∷ rest) sum t back h (((tt, refl), refl), refl))

inside_back : (o : Opening) (t : Tree sum) → Back sum t → Back factor (inside o t)
unfolding Back text
inside_back o t back k rest h =
    let e = simp length-append at h in
    ap (read_factor k)
    (append_assoc (opening_text o) (text t ++ (closing_byte ∷ [])) rest ∙ ap (λ (r : List ℕ). opening_text o ++ r) (append_assoc (text t) (closing_byte ∷ []) rest))
    ∙ by k (omega arith)
  where
    by : (k : ℕ) → length (text t) + 1 ≤ k → read_factor k (opening_text o ++ (text t ++ (closing_byte ∷ rest))) ≡ accepted (record { tree = inside o t; rest = rest })
    by zero h = absurd (omega arith)
    by (suc k) h = inside_read o t back k rest (omega arith)

only_back : {l : Level} (u : Tree l) → Back l u → Back (above l) (only u)
unfolding Back text read_level
only_back {l} u back k rest h stops = (
  length rest,
  le_refl _,
  ap (λ (p : Outcome (Parsed l)). and_then p (λ x. read_tail (read_level (read_factor k) l) (length x.rest) (only x.tree) x.rest))
      (whole_back k rest l u back h stops),
)

-- one sign and one operand more
tail_goes_on : {l : Level} (k j : ℕ) (t : Tree (above l)) (s : Sign (above l)) (u : Tree l) (rest : List ℕ) →
    read_level (read_factor k) l (text u ++ rest) ≡ accepted (record { tree = u; rest = rest }) →
    read_tail (read_level (read_factor k) l) (suc j) t (sign_byte s ∷ (text u ++ rest)) ≡ read_tail (read_level (read_factor k) l) j (chain t s u) rest
unfolding read_tail
tail_goes_on {l} k j t s u rest e =
    ap (tail_by (λ s. and_then (read_level (read_factor k) l (text u ++ rest)) (λ x. read_tail (read_level (read_factor k) l) j (chain t s x.tree) x.rest))
    (accepted (record { tree = t; rest = sign_byte s ∷ (text u ++ rest) }))) (sign_own s)
    ∙ ap (λ (p : Outcome (Parsed l)). and_then p (λ x. read_tail (read_level (read_factor k) l) j (chain t s x.tree) x.rest)) e

chain_back : {l : Level} (t : Tree (above l)) (s : Sign (above l)) (u : Tree l) → Back (above l) t → Back l u → Back (above l) (chain t s u)
unfolding Back text
chain_back {l} t s u first second k rest h stops =
    let e = simp length-append at h in
    let f = first k (sign_byte s ∷ (text u ++ rest)) (omega arith) (sign_stops s (text u ++ rest)) in
    by f.0 (omega (arith, f.1, length-append (text u) rest))
    (ap (read_level (read_factor k) (above l)) (append_assoc (text t) (sign_byte s ∷ text u) rest) ∙ f.2)
    (whole_back k rest l u second (omega arith) stops)
  where
    by : (j : ℕ) → length rest < j →
        read_level (read_factor k) (above l) ((text t ++ (sign_byte s ∷ text u)) ++ rest) ≡ read_tail (read_level (read_factor k) l) j t (sign_byte s ∷ (text u ++ rest)) →
        read_level (read_factor k) l (text u ++ rest) ≡ accepted (record { tree = u; rest = rest }) →
        (i : ℕ) × (length rest ≤ i) × (read_level (read_factor k) (above l) ((text t ++ (sign_byte s ∷ text u)) ++ rest) ≡ read_tail (read_level (read_factor k) l) i (chain t s u) rest)
    by zero g e r = absurd (omega arith)
    by (suc j) g e r = (j, omega arith, e ∙ tail_goes_on k j t s u rest r)

back : {l : Level} (t : Tree l) → Back l t
back (table x) = table_back x
back (inside o t) = inside_back o t (back t)
back (only t) = only_back t (back t)
back (chain t s u) = chain_back t s u (back t) (back u)

-- ---- the line

pub tree_of-text : (t : Tree sum) → tree_of (text t) ≡ accepted t
unfolding tree_of
tree_of-text t =
    ap (λ (p : Outcome (Parsed sum)). and_then p at_end)
    (ap (read_level (read_factor (length (text t))) sum) (sym (append-nil (text t)))
    ∙ whole_back (length (text t)) [] sum t (back t) (le_refl _) (((tt, refl), refl), refl))

end_by : (t u : Tree sum) (line rest : List ℕ) → text u ++ rest ≡ line → at_end (record { tree = u; rest = rest }) ≡ accepted t → text t ≡ line
end_by t u line [] w e = let f : t ≡ u = cc in ap text f ∙ sym (append-nil (text u)) ∙ w
end_by t u line (b ∷ bs) w e = let f = rw (eqb-suc-zero (length bs)) at e in contradiction cc

pub text_of_tree : (line : List ℕ) (t : Tree sum) → tree_of line ≡ accepted t → text t ≡ line
unfolding tree_of Sound
text_of_tree line t e = by (read_level (read_factor (length line)) sum line) refl e
  where
    by : (p : Outcome (Parsed sum)) → read_level (read_factor (length line)) sum line ≡ p → and_then p at_end ≡ accepted t → text t ≡ line
    by (refused k) ep f = contradiction cc
    by (accepted x) ep f = end_by t x.tree line x.rest (level_sound (read_factor (length line)) (factor_sound (length line)) sum line x ep) f

-- no line has two trees
pub one_tree : (t u : Tree sum) → text t ≡ text u → t ≡ u
one_tree t u e = let f : accepted t ≡ accepted u = sym (tree_of-text t) ∙ ap tree_of e ∙ tree_of-text u in cc

-- whether a line is in the grammar: the tree whose text it is, or that there is none
pub grammatical : (line : List ℕ) → Dec ((t : Tree sum) × (text t ≡ line))
grammatical line = by (tree_of line) refl
  where
    by : (p : Outcome (Tree sum)) → tree_of line ≡ p → Dec ((t : Tree sum) × (text t ≡ line))
    by (accepted t) e = yes (t, text_of_tree line t e)
    by (refused k) e = no (λ x. let f : refused k ≡ accepted x.0 = sym e ∙ ap tree_of (sym x.1) ∙ tree_of-text x.0 in contradiction cc)

-- ---- what is not in the grammar is refused by 13, and what nests beyond 8 by 14

-- a reader refuses by no other word
Only13 : {X : Type 0} → Outcome X → Type 0
Only13 o = (k : ℕ) → o ≡ refused k → k ≡ 13

only_accepted : {X : Type 0} (x : X) → Only13 (accepted x)
unfolding Only13
only_accepted x k e = contradiction cc

only_refused : (X : Type 0) → Only13 {X = X} (refused 13)
unfolding Only13
only_refused X k e = cc

only_then : {X Y : Type 0} (o : Outcome X) (next : X → Outcome Y) → Only13 o → ((x : X) → Only13 (next x)) → Only13 (and_then o next)
unfolding Only13
only_then (accepted x) next h g k e = g x k e
only_then (refused w) next h g k e = let f : w ≡ k = cc in sym f ∙ h w refl

only_cond : {X : Type 0} (t : Bool) (a b : Outcome X) → Only13 a → Only13 b → Only13 (cond t a b)
only_cond true a b p q = p
only_cond false a b p q = q

module _ {l : Level} (read : List ℕ → Outcome (Parsed l)) (only13 : (bytes : List ℕ) → Only13 (read bytes)) where
  only_sign : (o : Option (Sign (above l))) (more : Sign (above l) → Outcome (Parsed (above l))) (ends : Outcome (Parsed (above l))) →
      ((s : Sign (above l)) → Only13 (more s)) → Only13 ends → Only13 (tail_by more ends o)
  only_sign none more ends p q = q
  only_sign (some s) more ends p q = p s

  only_tail : (k : ℕ) (t : Tree (above l)) (bytes : List ℕ) → Only13 (read_tail read k t bytes)
  unfolding read_tail
  only_tail zero t bytes = only_accepted _
  only_tail (suc k) t [] = only_accepted _
  only_tail (suc k) t (b ∷ bs) =
      only_sign (sign_of (above l) b) _ _ (λ s. only_then (read bs) _ (only13 bs) (λ x. only_tail k (chain t s x.tree) x.rest)) (only_accepted _)

only_level : (read : List ℕ → Outcome (Parsed factor)) → ((bytes : List ℕ) → Only13 (read bytes)) → (l : Level) (bytes : List ℕ) → Only13 (read_level read l bytes)
unfolding read_level
only_level read only13 factor bytes = only13 bytes
only_level read only13 (above l) bytes =
    only_then (read_level read l bytes) _ (only_level read only13 l bytes) (λ x. only_tail (read_level read l) (only_level read only13 l) (length x.rest) (only x.tree) x.rest)

only_letter : (bytes : List ℕ) → Only13 (read_letter bytes)
unfolding read_letter
only_letter [] = only_refused _
only_letter (b ∷ bs) = by (letter_of b)
  where
    by : (o : Option Letter) → Only13 (letter_by bs o)
    by none = only_refused _
    by (some x) = only_accepted _

only_close : (o : Opening) (x : Parsed sum) → Only13 (close o x)
unfolding close
only_close o x = only_cond (begins (closing_byte ∷ []) x.rest) _ _ (only_accepted _) (only_refused _)

only_factor : (k : ℕ) (bytes : List ℕ) → Only13 (read_factor k bytes)
unfolding read_factor
only_factor zero bytes = only_refused _
only_factor (suc k) bytes = by (opening_of bytes) (only_level (read_factor k) (only_factor k) sum)
  where
    by : (o : Option Opening) → ((rest : List ℕ) → Only13 (read_level (read_factor k) sum rest)) → Only13 (factor_by (read_level (read_factor k) sum) bytes o)
    by none h = only_letter bytes
    by (some o) h = only_then (read_level (read_factor k) sum (drop (length (opening_text o)) bytes)) (close o) (h (drop (length (opening_text o)) bytes)) (only_close o)

only_end : (x : Parsed sum) → Only13 (at_end x)
only_end x = by (eqb (length x.rest) 0)
  where
    by : (t : Bool) → Only13 (unless (word_if (not t) 13) (accepted x.tree))
    by true = only_accepted _
    by false = only_refused _

only_tree : (line : List ℕ) → Only13 (tree_of line)
unfolding tree_of
only_tree line = only_then (read_level (read_factor (length line)) sum line) at_end (only_level (read_factor (length line)) (only_factor (length line)) sum line) only_end

pub outside : (line : List ℕ) → ((t : Tree sum) → text t ≡ line → ⊥) → tree_of line ≡ refused 13
unfolding Only13
outside line none-such = by (tree_of line) refl
  where
    by : (p : Outcome (Tree sum)) → tree_of line ≡ p → tree_of line ≡ refused 13
    by (accepted t) e = absurd (none-such t (text_of_tree line t e))
    by (refused k) e = e ∙ ap (λ (w : ℕ). refused w) (only_tree line k e)

-- the four cases of a line
module _ (line : List ℕ) where
  pub recipe_long : longest_recipe < length line → recipe_of line ≡ refused 13
  unfolding recipe_of
  recipe_long h = rw (lt-ltb longest_recipe (length line) h)

  module _ (short : length line ≤ longest_recipe) where
    pub recipe_outside : ((t : Tree sum) → text t ≡ line → ⊥) → recipe_of line ≡ refused 13
    unfolding recipe_of
    recipe_outside h = rw (le-ltb longest_recipe (length line) short, outside line h)

    module _ (t : Tree sum) (is-text : text t ≡ line) where
      read : tree_of line ≡ accepted t
      read = ap tree_of (sym is-text) ∙ tree_of-text t

      pub recipe_deep : deepest_nesting < nesting t → recipe_of line ≡ refused 14
      unfolding recipe_of
      recipe_deep h = rw (le-ltb longest_recipe (length line) short, read, lt-ltb deepest_nesting (nesting t) h)

      pub recipe_accepted : nesting t ≤ deepest_nesting → recipe_of line ≡ accepted t
      unfolding recipe_of
      recipe_accepted h = rw (le-ltb longest_recipe (length line) short, read, le-ltb deepest_nesting (nesting t) h)
