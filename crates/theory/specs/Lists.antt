-- Lists by a rule for their entries, and tables of remainders.
--   tabulate   length, at, ext, append, self, of (a list that agrees with a rule at each place), set (one entry, by another rule)
--   filled     a list whose first entries are set by a rule: what a loop that sets one entry a turn has so far
--              (filled_none before it, turn for one turn, filled_block for a block, part, filled_all and whole at its end;
--              filled_at and at-filled what stands where)
--   residues   length, at, ext, self, of, filled, halves
use Rattle.std.specs.Prelude.{◌≡◌, refl, List, [], ◌∷◌, ◌++◌, ◌≢◌, ◌⊎◌, ℕ, zero, suc, ◌+◌, ◌%◌, ◌^◌, ◌<◌, ◌≤◌, length, get_or, take, drop, set}
use Rattle.std.proofs.Common.{sym, ◌∙◌, ap₂, append_assoc, append-nil, inl, inr, add-one, add-zero, add-suc, le_refl, not-suc-le-zero, le_of_suc-le-suc, eq-or-lt_of_le, mod-eq_of_lt, arith, length-set, length-append, length-drop, drop_of_length-le, get_or-set_same, get_or-set_other, drop-cons, take_at, drop_at, drop-drop, get_or-drop, get_or-append-add, ext_get_or}
use Rattle.std.proofs.Math.Path.{ap}
use Rattle.std.proofs.Math.Decide.{ℕ_discrete}
use Rattle.std.proofs.Math.ListN.{get_or-append}
use Rattle.std.proofs.lemmas.List.{set_at, get_or_at}
use Rattle.definitions.specs.Sums.{tabulate, at}
use Rattle.definitions.specs.Products.{residues}

-- ---- tabulate

pub length-tabulate : (n : ℕ) (f : ℕ → ℕ) → length (tabulate n f) ≡ n
unfolding tabulate
length-tabulate zero f = refl
length-tabulate (suc n) f = length-append (tabulate n f) (f n ∷ []) ∙ ap (λ (k : ℕ). k + 1) (length-tabulate n f) ∙ add-one n

pub tabulate_ext : (n : ℕ) (f g : ℕ → ℕ) → ((i : ℕ) → i < n → f i ≡ g i) → tabulate n f ≡ tabulate n g
unfolding tabulate
tabulate_ext zero f g e = refl
tabulate_ext (suc n) f g e =
    ap₂ (λ (l : List ℕ) (x : ℕ). l ++ (x ∷ [])) (tabulate_ext n f g (λ i h. e i (omega arith))) (e n (omega arith))

at-cases : (n : ℕ) (f : ℕ → ℕ) (i : ℕ) → (i ≡ n) ⊎ (i < n) → ((i < n) → at (tabulate n f) i ≡ f i) → at (tabulate n f ++ (f n ∷ [])) i ≡ f i
at-cases n f i (inl e) g = rw e (get_or_at (tabulate n f) (f n) [] 0 n (length-tabulate n f))
at-cases n f i (inr h) g = get_or-append (tabulate n f) (f n ∷ []) 0 i (rw (length-tabulate n f) h) ∙ g h

pub at-tabulate : (n : ℕ) (f : ℕ → ℕ) (i : ℕ) → i < n → at (tabulate n f) i ≡ f i
unfolding tabulate
at-tabulate zero f i h = absurd (not-suc-le-zero h)
at-tabulate (suc n) f i h = at-cases n f i (eq-or-lt_of_le (le_of_suc-le-suc h)) (λ l. at-tabulate n f i l)

pub tabulate_of : (n : ℕ) (A : List ℕ) (f : ℕ → ℕ) → length A ≡ n → ((i : ℕ) → i < n → at A i ≡ f i) → A ≡ tabulate n f
tabulate_of n A f l h = ext_get_or 0 A (tabulate n f) (l ∙ sym (length-tabulate n f))
    (λ i k. let j : i < n = omega arith in h i j ∙ sym (at-tabulate n f i j))

pub tabulate_self : (n : ℕ) (A : List ℕ) → length A ≡ n → tabulate n (at A) ≡ A
tabulate_self n A l = sym (tabulate_of n A (at A) l (λ i h. refl))

pub tabulate-append : (a b : ℕ) (f : ℕ → ℕ) → tabulate (a + b) f ≡ tabulate a f ++ tabulate b (λ i. f (a + i))
unfolding tabulate
tabulate-append a zero f = rw (add-zero a) (sym (append-nil (tabulate a f)))
tabulate-append a (suc b) f =
    rw (add-suc a b, tabulate-append a b f) (append_assoc (tabulate a f) (tabulate b (λ i. f (a + i))) (f (a + b) ∷ []))

-- one entry is set, and at the others the two rules agree
pub set-tabulate : (n : ℕ) (f g : ℕ → ℕ) (k v : ℕ) → k < n → v ≡ g k → ((j : ℕ) → j < n → j ≢ k → f j ≡ g j) → set (tabulate n f) k v ≡ tabulate n g
set-tabulate n f g k v h e d = tabulate_of n (set (tabulate n f) k v) g (length-set (tabulate n f) k v ∙ length-tabulate n f)
    (λ j l. elim (ℕ_discrete j k) [
      | yes s ↦ rw s (get_or-set_same (tabulate n f) k v 0 (omega (arith, length-tabulate n f)) ∙ e)
      | no s ↦ get_or-set_other (tabulate n f) k j v 0 s ∙ at-tabulate n f j l ∙ d j l s
    ])

-- ---- a list that a loop fills

-- r with its first n entries by the rule f
unfoldable pub filled : (ℕ → ℕ) → ℕ → List ℕ → List ℕ
filled f n r = tabulate n f ++ drop n r

pub filled_none : (f : ℕ → ℕ) (r : List ℕ) → r ≡ filled f 0 r
unfolding filled tabulate
filled_none f r = refl

filled_more : (f : ℕ → ℕ) (i : ℕ) (r : List ℕ) → i < length r → set (filled f i r) i (f i) ≡ filled f (i + 1) r
unfolding filled tabulate
filled_more f i r h =
    rw (drop-cons r i 0 h, set_at (tabulate i f) (get_or r i 0) (drop (suc i) r) (f i) i (length-tabulate i f), add-one i)
    (sym (append_assoc (tabulate i f) (f i ∷ []) (drop (suc i) r)))

pub filled_all : (f : ℕ → ℕ) (i : ℕ) (r : List ℕ) → length r ≤ i → filled f i r ≡ tabulate i f
unfolding filled
filled_all f i r h = rw (drop_of_length-le r h) (append-nil (tabulate i f))

pub length-filled : (f : ℕ → ℕ) (i : ℕ) (r : List ℕ) → i ≤ length r → length (filled f i r) ≡ length r
unfolding filled
length-filled f i r h = simp (length-append, length-tabulate, length-drop) (omega arith)

-- a block of w entries at once
pub filled_block : (f : ℕ → ℕ) (i w : ℕ) (r : List ℕ) → take i (filled f i r) ++ (tabulate w (λ t. f (i + t)) ++ drop (i + w) (filled f i r)) ≡ filled f (i + w) r
unfolding filled
filled_block f i w r =
    let l : length (tabulate i f) ≡ i = length-tabulate i f in
    rw (take_at (tabulate i f) (drop i r) i l, ← drop-drop w i (tabulate i f ++ drop i r), drop_at (tabulate i f) (drop i r) i l, drop-drop w i r, tabulate-append i w f)
    (sym (append_assoc (tabulate i f) (tabulate w (λ t. f (i + t))) (drop (i + w) r)))

-- the places that are filled go by the rule
pub filled_at : (f : ℕ → ℕ) (i : ℕ) (r : List ℕ) (j : ℕ) → j < i → at (filled f i r) j ≡ f j
unfolding filled
filled_at f i r j h = get_or-append (tabulate i f) (drop i r) 0 j (omega (arith, length-tabulate i f)) ∙ at-tabulate i f j h

-- the places that are not yet filled are as they were
pub at-filled : (f : ℕ → ℕ) (i : ℕ) (r : List ℕ) (j : ℕ) → at (filled f i r) (i + j) ≡ at r (i + j)
unfolding filled
at-filled f i r j =
    ap (λ (k : ℕ). at (tabulate i f ++ drop i r) (k + j)) (sym (length-tabulate i f))
    ∙ get_or-append-add (tabulate i f) (drop i r) j 0 ∙ get_or-drop i r j 0

-- the same for a list l that a loop has so far
pub turn : (f : ℕ → ℕ) (i : ℕ) (r : List ℕ) {l : List ℕ} {v : ℕ} → l ≡ filled f i r → v ≡ f i → i < length r → set l i v ≡ filled f (i + 1) r
turn f i r e w h = ap₂ (λ (l : List ℕ) (v : ℕ). set l i v) e w ∙ filled_more f i r h

pub part : (f : ℕ → ℕ) (i k : ℕ) (r : List ℕ) {l : List ℕ} → l ≡ filled f i r → i ≡ k → l ≡ filled f k r
part f i k r e z = e ∙ ap (λ (n : ℕ). filled f n r) z

pub whole : (f : ℕ → ℕ) (i : ℕ) (r : List ℕ) {l : List ℕ} → l ≡ filled f i r → i ≡ length r → l ≡ tabulate (length r) f
whole f i r e z = part f i (length r) r e z ∙ filled_all f (length r) r (le_refl (length r))

-- ---- tables of remainders

module _ (n m : ℕ) where
  pub length-residues : (f : ℕ → ℕ) → length (residues n m f) ≡ 2 ^ n
  unfolding residues
  length-residues f = length-tabulate (2 ^ n) _

  pub at-residues : (f : ℕ → ℕ) (S : ℕ) → S < 2 ^ n → at (residues n m f) S ≡ f S % m
  unfolding residues
  at-residues f S h = at-tabulate (2 ^ n) _ S h

  pub residues_ext : (f g : ℕ → ℕ) → ((S : ℕ) → S < 2 ^ n → f S % m ≡ g S % m) → residues n m f ≡ residues n m g
  unfolding residues
  residues_ext f g h = tabulate_ext (2 ^ n) _ _ h

  -- a table that has the remainder at each place
  pub residues_of : (A : List ℕ) (f : ℕ → ℕ) → length A ≡ 2 ^ n → ((S : ℕ) → S < 2 ^ n → at A S ≡ f S % m) → A ≡ residues n m f
  unfolding residues
  residues_of A f l h = tabulate_of (2 ^ n) A _ l h

  -- a table of entries below m is its own
  pub residues_self : (A : List ℕ) → length A ≡ 2 ^ n → ((S : ℕ) → S < 2 ^ n → at A S < m) → residues n m (at A) ≡ A
  residues_self A l h = sym (residues_of A (at A) l (λ S k. sym (mod-eq_of_lt (h S k))))

  -- what a loop has that fills a table of 2 ^ n entries with remainders
  pub residues-filled : (f : ℕ → ℕ) (i : ℕ) (r : List ℕ) {l : List ℕ} → l ≡ filled (λ S. f S % m) i r → i ≡ length r → length r ≡ 2 ^ n → l ≡ residues n m f
  unfolding residues
  residues-filled f i r e z k = whole _ i r e z ∙ ap (λ (j : ℕ). tabulate j (λ S. f S % m)) k

-- the halves of a table
pub residues_halves : (n m : ℕ) (f : ℕ → ℕ) → residues (suc n) m f ≡ residues n m f ++ residues n m (λ c. f (2 ^ n + c))
unfolding residues
residues_halves n m f = ap (λ (k : ℕ). tabulate k (λ S. f S % m)) (omega arith) ∙ tabulate-append (2 ^ n) (2 ^ n) _
