-- Laws of lists: octets, storing in a row, parts written back, values by index, padding, rings.
use Prim.Native.Nat.{ℕ, zero, suc, ◌+◌, ◌-◌, ◌%◌, ◌<◌, ◌≤◌, min}
use mathlib.Core.Path.{◌≡◌, refl, sym, ap, ◌∙◌}
use mathlib.Core.List.{List, [], ◌∷◌, ◌++◌, append_assoc, append-nil}
use mathlib.Core.Logic.{◌⊎◌, ⊎_elim}
use native.Mathlib.Omega.{arith}
use native.Mathlib.Numerals.{add-one}
use native.Mathlib.Nat.{zero-add, add-zero, add-suc, le-add_right, add_assoc, add-sub_of_le, mod-add-mod, mod-lt, mod-eq_of_lt, mod-eq-sub-mod}
use native.Mathlib.Decide.{dec_lt}
use lib.ListN.{replicate, length-replicate, length, set, take, drop, get_or, length-append, length-take, length-drop, drop_of_length-le, take-append-drop, get_or-append}
use lib.Seq.{take-length, drop-length, take-set-le, drop-set-add, drop-cons, sets, sets-eq, set_out, drop-drop, take_at, drop_at, get_or_at, get_or-take, get_or-drop, get_or-append-add, ext_get_or}
use Rattle.laws.specs.Lists.{Octets, put, tabulate, ring, padded}

-- ---- octets

pub octet_fits : (s : List ℕ) (i : ℕ) → Octets s → get_or s i 0 < 256
octet_fits [] i o = omega arith
octet_fits (b ∷ s) zero o = o.0
octet_fits (b ∷ s) (suc i) o = octet_fits s i o.1

pub octets_all : (s : List ℕ) → ((i : ℕ) → get_or s i 0 < 256) → Octets s
octets_all [] h = tt
octets_all (b ∷ s) h = (h 0, octets_all s (λ i. h (suc i)))

pub octets_drop : (n : ℕ) (s : List ℕ) → Octets s → Octets (drop n s)
octets_drop zero s o = o
octets_drop (suc n) [] o = tt
octets_drop (suc n) (b ∷ s) o = octets_drop n s o.1

-- ---- storing values in a row

module _ {A : Type 0} where
  -- a part that reaches to the end
  pub to_the_end : (l : List A) (at : ℕ) → take (length l - at) (drop at l) ≡ drop at l
  to_the_end l at = rw (sym (length-drop at l)) (take-length (drop at l))

  pub sets_past : (l : List A) (i : ℕ) (vs : List A) → length l ≤ i → sets l i vs ≡ l
  sets_past l i [] h = refl
  sets_past l i (v ∷ vs) h = rw (set_out l i v h) (sets_past l (suc i) vs (omega arith))

  pub sets_all : (l vs : List A) → length vs ≤ length l → sets l 0 vs ≡ vs ++ drop (length vs) l
  sets_all l vs h = sets-eq vs l 0 (rw zero-add h) ∙ rw zero-add

  -- a row stored one by one: a turn, and what is left where the row or the list ends
  pub sets_turn : (l : List A) (at i : ℕ) (vs : List A) (z : A) → i < length vs
      → sets (set l (at + i) (get_or vs i z)) (at + (i + 1)) (drop (i + 1) vs) ≡ sets l (at + i) (drop i vs)
  sets_turn l at i vs z h =
      let e : at + (i + 1) ≡ suc (at + i) = omega arith in
      rw (drop-cons vs i z h, e, add-one i)

  pub sets_stop : (l : List A) (at i : ℕ) (vs : List A) → min (length l - at) (length vs) ≤ i → sets l (at + i) (drop i vs) ≡ l
  sets_stop l at i vs h = elim (dec_lt i (length vs)) [
    | yes g ↦ sets_past l (at + i) (drop i vs) (omega arith)
    | no g ↦ let past : length vs ≤ i = omega arith in ap (sets l (at + i)) (drop_of_length-le vs past)
  ]

  pub sets_append : (l : List A) (i : ℕ) (vs ws : List A) → sets l i (vs ++ ws) ≡ sets (sets l i vs) (i + length vs) ws
  sets_append l i [] ws = rw add-zero
  sets_append l i (v ∷ vs) ws = sets_append (set l i v) (suc i) vs ws ∙ ap (λ (j : ℕ). sets (sets (set l i v) (suc i) vs) j ws) (omega arith)

  -- ---- a part that was lent

  pub length_put : (d : List A) (at : ℕ) (s : List A) → at + length s ≤ length d → length (put d at s) ≡ length d
  unfolding put
  length_put d at s h = simp (length-append, length-take, length-drop) (omega arith)

  -- what stood before the part, and what is read out of it
  pub get_d_put_before : (d : List A) (at : ℕ) (s : List A) (i : ℕ) (z : A) → i < at → at ≤ length d → get_or (put d at s) i z ≡ get_or d i z
  unfolding put
  get_d_put_before d at s i z h l =
      let k : i < length (take at d) = simp length-take (omega arith) in
      get_or-append (take at d) _ z i k ∙ get_or-take at d i z h

  pub get_d_put_after : (d : List A) (at : ℕ) (s : List A) (i : ℕ) (z : A) → at + length s ≤ i → at + length s ≤ length d → get_or (put d at s) i z ≡ get_or d i z
  unfolding put
  get_d_put_after d at s i z h l =
      let p = take at d ++ s in
      let rest = drop (length s) (drop at d) in
      let lp : length p ≡ at + length s = simp (length-append, length-take) (omega arith) in
      let j = i - (at + length s) in
      let e : i ≡ length p + j = omega arith in
      let e2 : at + length s + j ≡ i = omega arith in
      rw (← append_assoc (take at d) s rest, ap (λ (n : ℕ). get_or (p ++ rest) n z) e)
      (rw (get_or-append-add p rest j z, drop-drop, get_or-drop, e2))

  pub put_part : (d : List A) (at : ℕ) (s : List A) → at + length s ≤ length d → take (length s) (drop at (put d at s)) ≡ s
  unfolding put
  put_part d at s h =
      let lt : length (take at d) ≡ at = simp length-take (omega arith) in
      ap (take (length s)) (drop_at (take at d) _ at lt) ∙ take_at s _ (length s) refl

  -- octets stored are a part put in
  pub sets_put : (d : List A) (at : ℕ) (s : List A) → at + length s ≤ length d → sets d at s ≡ put d at s
  unfolding put
  sets_put d at s h = sets-eq s d at h ∙ rw (append_assoc, drop-drop (length s) at d)

  -- a part that lies before or after it is the same
  pub put_apart : (d : List A) (at : ℕ) (s : List A) (p n : ℕ) (z : A) → at + length s ≤ length d → (p + n ≤ at) ⊎ (at + length s ≤ p)
      → take n (drop p (put d at s)) ≡ take n (drop p d)
  put_apart d at s p n z h side =
      let long : length (take n (drop p (put d at s))) ≡ length (take n (drop p d)) =
      simp (length-take, length-drop) (ap (λ (k : ℕ). min n (k - p)) (length_put d at s h)) in
      ext_get_or z _ _ long
      (λ i l.
      let small : i < n = (let l2 = simp length-take at l in omega arith) in
      get_or-take n (drop p (put d at s)) i z small
      ∙ (get_or-drop p (put d at s) i z
      ∙ (⊎_elim (λ before. get_d_put_before d at s (p + i) z (omega arith) (omega arith)) (λ after. get_d_put_after d at s (p + i) z (omega arith) h) side
      ∙ sym (get_or-take n (drop p d) i z small ∙ get_or-drop p d i z))))

  -- values stored in the part from a place on are stored in the list, as far as it reaches
  pub part_sets : (l : List A) (at i : ℕ) (vs : List A) → take at l ++ sets (drop at l) i vs ≡ sets l (at + i) vs
  part_sets l at i [] = take-append-drop at l
  part_sets l at i (v ∷ vs) =
      let m = set l (at + i) v in
      rw (← drop-set-add at l i v, ← take-set-le at l (at + i) v (le-add_right at i), ← add-suc at i) (part_sets m at (suc i) vs)

  -- the part from a place to the end, lent and put back
  pub rest_sets : (l : List A) (at : ℕ) (vs : List A) {s : List A}
      → s ≡ sets (take (length l - at) (drop at l)) 0 vs → take at l ++ (s ++ drop (length l - at) (drop at l)) ≡ sets l at vs
  rest_sets l at vs e =
      let none : drop (length l - at) (drop at l) ≡ [] = ap (λ (n : ℕ). drop n (drop at l)) (sym (length-drop at l)) ∙ drop-length (drop at l) in
      rw (e, none, append-nil, to_the_end l at) (part_sets l at 0 vs ∙ ap (λ (n : ℕ). sets l n vs) (add-zero at))

  -- ---- values by index

  pub length_tabulate : (f : ℕ → A) (i n : ℕ) → length (tabulate f i n) ≡ n
  unfolding tabulate
  length_tabulate f i zero = refl
  length_tabulate f i (suc n) = ap suc (length_tabulate f (suc i) n)

  pub tabulate_ext : (f g : ℕ → A) (i n : ℕ) → ((j : ℕ) → i ≤ j → j < i + n → f j ≡ g j) → tabulate f i n ≡ tabulate g i n
  unfolding tabulate
  tabulate_ext f g i zero h = refl
  tabulate_ext f g i (suc n) h = rw (h i (omega arith) (omega arith), tabulate_ext f g (suc i) n (λ j a b. h j (omega arith) (omega arith)))

  pub tabulate_add : (f : ℕ → A) (i n m : ℕ) → tabulate f i (n + m) ≡ tabulate f i n ++ tabulate f (i + n) m
  unfolding tabulate
  tabulate_add f i zero m = rw (zero-add, add-zero)
  tabulate_add f i (suc n) m =
      let e : suc n + m ≡ suc (n + m) = omega arith in
      let g : suc i + n ≡ i + suc n = omega arith in
      ap (tabulate f i) e ∙ ap (λ (l : List A). f i ∷ l) (tabulate_add f (suc i) n m ∙ ap (λ (j : ℕ). tabulate f (suc i) n ++ tabulate f j m) g)

  pub tabulate_snoc : (f : ℕ → A) (i n : ℕ) → tabulate f i (suc n) ≡ tabulate f i n ++ (f (i + n) ∷ [])
  unfolding tabulate
  tabulate_snoc f i n = ap (tabulate f i) (sym (add-one n)) ∙ tabulate_add f i n 1

  pub drop_tabulate : (f : ℕ → A) (i j n : ℕ) → j ≤ n → drop j (tabulate f i n) ≡ tabulate f (i + j) (n - j)
  drop_tabulate f i j n h =
      ap (λ (k : ℕ). drop j (tabulate f i k)) (sym (add-sub_of_le h))
      ∙ (ap (drop j) (tabulate_add f i j (n - j)) ∙ drop_at (tabulate f i j) _ j (length_tabulate f i j))

  pub get_d_tabulate : (f : ℕ → A) (i n j : ℕ) (d : A) → j < n → get_or (tabulate f i n) j d ≡ f (i + j)
  unfolding tabulate
  get_d_tabulate f i n j d h =
      let e : n ≡ j + suc (n - suc j) = omega arith in
      rw (ap (tabulate f i) e, tabulate_add f i j (suc (n - suc j))) (get_or_at (tabulate f i j) (f (i + j)) _ d j (length_tabulate f i j))

  -- an index that is shifted
  pub tabulate_shift : (f : ℕ → A) (i n : ℕ) → tabulate f i n ≡ tabulate (λ (j : ℕ). f (i + j)) 0 n
  tabulate_shift f i n =
      ext_get_or (f i) _ _ (length_tabulate f i n ∙ sym (length_tabulate _ 0 n))
      (λ j q.
      let l : j < n = (let q2 = rw (length_tabulate f i n) at q in q2) in
      get_d_tabulate f i n j (f i) l ∙ sym (get_d_tabulate (λ (j : ℕ). f (i + j)) 0 n j (f i) l ∙ ap (λ (k : ℕ). f (i + k)) (zero-add j)))

-- ---- padding

module _ {A : Type 0} where
  -- storing from the start of m copies is padding
  pub sets_padded : (m : ℕ) (a : A) (l : List A) → length l ≤ m → sets (replicate m a) 0 l ≡ padded m a l
  unfolding padded
  sets_padded m a l h = sets_all (replicate m a) l (simp length-replicate h)

  pub take_padded : (m : ℕ) (a : A) (l : List A) → take (length l) (padded m a l) ≡ l
  unfolding padded
  take_padded m a l = take_at l (drop (length l) (replicate m a)) (length l) refl

-- ---- rings

-- a place is taken round once: (p + j) % m + i and p + (j + i) are the same place
pub mod_add : (p j i m : ℕ) → ((p + j) % m + i) % m ≡ (p + (j + i)) % m
mod_add p j i m = mod-add-mod (p + j) m i ∙ ap (λ (k : ℕ). k % m) (add_assoc p j i)

-- fewer than m steps never come back to the same place
pub mod_apart : (p i j m : ℕ) → i < j → j < m → (p + i) % m ≡ (p + j) % m → ⊥
mod_apart p i j m hi hj e =
    let x = (p + i) % m in
    let d = j - i in
    let xs : x < m = mod-lt (p + i) (omega arith) in
    let back : (x + d) % m ≡ x = mod_add p i d m ∙ (ap (λ (k : ℕ). (p + k) % m) (omega arith) ∙ sym e) in
    elim (dec_lt (x + d) m) [
      | yes l ↦ let z : x + d ≡ x = sym (mod-eq_of_lt l) ∙ back in omega arith
      | no l ↦
          let z : x + d - m ≡ x = sym (mod-eq_of_lt (omega arith)) ∙ (sym (mod-eq-sub-mod (omega arith)) ∙ back) in
          omega arith
    ]

module _ {A : Type 0} where
  pub length_ring : (f : ℕ → A) (m p n : ℕ) → length (ring f m p n) ≡ n
  unfolding ring
  length_ring f m p n = length_tabulate _ 0 n

  pub ring_first : (f : ℕ → A) (m p n : ℕ) → p < m → ring f m p (suc n) ≡ f p ∷ drop 1 (ring f m p (suc n))
  unfolding ring tabulate
  ring_first f m p n h = let e : (p + 0) % m ≡ p = ap (λ (k : ℕ). k % m) (add-zero p) ∙ mod-eq_of_lt h in rw e

  -- the oldest j leave
  pub ring_drop : (f : ℕ → A) (m p n j : ℕ) → j ≤ n → drop j (ring f m p n) ≡ ring f m ((p + j) % m) (n - j)
  unfolding ring
  ring_drop f m p n j h =
      let at : ℕ → A = λ i. f ((p + i) % m) in
      drop_tabulate at 0 j n h
      ∙ (ap (λ (k : ℕ). tabulate at k (n - j)) (zero-add j)
      ∙ (tabulate_shift at j (n - j) ∙ tabulate_ext _ _ 0 (n - j) (λ i a b. ap f (sym (mod_add p j i m)))))

  -- one more at the end, the others the same
  pub ring_more : (f g : ℕ → A) (m p n : ℕ) (y : A) → ((i : ℕ) → i < n → g ((p + i) % m) ≡ f ((p + i) % m)) → g ((p + n) % m) ≡ y
      → ring g m p (suc n) ≡ ring f m p n ++ (y ∷ [])
  unfolding ring
  ring_more f g m p n y same e =
      let at : ℕ → A = λ i. g ((p + i) % m) in
      tabulate_snoc at 0 n
      ∙ (ap (λ (k : ℕ). tabulate at 0 n ++ (g ((p + k) % m) ∷ [])) (zero-add n)
      ∙ (ap (λ (x : A). tabulate at 0 n ++ (x ∷ [])) e
      ∙ ap (λ (l : List A). l ++ (y ∷ [])) (tabulate_ext _ _ 0 n (λ i a b. same i (omega arith)))))
