-- What stands at the start of some bytes, said by the bytes alone and by the definition. Assumes nothing.
use Prim.Native.Nat.{ℕ, suc, ◌<◌, ◌≤◌}
use mathlib.Core.Path.{◌≡◌, refl, sym, ap, subst, ◌∙◌}
use mathlib.Core.Bool.{Bool, true, false}
use mathlib.Core.List.{List, ◌++◌}
use native.Mathlib.Omega.{arith}
use native.Mathlib.Decide.{dec_lt}
use borrow.Author.Tests.{eqb-true, eqb-false, ne_eqb, ltb-true, lt-ltb, le-ltb}
use lib.Dec.{eqb, ltb}
use lib.ListN.{length, get_or}
use Rattle.std.specs.Prelude.{Some, None, Ok, Err}
use Rattle.laws.specs.Choice.{pick}
use Rattle.elements.specs.Refusals.{number, refusal, answer_number}
use Rattle.elements.specs.declared.refusals.Refusal.{Refusal}
use Rattle.assembly.specs.Start.{start_refusal, start_answer, start_length}
use Rattle.assembly.proofs.Sights as sights
use Rattle.assembly.proofs.Sights.{Sight, few_more, part_more, enough_whole, enough_refused, view, taken, bad_of, longer_whole}
use Rattle.promises.specs.Streams.{IsFrame, Unfinished, few, begun, Refuses, wrong_start, too_long, too_short, Starts}

-- ---- a frame

no_refusal : (first l : ℕ) → first ≡ 104 → 4 ≤ l → l ≤ 253 → start_refusal first l ≡ 0
unfolding start_refusal
no_refusal first l e a b = rw (e, le-ltb 253 l b, le-ltb l 4 a)

pub frame_whole : (f r : List ℕ) → IsFrame f → start_answer (f ++ r) ≡ Ok (Some (length f))
frame_whole f r i =
    let none = no_refusal (get_or f 0 0) (get_or f 1 0) i.start (omega (arith, i.least)) (omega (arith, i.most)) in
    longer_whole f r (length f)
    (enough_whole (length f) _ _ (omega (arith, i.long, i.least)) none (omega (arith, i.long)) ∙ rw i.long refl)

-- ---- more

pub unfinished_more : (s : List ℕ) → Unfinished s → start_answer s ≡ Ok None
unfinished_more s (few h) = few_more (length s) _ _ (omega arith)
unfinished_more s (begun e a b h) = elim (dec_lt (length s) 3) [
  | yes g ↦ few_more (length s) _ _ g
  | no g ↦ part_more (length s) _ _ (omega arith) (no_refusal _ _ e (omega arith) (omega arith)) (omega arith)
]

pub more_unfinished : (s : List ℕ) → start_answer s ≡ Ok None → Unfinished s
more_unfinished s e = by (view (length s) (get_or s 0 0) (get_or s 1 0))
  where
    by : Sight (length s) (get_or s 0 0) (get_or s 1 0) → Unfinished s
    by (sights.few h g) = few (omega arith)
    by (sights.part h z k g) = let t = taken _ _ z in begun t.start (omega (arith, t.least)) (omega (arith, t.most)) (omega arith)
    by (sights.whole h z k g) = let f : ◌≡◌ {A = ℕ} 0 1 = cc in absurd (omega arith)
    by (sights.bad h z g) = let f : ◌≡◌ {A = ℕ} 0 1 = cc in absurd (omega arith)

-- ---- a refusal

module _ (first l : ℕ) where
  is_2 : (first ≡ 104 → ⊥) → start_refusal first l ≡ 2
  unfolding start_refusal
  is_2 e = rw (ne_eqb first 104 e)

  is_3 : first ≡ 104 → 253 < l → start_refusal first l ≡ 3
  unfolding start_refusal
  is_3 e h = rw (e, lt-ltb 253 l h)

  is_1 : first ≡ 104 → l < 4 → start_refusal first l ≡ 1
  unfolding start_refusal
  is_1 e h = rw (e, le-ltb 253 l (omega arith), lt-ltb l 4 h)

-- what the definition refuses with a number, the answer refuses with it
numbered : (s : List ℕ) (n : ℕ) → 3 ≤ length s → start_refusal (get_or s 0 0) (get_or s 1 0) ≡ suc n → start_answer s ≡ Err (refusal (suc n))
numbered s n h e =
    enough_refused (length s) _ _ h (ap (λ (k : ℕ). eqb k 0) e ∙ ne_eqb (suc n) 0 (λ z. omega (arith, z)))
    ∙ rw e refl

pub refuses_refused : (s : List ℕ) (n : ℕ) → Refuses s n → start_answer s ≡ Err (refusal n)
refuses_refused s _ (wrong_start h e) = numbered s 1 (omega arith) (is_2 _ _ e)
refuses_refused s _ (too_long h e g) = numbered s 2 (omega arith) (is_3 _ _ (omega arith) (omega arith))
refuses_refused s _ (too_short h e g) = numbered s 0 (omega arith) (is_1 _ _ (omega arith) (omega arith))

-- a row of these has the number of its refusal
pub refuses_number : (s : List ℕ) (n : ℕ) → Refuses s n → number (refusal n) ≡ n
unfolding refusal
refuses_number s _ (wrong_start h e) = refl
refuses_number s _ (too_long h e g) = refl
refuses_number s _ (too_short h e g) = refl

row : (s : List ℕ) → 3 ≤ length s → eqb (start_refusal (get_or s 0 0) (get_or s 1 0)) 0 ≡ false
    → Refuses s (number (refusal (start_refusal (get_or s 0 0) (get_or s 1 0))))
unfolding start_refusal refusal
row s h z = by (eqb (get_or s 0 0) 104) (ltb 253 (get_or s 1 0)) (ltb (get_or s 1 0) 4) refl refl refl z
  where
    by : (t v w : Bool) → eqb (get_or s 0 0) 104 ≡ t → ltb 253 (get_or s 1 0) ≡ v → ltb (get_or s 1 0) 4 ≡ w
        → eqb (pick t (pick v 3 (pick w 1 0)) 2) 0 ≡ false → Refuses s (number (refusal (pick t (pick v 3 (pick w 1 0)) 2)))
    by false v w a b c g = wrong_start h (eqb-false _ _ a)
    by true true w a b c g = too_long h (omega (arith, eqb-true (get_or s 0 0) 104 a)) (omega (arith, ltb-true 253 (get_or s 1 0) b))
    by true false true a b c g = too_short h (omega (arith, eqb-true (get_or s 0 0) 104 a)) (omega (arith, ltb-true (get_or s 1 0) 4 c))
    by true false false a b c g = absurd (eqb-false 0 0 g refl)

pub refused_refuses : (s : List ℕ) (r : Refusal) → start_answer s ≡ Err r → Refuses s (number r)
refused_refuses s r e = let b = bad_of _ _ _ r e in subst (λ (q : Refusal). Refuses s (number q)) (sym b.is) (row s b.enough b.some)

-- ---- the answer, by its number and its length

pub starts : (s : List ℕ) → Starts s
starts s = record {
  whole = λ f r i e. let is = ap (λ (x : List ℕ). start_answer x) e ∙ frame_whole f r i in (ap answer_number is, ap start_length is);
  more = λ u. let is = unfinished_more s u in (ap answer_number is, ap start_length is);
  refuses = λ n k. let is = refuses_refused s n k in (ap answer_number is ∙ refuses_number s n k, ap start_length is);
}
