-- What stands at the start of some bytes: what each answer shows, and what it says of more bytes and of fewer. Assumes nothing.
use Prim.Native.Nat.{ℕ, ◌+◌, ◌<◌, ◌≤◌}
use mathlib.Core.Path.{◌≡◌, refl, sym, ◌∙◌}
use mathlib.Core.Bool.{Bool, true, false}
use mathlib.Core.List.{List, ◌++◌}
use Rattle.std.specs.Prelude.{None, Some, Ok, Err}
use native.Mathlib.Omega.{arith}
use native.Mathlib.Decide.{dec_lt}
use borrow.Author.Tests.{eqb-true, ltb-true, ltb-false, lt-ltb, le-ltb}
use lib.Dec.{eqb, ltb}
use lib.ListN.{length, get_or, take, length-append, get_or-append}
use lib.Seq.{get_or-take, length-take-le}
use Rattle.laws.proofs.Choices.{passed, held}
use Rattle.elements.specs.Refusals.{refusal}
use Rattle.elements.specs.declared.refusals.Refusal.{Refusal}
use Rattle.assembly.specs.Start.{start_refusal, sight, start_answer}

-- ---- by the number of bytes, the first and L

pub record Taken (first l : ℕ) : Type 0 where
  pub start : first ≡ 104
  pub least : 4 ≤ l
  pub most : l ≤ 253

pub taken : (first l : ℕ) → start_refusal first l ≡ 0 → Taken first l
unfolding start_refusal
taken first l h =
    let a = held (eqb first 104) 1 _ h in
    let b = passed (ltb 253 l) 2 _ a.1 in
    let c = passed (ltb l 4) 0 _ b.1 in
    record { start = eqb-true _ _ a.0; least = ltb-false _ _ c.0; most = ltb-false _ _ b.0 }

-- the answer, with what it shows
pub data Sight (n first l : ℕ) : Type 0 where
  few : n < 3 → sight n first l ≡ Ok None → Sight n first l
  part : 3 ≤ n → start_refusal first l ≡ 0 → n < 2 + l → sight n first l ≡ Ok None → Sight n first l
  whole : 3 ≤ n → start_refusal first l ≡ 0 → 2 + l ≤ n → sight n first l ≡ Ok (Some (2 + l)) → Sight n first l
  bad : 3 ≤ n → eqb (start_refusal first l) 0 ≡ false → sight n first l ≡ Err (refusal (start_refusal first l)) → Sight n first l

module _ (n first l : ℕ) where
  pub few_more : n < 3 → sight n first l ≡ Ok None
  unfolding sight
  few_more h = rw (lt-ltb n 3 h)

  pub part_more : 3 ≤ n → start_refusal first l ≡ 0 → n < 2 + l → sight n first l ≡ Ok None
  unfolding sight
  part_more h z g = rw (le-ltb n 3 h, z, lt-ltb n (2 + l) g)

  pub enough_whole : 3 ≤ n → start_refusal first l ≡ 0 → 2 + l ≤ n → sight n first l ≡ Ok (Some (2 + l))
  unfolding sight
  enough_whole h z g = rw (le-ltb n 3 h, z, le-ltb n (2 + l) g)

  pub enough_refused : 3 ≤ n → eqb (start_refusal first l) 0 ≡ false → sight n first l ≡ Err (refusal (start_refusal first l))
  unfolding sight
  enough_refused h z = rw (le-ltb n 3 h, z)

  pub view : Sight n first l
  view = by (ltb n 3) (eqb (start_refusal first l) 0) (ltb n (2 + l)) refl refl refl
    where
      by : (t v w : Bool) → ltb n 3 ≡ t → eqb (start_refusal first l) 0 ≡ v → ltb n (2 + l) ≡ w → Sight n first l
      by true v w e g h = let a = ltb-true n 3 e in few a (few_more a)
      by false true true e g h =
          let a = ltb-false n 3 e in
          let z = eqb-true _ 0 g in
          let s = ltb-true n (2 + l) h in
          part a z s (part_more a z s)
      by false true false e g h =
          let a = ltb-false n 3 e in
          let z = eqb-true _ 0 g in
          let s = ltb-false n (2 + l) h in
          whole a z s (enough_whole a z s)
      by false false w e g h = let a = ltb-false n 3 e in bad a g (enough_refused a g)

-- a whole frame
pub record Frame (n first l m : ℕ) : Type 0 where
  pub size : m ≡ 2 + l
  pub there : m ≤ n
  pub enough : 3 ≤ n
  pub none : start_refusal first l ≡ 0
  pub shape : Taken first l

pub frame_of : (n first l m : ℕ) → sight n first l ≡ Ok (Some m) → Frame n first l m
frame_of n first l m e = by (view n first l)
  where
    by : Sight n first l → Frame n first l m
    by (few h g) = let z : ◌≡◌ {A = ℕ} 0 1 = cc in absurd (omega arith)
    by (part h z s g) = let z : ◌≡◌ {A = ℕ} 0 1 = cc in absurd (omega arith)
    by (whole h z s g) =
        let size : m ≡ 2 + l = cc in
        record { size = size; there = omega arith; enough = h; none = z; shape = taken first l z }
    by (bad h z g) = let z : ◌≡◌ {A = ℕ} 0 1 = cc in absurd (omega arith)

-- a refusal
pub record Bad (n first l : ℕ) (r : Refusal) : Type 0 where
  pub enough : 3 ≤ n
  pub some : eqb (start_refusal first l) 0 ≡ false
  pub is : r ≡ refusal (start_refusal first l)

pub bad_of : (n first l : ℕ) (r : Refusal) → sight n first l ≡ Err r → Bad n first l r
bad_of n first l r e = by (view n first l)
  where
    by : Sight n first l → Bad n first l r
    by (few h g) = let z : ◌≡◌ {A = ℕ} 0 1 = cc in absurd (omega arith)
    by (part h z s g) = let z : ◌≡◌ {A = ℕ} 0 1 = cc in absurd (omega arith)
    by (whole h z s g) = let z : ◌≡◌ {A = ℕ} 0 1 = cc in absurd (omega arith)
    by (bad h z g) =
        record { enough = h; some = z; is = cc }

-- more bytes are needed: fewer than a frame, so at most 254
pub more_few : (n first l : ℕ) → sight n first l ≡ Ok None → n ≤ 254
more_few n first l e = by (view n first l)
  where
    by : Sight n first l → n ≤ 254
    by (few h g) = omega arith
    by (part h z s g) = let t = taken first l z in omega (arith, t.most)
    by (whole h z s g) = let z : ◌≡◌ {A = ℕ} 0 1 = cc in absurd (omega arith)
    by (bad h z g) = let z : ◌≡◌ {A = ℕ} 0 1 = cc in absurd (omega arith)

-- ---- of lists

module _ (a b : List ℕ) where
  longer : 3 ≤ length a → start_answer (a ++ b) ≡ sight (length a + length b) (get_or a 0 0) (get_or a 1 0)
  longer h =
      rw (length-append a b, get_or-append a b 0 0 (omega arith), get_or-append a b 0 1 (omega arith))

  pub longer_whole : (n : ℕ) → start_answer a ≡ Ok (Some n) → start_answer (a ++ b) ≡ Ok (Some n)
  longer_whole n e =
      let f = frame_of (length a) (get_or a 0 0) (get_or a 1 0) n e in
      longer f.enough ∙ (enough_whole _ _ _ (omega (arith, f.enough)) f.none (omega (arith, f.size, f.there)) ∙ rw f.size refl)

  pub longer_refused : (r : Refusal) → start_answer a ≡ Err r → start_answer (a ++ b) ≡ Err r
  longer_refused r e =
      let f = bad_of (length a) (get_or a 0 0) (get_or a 1 0) r e in
      longer f.enough ∙ (enough_refused _ _ _ (omega (arith, f.enough)) f.some ∙ rw f.is refl)

-- the first n bytes of some that begin with a whole frame of n
pub first_whole : (s : List ℕ) (n : ℕ) → start_answer s ≡ Ok (Some n) → start_answer (take n s) ≡ Ok (Some n)
first_whole s n e =
    let f = frame_of (length s) (get_or s 0 0) (get_or s 1 0) n e in
    let long : length (take n s) ≡ n = length-take-le n s f.there in
    let big : 6 ≤ n = omega (arith, f.size, f.shape.least) in
    rw (long, get_or-take n s 0 0 (omega arith), get_or-take n s 1 0 (omega arith))
    (enough_whole n _ _ (omega arith) f.none (omega (arith, f.size)) ∙ rw f.size refl)

-- a start of which more is needed is shorter than the frame
pub start_short : (a b : List ℕ) (n : ℕ) → start_answer a ≡ Ok None → start_answer (a ++ b) ≡ Ok (Some n) → length a < n
start_short a b n e g = elim (dec_lt (length a) n) [
  | yes h ↦ h
  | no h ↦
      let w = frame_of _ _ _ n g in
      let big : 6 ≤ length a = omega (arith, w.size, w.shape.least) in
      let f = frame_of (length a + length b) (get_or a 0 0) (get_or a 1 0) n (sym (longer a b (omega arith)) ∙ g) in
      let full = enough_whole (length a) (get_or a 0 0) (get_or a 1 0) (omega arith) f.none (omega (arith, f.size)) in
      let z : ◌≡◌ {A = ℕ} 0 1 = cc in
      absurd (omega arith)
]
