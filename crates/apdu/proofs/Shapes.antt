-- What the answer of reading a frame shows of its octets: each kind of frame, or a refusal. Assumes nothing.
use Prim.Native.Nat.{ℕ, ◌+◌, ◌%◌, ◌≤◌}
use mathlib.Core.Path.{◌≡◌, refl, ◌∙◌}
use mathlib.Core.Bool.{Bool, true, false}
use mathlib.Core.List.{List}
use native.Mathlib.Omega.{arith}
use borrow.Author.Tests.{eqb-true, ltb-false}
use lib.Dec.{eqb, ltb}
use lib.ListN.{length, get_or, drop}
use Rattle.laws.specs.Lists.{Octets}
use Rattle.laws.specs.Numbers.{le_of}
use Rattle.laws.proofs.Choices.{passed, held}
use Rattle.laws.proofs.Lists.{octets_drop}
use Rattle.laws.proofs.Numbers.{le_fits}
use Rattle.elements.specs.Refusals.{number, refusal, bad_u_control, bad_s_control, bad_i_control, i_without_asdu}
use Rattle.elements.specs.declared.refusals.Refusal.{Refusal}
use Rattle.elements.proofs.Refused.{number_some}
use Rattle.asdu.specs.Reading.{read_refusal}
use Rattle.apdu.specs.Control.{send_number, receive_number, number_at, u_of}
use Rattle.apdu.specs.Reading.{outer_refusal, short_answer, long_answer, frame_answer}
use Rattle.std.specs.Prelude.{Result, Ok, Err}
use Rattle.apdu.specs.declared.frame.Frame.{Frame}
use Rattle.apdu.specs.declared.frame.Frame.TheVariants.{I, S, U}

-- ---- what an answer shows of the octets, by the tests that it passed

-- the outside that is not refused
pub record Outer (f : List ℕ) : Type 0 where
  pub six : 6 ≤ length f
  pub start : get_or f 0 0 ≡ 104
  pub long : length f ≡ 2 + get_or f 1 0

outer : (f : List ℕ) → outer_refusal f ≡ 0 → Outer f
unfolding outer_refusal
outer f h =
    let a = passed (ltb (length f) 6) 0 _ h in
    let b = held (eqb (get_or f 0 0) 104) 1 _ a.1 in
    let c = passed (ltb 253 (get_or f 1 0)) 2 _ b.1 in
    let d = held (eqb (length f) (2 + get_or f 1 0)) 3 _ c.1 in
    record { six = ltb-false _ _ a.0; start = eqb-true _ _ b.0; long = eqb-true _ _ d.0 }

-- what each kind of frame passed
pub record ITaken (f : List ℕ) : Type 0 where
  pub outside : Outer f
  pub send_bit : get_or f 2 0 % 2 ≡ 0
  pub receive_bit : get_or f 4 0 % 2 ≡ 0
  pub reads : read_refusal (drop 6 f) ≡ 0

pub record STaken (f : List ℕ) : Type 0 where
  pub outside : Outer f
  pub four : get_or f 1 0 ≡ 4
  pub first : le_of 2 (drop 2 f) ≡ 1

pub record UTaken (f : List ℕ) : Type 0 where
  pub outside : Outer f
  pub four : get_or f 1 0 ≡ 4
  pub low : get_or f 2 0 % 4 ≡ 3
  pub second : get_or f 3 0 ≡ 0
  pub rest : le_of 2 (drop 4 f) ≡ 0

-- the answer, with what it shows
pub data Shape (f : List ℕ) : Type 0 where
  i_shape : ITaken f → frame_answer f ≡ Ok (I (send_number (number_at 2 f)) (receive_number (number_at 4 f))) → Shape f
  s_shape : STaken f → frame_answer f ≡ Ok (S (receive_number (number_at 4 f))) → Shape f
  u_shape : UTaken f → frame_answer f ≡ Ok (U (u_of (get_or f 2 0))) → Shape f
  refused_shape : (r : Refusal) → (number r ≡ 0 → ⊥) → frame_answer f ≡ Err r → Shape f

module _ (f : List ℕ) where
  short : Outer f → get_or f 1 0 ≡ 4 → frame_answer f ≡ short_answer f → Shape f
  unfolding short_answer
  short o l a = by (eqb (get_or f 2 0 % 4) 3) refl
    where
      u_by : (t v : Bool) → eqb (get_or f 2 0 % 4) 3 ≡ true → eqb (get_or f 3 0) 0 ≡ t → eqb (le_of 2 (drop 4 f)) 0 ≡ v → Shape f
      u_by true true e g h =
          u_shape (record { outside = o; four = l; low = eqb-true _ _ e; second = eqb-true _ _ g; rest = eqb-true _ _ h }) (a ∙ rw (e, g, h))
      u_by true false e g h = refused_shape (refusal bad_u_control) (number_some (refusal bad_u_control)) (a ∙ rw (e, g, h))
      u_by false v e g h = refused_shape (refusal bad_u_control) (number_some (refusal bad_u_control)) (a ∙ rw (e, g))

      s_by : (t v : Bool) → eqb (get_or f 2 0 % 4) 3 ≡ false → eqb (get_or f 2 0 % 4) 1 ≡ t → eqb (le_of 2 (drop 2 f)) 1 ≡ v → Shape f
      s_by true true n e g = s_shape (record { outside = o; four = l; first = eqb-true _ _ g }) (a ∙ rw (n, e, g))
      s_by true false n e g = refused_shape (refusal bad_s_control) (number_some (refusal bad_s_control)) (a ∙ rw (n, e, g))
      s_by false v n e g = refused_shape (refusal i_without_asdu) (number_some (refusal i_without_asdu)) (a ∙ rw (n, e))

      by : (t : Bool) → eqb (get_or f 2 0 % 4) 3 ≡ t → Shape f
      by true e = u_by (eqb (get_or f 3 0) 0) (eqb (le_of 2 (drop 4 f)) 0) e refl refl
      by false e = s_by (eqb (get_or f 2 0 % 4) 1) (eqb (le_of 2 (drop 2 f)) 1) e refl refl

  long : Outer f → frame_answer f ≡ long_answer f → Shape f
  unfolding long_answer
  long o a = by (eqb (get_or f 2 0 % 2) 0) (eqb (get_or f 4 0 % 2) 0) (eqb (read_refusal (drop 6 f)) 0) refl refl refl
    where
      by : (t v w : Bool) → eqb (get_or f 2 0 % 2) 0 ≡ t → eqb (get_or f 4 0 % 2) 0 ≡ v → eqb (read_refusal (drop 6 f)) 0 ≡ w → Shape f
      by true true true e g h =
          i_shape (record { outside = o; send_bit = eqb-true _ _ e; receive_bit = eqb-true _ _ g; reads = eqb-true _ _ h }) (a ∙ rw (e, g, h))
      by true true false e g h = refused_shape (refusal (read_refusal (drop 6 f))) (number_some _) (a ∙ rw (e, g, h))
      by true false w e g h = refused_shape (refusal bad_i_control) (number_some (refusal bad_i_control)) (a ∙ rw (e, g))
      by false v w e g h = refused_shape (refusal bad_i_control) (number_some (refusal bad_i_control)) (a ∙ rw e)

  pub shape : Shape f
  unfolding frame_answer
  shape = by (eqb (outer_refusal f) 0) (eqb (get_or f 1 0) 4) refl refl
    where
      by : (t v : Bool) → eqb (outer_refusal f) 0 ≡ t → eqb (get_or f 1 0) 4 ≡ v → Shape f
      by true true e g = short (outer f (eqb-true _ _ e)) (eqb-true _ _ g) (rw (e, g))
      by true false e g = long (outer f (eqb-true _ _ e)) (rw (e, g))
      by false v e g = refused_shape (refusal (outer_refusal f)) (number_some _) (rw e)

-- ---- the receive number, if any, has 15 bits

abbrev pub number_in : Result Frame Refusal → ℕ
number_in (Ok (I s r)) = r.0
number_in (Ok (S r)) = r.0
number_in (Ok (U u)) = 0
number_in (Err r) = 0

module _ (f : List ℕ) where
  pub number_fits : (i : ℕ) → Octets f → number_at i f ≤ 32767
  number_fits i o = let h = le_fits 2 (drop i f) (octets_drop i f o) in omega arith

  pub number_low : Octets f → number_in (frame_answer f) ≤ 32767
  number_low o = by (shape f)
    where
      low : number_at 4 f ≤ 32767
      low = number_fits 4 o

      by : Shape f → number_in (frame_answer f) ≤ 32767
      by (i_shape c e) = rw e low
      by (s_shape c e) = rw e low
      by (u_shape c e) = rw e (omega arith)
      by (refused_shape r n e) = rw e (omega arith)
