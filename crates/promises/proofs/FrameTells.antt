-- The test for plain form of a frame tells exactly whether writing its reading gives the same octets. Assumes nothing.
use Prim.Native.Nat.{ℕ, ◌*◌, ◌%◌}
use mathlib.Core.Path.{◌≡◌, refl, sym, ap, ◌∙◌}
use mathlib.Core.Bool.{Bool, true, false}
use mathlib.Core.List.{List, ◌++◌}
use mathlib.Core.Logic.{◌↔◌}
use native.Mathlib.Omega.{arith}
use native.Mathlib.Nat.{le_refl}
use borrow.Author.Tests.{eqb-true, eqb-false}
use lib.Dec.{eqb}
use lib.ListN.{length, get_or, take, drop, length-take, take-append-drop}
use lib.Seq.{drop_at}
use Rattle.laws.specs.Lists.{Octets}
use Rattle.laws.specs.Numbers.{le_octets}
use Rattle.laws.proofs.Lists.{octets_drop}
use Rattle.asdu.specs.Reading.{read_asdu}
use Rattle.asdu.specs.Writing.{asdu_octets}
use Rattle.apdu.specs.Control.{send_number, receive_number, number_at}
use Rattle.apdu.specs.Reading.{frame_answer}
use Rattle.apdu.specs.Writing.{i_octets, s_octets}
use Rattle.apdu.specs.Plain.{plain_frame_by, plain_frame}
use Rattle.apdu.proofs.Shapes.{ITaken, STaken, Shape, i_shape, s_shape, u_shape, refused_shape, shape}
use Rattle.promises.specs.Frames.{FrameTold, rewritten}
use Rattle.promises.proofs.WriteAgain.{writes_again}
use Rattle.promises.proofs.Tells.{tells}
use Rattle.promises.proofs.FrameAgain.{i_octets_law, s_same, u_same}
use Rattle.std.specs.Prelude.{Result, Ok}
use Rattle.elements.specs.Refusals.{answer_number}
use Rattle.elements.specs.declared.refusals.Refusal.{Refusal}
use Rattle.apdu.specs.declared.frame.Frame.TheVariants.{I, S}
use Rattle.apdu.specs.declared.frame.Frame.{Frame}
use Rattle.asdu.specs.declared.Form.{Form}
use Rattle.asdu.specs.declared.Form.TheVariants.{Plain, Reserved}

-- plain and reserved are two answers
differ : ◌≡◌ {A = Result Form Refusal} (Ok Plain) (Ok Reserved) → ⊥
differ e = let z : ◌≡◌ {A = ℕ} 0 1 = cc in omega arith

module _ (f : List ℕ) (o : Octets f) where
  -- an answer told by what its own test tells
  told_by : {a : Result Frame Refusal} → frame_answer f ≡ a
      → (plain_frame_by a f ≡ Ok Plain) ↔ ((answer_number a ≡ 0) × (rewritten a f ≡ f))
      → (plain_frame_by a f ≡ Ok Reserved) ↔ ((answer_number a ≡ 0) × (rewritten a f ≡ f → ⊥)) → FrameTold f
  unfolding plain_frame
  told_by e y d = record { plain = rw e y; differs = rw e d; refused = λ r g. rw g }

  -- I: the six octets are the same, so it is the ASDU's answer
  i_told : ITaken f → frame_answer f ≡ Ok (I (send_number (number_at 2 f)) (receive_number (number_at 4 f))) → FrameTold f
  i_told c e =
      let t = tells (drop 6 f) (octets_drop 6 f o) in
      let w = writes_again (drop 6 f) (length (drop 6 f)) (octets_drop 6 f o) c.reads (le_refl _) in
      let asdu = asdu_octets (read_asdu (drop 6 f)).asdu in
      let is = i_octets_law f o c asdu w.long in
      let there : asdu ≡ drop 6 f → i_octets (number_at 2 f) (number_at 4 f) asdu ≡ f = λ g. is ∙ (ap (λ (x : List ℕ). take 6 f ++ x) g ∙ take-append-drop 6 f) in
      let back : i_octets (number_at 2 f) (number_at 4 f) asdu ≡ f → asdu ≡ drop 6 f =
      λ g. sym (drop_at (take 6 f) _ 6 (length-take 6 f ∙ omega (arith, c.outside.six))) ∙ ap (drop 6) (sym is ∙ g) in
      told_by e
      ((λ p. (refl, there (t.plain.0 p).1)), (λ x. t.plain.1 (c.reads, back x.1)))
      ((λ p. (refl, λ g. (t.differs.0 p).1 (back g))), (λ x. t.differs.1 (c.reads, λ g. x.1 (there g))))

  -- S: bit 0 of octet 4 is written as 0
  s_clear : s_octets (number_at 4 f) ≡ f → get_or f 4 0 % 2 ≡ 0
  unfolding s_octets le_octets
  s_clear e =
      let g : number_at 4 f * 2 % 256 ≡ get_or f 4 0 = ap (λ (x : List ℕ). get_or x 4 0) e in
      even (number_at 4 f) g
    where
      even : (n : ℕ) {b : ℕ} → n * 2 % 256 ≡ b → b % 2 ≡ 0
      even n h = omega arith

  s_told : STaken f → frame_answer f ≡ Ok (S (receive_number (number_at 4 f))) → FrameTold f
  s_told c e = by (eqb (get_or f 4 0 % 2) 0) refl
    where
      by : (t : Bool) → eqb (get_or f 4 0 % 2) 0 ≡ t → FrameTold f
      by true p =
          let is : plain_frame_by (Ok (S (receive_number (number_at 4 f)))) f ≡ Ok Plain = rw p in
          let same = s_same f o c (eqb-true _ _ p) in
          told_by e ((λ g. (refl, same)), (λ x. is)) ((λ g. absurd (differ (sym is ∙ g))), (λ x. absurd (x.1 same)))
      by false p =
          let is : plain_frame_by (Ok (S (receive_number (number_at 4 f)))) f ≡ Ok Reserved = rw p in
          let differs : s_octets (number_at 4 f) ≡ f → ⊥ = λ g. eqb-false _ _ p (s_clear g) in
          told_by e ((λ g. absurd (differ (sym g ∙ is))), (λ x. absurd (differs x.1))) ((λ g. (refl, differs)), (λ x. is))

-- A call tells exactly whether a frame differs.
pub frame_tells : (f : List ℕ) → Octets f → FrameTold f
frame_tells f o = by (shape f)
  where
    by : Shape f → FrameTold f
    by (i_shape c e) = i_told f o c e
    by (s_shape c e) = s_told f o c e
    by (u_shape c e) =
        let same = u_same f o c in
        told_by f o e ((λ g. (refl, same)), (λ x. refl)) ((λ g. absurd (differ g)), (λ x. absurd (x.1 same)))
    by (refused_shape r n e) =
        told_by f o e
        ((λ g. let z : ◌≡◌ {A = ℕ} 0 1 = cc in absurd (omega arith)), (λ x. absurd (n x.0)))
        ((λ g. let z : ◌≡◌ {A = ℕ} 0 1 = cc in absurd (omega arith)), (λ x. absurd (n x.0)))
