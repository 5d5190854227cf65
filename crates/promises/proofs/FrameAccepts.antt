-- The reader of frames accepts exactly what is laid out by the standard, and reads it as what it was laid out from. Assumes nothing.
use Prim.Native.Nat.{ℕ, ◌+◌, ◌*◌, ◌/◌, ◌%◌, ◌≤◌}
use mathlib.Core.Path.{◌≡◌, refl, sym, ap, ◌∙◌}
use mathlib.Core.List.{List}
use native.Mathlib.Omega.{arith}
use lib.ListN.{length, get_or, drop, take-append-drop}
use Rattle.laws.specs.Lists.{Octets}
use Rattle.laws.specs.Numbers.{le_of, le_octets}
use Rattle.laws.proofs.Numbers as Numbers
use Rattle.asdu.specs.Reading.{read_refusal}
use Rattle.apdu.specs.Control.{receive_number, number_at, u_of}
use Rattle.apdu.specs.Reading.{outer_refusal, short_answer, frame_answer}
use Rattle.apdu.specs.Writing.{start_octets}
use Rattle.apdu.proofs.Answers.{number_small}
use Rattle.apdu.proofs.Shapes.{STaken, Shape, i_shape, s_shape, u_shape, refused_shape, shape}
use Rattle.promises.specs.Frames.{LaidFrame, i_laid, s_laid, u_laid, laid_answer, FrameAccepts}
use Rattle.promises.proofs.Bodies.{accepted}
use Rattle.promises.proofs.FrameBack.{i_reads, u_back}
use Rattle.promises.proofs.FrameAgain.{all_six, only_six, number_accepted, i_octets_law, u_same}
use Rattle.std.specs.Prelude.{Ok}
use Rattle.elements.specs.Refusals.{answer_number}
use Rattle.apdu.specs.declared.frame.Frame.TheVariants.{S}

-- ---- what is laid out is accepted

-- an ASDU that reads has its header's six octets
some : (asdu : List ℕ) → read_refusal asdu ≡ 0 → 1 ≤ length asdu
some asdu h = let (k, c) = accepted asdu h in omega (arith, c.headed.six)

-- a number of 15 bits comes back, whatever bit stands below it
halved : (n bit : ℕ) → n ≤ 32767 → bit ≤ 1 → ((n * 2 + bit) % 256 + ((n * 2 + bit) / 256 % 256 + 0 * 256) * 256) / 2 ≡ n
halved n bit h b = omega arith

s_reads : (r bit : ℕ) → r ≤ 32767 → bit ≤ 1 → frame_answer (start_octets 4 1 (r * 2 + bit)) ≡ Ok (S (receive_number r))
unfolding frame_answer outer_refusal short_answer le_octets le_of
s_reads r bit h b = ap (λ (n : ℕ). Ok (S (receive_number n))) (halved r bit h b)

takes : (f : List ℕ) (l : LaidFrame f) → frame_answer f ≡ laid_answer l
takes f (i_laid s r asdu p q h e) = ap frame_answer e ∙ i_reads s r asdu p q (some asdu h) h
takes f (s_laid r bit p q e) = ap frame_answer e ∙ s_reads r bit (omega arith) (omega arith)
takes f (u_laid u e) = ap frame_answer e ∙ u_back u

-- ---- what is accepted is laid out

module _ (f : List ℕ) (o : Octets f) where
  s_only : STaken f → LaidFrame f
  s_only c =
      let out = c.outside in
      let bit : get_or f 4 0 % 2 ≤ 1 = omega arith in
      let y : number_at 4 f * 2 + get_or f 4 0 % 2 ≡ le_of 2 (drop 4 f) = omega (arith, Numbers.le_step 1 f 4) in
      s_laid (number_at 4 f) (get_or f 4 0 % 2) (number_small _ (number_accepted f o out 4)) bit
      (sym (all_six f o out 4 1 _ c.four (sym c.first) y ∙ only_six f o out c.four))

  only : answer_number (frame_answer f) ≡ 0 → LaidFrame f
  only h = by (shape f)
    where
      by : Shape f → LaidFrame f
      by (i_shape c e) =
          i_laid (number_at 2 f) (number_at 4 f) (drop 6 f) (number_small _ (number_accepted f o c.outside 2)) (number_small _ (number_accepted f o c.outside 4))
          c.reads
          (sym (i_octets_law f o c (drop 6 f) refl ∙ take-append-drop 6 f))
      by (s_shape c e) = s_only c
      by (u_shape c e) = u_laid (u_of (get_or f 2 0)) (sym (u_same f o c))
      by (refused_shape r n e) = absurd (n (sym (ap answer_number e) ∙ h))

pub frame_accepts : (f : List ℕ) → FrameAccepts f
frame_accepts f = record { takes = takes f; only = only f }
