-- Demand 2 for frames. The sentences are the letter's; docs/PROMISES.md has them side by side with these statements.
use Rattle.std.specs.Prelude.{ℕ, ◌+◌, ◌*◌, ◌≤◌, ◌≡◌, List, [], ◌∷◌, ◌++◌, ◌↔◌, length, drop, replicate}
use Rattle.laws.specs.Bits.{Layout, ◌at◌, whole}
use Rattle.laws.specs.Lists.{Octets}
use Rattle.elements.specs.declared.refusals.Refusal.{Refusal}
use Rattle.objects.specs.Promises.{kept_by}
use Rattle.asdu.specs.Header.{header_answer}
use Rattle.asdu.specs.Reading.{read_refusal, read_asdu}
use Rattle.asdu.specs.Writing.{asdu_octets}
use Rattle.asdu.specs.declared.Asdu.{Asdu}
use Rattle.apdu.specs.Control.{send_number, receive_number}
use Rattle.apdu.specs.Reading.{frame_answer, asdu_part}
use Rattle.apdu.specs.Writing.{start_octets, i_octets, s_octets, u_octets, i_refusal, relay_refusal, s_refusal, room_refusal}
use Rattle.apdu.specs.Plain.{plain_frame}
use Rattle.apdu.specs.declared.frame.UFrame.{UFrame}
use Rattle.promises.specs.Asdus.{TypedAsdu, ReadBack, asdu_form}
use Rattle.std.specs.Prelude.{Result, Ok, Err}
use Rattle.elements.specs.Refusals.{number, answer_number}
use Rattle.apdu.specs.declared.frame.Frame.TheVariants.{I, S, U}
use Rattle.apdu.specs.declared.frame.Frame.{Frame}
use Rattle.asdu.specs.declared.Form.TheVariants.{Plain, Reserved}

-- ---- reads back

-- an I frame reads with the same numbers, and its part is the ASDU
pub record IBack (s r : ℕ) (asdu : List ℕ) : Type 0 where
  pub answer : frame_answer (i_octets s r asdu) ≡ Ok (I (send_number s) (receive_number r))
  pub part : asdu_part (i_octets s r asdu) ≡ asdu

-- "What the writer accepts reads back as the same record": I from a record, whose ASDU reads back as it, and I from the octets of
-- an ASDU; S and U. A U frame has nothing that could be refused but its room
pub record FrameReadsBack : Type 0 where
  pub i : (s r : ℕ) (a : Asdu) (room : ℕ) → TypedAsdu a → i_refusal s r a room ≡ 0 → IBack s r (asdu_octets a) × ReadBack a
  pub relay : (s r : ℕ) (asdu : List ℕ) (room : ℕ) → relay_refusal s r asdu room ≡ 0 → IBack s r asdu
  pub s : (r room : ℕ) → s_refusal r room ≡ 0 → frame_answer (s_octets r) ≡ Ok (S (receive_number r))
  pub u : (u : UFrame) → frame_answer (u_octets u) ≡ Ok (U u)

-- ---- writes again

-- the octets of writing a frame's reading
abbrev pub rewritten : Result Frame Refusal → List ℕ → List ℕ
rewritten (Ok (I s r)) f = i_octets s.0 r.0 (asdu_octets (read_asdu (drop 6 f)).asdu)
rewritten (Ok (S r)) f = s_octets r.0
rewritten (Ok (U u)) f = u_octets u
rewritten (Err r) f = []

-- what the writer refuses of a frame's reading where the output has `room` octets
abbrev pub rewrite_refusal : Result Frame Refusal → List ℕ → ℕ → ℕ
rewrite_refusal (Ok (I s r)) f room = i_refusal s.0 r.0 (read_asdu (drop 6 f)).asdu room
rewrite_refusal (Ok (S r)) f room = s_refusal r.0 room
rewrite_refusal (Ok (U u)) f room = room_refusal 6 room
rewrite_refusal (Err r) f room = number r

-- the layouts of all octets of a frame, in wire order: beside those of an ASDU's elements only the S frame reserves a bit
abbrev pub frame_form : Result Frame Refusal → List ℕ → List Layout
frame_form (Ok (I s r)) f = replicate 6 whole ++ asdu_form (header_answer (drop 6 f))
frame_form (Ok (S r)) f = replicate 4 whole ++ ((7 at 1 ∷ []) ∷ whole ∷ [])
frame_form (Ok (U u)) f = replicate 6 whole
frame_form (Err r) f = []

-- "What the reader accepts and we write again differs only in the reserved bits"
pub record FrameAgain (f : List ℕ) (room : ℕ) : Type 0 where
  pub accepted : rewrite_refusal (frame_answer f) f room ≡ 0
  pub long : length (rewritten (frame_answer f) f) ≡ length f
  pub kept : rewritten (frame_answer f) f ≡ kept_by (frame_form (frame_answer f) f) f

abbrev pub FrameWritesAgain : Type 0
FrameWritesAgain = (f : List ℕ) (room : ℕ) → Octets f → answer_number (frame_answer f) ≡ 0 → length f ≤ room → FrameAgain f room

-- ---- tells

-- "a call tells exactly whether it differs"; "one that does not read gets the reading's refusal"
pub record FrameTold (f : List ℕ) : Type 0 where
  pub plain : (plain_frame f ≡ Ok Plain) ↔ ((answer_number (frame_answer f) ≡ 0) × (rewritten (frame_answer f) f ≡ f))
  pub differs : (plain_frame f ≡ Ok Reserved) ↔ ((answer_number (frame_answer f) ≡ 0) × (rewritten (frame_answer f) f ≡ f → ⊥))
  pub refused : (r : Refusal) → frame_answer f ≡ Err r → plain_frame f ≡ Err r

-- ---- accepts exactly the layout

-- a frame laid out by the standard: 68 hex, L, the control octets. I: two numbers of 15 bits, and an ASDU that reads. S: its third
-- control octet may have the reserved bit. U: any flags, none or several too.
pub data LaidFrame (f : List ℕ) : Type 0 where
  i_laid : (s r : ℕ) (asdu : List ℕ) → s ≤ 32767 → r ≤ 32767 → read_refusal asdu ≡ 0 → f ≡ i_octets s r asdu → LaidFrame f
  s_laid : (r bit : ℕ) → r ≤ 32767 → bit ≤ 1 → f ≡ start_octets 4 1 (r * 2 + bit) → LaidFrame f
  u_laid : (u : UFrame) → f ≡ u_octets u → LaidFrame f

-- what such a frame must read as
abbrev pub laid_answer : {f : List ℕ} → LaidFrame f → Result Frame Refusal
laid_answer (i_laid s r asdu p q h e) = Ok (I (send_number s) (receive_number r))
laid_answer (s_laid r bit p q e) = Ok (S (receive_number r))
laid_answer (u_laid u e) = Ok (U u)

-- every such frame reads, and as what it was laid out from: a reader that always refuses, or always answers one frame, fails;
-- and nothing else reads
pub record FrameAccepts (f : List ℕ) : Type 0 where
  pub takes : (l : LaidFrame f) → frame_answer f ≡ laid_answer l
  pub only : Octets f → answer_number (frame_answer f) ≡ 0 → LaidFrame f

-- ---- all of it

pub record FrameLevel : Type 0 where
  pub back : FrameReadsBack
  pub again : FrameWritesAgain
  pub tells : (f : List ℕ) → Octets f → FrameTold f
  pub accepts : (f : List ℕ) → FrameAccepts f
