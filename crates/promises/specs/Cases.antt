-- Document 01's cases marked *, for reading frames and ASDUs and for acknowledging: one list, one claim. Answers stand in
-- plain numbers and marks.
use Rattle.std.specs.Prelude.{ℕ, ◌-◌, ◌%◌, ◌≤◌, ◌≡◌, Bool, true, false, List, [], ◌∷◌, pos}
use Rattle.laws.specs.Choice.{pick}
use Rattle.elements.specs.Refusals.{refusal}
use Rattle.objects.specs.declared.Object.{Object}
use Rattle.objects.specs.declared.values.Value.TheVariants as Value
use Rattle.asdu.specs.Reading.{read_asdu}
use Rattle.asdu.specs.Plain.{plain_answer}
use Rattle.asdu.specs.Writing.{own_objects}
use Rattle.apdu.specs.Control.{send_number, receive_number}
use Rattle.apdu.specs.Reading.{frame_answer, asdu_part}
use Rattle.apdu.specs.Plain.{plain_frame}
use Rattle.link_state.specs.Acknowledging.{acknowledged}
use Rattle.std.specs.Prelude.{Result, Ok, Err}
use Rattle.elements.specs.declared.refusals.Refusal.{Refusal}
use Rattle.apdu.specs.declared.frame.Frame.TheVariants.{I, S, U}
use Rattle.asdu.specs.declared.Form.TheVariants.{Plain, Reserved}

-- ---- what reading answers

-- a counter by its value, its address and its seq, the marks clear
abbrev pub counter : ℕ → ℕ → ℕ → Object
counter value address seq = record { address = address; value = Value.MItNa1 (pos value) (record { iv = false; ca = false; cy = false; seq = seq }) }

-- octets read as a frame or as an ASDU, and the answer: a refusal's number; the marks start act, start con, stop act, stop con,
-- test act, test con; the receive number and whether the frame is plain-form; both numbers and the objects; the objects
pub data Reading : Type 0 where
  frame_refused : ℕ → Reading
  u_frame : Bool → Bool → Bool → Bool → Bool → Bool → Reading
  s_frame : ℕ → Bool → Reading
  i_frame : ℕ → ℕ → List Object → Reading
  asdu_refused : ℕ → Reading
  asdu : List Object → Reading

-- ---- what a receive number does

-- it frees so many frames, or it is refused with a number; or it frees none, and every other one is refused with a number
pub data Acknowledging : Type 0 where
  frees : ℕ → ℕ → Acknowledging
  refuses : ℕ → ℕ → Acknowledging
  only : ℕ → ℕ → Acknowledging

-- octets and how they are read; S, A, a receive number and what it does
pub data Case : Type 0 where
  read : List ℕ → Reading → Case
  acknowledge : ℕ → ℕ → Acknowledging → Case

-- ---- the claim

-- the octets are an ASDU that is accepted, and these are its objects
abbrev pub Holding : List ℕ → List Object → Type 0
Holding s os = ((read_asdu s).answer ≡ Ok tt) × (own_objects (read_asdu s).asdu ≡ os)

abbrev pub Reads : List ℕ → Reading → Type 0
Reads f (frame_refused n) = (frame_answer f ≡ Err (refusal n)) × (plain_frame f ≡ Err (refusal n))
Reads f (u_frame a b c d e g) = frame_answer f ≡ Ok (U (record {
  start_act = a;
  start_con = b;
  stop_act = c;
  stop_con = d;
  test_act = e;
  test_con = g;
}))
Reads f (s_frame r plain) = (frame_answer f ≡ Ok (S (receive_number r))) × (plain_frame f ≡ pick plain (Ok Plain) (Ok Reserved))
Reads f (i_frame s r os) = (frame_answer f ≡ Ok (I (send_number s) (receive_number r))) × Holding (asdu_part f) os
Reads s (asdu_refused n) = ((read_asdu s).answer ≡ Err (refusal n)) × (plain_answer s ≡ Err (refusal n))
Reads s (asdu os) = Holding s os

-- S I frames were handed out and A of them are confirmed: S − A are outstanding, and the next has S's remainder as its number
abbrev pub answer : ℕ → ℕ → ℕ → Result ℕ Refusal
answer s a number = acknowledged (s % 32768) (s - a) number

abbrev pub Acknowledges : ℕ → ℕ → Acknowledging → Type 0
Acknowledges s a (frees number d) = answer s a number ≡ Ok d
Acknowledges s a (refuses number n) = answer s a number ≡ Err (refusal n)
Acknowledges s a (only number n) =
    (answer s a number ≡ Ok 0) × ((r : ℕ) → r ≤ 32767 → (r ≡ number → ⊥) → answer s a r ≡ Err (refusal n))

abbrev pub Holds : Case → Type 0
Holds (read f r) = Reads f r
Holds (acknowledge s a x) = Acknowledges s a x

abbrev pub AllHold : List Case → Type 0
AllHold [] = Unit {0}
AllHold (c ∷ cs) = Holds c × AllHold cs

-- ---- the list

-- document 01, "Cases", those marked *
unfoldable pub marked : List Case
marked =
    read (0x68 ∷ 0x04 ∷ 0x43 ∷ 0x00 ∷ 0x00 ∷ 0x00 ∷ []) (u_frame false false false false true false)
    ∷ read (0x68 ∷ 0x04 ∷ 0x01 ∷ 0x00 ∷ 0x02 ∷ 0x00 ∷ []) (s_frame 1 true)
    ∷ read (0x68 ∷ 0x04 ∷ 0x01 ∷ 0x00 ∷ 0x03 ∷ 0x00 ∷ []) (s_frame 1 false)
    ∷ read (0x68 ∷ 0x04 ∷ 0x02 ∷ 0x00 ∷ 0x02 ∷ 0x00 ∷ []) (frame_refused 5)
    ∷ read (0x68 ∷ 0x04 ∷ 0x03 ∷ 0x00 ∷ 0x01 ∷ 0x00 ∷ []) (frame_refused 6)
    ∷ read (0x68 ∷ 0x12 ∷ 0x04 ∷ 0x00 ∷ 0x06 ∷ 0x00 ∷ 0x0F ∷ 0x01 ∷ 0x03 ∷ 0x00 ∷ 0x01 ∷ 0x00 ∷ 0x0A ∷ 0x00 ∷ 0x00 ∷ 0xE8 ∷ 0x03 ∷ 0x00 ∷ 0x00 ∷ 0x05 ∷ [])
    (i_frame 2 3 (counter 1000 10 5 ∷ []))
    ∷ read (0x0F ∷ 0x82 ∷ 0x03 ∷ 0x00 ∷ 0x01 ∷ 0x00 ∷ 0x0A ∷ 0x00 ∷ 0x00 ∷ 0xE8 ∷ 0x03 ∷ 0x00 ∷ 0x00 ∷ 0x05 ∷ 0xD0 ∷ 0x07 ∷ 0x00 ∷ 0x00 ∷ 0x05 ∷ [])
    (asdu (counter 1000 10 5 ∷ counter 2000 11 5 ∷ []))
    ∷ read (0x0F ∷ 0x80 ∷ 0x03 ∷ 0x00 ∷ 0x01 ∷ 0x00 ∷ 0x0A ∷ 0x00 ∷ 0x00 ∷ []) (asdu_refused 13)
    ∷ read (0x66 ∷ 0x81 ∷ 0x05 ∷ 0x00 ∷ 0x01 ∷ 0x00 ∷ 0x0A ∷ 0x00 ∷ 0x00 ∷ []) (asdu_refused 13)
    ∷ read (0x01 ∷ 0x01 ∷ 0x00 ∷ []) (asdu_refused 10)
    ∷ acknowledge 5 2 (frees 2 0)
    ∷ acknowledge 5 2 (frees 5 3)
    ∷ acknowledge 5 2 (refuses 1 27)
    ∷ acknowledge 5 2 (refuses 6 27)
    ∷ acknowledge 32769 32767 (frees 32767 0)
    ∷ acknowledge 32769 32767 (frees 0 1)
    ∷ acknowledge 32769 32767 (frees 1 2)
    ∷ acknowledge 32769 32767 (refuses 32766 27)
    ∷ acknowledge 32769 32767 (refuses 2 27)
    ∷ acknowledge 32768 32768 (only 0 27)
    ∷ []

abbrev pub MarkedCases : Type 0
MarkedCases = AllHold marked
