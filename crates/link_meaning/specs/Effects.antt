-- What a call does to totals and lists, whatever the event: counted from the call, its number and the frames that it handed out.
use Rattle.std.specs.Prelude.{ℕ, ◌+◌, ◌<◌, ◌≤◌, Bool, true, false, ◌≡◌, List, [], ◌∷◌, ◌++◌, ◌↔◌, length, drop, replicate, eqb, Ok, Err}
use Rattle.std.specs.Prelude as prelude
use Rattle.laws.specs.Choice.{pick}
use Rattle.laws.specs.Window.{Confirms, freed}
use Rattle.elements.specs.declared.refusals.Refusal.{Refusal}
use Rattle.apdu.specs.Reading.{frame_answer}
use Rattle.apdu.specs.declared.frame.Frame as read
use Rattle.apdu.specs.declared.frame.Frame.TheVariants.{I, S, U}
use Rattle.link.specs.Frames.{Frame, i_frame, s_frame, u_frame}
use Rattle.link.specs.Events.{Event, frame, send, stop, test, tick}
use Rattle.link_meaning.specs.Abstract.{Abstract, Result, on_wire, step_s, step_i, step}
use Rattle.link_meaning.specs.Runs.{Within}

-- the ASDUs that frames carry, in order
unfoldable pub asdus_of : List Frame → List (List ℕ)
asdus_of [] = []
asdus_of (i_frame s r x ∷ fs) = x ∷ asdus_of fs
asdus_of (s_frame r ∷ fs) = asdus_of fs
asdus_of (u_frame u ∷ fs) = asdus_of fs

-- each I frame has the remainders of the total before it, s at first, and of r; each S frame has that of r
unfoldable pub NumberedFrames : ℕ → ℕ → List Frame → Type 0
NumberedFrames s r [] = Unit {0}
NumberedFrames s r (i_frame a b x ∷ fs) = (a ≡ on_wire s) × (b ≡ on_wire r) × NumberedFrames (s + 1) r fs
NumberedFrames s r (s_frame b ∷ fs) = (b ≡ on_wire r) × NumberedFrames s r fs
NumberedFrames s r (u_frame u ∷ fs) = NumberedFrames s r fs

-- whether one of them carries R: an I or an S frame
unfoldable pub tells_r : List Frame → Bool
tells_r [] = false
tells_r (i_frame s r x ∷ fs) = true
tells_r (s_frame r ∷ fs) = true
tells_r (u_frame u ∷ fs) = tells_r fs

-- how many of them carry no ASDU: S and U frames
unfoldable pub others : List Frame → ℕ
others [] = 0
others (i_frame s r x ∷ fs) = others fs
others (s_frame r ∷ fs) = others fs + 1
others (u_frame u ∷ fs) = others fs + 1

-- how many frames a receive number frees where A are confirmed
abbrev pub frees_by : prelude.Result read.Frame Refusal → ℕ → ℕ
frees_by (Ok (I sent number)) confirmed = freed 32768 confirmed number.0
frees_by (Ok (S number)) confirmed = freed 32768 confirmed number.0
frees_by (Ok (U u)) confirmed = 0
frees_by (Err r) confirmed = 0

-- an I frame counts
abbrev pub counts_by : prelude.Result read.Frame Refusal → ℕ
counts_by (Ok (I sent number)) = 1
counts_by (Ok (S number)) = 0
counts_by (Ok (U u)) = 0
counts_by (Err r) = 0

-- what a call frees, by its number: nothing if it is refused
abbrev pub frees : Event → ℕ → ℕ → ℕ
frees (frame f more) refused confirmed = pick (eqb refused 0) (frees_by (frame_answer f) confirmed) 0
frees (send asdu) refused confirmed = 0
frees stop refused confirmed = 0
frees test refused confirmed = 0
frees tick refused confirmed = 0

-- how many I frames it accepts
abbrev pub counts : Event → ℕ → ℕ
counts (frame f more) refused = pick (eqb refused 0) (counts_by (frame_answer f)) 0
counts (send asdu) refused = 0
counts stop refused = 0
counts test refused = 0
counts tick refused = 0

-- the ASDU that it takes
abbrev pub takes : Event → ℕ → List (List ℕ)
takes (frame f more) refused = []
takes (send asdu) refused = pick (eqb refused 0) (asdu ∷ []) []
takes stop refused = []
takes test refused = []
takes tick refused = []

-- S goes up by the I frames handed out, R by those accepted, A by those freed; the freed times leave, and each new one is now; what
-- waited, and then what was taken, is handed out in order or still waits; the frames have the numbers that they should; the count
-- is that of the I frames accepted since a frame last told R; at most two frames carry no ASDU, and a refusal hands out none
pub record Effect (e : Event) (now : ℕ) (a : Abstract) (r : Result) : Type 0 where
  pub sent : r.link.sent ≡ a.sent + length (asdus_of r.frames)
  pub received : r.link.received ≡ a.received + counts e r.refused
  pub confirmed : r.link.confirmed ≡ a.confirmed + frees e r.refused a.confirmed
  pub times : r.link.times ≡ drop (frees e r.refused a.confirmed) a.times ++ replicate (length (asdus_of r.frames)) now
  pub order : a.waiting ++ takes e r.refused ≡ asdus_of r.frames ++ r.link.waiting
  pub numbers : NumberedFrames a.sent r.link.received r.frames
  pub unconfirmed : r.link.unconfirmed ≡ pick (tells_r r.frames) 0 (a.unconfirmed + counts e r.refused)
  pub settings : r.link.settings ≡ a.settings
  pub few : others r.frames ≤ 2
  pub silent : (r.refused ≡ 0 → ⊥) → r.frames ≡ []

abbrev pub HasEffect : Type 0
HasEffect = (e : Event) (now : ℕ) (a : Abstract) → Within a → Effect e now a (step e now a)

-- some total from A to S has the number as remainder
abbrev pub SomeFits : Abstract → ℕ → Type 0
SomeFits a number = (c : ℕ) × Confirms 32768 a.confirmed a.sent number c

-- "A well-formed S frame is accepted exactly if some whole a from A to S has its receive number as remainder by 32,768; an I frame
-- exactly if its send number is also R's remainder. That a is unique"
pub record Exact (now : ℕ) (more : Bool) (a : Abstract) (sent number : ℕ) : Type 0 where
  pub s_frame_accepted : ((step_s number more now a).refused ≡ 0) ↔ SomeFits a number
  pub i_frame_accepted : ((step_i sent number more now a).refused ≡ 0) ↔ ((sent ≡ on_wire a.received) × SomeFits a number)
  pub unique : (c : ℕ) → Confirms 32768 a.confirmed a.sent number c → c ≡ a.confirmed + freed 32768 a.confirmed number

abbrev pub AcceptsExactly : Type 0
AcceptsExactly = (now : ℕ) (more : Bool) (a : Abstract) (sent number : ℕ) → Within a → number < 32768 → Exact now more a sent number
