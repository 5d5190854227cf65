-- Demand 3, for every run of the proved link. Each clause of the letter's third paragraph is a field of `Claim`, and the
-- comment above the field quotes it. What is counted is counted from the transcript: from the bytes that went in and came
-- out, the nows and the numbers answered. Nothing is taken from the record or the pool to count.
use Rattle.std.specs.Prelude.{ℕ, ◌+◌, ◌%◌, ◌<◌, ◌≤◌, ◌≡◌, Bool, true, false, ◌||◌, List, [], ◌∷◌, ◌++◌, ◌↔◌, length, take, get_or, replicate, eqb}
use Rattle.std.proofs.lemmas.List.Edits.{sets}
use Rattle.laws.specs.Choice.{pick}
use Rattle.laws.specs.Window.{Confirms, freed}
use Rattle.apdu.specs.Reading.{frame_answer, asdu_part}
use Rattle.assembly.specs.Streams.{rest, stream}
use Rattle.link_state.specs.Limits.{call_refusal}
use Rattle.link_state.specs.Opening.{opened, open_refusal}
use Rattle.link_state.specs.declared.Settings.{Settings}
use Rattle.link_state.specs.declared.Link.{Link}
use Rattle.link.specs.Frames.{wire}
use Rattle.link.specs.Events.{Outcome, Event, frame, send, stop, test, tick, called}
use Rattle.link.specs.Answering.{called_of, link_written}
use Rattle.link.specs.declared.answers.Called.{Called}
use Rattle.link_meaning.specs.Meaning.{OctetsIn, waiting_of}
use Rattle.std.specs.Prelude.{Result, Ok, Err}
use Rattle.elements.specs.Refusals.{answer_number}
use Rattle.elements.specs.declared.refusals.Refusal.{Refusal}
use Rattle.apdu.specs.declared.frame.Frame.TheVariants.{I, S, U}
use Rattle.apdu.specs.declared.frame.Frame.{Frame}

-- ---- calls and what is seen of them

-- a call as its caller makes it: a frame's bytes and the mark "more to come", an ASDU's bytes, stop, test or tick; the output
-- that is lent; and now
pub record Call : Type 0 where
  pub event : Event
  pub output : List ℕ
  pub now : ℕ

-- What the link's functions (`link_receive::receive`, `link_send::send`, `link_time::stop`, `test` and `tick`) answer and leave
-- behind. These are the right sides of their contracts: `result ≡ called_of (called ..)`, `out.new ≡ sets out.old 0
-- (wire (called ..).frames)`, and of send `pool.new ≡ (called ..).pool`. The others only read the pool.
abbrev pub outcome_of : Call → Link → List ℕ → Outcome
outcome_of c l pool = called c.event l pool (length c.output) c.now

abbrev pub answered : Call → Link → List ℕ → Called
answered c l pool = called_of (outcome_of c l pool)

abbrev pub output_after : Call → Link → List ℕ → List ℕ
output_after c l pool = sets c.output 0 (wire (outcome_of c l pool).frames)

abbrev pub pool_by : Event → Outcome → List ℕ → List ℕ
pool_by (frame f more) o pool = pool
pool_by (send asdu) o pool = o.pool
pool_by stop o pool = pool
pool_by test o pool = pool
pool_by tick o pool = pool

abbrev pub pool_after : Call → Link → List ℕ → List ℕ
pool_after c l pool = pool_by c.event (outcome_of c l pool) pool

-- an entry of the transcript: the event and its now, the number answered (0 where accepted), and the bytes handed out, which
-- are the first bytes of the output, as many as the answer tells
pub record Entry : Type 0 where
  pub event : Event
  pub now : ℕ
  pub number : ℕ
  pub handed : List ℕ

abbrev pub entry_of : Call → Link → List ℕ → Entry
entry_of c l pool = record {
  event = c.event;
  now = c.now;
  number = answer_number (answered c l pool).answer;
  handed = take (link_written (answered c l pool).answer) (output_after c l pool);
}

-- "Take a link with k from 1 to 32, from opening through any calls not refused under 19 to 24, to its end, the link record and
-- waiting pool handed back untouched between calls." A run has its transcript, the last call first, and the record and the
-- pool after it. Opening is not refused, so k is from 1 to 32. Any call may follow, with any output and now, that is not
-- refused under 19 to 24; other refusals may come anywhere. A frame is of bytes, as the code's type has it.
pub data Run (s : Settings) (start : ℕ) (pool : List ℕ) : List Entry → Link → List ℕ → Type 0 where
  opening : open_refusal s start ≡ 0 → Run s start pool [] (opened s start).link pool
  after : {past : List Entry} {l : Link} {between : List ℕ} → Run s start pool past l between → (c : Call) → OctetsIn c.event
      → call_refusal l (length c.output) (length between) c.now ≡ 0
      → Run s start pool (entry_of c l between ∷ past) (answered c l between).link (pool_after c l between)

-- ---- "From the transcript count S, I frames handed out"

-- the frames in bytes handed out, cut as a receiver cuts a stream
abbrev pub cut : List ℕ → List (List ℕ)
cut handed = (stream handed).frames

-- those that read as I frames
abbrev pub keep_i : Result Frame Refusal → List ℕ → List (List ℕ)
keep_i (Ok (I s r)) f = f ∷ []
keep_i (Ok (S r)) f = []
keep_i (Ok (U u)) f = []
keep_i (Err r) f = []

-- of all that were cut
abbrev pub i_frames_in : List (List ℕ) → List (List ℕ)
i_frames_in [] = []
i_frames_in (f ∷ fs) = keep_i (frame_answer f) f ++ i_frames_in fs

-- the I frames handed out, in order
abbrev pub i_frames : List Entry → List (List ℕ)
i_frames [] = []
i_frames (e ∷ past) = i_frames past ++ i_frames_in (cut e.handed)

-- all bytes handed out, one after the other: what the other side gets
abbrev pub all_handed : List Entry → List ℕ
all_handed [] = []
all_handed (e ∷ past) = all_handed past ++ e.handed

abbrev pub s_of : List Entry → ℕ
s_of past = length (i_frames past)

-- the send time of each, "the now of the call that handed it out"
abbrev pub send_times : List Entry → List ℕ
send_times [] = []
send_times (e ∷ past) = send_times past ++ replicate (length (i_frames_in (cut e.handed))) e.now

-- the ASDU of each: the ASDUs that have left
abbrev pub asdus_in : List (List ℕ) → List (List ℕ)
asdus_in [] = []
asdus_in (f ∷ fs) = asdu_part f ∷ asdus_in fs

abbrev pub have_left : List Entry → List (List ℕ)
have_left past = asdus_in (i_frames past)

-- ---- "R, I frames accepted; A, frames confirmed, 0 at first"

-- what a call brings, by reading its bytes: an I frame with its send and receive number, an S frame with its receive number,
-- an ASDU, or nothing that is counted
pub data Brought : Type 0 where
  an_i : ℕ → ℕ → Brought
  an_s : ℕ → Brought
  an_asdu : List ℕ → Brought
  other : Brought

abbrev pub framed : Result Frame Refusal → Brought
framed (Ok (I s r)) = an_i s.0 r.0
framed (Ok (S r)) = an_s r.0
framed (Ok (U u)) = other
framed (Err r) = other

abbrev pub brings : Event → Brought
brings (frame f more) = framed (frame_answer f)
brings (send asdu) = an_asdu asdu
brings stop = other
brings test = other
brings tick = other

-- accepted: the answer is no refusal
abbrev pub accepted : Entry → Bool
accepted e = eqb e.number 0

abbrev pub received_by : Brought → ℕ → ℕ
received_by (an_i s r) n = n + 1
received_by (an_s r) n = n
received_by (an_asdu x) n = n
received_by other n = n

abbrev pub r_of : List Entry → ℕ
r_of [] = 0
r_of (e ∷ past) = pick (accepted e) (received_by (brings e.event) (r_of past)) (r_of past)

-- the next total from n on that has the receive number as remainder
abbrev pub confirmed_by : Brought → ℕ → ℕ
confirmed_by (an_i s r) n = n + freed 32768 n r
confirmed_by (an_s r) n = n + freed 32768 n r
confirmed_by (an_asdu x) n = n
confirmed_by other n = n

abbrev pub a_of : List Entry → ℕ
a_of [] = 0
a_of (e ∷ past) = pick (accepted e) (confirmed_by (brings e.event) (a_of past)) (a_of past)

-- the ASDUs taken, in order
abbrev pub taken_by : Brought → List (List ℕ)
taken_by (an_i s r) = []
taken_by (an_s r) = []
taken_by (an_asdu x) = x ∷ []
taken_by other = []

abbrev pub taken : List Entry → List (List ℕ)
taken [] = []
taken (e ∷ past) = taken past ++ pick (accepted e) (taken_by (brings e.event)) []

-- ---- what was not confirmed yet

-- a frame tells R where it reads as an I or an S frame
abbrev pub tells_by : Result Frame Refusal → Bool
tells_by (Ok (I s r)) = true
tells_by (Ok (S r)) = true
tells_by (Ok (U u)) = false
tells_by (Err r) = false

abbrev pub told_in : List (List ℕ) → Bool
told_in [] = false
told_in (f ∷ fs) = tells_by (frame_answer f) || told_in fs

-- the I frames accepted since R was last told
abbrev pub untold : List Entry → ℕ
untold [] = 0
untold (e ∷ past) = pick (told_in (cut e.handed)) 0 (pick (accepted e) (received_by (brings e.event) (untold past)) (untold past))

-- ---- the claim

-- "some whole a from A to S has its receive number as remainder by 32,768"
abbrev pub Some : List Entry → ℕ → Type 0
Some past r = (a : ℕ) × Confirms 32768 (a_of past) (s_of past) r a

-- the numbers of a frame that is handed out, s being the total of I frames before it and r the total accepted; what is
-- handed out is a frame
abbrev pub Carries : Result Frame Refusal → ℕ → ℕ → Type 0
Carries (Ok (I x y)) s r = (x.0 ≡ s % 32768) × (y.0 ≡ r % 32768)
Carries (Ok (S y)) s r = y.0 ≡ r % 32768
Carries (Ok (U u)) s r = Unit {0}
Carries (Err q) s r = ⊥

abbrev pub count_i : Result Frame Refusal → ℕ → ℕ
count_i (Ok (I x y)) s = s + 1
count_i (Ok (S y)) s = s
count_i (Ok (U u)) s = s
count_i (Err q) s = s

-- each of the frames handed out by one call
abbrev pub Numbered : ℕ → ℕ → List (List ℕ) → Type 0
Numbered s r [] = Unit {0}
Numbered s r (f ∷ fs) = Carries (frame_answer f) s r × Numbered (count_i (frame_answer f) s) r fs

-- after a call: e is its entry, `past` the transcript before it, l and pool are the record and the pool after it
pub record Claim (s : Settings) (e : Entry) (past : List Entry) (l : Link) (pool : List ℕ) : Type 0 where
  -- "A well-formed S frame is accepted exactly if some whole a from A to S has its receive number as remainder by 32,768"
  pub s_accepted : (r : ℕ) → brings e.event ≡ an_s r → (e.number ≡ 0) ↔ Some past r
  -- "an I frame exactly if its send number is also R's remainder"
  pub i_accepted : (n r : ℕ) → brings e.event ≡ an_i n r → (e.number ≡ 0) ↔ (Some past r × (n ≡ r_of past % 32768))
  -- "That a is unique"
  pub unique : (r a b : ℕ) → Confirms 32768 (a_of past) (s_of past) r a → Confirms 32768 (a_of past) (s_of past) r b → a ≡ b
  -- "and becomes A"
  pub s_becomes : (r a : ℕ) → brings e.event ≡ an_s r → e.number ≡ 0 → Confirms 32768 (a_of past) (s_of past) r a → a_of (e ∷ past) ≡ a
  pub i_becomes : (n r a : ℕ) → brings e.event ≡ an_i n r → e.number ≡ 0 → Confirms 32768 (a_of past) (s_of past) r a → a_of (e ∷ past) ≡ a
  -- "Each I frame goes out with the remainders of S before it and of R as its numbers, an S frame with R's, R counting the frame
  -- in hand." What is handed out is whole frames, and no byte is left over.
  pub numbers : Numbered (s_of past) (r_of (e ∷ past)) (cut e.handed)
  pub whole : (stream e.handed).end ≡ rest []
  -- S is the same where all that was handed out is cut as one stream
  pub one_stream : i_frames_in (cut (all_handed (e ∷ past))) ≡ i_frames (e ∷ past)
  -- "After every call S − A frames are outstanding"
  pub outstanding : l.state.window.held + a_of (e ∷ past) ≡ s_of (e ∷ past)
  -- "at most k"
  pub at_most_k : l.state.window.held ≤ s.k
  -- "and the oldest, if any, has frame A + 1's send time, the now of the call that handed it out" (the list counts from 0, and
  -- has a time for each of the S frames)
  pub oldest : 0 < l.state.window.held → get_or l.times l.state.window.first 0 ≡ get_or (send_times (e ∷ past)) (a_of (e ∷ past)) 0
  pub timed : length (send_times (e ∷ past)) ≡ s_of (e ∷ past)
  -- "ASDUs taken leave in order, once each, or still wait"
  pub in_order : taken (e ∷ past) ≡ have_left (e ∷ past) ++ waiting_of l.state.queue pool
  -- "which they do only with k outstanding"
  pub only_full : 0 < length (waiting_of l.state.queue pool) → l.state.window.held ≡ s.k
  -- document 01's unconfirmed count: it falls only by an I or an S frame that went out. `confirmed` of `LinkCall` bounds it by w
  pub unconfirmed : l.state.receive.unconfirmed ≡ untold (e ∷ past)

-- after opening: nothing is outstanding and nothing waits
pub record Begun (l : Link) (pool : List ℕ) : Type 0 where
  pub none_outstanding : l.state.window.held ≡ 0
  pub none_waits : waiting_of l.state.queue pool ≡ []

-- after opening and after each call of each run: a run has any earlier moment as a run of its own
abbrev pub Claimed : Settings → List Entry → Link → List ℕ → Type 0
Claimed s [] l pool = Begun l pool
Claimed s (e ∷ past) l pool = Claim s e past l pool

abbrev pub Demand3 : Type 0
Demand3 = (s : Settings) (start : ℕ) (pool : List ℕ) (past : List Entry) (l : Link) (between : List ℕ) → Run s start pool past l between → Claimed s past l between
