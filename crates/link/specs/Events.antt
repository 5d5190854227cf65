-- Document 01, "The link": what each event makes of the state, the ring, the pool and the output.
use Rattle.std.specs.Prelude.{ℕ, Result, Ok, Err, ◌+◌, ◌*◌, ◌%◌, Bool, true, false, ◌&&◌, Option, None, Some, List, [], length, get_or, leb, ltb, eqb}
use Rattle.std.proofs.lemmas.List.Edits.{sets}
use Rattle.laws.specs.Choice.{pick}
use Rattle.elements.specs.Refusals.{number, wrong_send_number, u_not_answered, u_timed_out, i_timed_out, too_many_tests, queue_full, not_plain_form}
use Rattle.elements.specs.declared.refusals.Refusal.{Refusal}
use Rattle.asdu.specs.Plain.{plain_answer}
use Rattle.asdu.specs.declared.Form.{Form}
use Rattle.asdu.specs.declared.Form.TheVariants.{Plain, Reserved}
use Rattle.apdu.specs.Control.{receive_number, u_octet}
use Rattle.apdu.specs.Reading.{frame_answer}
use Rattle.apdu.specs.declared.frame.UFrame.{UFrame}
use Rattle.apdu.specs.declared.frame.Frame as read
use Rattle.apdu.specs.declared.frame.Frame.TheVariants.{I, S, U}
use Rattle.link_state.specs.Acknowledging.{acknowledged}
use Rattle.link_state.specs.Limits.{call_refusal}
use Rattle.link_state.specs.Opening.{unset}
use Rattle.link_state.specs.declared.State.{State}
use Rattle.link_state.specs.declared.Link.{Link}
use Rattle.link.specs.Frames.{Frame, u_with, stop_act, stop_con, test_act, test_con}
use Rattle.link.specs.Making.{Making, with_queue, with_receive, with_timers, with_clock, window_open, freed_of, hand_out, queued, free_slot, send_waiting, set_t1u, set_t3, start_t2, become, say, confirm, tested, ending, shut}

-- what a call has come to: its number, the link and pool after it, the frames handed out, and whether an ASDU came
pub record Outcome : Type 0 where
  pub refused : ℕ
  pub state : State
  pub times : List ℕ
  pub pool : List ℕ
  pub frames : List Frame
  pub came : Bool

-- refused: everything as it was
unfoldable pub refusing : ℕ → State → List ℕ → List ℕ → Outcome
refusing r s times pool = record { refused = r; state = s; times = times; pool = pool; frames = []; came = false }

-- refused, and the link ends: only the closed mark and the reason are set
unfoldable pub closing : ℕ → State → List ℕ → List ℕ → Outcome
closing r s times pool = record { refused = r; state = shut r s; times = times; pool = pool; frames = []; came = false }

-- accepted, with what was made; and whether an ASDU came
unfoldable pub accepting : Bool → List ℕ → Making → Outcome
accepting came pool g = record { refused = 0; state = g.state; times = g.times; pool = pool; frames = g.frames; came = came }

-- nothing is handed out yet
abbrev pub start : State → List ℕ → Making
start s times = record { state = s; times = times; frames = [] }

-- ---- Frame

-- d frames are confirmed, what waits goes out as far as the window takes it
unfoldable pub release : ℕ → ℕ → State → List ℕ → List ℕ → Making
release d now s times pool = send_waiting now pool (start (freed_of s (length times) d) times)

-- "S: 27, free, send waiting"; each accepted frame sets t3
unfoldable pub s_freeing : Result ℕ Refusal → State → List ℕ → List ℕ → Bool → ℕ → Outcome
s_freeing (Ok d) s times pool more now = accepting false pool (ending more now (become (set_t3 now) (release d now s times pool)))
s_freeing (Err r) s times pool more now = closing (number r) s times pool

-- an S frame with this receive number
unfoldable pub on_s : ℕ → State → List ℕ → List ℕ → Bool → ℕ → Outcome
on_s number s times pool more now =
    s_freeing (acknowledged s.window.next.0 s.window.held number) s times pool more now

-- receive number and unconfirmed count up by 1
unfoldable pub received : State → State
received s = with_receive s (record { next = receive_number ((s.receive.next.0 + 1) % 32768); unconfirmed = s.receive.unconfirmed + 1 })

-- "I: 28, then 27, free the confirmed prefix, receive number and unconfirmed count up by 1, send waiting ASDUs while the
-- window is open, set t2 if unset"
unfoldable pub i_freeing : Result ℕ Refusal → State → List ℕ → List ℕ → Bool → ℕ → Outcome
i_freeing (Ok d) s times pool more now =
    accepting true pool (ending more now (become (λ (m : State). set_t3 now (start_t2 now m)) (release d now (received s) times pool)))
i_freeing (Err r) s times pool more now = closing (number r) s times pool

-- an I frame with this send number and this receive number
unfoldable pub on_i : ℕ → ℕ → State → List ℕ → List ℕ → Bool → ℕ → Outcome
on_i sent number s times pool more now =
    pick (eqb sent s.receive.next.0)
    (i_freeing (acknowledged s.window.next.0 s.window.held number) s times pool more now)
    (closing wrong_send_number s times pool)

-- none open, t1 of U frames unset
abbrev pub tests_answered : State → State
tests_answered s = with_timers s (record { t1u = unset; t2 = s.timers.t2; t3 = s.timers.t3; tests = 0 })

-- a stop ends the link with reason 0 and confirms nothing
abbrev pub stopped : ℕ → State → State
stopped now s = shut 0 (with_clock (set_t3 now s) now)

unfoldable pub test_acted : State → List ℕ → List ℕ → Bool → ℕ → Outcome
test_acted s times pool more now = accepting false pool (ending more now (become (set_t3 now) (say (u_with test_con) (start s times))))

unfoldable pub test_confirmed : State → List ℕ → List ℕ → Bool → ℕ → Outcome
test_confirmed s times pool more now = accepting false pool (ending more now (become (λ (m : State). set_t3 now (tests_answered m)) (start s times)))

-- "test act writes test con; test con sets open tests to 0 and unsets t1-U; stop act writes stop con and ends the link;
-- stop con ends it; anything else 29": exactly one of the four is answered
unfoldable pub on_u : UFrame → State → List ℕ → List ℕ → Bool → ℕ → Outcome
on_u u s times pool more now =
    pick (eqb (u_octet u) test_act) (test_acted s times pool more now)
    (pick (eqb (u_octet u) test_con) (test_confirmed s times pool more now)
    (pick (eqb (u_octet u) stop_act) (accepting false pool (become (stopped now) (say (u_with stop_con) (start s times))))
    (pick (eqb (u_octet u) stop_con) (accepting false pool (become (stopped now) (start s times)))
    (closing u_not_answered s times pool))))

-- a frame that does not read closes the link with the reading's number
unfoldable pub on_answer : Result read.Frame Refusal → State → List ℕ → List ℕ → Bool → ℕ → Outcome
on_answer (Ok (I sent number)) s times pool more now = on_i sent.0 number.0 s times pool more now
on_answer (Ok (S number)) s times pool more now = on_s number.0 s times pool more now
on_answer (Ok (U u)) s times pool more now = on_u u s times pool more now
on_answer (Err r) s times pool more now = closing (number r) s times pool

unfoldable pub on_frame : List ℕ → Bool → State → List ℕ → List ℕ → ℕ → Outcome
on_frame frame more s times pool now = on_answer (frame_answer frame) s times pool more now

-- ---- Send

-- "With the window open it goes out at once and the pool is untouched; else its bytes go to pool slot (place + waiting)
-- mod 16": 25 where p wait already
unfoldable pub send_plain : List ℕ → State → List ℕ → List ℕ → ℕ → Outcome
send_plain asdu s times pool now =
    pick (window_open s) (accepting false pool (ending false now (hand_out now asdu (start s times))))
    (pick (leb s.settings.p s.queue.count) (refusing queue_full s times pool)
    (accepting false (sets pool (free_slot s.queue * 249) asdu)
    (ending false now (start (with_queue s (queued s.queue (length asdu))) times))))

-- what reading the ASDU refuses, then 26, then 25
unfoldable pub send_by : Result Form Refusal → List ℕ → State → List ℕ → List ℕ → ℕ → Outcome
send_by (Ok Plain) asdu s times pool now = send_plain asdu s times pool now
send_by (Ok Reserved) asdu s times pool now = refusing not_plain_form s times pool
send_by (Err r) asdu s times pool now = refusing (number r) s times pool

unfoldable pub on_send : List ℕ → State → List ℕ → List ℕ → ℕ → Outcome
on_send asdu s times pool now = send_by (plain_answer asdu) asdu s times pool now

-- ---- Stop, Test, Tick

-- "Writes stop act, then confirms; sets t1-U"
unfoldable pub on_stop : State → List ℕ → List ℕ → ℕ → Outcome
on_stop s times pool now = accepting false pool (ending false now (become (set_t1u now) (confirm (say (u_with stop_act) (start s times)))))

-- 32 while more than 2 are open
unfoldable pub too_many : State → Bool
too_many s = ltb 2 s.timers.tests

unfoldable pub on_test : State → List ℕ → List ℕ → ℕ → Outcome
on_test s times pool now =
    pick (too_many s) (closing too_many_tests s times pool) (accepting false pool (ending false now (tested now (start s times))))

-- a set deadline is due at now or earlier
abbrev pub is_due : Option ℕ → ℕ → Bool
is_due None now = false
is_due (Some at) now = leb at now

-- t1 of I frames: t1 after the oldest outstanding send time, unset if none is outstanding
unfoldable pub t1i_due : State → List ℕ → ℕ → Bool
t1i_due s times now = ltb 0 s.window.held && leb (get_or times s.window.first 0 + s.settings.t1) now

-- "Closes for 30, then 31, then 32 if t3 is due, writing nothing"
unfoldable pub tick_refusal : State → List ℕ → ℕ → ℕ
tick_refusal s times now =
    pick (is_due s.timers.t1u now) u_timed_out
    (pick (t1i_due s times now) i_timed_out
    (pick (is_due s.timers.t3 now && too_many s) too_many_tests 0))

-- "else t2 due confirms, then t3 due acts as Test"
unfoldable pub ticked_t2 : ℕ → Making → Making
ticked_t2 now g = pick (is_due g.state.timers.t2 now) (confirm g) g

unfoldable pub ticked_t3 : Option ℕ → ℕ → Making → Making
ticked_t3 t3 now g = pick (is_due t3 now) (tested now g) g

unfoldable pub ticked : State → List ℕ → ℕ → Making
ticked s times now = ticked_t3 s.timers.t3 now (ticked_t2 now (start s times))

unfoldable pub on_tick : State → List ℕ → List ℕ → ℕ → Outcome
on_tick s times pool now =
    pick (eqb (tick_refusal s times now) 0)
    (accepting false pool (ending false now (ticked s times now)))
    (closing (tick_refusal s times now) s times pool)

-- ---- a call

-- a frame that came, with the mark "more to come"; an ASDU to send; stop, test and tick
pub data Event : Type 0 where
  frame : List ℕ → Bool → Event
  send : List ℕ → Event
  stop : Event
  test : Event
  tick : Event

unfoldable pub event_outcome : Event → State → List ℕ → List ℕ → ℕ → Outcome
event_outcome (frame f more) s times pool now = on_frame f more s times pool now
event_outcome (send asdu) s times pool now = on_send asdu s times pool now
event_outcome stop s times pool now = on_stop s times pool now
event_outcome test s times pool now = on_test s times pool now
event_outcome tick s times pool now = on_tick s times pool now

-- 19, 20, 23, 24, 22, 21, then the event
unfoldable pub called : Event → Link → List ℕ → ℕ → ℕ → Outcome
called e l pool output now =
    pick (eqb (call_refusal l output (length pool) now) 0)
    (event_outcome e l.state l.times pool now)
    (refusing (call_refusal l output (length pool) now) l.state l.times pool)
