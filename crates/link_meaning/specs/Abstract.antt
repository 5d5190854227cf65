-- Document 01, "The link", by totals and lists: no ring, no places, no sequence numbers, no pool.
-- S is the number of I frames handed out, R of those accepted, A of those confirmed, since opening.
use Rattle.std.specs.Prelude.{ℕ, ◌+◌, ◌-◌, ◌%◌, Bool, true, false, ◌&&◌, ◌||◌, not, List, [], ◌∷◌, ◌++◌, length, drop, leb, ltb, eqb, Ok, Err}
use Rattle.std.specs.Prelude as prelude
use Rattle.std.specs.Option.{option_or}
use Rattle.laws.specs.Choice.{pick}
use Rattle.laws.specs.Window.{freed}
use Rattle.elements.specs.Refusals.{number, wrong_receive_number, wrong_send_number, u_not_answered, u_timed_out, i_timed_out, too_many_tests, queue_full, not_plain_form}
use Rattle.elements.specs.declared.refusals.Refusal.{Refusal}
use Rattle.asdu.specs.Plain.{plain_answer}
use Rattle.asdu.specs.declared.Form.{Form}
use Rattle.asdu.specs.declared.Form.TheVariants.{Plain, Reserved}
use Rattle.apdu.specs.Control.{u_octet}
use Rattle.apdu.specs.Reading.{frame_answer}
use Rattle.apdu.specs.declared.frame.UFrame.{UFrame}
use Rattle.apdu.specs.declared.frame.Frame as read
use Rattle.apdu.specs.declared.frame.Frame.TheVariants.{I, S, U}
use Rattle.link_state.specs.Opening.{unset, set_for}
use Rattle.link_state.specs.declared.Settings.{Settings}
use Rattle.link_state.specs.declared.Timers.{Timers}
use Rattle.link_state.specs.declared.Status.{Status}
use Rattle.link.specs.Frames.{Frame, i_frame, s_frame, u_with, stop_act, stop_con, test_act, test_con}
use Rattle.link.specs.Events.{Event, frame, send, stop, test, tick, is_due}

-- S, R and A; the send times of the outstanding frames and the ASDUs that wait, oldest first; the I frames accepted since
-- the last confirming; settings, timers, status and clock as in the record
pub record Abstract : Type 0 where
  pub settings : Settings
  pub sent : ℕ
  pub received : ℕ
  pub confirmed : ℕ
  pub times : List ℕ
  pub waiting : List (List ℕ)
  pub unconfirmed : ℕ
  pub timers : Timers
  pub status : Status
  pub clock : ℕ

-- a call in the making: the link so far, and the frames handed out
pub record Progress : Type 0 where
  pub link : Abstract
  pub frames : List Frame

-- what a call has come to: its number, the link after it, the frames handed out, and whether an ASDU came
pub record Result : Type 0 where
  pub refused : ℕ
  pub link : Abstract
  pub frames : List Frame
  pub came : Bool

-- ---- a link with one part changed, the others as they were

abbrev pub set_sent : ℕ → Abstract → Abstract
set_sent x a = record { settings = a.settings; sent = x; received = a.received; confirmed = a.confirmed; times = a.times; waiting = a.waiting; unconfirmed = a.unconfirmed; timers = a.timers; status = a.status; clock = a.clock }

abbrev pub set_received : ℕ → Abstract → Abstract
set_received x a = record { settings = a.settings; sent = a.sent; received = x; confirmed = a.confirmed; times = a.times; waiting = a.waiting; unconfirmed = a.unconfirmed; timers = a.timers; status = a.status; clock = a.clock }

abbrev pub set_confirmed : ℕ → Abstract → Abstract
set_confirmed x a = record { settings = a.settings; sent = a.sent; received = a.received; confirmed = x; times = a.times; waiting = a.waiting; unconfirmed = a.unconfirmed; timers = a.timers; status = a.status; clock = a.clock }

abbrev pub set_times : List ℕ → Abstract → Abstract
set_times x a = record { settings = a.settings; sent = a.sent; received = a.received; confirmed = a.confirmed; times = x; waiting = a.waiting; unconfirmed = a.unconfirmed; timers = a.timers; status = a.status; clock = a.clock }

abbrev pub set_waiting : List (List ℕ) → Abstract → Abstract
set_waiting x a = record { settings = a.settings; sent = a.sent; received = a.received; confirmed = a.confirmed; times = a.times; waiting = x; unconfirmed = a.unconfirmed; timers = a.timers; status = a.status; clock = a.clock }

abbrev pub set_unconfirmed : ℕ → Abstract → Abstract
set_unconfirmed x a = record { settings = a.settings; sent = a.sent; received = a.received; confirmed = a.confirmed; times = a.times; waiting = a.waiting; unconfirmed = x; timers = a.timers; status = a.status; clock = a.clock }

abbrev pub set_timers : Timers → Abstract → Abstract
set_timers x a = record { settings = a.settings; sent = a.sent; received = a.received; confirmed = a.confirmed; times = a.times; waiting = a.waiting; unconfirmed = a.unconfirmed; timers = x; status = a.status; clock = a.clock }

abbrev pub set_status : Status → Abstract → Abstract
set_status x a = record { settings = a.settings; sent = a.sent; received = a.received; confirmed = a.confirmed; times = a.times; waiting = a.waiting; unconfirmed = a.unconfirmed; timers = a.timers; status = x; clock = a.clock }

abbrev pub set_clock : ℕ → Abstract → Abstract
set_clock x a = record { settings = a.settings; sent = a.sent; received = a.received; confirmed = a.confirmed; times = a.times; waiting = a.waiting; unconfirmed = a.unconfirmed; timers = a.timers; status = a.status; clock = x }

-- ---- the window

-- the number that a total has on the wire
abbrev pub on_wire : ℕ → ℕ
on_wire total = total % 32768

-- S − A frames are outstanding
abbrev pub outstanding : Abstract → ℕ
outstanding a = a.sent - a.confirmed

-- the window is open: fewer than k are outstanding
unfoldable pub is_open : Abstract → Bool
is_open a = ltb (outstanding a) a.settings.k

-- how many frames a receive number confirms: up to the next total from A on that has it as remainder
abbrev pub freed_by : ℕ → Abstract → ℕ
freed_by number a = freed 32768 a.confirmed number

-- the number is accepted: that total is at most S
unfoldable pub fits : ℕ → Abstract → Bool
fits number a = leb (a.confirmed + freed_by number a) a.sent

-- the oldest d frames are confirmed
unfoldable pub free : ℕ → Abstract → Abstract
free d a = set_confirmed (a.confirmed + d) (set_times (drop d a.times) a)

-- an I frame is accepted
unfoldable pub count : Abstract → Abstract
count a = set_received (a.received + 1) (set_unconfirmed (a.unconfirmed + 1) a)

-- an I frame is handed out at now, and these wait after it; it confirms what came, and leaves t2
unfoldable pub send_one : ℕ → List (List ℕ) → Abstract → Abstract
send_one now waiting a = set_sent (a.sent + 1) (set_times (a.times ++ (now ∷ [])) (set_waiting waiting (set_unconfirmed 0 a)))

-- one more waits
unfoldable pub queue : List ℕ → Abstract → Abstract
queue asdu a = set_waiting (a.waiting ++ (asdu ∷ [])) a

-- ---- timers, status, clock

-- the timers change, by the settings
unfoldable pub timing : (Settings → Timers → Timers) → Abstract → Abstract
timing f a = set_timers (f a.settings a.timers) a

-- t1 of U frames is set
abbrev pub t1u_from : ℕ → Settings → Timers → Timers
t1u_from now s t = record { t1u = set_for (now + s.t1); t2 = t.t2; t3 = t.t3; tests = t.tests }

-- t2 is set if unset
abbrev pub t2_from : ℕ → Settings → Timers → Timers
t2_from now s t = record { t1u = t.t1u; t2 = option_or t.t2 (set_for (now + s.t2)); t3 = t.t3; tests = t.tests }

-- t3 is set
abbrev pub t3_from : ℕ → Settings → Timers → Timers
t3_from now s t = record { t1u = t.t1u; t2 = t.t2; t3 = set_for (now + s.t3); tests = t.tests }

-- a test act went out: one more open, t1 of U frames and t3 set
abbrev pub test_from : ℕ → Settings → Timers → Timers
test_from now s t = record { t1u = set_for (now + s.t1); t2 = t.t2; t3 = set_for (now + s.t3); tests = t.tests + 1 }

-- a test con came: none open, t1 of U frames unset
abbrev pub test_answered : Settings → Timers → Timers
test_answered s t = record { t1u = unset; t2 = t.t2; t3 = t.t3; tests = 0 }

-- t2 is unset
abbrev pub t2_unset : Settings → Timers → Timers
t2_unset s t = record { t1u = t.t1u; t2 = unset; t3 = t.t3; tests = t.tests }

-- what came is confirmed: none unconfirmed, t2 unset
unfoldable pub settle : Abstract → Abstract
settle a = set_unconfirmed 0 (set_timers (t2_unset a.settings a.timers) a)

-- the link ends
unfoldable pub ended : ℕ → Abstract → Abstract
ended reason a = set_status (record { closed = true; reason = reason }) a

-- a link just opened
unfoldable pub fresh : Settings → ℕ → Abstract
fresh s now = record {
  settings = s;
  sent = 0;
  received = 0;
  confirmed = 0;
  times = [];
  waiting = [];
  unconfirmed = 0;
  timers = record { t1u = unset; t2 = unset; t3 = set_for (now + s.t3); tests = 0 };
  status = record { closed = false; reason = 0 };
  clock = now;
}

-- ---- steps of a call

-- nothing is handed out yet
abbrev pub begin : Abstract → Progress
begin a = record { link = a; frames = [] }

-- the link changes, and nothing goes out
abbrev pub change : (Abstract → Abstract) → Progress → Progress
change f p = record { link = f p.link; frames = p.frames }

-- a frame goes out, and the link is as it was
abbrev pub add : Frame → Progress → Progress
add f p = record { link = p.link; frames = p.frames ++ (f ∷ []) }

-- an I frame goes out, with the remainders of S before it and of R
unfoldable pub send_out : ℕ → List ℕ → List (List ℕ) → Progress → Progress
send_out now asdu waiting p = change (send_one now waiting) (add (i_frame (on_wire p.link.sent) (on_wire p.link.received) asdu) p)

-- "send waiting ASDUs while the window is open"
unfoldable pub flush : ℕ → List (List ℕ) → Progress → Progress
flush now [] p = p
flush now (x ∷ xs) p = pick (is_open p.link) (flush now xs (send_out now x xs p)) p

-- the d oldest are confirmed, then what waits goes out
unfoldable pub letting : ℕ → ℕ → Abstract → Progress
letting d now a = flush now a.waiting (begin (free d a))

-- an S frame goes out, with the remainder of R
unfoldable pub confirm_all : Progress → Progress
confirm_all p = change settle (add (s_frame (on_wire p.link.received)) p)

-- a test act goes out
unfoldable pub test_out : ℕ → Progress → Progress
test_out now p = change (timing (test_from now)) (add (u_with test_act) p)

-- "confirm if the count is above w", unless more is to come; "always at 32,768"
unfoldable pub must_confirm : Abstract → Bool → Bool
must_confirm a more = (ltb a.settings.w a.unconfirmed && not more) || leb 32768 a.unconfirmed

-- the end of an accepted call
unfoldable pub finish : Bool → ℕ → Progress → Progress
finish more now p = pick (must_confirm p.link more) (confirm_all (change (set_clock now) p)) (change (set_clock now) p)

-- accepted
unfoldable pub accept : Bool → Progress → Result
accept came p = record { refused = 0; link = p.link; frames = p.frames; came = came }

-- refused: everything as it was
unfoldable pub refuse : ℕ → Abstract → Result
refuse r a = record { refused = r; link = a; frames = []; came = false }

-- refused, and the link ends: only the closed mark and the reason are set
unfoldable pub close : ℕ → Abstract → Result
close r a = record { refused = r; link = ended r a; frames = []; came = false }

-- ---- the events

-- "S: 27, free, send waiting"; each accepted frame sets t3
unfoldable pub step_s : ℕ → Bool → ℕ → Abstract → Result
step_s number more now a =
    pick (fits number a)
    (accept false (finish more now (change (timing (t3_from now)) (letting (freed_by number a) now a))))
    (close wrong_receive_number a)

-- "I: 28, then 27, free the confirmed prefix, receive number and unconfirmed count up by 1, send waiting ASDUs while the
-- window is open, set t2 if unset"
unfoldable pub step_i : ℕ → ℕ → Bool → ℕ → Abstract → Result
step_i sent number more now a =
    pick (eqb sent (on_wire a.received))
    (pick (fits number a)
    (accept true (finish more now (change (timing (t3_from now)) (change (timing (t2_from now)) (letting (freed_by number a) now (count a))))))
    (close wrong_receive_number a))
    (close wrong_send_number a)

-- a stop ends the link with reason 0 and confirms nothing
abbrev pub stop_link : ℕ → Abstract → Abstract
stop_link now a = ended 0 (set_clock now (timing (t3_from now) a))

-- "test act writes test con; test con sets open tests to 0 and unsets t1-U; stop act writes stop con and ends the link;
-- stop con ends it; anything else 29"
unfoldable pub step_u : UFrame → Bool → ℕ → Abstract → Result
step_u u more now a =
    pick (eqb (u_octet u) test_act) (accept false (finish more now (change (timing (t3_from now)) (add (u_with test_con) (begin a)))))
    (pick (eqb (u_octet u) test_con) (accept false (finish more now (change (timing (t3_from now)) (change (timing test_answered) (begin a)))))
    (pick (eqb (u_octet u) stop_act) (accept false (change (stop_link now) (add (u_with stop_con) (begin a))))
    (pick (eqb (u_octet u) stop_con) (accept false (change (stop_link now) (begin a)))
    (close u_not_answered a))))

-- a frame that does not read closes the link with the reading's number
unfoldable pub step_frame : prelude.Result read.Frame Refusal → Bool → ℕ → Abstract → Result
step_frame (Ok (I sent number)) more now a = step_i sent.0 number.0 more now a
step_frame (Ok (S number)) more now a = step_s number.0 more now a
step_frame (Ok (U u)) more now a = step_u u more now a
step_frame (Err r) more now a = close (number r) a

-- with the window open it goes out at once; else it waits, 25 where p wait already
unfoldable pub step_plain : List ℕ → ℕ → Abstract → Result
step_plain asdu now a =
    pick (is_open a) (accept false (finish false now (send_out now asdu a.waiting (begin a))))
    (pick (leb a.settings.p (length a.waiting)) (refuse queue_full a)
    (accept false (finish false now (begin (queue asdu a)))))

-- what reading the ASDU refuses, then 26, then 25
unfoldable pub step_send : prelude.Result Form Refusal → List ℕ → ℕ → Abstract → Result
step_send (Ok Plain) asdu now a = step_plain asdu now a
step_send (Ok Reserved) asdu now a = refuse not_plain_form a
step_send (Err r) asdu now a = refuse (number r) a

-- "Writes stop act, then confirms; sets t1-U"
unfoldable pub step_stop : ℕ → Abstract → Result
step_stop now a = accept false (finish false now (change (timing (t1u_from now)) (confirm_all (add (u_with stop_act) (begin a)))))

-- more than 2 tests are open
unfoldable pub many_open : Abstract → Bool
many_open a = ltb 2 a.timers.tests

-- "32, else writes test act, one more open, sets t3 and t1-U"
unfoldable pub step_test : ℕ → Abstract → Result
step_test now a = pick (many_open a) (close too_many_tests a) (accept false (finish false now (test_out now (begin a))))

-- t1 of I frames: t1 after the oldest outstanding send time, unset if none
abbrev pub oldest_due : List ℕ → ℕ → ℕ → Bool
oldest_due [] t1 now = false
oldest_due (t ∷ ts) t1 now = leb (t + t1) now

-- "Closes for 30, then 31, then 32 if t3 is due"
unfoldable pub tick_number : ℕ → Abstract → ℕ
tick_number now a =
    pick (is_due a.timers.t1u now) u_timed_out
    (pick (oldest_due a.times a.settings.t1 now) i_timed_out
    (pick (is_due a.timers.t3 now && many_open a) too_many_tests 0))

-- "t2 due confirms"
unfoldable pub tick_t2 : ℕ → Progress → Progress
tick_t2 now p = pick (is_due p.link.timers.t2 now) (confirm_all p) p

-- "then t3 due acts as Test"
unfoldable pub tick_t3 : Bool → ℕ → Progress → Progress
tick_t3 due now p = pick due (test_out now p) p

-- a tick closes the link, or does these two
unfoldable pub step_tick : ℕ → Abstract → Result
step_tick now a =
    pick (eqb (tick_number now a) 0)
    (accept false (finish false now (tick_t3 (is_due a.timers.t3 now) now (tick_t2 now (begin a)))))
    (close (tick_number now a) a)

-- a call that is not refused under 19 to 24
unfoldable pub step : Event → ℕ → Abstract → Result
step (frame f more) now a = step_frame (frame_answer f) more now a
step (send asdu) now a = step_send (plain_answer asdu) asdu now a
step stop now a = step_stop now a
step test now a = step_test now a
step tick now a = step_tick now a
