-- The steps that events are made of. A call in the making is the state and the ring of send times so far, and the frames
-- that it hands out. A ring has as many places as the list of times is long.
use Rattle.std.specs.Prelude.{ℕ, zero, suc, ◌+◌, ◌-◌, ◌*◌, ◌%◌, min, Bool, true, ◌&&◌, ◌||◌, not, List, [], ◌∷◌, ◌++◌, length, take, drop, get_or, set, leb, ltb}
use Rattle.std.specs.Option.{option_or}
use Rattle.laws.specs.Choice.{pick}
use Rattle.apdu.specs.Control.{send_number}
use Rattle.link_state.specs.Opening.{unset, set_for}
use Rattle.link_state.specs.declared.Window.{Window}
use Rattle.link_state.specs.declared.Queue.{Queue}
use Rattle.link_state.specs.declared.Receive.{Receive}
use Rattle.link_state.specs.declared.Timers.{Timers}
use Rattle.link_state.specs.declared.Status.{Status}
use Rattle.link_state.specs.declared.State.{State}
use Rattle.link.specs.Frames.{Frame, i_frame, s_frame, u_with, test_act}

pub record Making : Type 0 where
  pub state : State
  pub times : List ℕ
  pub frames : List Frame

-- ---- a state with one group changed

abbrev pub with_window : State → Window → State
with_window s x = record { queue = s.queue; settings = s.settings; window = x; receive = s.receive; timers = s.timers; status = s.status; clock = s.clock }

abbrev pub with_queue : State → Queue → State
with_queue s x = record { queue = x; settings = s.settings; window = s.window; receive = s.receive; timers = s.timers; status = s.status; clock = s.clock }

abbrev pub with_receive : State → Receive → State
with_receive s x = record { queue = s.queue; settings = s.settings; window = s.window; receive = x; timers = s.timers; status = s.status; clock = s.clock }

abbrev pub with_timers : State → Timers → State
with_timers s x = record { queue = s.queue; settings = s.settings; window = s.window; receive = s.receive; timers = x; status = s.status; clock = s.clock }

abbrev pub with_status : State → Status → State
with_status s x = record { queue = s.queue; settings = s.settings; window = s.window; receive = s.receive; timers = s.timers; status = x; clock = s.clock }

abbrev pub with_clock : State → ℕ → State
with_clock s x = record { queue = s.queue; settings = s.settings; window = s.window; receive = s.receive; timers = s.timers; status = s.status; clock = x }

-- ---- the window

-- the window is open: fewer than k outstanding; and it is full
unfoldable pub window_open : State → Bool
window_open s = ltb s.window.held s.settings.k

unfoldable pub window_full : State → Bool
window_full s = leb s.settings.k s.window.held

-- the oldest d frames are confirmed; their places in a ring of m are free
unfoldable pub freed_of : State → ℕ → ℕ → State
freed_of s m d = with_window s (record { first = (s.window.first + d) % m; held = s.window.held - d; next = s.window.next })

-- an I frame is sent: one more outstanding, the next number (after 32,767 on at 0). It carries the receive number, so
-- nothing is unconfirmed
unfoldable pub sent_of : State → State
sent_of s =
    with_receive (with_window s (record { first = s.window.first; held = s.window.held + 1; next = send_number ((s.window.next.0 + 1) % 32768) }))
    (record { next = s.receive.next; unconfirmed = 0 })

-- an I frame with this ASDU goes out; its send time is the call's now
unfoldable pub hand_out : ℕ → List ℕ → Making → Making
hand_out now asdu g =
    record {
      state = sent_of g.state;
      times = set g.times ((g.state.window.first + g.state.window.held) % length g.times) now;
      frames = g.frames ++ (i_frame g.state.window.next.0 g.state.receive.next.0 asdu ∷ []);
    }

-- ---- what waits: slots of 249 octets in the pool

-- the ASDU in a slot
abbrev pub slot : List ℕ → ℕ → ℕ → List ℕ
slot pool place n = take n (drop (place * 249) pool)

-- the first that waits, and the queue without it
unfoldable pub first_waiting : State → List ℕ → List ℕ
first_waiting s pool = slot pool s.queue.place (get_or s.queue.lengths s.queue.place 0)

unfoldable pub shifted : Queue → Queue
shifted q = record { lengths = q.lengths; place = (q.place + 1) % 16; count = q.count - 1 }

-- the slot for one more, and the queue with it, n octets long
abbrev pub free_slot : Queue → ℕ
free_slot q = (q.place + q.count) % 16

unfoldable pub queued : Queue → ℕ → Queue
queued q n = record { lengths = set q.lengths (free_slot q) n; place = q.place; count = q.count + 1 }

-- the first that waits goes out
unfoldable pub let_out : ℕ → List ℕ → Making → Making
let_out now pool g =
    let h = hand_out now (first_waiting g.state pool) g in
    record { state = with_queue h.state (shifted g.state.queue); times = h.times; frames = h.frames }

-- n go out
unfoldable pub flushed : ℕ → ℕ → List ℕ → Making → Making
flushed zero now pool g = g
flushed (suc n) now pool g = let_out now pool (flushed n now pool g)

-- "send waiting ASDUs while the window is open": how many, which is all that wait or as many as the window takes
unfoldable pub room : State → ℕ
room s = min s.queue.count (s.settings.k - s.window.held)

unfoldable pub send_waiting : ℕ → List ℕ → Making → Making
send_waiting now pool g = flushed (room g.state) now pool g

-- ---- timers

abbrev pub set_t1u : ℕ → State → State
set_t1u now s = with_timers s (record { t1u = set_for (now + s.settings.t1); t2 = s.timers.t2; t3 = s.timers.t3; tests = s.timers.tests })

abbrev pub set_t3 : ℕ → State → State
set_t3 now s = with_timers s (record { t1u = s.timers.t1u; t2 = s.timers.t2; t3 = set_for (now + s.settings.t3); tests = s.timers.tests })

-- t2 is set if unset
abbrev pub start_t2 : ℕ → State → State
start_t2 now s =
    with_timers s (record { t1u = s.timers.t1u; t2 = option_or s.timers.t2 (set_for (now + s.settings.t2)); t3 = s.timers.t3; tests = s.timers.tests })

-- ---- steps

-- the state changes, or a frame goes out, and nothing else
abbrev pub become : (State → State) → Making → Making
become f g = record { state = f g.state; times = g.times; frames = g.frames }

abbrev pub say : Frame → Making → Making
say f g = record { state = g.state; times = g.times; frames = g.frames ++ (f ∷ []) }

-- confirming: an S frame, unconfirmed count 0, t2 unset
unfoldable pub confirmed_of : State → State
confirmed_of s =
    with_timers (with_receive s (record { next = s.receive.next; unconfirmed = 0 }))
    (record { t1u = s.timers.t1u; t2 = unset; t3 = s.timers.t3; tests = s.timers.tests })

unfoldable pub confirm : Making → Making
confirm g = become confirmed_of (say (s_frame g.state.receive.next.0) g)

-- when to confirm: the count is above w, unless more is to come; always at 32,768
unfoldable pub due : State → Bool → Bool
due s more = (ltb s.settings.w s.receive.unconfirmed && not more) || leb 32768 s.receive.unconfirmed

-- a test act goes out: one more open, t3 and t1 of U frames set
unfoldable pub tested_of : ℕ → State → State
tested_of now s =
    with_timers s (record { t1u = set_for (now + s.settings.t1); t2 = s.timers.t2; t3 = set_for (now + s.settings.t3); tests = s.timers.tests + 1 })

unfoldable pub tested : ℕ → Making → Making
tested now g = become (tested_of now) (say (u_with test_act) g)

-- the end of an accepted call: the clock, then the rule of confirming
unfoldable pub ending : Bool → ℕ → Making → Making
ending more now g = pick (due g.state more) (confirm (become (λ (s : State). with_clock s now) g)) (become (λ (s : State). with_clock s now) g)

-- the link ends
unfoldable pub shut : ℕ → State → State
shut reason s = with_status s (record { closed = true; reason = reason })
