-- The link of the code, with its ring, its pool and its numbers, means the link by totals and lists.
use Rattle.std.specs.Prelude.{ℕ, ◌+◌, ◌≡◌, List, length, get_or}
use Rattle.laws.specs.Lists.{Octets, ring}
use Rattle.link_state.specs.Limits.{call_refusal}
use Rattle.link_state.specs.Opening.{opened, open_refusal}
use Rattle.link_state.specs.declared.Settings.{Settings}
use Rattle.link_state.specs.declared.Window.{Window}
use Rattle.link_state.specs.declared.Queue.{Queue}
use Rattle.link_state.specs.declared.State.{State}
use Rattle.link_state.specs.declared.Link.{Link}
use Rattle.link.specs.Making.{slot}
use Rattle.link.specs.Events.{Outcome, Event, frame, send, stop, test, tick, called}
use Rattle.link_meaning.specs.Kept.{Shaped}
use Rattle.link_meaning.specs.Abstract.{Abstract, Result, on_wire, fresh, step}

-- the send times of the outstanding frames, from the ring of as many places as there are times
unfoldable pub times_of : Window → List ℕ → List ℕ
times_of w times = ring (λ (q : ℕ). get_or times q 0) (length times) w.first w.held

-- the ASDUs that wait, from the 16 slots of the pool
unfoldable pub waiting_of : Queue → List ℕ → List (List ℕ)
waiting_of q pool = ring (λ (i : ℕ). slot pool i (get_or q.lengths i 0)) 16 q.place q.count

-- the numbers are the remainders of the totals, S − A frames are outstanding, ring and pool hold the lists in order, and the
-- rest is the same
pub record Means (s : State) (times pool : List ℕ) (a : Abstract) : Type 0 where
  pub settings : s.settings ≡ a.settings
  pub next : s.window.next.0 ≡ on_wire a.sent
  pub recv : s.receive.next.0 ≡ on_wire a.received
  pub held : s.window.held + a.confirmed ≡ a.sent
  pub send_times_law : times_of s.window times ≡ a.times
  pub waiting : waiting_of s.queue pool ≡ a.waiting
  pub unconfirmed : s.receive.unconfirmed ≡ a.unconfirmed
  pub timers : s.timers ≡ a.timers
  pub status : s.status ≡ a.status
  pub clock : s.clock ≡ a.clock

-- the same number, the same frames, the same mark, and links of the same meaning
pub record SameOutcome (o : Outcome) (r : Result) : Type 0 where
  pub refused : o.refused ≡ r.refused
  pub frames : o.frames ≡ r.frames
  pub came : o.came ≡ r.came
  pub means : Means o.state o.times o.pool r.link

-- a frame that is handed over is of octets
abbrev pub OctetsIn : Event → Type 0
OctetsIn (frame f more) = Octets f
OctetsIn (send asdu) = Unit {0}
OctetsIn stop = Unit {0}
OctetsIn test = Unit {0}
OctetsIn tick = Unit {0}

-- a link just opened means the fresh one
abbrev pub OpensFresh : Type 0
OpensFresh = (s : Settings) (now : ℕ) (pool : List ℕ) → open_refusal s now ≡ 0
    → Means (opened s now).link.state (opened s now).link.times pool (fresh s now)

-- a call that is not refused under 19 to 24 does on the code's link what the event does on the link that it means
abbrev pub StepsAlike : Type 0
StepsAlike = (e : Event) (l : Link) (pool : List ℕ) (output now : ℕ) (a : Abstract) → Shaped l → OctetsIn e
    → call_refusal l output (length pool) now ≡ 0 → Means l.state l.times pool a → SameOutcome (called e l pool output now) (step e now a)
