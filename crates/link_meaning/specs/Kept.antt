-- A sound record stays sound, whatever is called on it: refusal 19 meets only what a caller has changed.
use Rattle.std.specs.Prelude.{ℕ, true, ◌≡◌, List, length}
use Rattle.elements.specs.Refusals.{outside_limits}
use Rattle.link_state.specs.Limits.{sound_link, call_refusal}
use Rattle.link_state.specs.Opening.{opened, open_refusal}
use Rattle.link_state.specs.declared.Settings.{Settings}
use Rattle.link_state.specs.declared.Link.{Link}
use Rattle.link.specs.Events.{Outcome, Event, called}

-- the arrays of the record: 32 send times, 16 lengths of what waits
pub record Shaped (l : Link) : Type 0 where
  pub times : length l.times ≡ 32
  pub lengths : length l.state.queue.lengths ≡ 16

-- the link that a call hands back
abbrev pub link_after : Outcome → Link
link_after o = record { times = o.times; state = o.state }

-- within the limits, the arrays and a pool of n octets as long as they were
pub record Kept (o : Outcome) (n : ℕ) : Type 0 where
  pub sound : sound_link (link_after o) ≡ true
  pub shaped : Shaped (link_after o)
  pub pool : length o.pool ≡ n

-- whatever a call on a sound link answers (accepted, refused or closing), the link after it is sound
abbrev pub StaysSound : Type 0
StaysSound = (e : Event) (l : Link) (pool : List ℕ) (output now : ℕ) → Shaped l → sound_link l ≡ true
    → Kept (called e l pool output now) (length pool)

-- a call: its event, the length of its output, its now
pub record SizedCall : Type 0 where
  pub event : Event
  pub output : ℕ
  pub now : ℕ

-- what some calls make of a link and a pool, both handed back untouched: `Later l pool l' pool'`
pub data Later (l : Link) (pool : List ℕ) : Link → List ℕ → Type 0 where
  none : Later l pool l pool
  then : {m : Link} {between : List ℕ} → Later l pool m between → (c : SizedCall)
      → Later l pool (link_after (called c.event m between c.output c.now)) (called c.event m between c.output c.now).pool

-- from opening on, through any calls, no call is refused under 19
abbrev pub NeverOutside : Type 0
NeverOutside = (s : Settings) (start : ℕ) (pool : List ℕ) (m : Link) (between : List ℕ) (output now : ℕ) → open_refusal s start ≡ 0
    → Later (opened s start).link pool m between → call_refusal m output (length between) now ≡ outside_limits → ⊥
