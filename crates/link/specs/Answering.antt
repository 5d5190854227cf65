-- What the code's answers are, given a call's outcome. What comes after the answers stands in contracts of helpers only: what a step
-- of a call rests on and has done. No promise speaks of them.
use Rattle.std.specs.Prelude.{ℕ, ◌+◌, ◌%◌, ◌≤◌, ◌<◌, Bool, false, ◌≡◌, List, length, get_or, eqb, Result, Ok, Err}
use Rattle.std.proofs.lemmas.List.Edits.{sets}
use Rattle.std.specs.Fn.{Once}
use denote.Ref.{MutBor}
use Rattle.elements.specs.Refusals.{answer, refusal}
use Rattle.elements.specs.declared.refusals.Refusal.{Refusal}
use Rattle.link_state.specs.declared.State.{State}
use Rattle.link_state.specs.declared.Link.{Link}
use Rattle.link.specs.Frames.{wire}
use Rattle.link.specs.Making.{window_full}
use Rattle.link.specs.Events.{Outcome}
use Rattle.link.specs.declared.answers.Done.{Done}
use Rattle.link.specs.declared.answers.Called.{Called}
use Rattle.link.specs.declared.answers.Step.{Step}

-- ---- answers

-- accepted: the octets written, whether the window is full, whether an ASDU came; or the refusal
unfoldable pub answer_of : Outcome → Result Done Refusal
answer_of o = answer o.refused (record { written = length (wire o.frames); full = window_full o.state; came = o.came })

-- the outcome without its ring, and with it
unfoldable pub step_for : Outcome → Step
step_for o = record { state = o.state; answer = answer_of o }

unfoldable pub called_of : Outcome → Called
called_of o = record { link = record { times = o.times; state = o.state }; answer = answer_of o }

-- an answer's values
abbrev pub link_written : Result Done Refusal → ℕ
link_written (Ok d) = d.written
link_written (Err r) = 0

abbrev pub link_full : Result Done Refusal → Bool
link_full (Ok d) = d.full
link_full (Err r) = false

abbrev pub link_came : Result Done Refusal → Bool
link_came (Ok d) = d.came
link_came (Err r) = false

-- ---- the ends of a call

-- refused by its check: the link as it was
abbrev pub refused_call : Link → Refusal → Called
refused_call l r = record { link = l; answer = Err r }

-- the ring joins what the event has come to
abbrev pub call_of : List ℕ → Step → Called
call_of times r = record { link = record { times = times; state = r.state }; answer = r.answer }

-- an event's step, as a call runs it: it may be called at this state, ring and output; and such a call may answer r, and leave
-- the ring and the output so
abbrev pub Running : Type 0 → Type 1
Running F = Once F (State × (MutBor (List ℕ) × (MutBor (List ℕ) × Unit {0}))) (Step × (MutBor (List ℕ) × (MutBor (List ℕ) × Unit {0})))

pub record CanRun {F : Type 0} (g : Running F) (event : F) (s : State) (times out : List ℕ) : Type 0 where
  pub at : (ring octets : MutBor (List ℕ)) → ring.now ≡ times → octets.now ≡ out → g.pre event (s, (ring, (octets, tt)))

pub record Ran {F : Type 0} (g : Running F) (event : F) (s : State) (times out : List ℕ) (r : Step) (times' out' : List ℕ) : Type 0 where
  pub ring : MutBor (List ℕ)
  pub octets : MutBor (List ℕ)
  pub ring' : MutBor (List ℕ)
  pub octets' : MutBor (List ℕ)
  pub begins : (ring.now ≡ times) × (octets.now ≡ out)
  pub met : g.post event (s, (ring, (octets, tt))) (r, (ring', (octets', tt)))
  pub leaves : (ring'.now ≡ times') × (octets'.now ≡ out')

-- a call: the refusal of its check, with nothing changed, or else what its event has come to
pub record Comes (refused : ℕ) (l : Link) (Runs : Step → List ℕ → List ℕ → Type 0) (out : List ℕ) (a : Called) (out' : List ℕ) : Type 0 where
  pub passes : refused ≡ 0 → (r : Step) × (times : List ℕ) × Runs r times out' × (a ≡ call_of times r)
  pub refuses : eqb refused 0 ≡ false → (a ≡ refused_call l (refusal refused)) × (out' ≡ out)

-- ---- what a step has done

unfoldable pub done_step : State → ℕ → Bool → Step
done_step s written came = record { state = s; answer = Ok (record { written = written; full = window_full s; came = came }) }

unfoldable pub refused_step : State → Refusal → Step
refused_step s r = record { state = s; answer = Err r }

-- an event has done what its outcome says; then with the ring lent; then with the pool lent too
pub record Answers (o : Outcome) (out : List ℕ) (r : Step) (out' : List ℕ) : Type 0 where
  pub step : r ≡ step_for o
  pub octets : out' ≡ sets out 0 (wire o.frames)

pub record Does (o : Outcome) (out : List ℕ) (r : Step) (times' out' : List ℕ) : Type 0 where
  pub answers : Answers o out r out'
  pub ring : times' ≡ o.times

pub record DoesSend (o : Outcome) (out : List ℕ) (r : Step) (times' pool' out' : List ℕ) : Type 0 where
  pub does : Does o out r times' out'
  pub pool : pool' ≡ o.pool

-- ---- what a step rests on. Kept: no type with an invariant, since these are facts of a state and of the lengths of what is
-- lent beside it, and a `State` may hold anything: callers build it, and a call refuses what is unsound

-- times that can be added to the clock
pub record Timed (s : State) (now : ℕ) : Type 0 where
  pub t1_high : s.settings.t1 ≤ 172800000
  pub t2_high : s.settings.t2 ≤ 172800000
  pub t3_high : s.settings.t3 ≤ 172800000
  pub now_high : now ≤ 281474976710655

-- U frames and S frames can be written
pub record Calm (s : State) (outLen now : ℕ) : Type 0 where
  pub timed : Timed s now
  pub out_room : 4096 ≤ outLen
  pub recv_high : s.receive.next.0 ≤ 32767
  pub tests_high : s.timers.tests ≤ 3

-- the oldest outstanding send time can be added to
pub record Aged (s : State) (times : List ℕ) : Type 0 where
  pub t1_high : s.settings.t1 ≤ 172800000
  pub first_low : s.window.first < length times
  pub oldest_high : 0 < s.window.held → get_or times s.window.first 0 ≤ 281474976710655

-- one I frame of this size can go out
pub record CanSend (s : State) (places outLen at size : ℕ) : Type 0 where
  pub out_room : at + 6 + size ≤ outLen
  pub size_high : size ≤ 249
  pub held_low : s.window.held < places
  pub first_low : s.window.first < places
  pub places_high : places ≤ 32767
  pub next_high : s.window.next.0 ≤ 32767
  pub recv_high : s.receive.next.0 ≤ 32767

-- the first that waits can go out
pub record CanLetOut (s : State) (places poolLen outLen at : ℕ) : Type 0 where
  pub sends : CanSend s places outLen at (get_or s.queue.lengths s.queue.place 0)
  pub pool_room : 3984 ≤ poolLen
  pub some : 1 ≤ s.queue.count
  pub place_high : s.queue.place ≤ 15

-- the first n that wait can go out
pub record CanFlush (s : State) (n places poolLen outLen : ℕ) : Type 0 where
  pub out_room : 4096 ≤ outLen
  pub pool_room : 3984 ≤ poolLen
  pub n_count : n ≤ s.queue.count
  pub n_high : n ≤ 16
  pub n_window : n + s.window.held ≤ places
  pub first_low : s.window.first < places
  pub places_high : places ≤ 32767
  pub next_high : s.window.next.0 ≤ 32767
  pub recv_high : s.receive.next.0 ≤ 32767
  pub place_high : s.queue.place ≤ 15
  pub lengths_high : (i : ℕ) → i < n → get_or s.queue.lengths ((s.queue.place + i) % 16) 0 ≤ 249

-- what steps use of a call that was not refused under 19 to 24
pub record Open (s : State) (places poolLen outLen now : ℕ) : Type 0 where
  pub calm : Calm s outLen now
  pub pool_room : 3984 ≤ poolLen
  pub p_high : s.settings.p ≤ 16
  pub k_places : s.settings.k ≤ places
  pub places_high : places ≤ 32767
  pub held_k : s.window.held ≤ s.settings.k
  pub count_p : s.queue.count ≤ s.settings.p
  pub first_low : s.window.first < places
  pub next_high : s.window.next.0 ≤ 32767
  pub place_high : s.queue.place ≤ 15
  pub lengths_high : (i : ℕ) → i < s.queue.count → get_or s.queue.lengths ((s.queue.place + i) % 16) 0 ≤ 249
