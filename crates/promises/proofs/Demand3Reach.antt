-- Runs that hand out and have confirmed any number of I frames. Assumes nothing.
use Prim.Native.Nat.{ℕ, zero, suc, ◌+◌, ◌-◌, ◌%◌, ◌≤◌}
use mathlib.Core.Path.{◌≡◌, refl, sym, ap, subst, ◌∙◌}
use mathlib.Core.Bool.{Bool, true, false}
use mathlib.Core.List.{List, [], ◌∷◌, append-nil}
use native.Mathlib.Omega.{arith}
use native.Mathlib.Numerals.{add-one}
use borrow.Author.Tests.{le-leb, le-ltb, lt-ltb}
use lib.ListN.{length, replicate, length-replicate}
use Rattle.laws.specs.Choice.{pick}
use Rattle.laws.specs.Lists.{Octets}
use Rattle.laws.specs.Numbers.{le_octets}
use Rattle.apdu.specs.Writing.{i_octets, s_octets}
use Rattle.link_state.specs.Limits.{sound_settings, call_refusal}
use Rattle.link_state.specs.Opening.{open_refusal, opened}
use Rattle.link_state.specs.declared.Settings.{Settings}
use Rattle.link_state.specs.declared.Status.{Status}
use Rattle.link_state.specs.declared.Link.{Link}
use Rattle.link.specs.Frames.{i_frame, octets_of, wire}
use Rattle.link.specs.Events.{Event, frame, send}
use Rattle.link_meaning.specs.Abstract.{Abstract, Progress, fresh, is_open, freed_by, fits, free, send_one, timing, set_clock, settle, change, send_out, flush, letting, confirm_all, must_confirm, finish, accept, step_s, step_frame, step_plain, step_send, step}
use Rattle.link_meaning.specs.Meaning.{OctetsIn}
use Rattle.link_meaning.specs.Runs as totals
use Rattle.link_meaning.proofs.Runs.{runs_agree}
use Rattle.promises.specs.Demand3.{Call, answered, pool_after, Entry, entry_of, Run, opening, after}
use Rattle.promises.specs.Demand3Runs.{small, first, sending, Reached}
use Rattle.promises.proofs.FrameBack.{s_reads}
use Rattle.promises.proofs.Demand3.{Known, entry_bytes, next, next_link, counted_none}
use Rattle.promises.proofs.Demand3Runs.{goes_on}
use Rattle.promises.proofs.Demand3Shown.{first_plain}

-- n handed out, m confirmed, none came, none waits, and nothing has ended the link
record Idle (n m : ℕ) (a : Abstract) : Type 0 where
  settings : a.settings ≡ small
  sent : a.sent ≡ n
  received : a.received ≡ 0
  confirmed : a.confirmed ≡ m
  waiting : a.waiting ≡ []
  running : a.status.closed ≡ false
  clock : a.clock ≡ 0

-- the end of a call leaves all that but the clock
idle_finish : (n m : ℕ) (more : Bool) (p : Progress) → Idle n m (set_clock 0 p.link) → Idle n m (finish more 0 p).link
unfolding finish
idle_finish n m more p i = by (must_confirm p.link more)
  where
    by : (b : Bool) → Idle n m (pick b (confirm_all (change (set_clock 0) p)) (change (set_clock 0) p)).link
    by true =
        unfold confirm_all settle in
        record { settings = i.settings; sent = i.sent; received = i.received; confirmed = i.confirmed; waiting = i.waiting; running = i.running; clock = i.clock }
    by false = i

module _ (n : ℕ) (a : Abstract) where
  -- an ASDU goes out
  idle_send : Idle n n a → Idle (n + 1) n (step (send first) 0 a).link
  unfolding step step_send step_plain is_open
  idle_send i =
      let k = ap (λ (s : Settings). s.k) i.settings in
      let s = i.sent in
      let c = i.confirmed in
      rw (first_plain, lt-ltb (a.sent - a.confirmed) a.settings.k (omega arith))
      (unfold accept in
      idle_finish (n + 1) n false _
      (unfold send_out send_one in
      record { settings = i.settings; sent = ap (λ (x : ℕ). x + 1) s; received = i.received; confirmed = c; waiting = i.waiting; running = i.running; clock = refl }))

  -- with the remainder of n, and nothing else goes out
  idle_sends : Idle n n a → (step (send first) 0 a).frames ≡ i_frame (n % 32768) 0 first ∷ []
  unfolding step step_send step_plain is_open
  idle_sends i =
      let k = ap (λ (s : Settings). s.k) i.settings in
      let s = i.sent in
      let c = i.confirmed in
      rw (first_plain, lt-ltb (a.sent - a.confirmed) a.settings.k (omega arith))
      (unfold accept finish must_confirm send_out send_one in
      rw (le-ltb a.settings.w 0 (omega arith), i.sent, i.received))

  -- and is confirmed
  abbrev number : ℕ
  number = (n + 1) % 32768

  number_low : number ≤ 32767
  number_low = omega arith

  frees_one : Idle (n + 1) n a → freed_by number a ≡ 1
  frees_one i = let c = i.confirmed in omega arith

  fits_it : Idle (n + 1) n a → fits number a ≡ true
  unfolding fits
  fits_it i = let c = i.confirmed in let s = i.sent in let d = frees_one i in le-leb (a.confirmed + freed_by number a) a.sent (omega arith)

  idle_confirm : Idle (n + 1) n a → Idle (n + 1) (n + 1) (step (frame (s_octets number) false) 0 a).link
  unfolding step step_frame step_s
  idle_confirm i =
      rw (s_reads number number_low, fits_it i)
      (unfold accept in
      idle_finish (n + 1) (n + 1) false _
      (unfold letting timing free in
      rw i.waiting
      (unfold flush in
      record {
        settings = i.settings;
        sent = i.sent;
        received = i.received;
        confirmed = (let c = i.confirmed in let d = frees_one i in omega arith);
        waiting = refl;
        running = i.running;
        clock = refl;
      })))

s_octets_law : (r : ℕ) → Octets (s_octets r)
unfolding s_octets le_octets
s_octets_law r = (omega arith, (omega arith, (omega arith, (omega arith, (omega arith, (omega arith, tt))))))

-- ---- runs

abbrev zeros : List ℕ
zeros = replicate 3984 0

record At (n m : ℕ) : Type 0 where
  past : List Entry
  link : Link
  pool : List ℕ
  run : Run small 0 zeros past link pool
  known : Known small 0 zeros past link pool
  idle : Idle n m known.link

module _ {n m : ℕ} (n' m' : ℕ) (x : At n m) (e : Event) (o : OctetsIn e) (i : Idle n' m' (step e 0 x.known.link).link) where
  abbrev call : Call
  call = record { event = e; output = replicate 4096 0; now = 0 }

  passes : call_refusal x.link (length call.output) (length x.pool) 0 ≡ 0
  passes =
      let g = runs_agree small 0 zeros x.link x.pool x.known.link x.known.run in
      let clock = g.means.clock in
      let at = x.idle.clock in
      goes_on small 0 zeros x.past x.link x.pool x.run
      (omega (arith, length-replicate {A = ℕ} 3984 0))
      (ap (λ (s : Status). s.closed) g.means.status ∙ x.idle.running)
      (length call.output) 0 (omega (arith, length-replicate {A = ℕ} 4096 0)) (omega arith) (omega arith)

  more : At n' m'
  more =
      record {
        past = entry_of call x.link x.pool ∷ x.past;
        link = (answered call x.link x.pool).link;
        pool = pool_after call x.link x.pool;
        run = after x.run call o passes;
        known = next small 0 zeros x.past x.link x.pool x.known call o passes;
        idle = subst (Idle n' m') (sym (next_link small 0 zeros x.past x.link x.pool x.known call o passes)) i;
      }

begins : At 0 0
unfolding open_refusal sound_settings
begins =
    record {
      past = [];
      link = (opened small 0).link;
      pool = zeros;
      run = opening refl;
      known = record { link = fresh small 0; run = totals.opening refl; counted = counted_none small 0 };
      idle = unfold fresh in record { settings = refl; sent = refl; received = refl; confirmed = refl; waiting = refl; running = refl; clock = refl };
    }

one_more : (n : ℕ) → At n n → At (n + 1) (n + 1)
one_more n x =
    let y = more (n + 1) n x (send first) tt (idle_send n x.known.link x.idle) in
    more (n + 1) (n + 1) y (frame (s_octets (number n y.known.link)) false) (s_octets_law (number n y.known.link)) (idle_confirm n y.known.link y.idle)

next_at : (n : ℕ) → At n n → At (suc n) (suc n)
next_at n x = subst (λ (k : ℕ). At k k) (add-one n) (one_more n x)

at_any : (n : ℕ) → At n n
at_any zero = begins
at_any (suc n) = next_at n (at_any n)

sends_next : (n : ℕ) (x : At n n) → (entry_of sending x.link x.pool).handed ≡ i_octets (n % 32768) 0 first
unfolding wire octets_of
sends_next n x =
    let goes = passes (n + 1) n x (send first) tt (idle_send n x.known.link x.idle) in
    entry_bytes small 0 zeros x.past x.link x.pool x.known sending tt goes
    ∙ (ap wire (idle_sends n x.known.link x.idle) ∙ append-nil (i_octets (n % 32768) 0 first))

pub reaches : (n : ℕ) → Reached n
reaches n =
    let x = at_any n in
    record {
      past = x.past;
      link = x.link;
      pool = x.pool;
      run = x.run;
      sent = sym x.known.counted.sent ∙ x.idle.sent;
      confirmed = sym x.known.counted.confirmed ∙ x.idle.confirmed;
      next = sends_next n x;
    }
