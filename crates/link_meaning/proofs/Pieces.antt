-- Each piece of an event does to the code's link what it does to the link by totals and lists. Assumes nothing.
use Prim.Native.Nat.{ℕ, zero, suc, ◌+◌, ◌-◌, ◌%◌, ◌*◌, ◌<◌, ◌≤◌}
use mathlib.Core.Path.{◌≡◌, refl, sym, ap, ◌∙◌}
use mathlib.Core.Bool.{Bool, true, false}
use mathlib.Core.List.{List, [], ◌∷◌, ◌++◌}
use native.Mathlib.Omega.{arith}
use lib.ListN.{length, drop, get_or}
use lib.Seq.{sets}
use lib.Dec.{leb, ltb, eqb}
use borrow.Author.Tests.{le-leb, ltb-true, ltb-false, leb-true, leb-false, lt-leb}
use Rattle.laws.specs.Choice.{pick}
use Rattle.std.specs.Prelude as prelude
use Rattle.std.specs.Prelude.{Ok, Err}
use Rattle.elements.specs.declared.refusals.Refusal.{Refusal}
use Rattle.elements.specs.Refusals.{refusal, wrong_receive_number}
use Rattle.link_state.specs.Acknowledging.{confirms, numbers_in_limits, ack_refusal, acknowledged}
use Rattle.link_state.specs.Opening.{unset}
use Rattle.link_state.specs.declared.Settings.{Settings}
use Rattle.link_state.specs.declared.Status.{Status}
use Rattle.link_state.specs.declared.Timers.{Timers}
use Rattle.link_state.specs.declared.State.{State}
use Rattle.link.specs.Frames.{Frame, i_frame, u_with, test_act}
use Rattle.link.specs.Making.{Making, with_queue, with_timers, with_clock, freed_of, sent_of, hand_out, first_waiting, shifted, queued, free_slot, let_out, flushed, room, send_waiting, become, say, confirmed_of, confirm, due, tested_of, tested, ending, shut}
use Rattle.link.specs.Events.{start, release, received}
use Rattle.link_meaning.specs.Abstract.{Abstract, Progress, on_wire, is_open, freed_by, fits, free, count, send_one, queue, timing, test_from, set_unconfirmed, set_timers, set_status, set_clock, settle, ended, begin, change, add, send_out, flush, letting, confirm_all, test_out, must_confirm, finish}
use Rattle.link_meaning.specs.Meaning.{Means}
use Rattle.link_meaning.proofs.Good.{Good, GoodMaking, good_freed, good_let_out}
use Rattle.link_meaning.proofs.Pool.{times_freed, times_handed, waiting_long, waiting_first, waiting_queued}

-- a call in the making: links of the same meaning, the same frames so far
pub record Alike (g : Making) (pool : List ℕ) (p : Progress) : Type 0 where
  pub means : Means g.state g.times pool p.link
  pub frames : g.frames ≡ p.frames

-- ---- the state

module _ (s : State) (times pool : List ℕ) (a : Abstract) (m : Means s times pool a) where
  pub means_freed : (d : ℕ) → d ≤ s.window.held → Means (freed_of s (length times) d) times pool (free d a)
  unfolding freed_of free
  means_freed d h =
      let e = m.held in
      record {
        settings = m.settings;
        next = m.next;
        recv = m.recv;
        held = omega arith;
        send_times_law = times_freed s.window times d h ∙ ap (drop d) m.send_times_law;
        waiting = m.waiting;
        unconfirmed = m.unconfirmed;
        timers = m.timers;
        status = m.status;
        clock = m.clock;
      }

  pub means_received : Means (received s) times pool (count a)
  unfolding received count
  means_received =
      let e = m.recv in
      let u = m.unconfirmed in
      record {
        settings = m.settings;
        next = m.next;
        recv = omega arith;
        held = m.held;
        send_times_law = m.send_times_law;
        waiting = m.waiting;
        unconfirmed = omega arith;
        timers = m.timers;
        status = m.status;
        clock = m.clock;
      }

  -- totals and lists as they are; the count, the timers, the status and the clock as they are told
  means_told : {u v k n : ℕ} {t r : Timers} {x y : Status} → u ≡ v → t ≡ r → x ≡ y → k ≡ n
      → Means (record { queue = s.queue; settings = s.settings; window = s.window; receive = record { next = s.receive.next; unconfirmed = u }; timers = t; status = x; clock = k })
      times pool (set_unconfirmed v (set_timers r (set_status y (set_clock n a))))
  means_told count timers status clock =
      record {
        settings = m.settings;
        next = m.next;
        recv = m.recv;
        held = m.held;
        send_times_law = m.send_times_law;
        waiting = m.waiting;
        unconfirmed = count;
        timers = timers;
        status = status;
        clock = clock;
      }

  -- any timers that are a function of settings and timers
  pub means_timing : (f : Settings → Timers → Timers) → Means (with_timers s (f s.settings s.timers)) times pool (timing f a)
  unfolding timing
  means_timing f =
      let same : f s.settings s.timers ≡ f a.settings a.timers = cc (m.settings, m.timers) in
      means_told m.unconfirmed same m.status m.clock

  pub means_settled : Means (confirmed_of s) times pool (settle a)
  unfolding confirmed_of settle
  means_settled =
      means_told refl (ap (λ (t : Timers). record { t1u = t.t1u; t2 = unset; t3 = t.t3; tests = t.tests }) m.timers) m.status m.clock

  pub means_clock : (now : ℕ) → Means (with_clock s now) times pool (set_clock now a)
  means_clock now = means_told m.unconfirmed m.timers m.status refl

  pub means_shut : (n : ℕ) → Means (shut n s) times pool (ended n a)
  unfolding shut ended
  means_shut n = means_told m.unconfirmed m.timers refl m.clock

  pub means_queued : (x : List ℕ) → s.queue.count < 16 → length s.queue.lengths ≡ 16 → length x ≤ 249 → 3984 ≤ length pool
      → ((i : ℕ) → i < s.queue.count → get_or s.queue.lengths ((s.queue.place + i) % 16) 0 ≤ 249)
      → Means (with_queue s (queued s.queue (length x))) times (sets pool (free_slot s.queue * 249) x) (queue x a)
  unfolding queue
  means_queued x h slots long room lengths =
      record {
        settings = m.settings;
        next = m.next;
        recv = m.recv;
        held = m.held;
        send_times_law = m.send_times_law;
        waiting = waiting_queued s.queue pool x h slots long room lengths ∙ ap (λ (l : List (List ℕ)). l ++ (x ∷ [])) m.waiting;
        unconfirmed = m.unconfirmed;
        timers = m.timers;
        status = m.status;
        clock = m.clock;
      }

  -- as many wait, and the window is as open
  pub means_count : s.queue.count ≡ length a.waiting
  means_count = sym (waiting_long s.queue pool) ∙ ap length m.waiting

  pub means_open : is_open a ≡ ltb s.window.held s.settings.k
  unfolding is_open
  means_open =
      let e = m.held in
      let h : a.sent - a.confirmed ≡ s.window.held = omega arith in
      rw (h, ← m.settings)

  pub means_due : (more : Bool) → due s more ≡ must_confirm a more
  unfolding due must_confirm
  means_due more = rw (m.settings, m.unconfirmed)

  -- a receive number, in totals: what it frees, and whether it is accepted
  pub means_freed_by : (number : ℕ) → s.window.held ≤ 32767 → confirms s.window.next.0 s.window.held number ≡ freed_by number a
  unfolding confirms
  means_freed_by number h =
      let e = m.held in
      let n = m.next in
      let same : (s.window.next.0 + 32768 - s.window.held) % 32768 ≡ a.confirmed % 32768 = omega arith in
      ap (λ (k : ℕ). (number + 32768 - k) % 32768) same

  pub means_acknowledged : (number : ℕ) → s.window.held ≤ 32767 → s.window.next.0 ≤ 32767 → number ≤ 32767
      → acknowledged s.window.next.0 s.window.held number
      ≡ pick {A = prelude.Result ℕ Refusal} (fits number a) (Ok (freed_by number a)) (Err (refusal wrong_receive_number))
  unfolding acknowledged ack_refusal numbers_in_limits fits
  means_acknowledged number h n l =
      rw (le-leb s.window.next.0 32767 n, le-leb s.window.held 32767 h, le-leb number 32767 l, means_freed_by number h)
      (by (leb (a.confirmed + freed_by number a) a.sent) refl)
    where
      by : (b : Bool) → leb (a.confirmed + freed_by number a) a.sent ≡ b
          → pick {A = prelude.Result ℕ Refusal} (eqb (pick (leb (freed_by number a) s.window.held) 0 wrong_receive_number) 0) (Ok (freed_by number a))
          (Err (refusal (pick (leb (freed_by number a) s.window.held) 0 wrong_receive_number)))
          ≡ pick b (Ok (freed_by number a)) (Err (refusal wrong_receive_number))
      by true q =
          let e = m.held in
          let z = leb-true (a.confirmed + freed_by number a) a.sent q in
          rw (le-leb (freed_by number a) s.window.held (omega arith))
      by false q =
          let e = m.held in
          let z = leb-false (a.confirmed + freed_by number a) a.sent q in
          rw (lt-leb (freed_by number a) s.window.held (omega arith))

-- ---- a frame goes out, the timers change, confirming

module _ (pool : List ℕ) where
  pub alike_add : (f : Frame) (g : Making) (p : Progress) → Alike g pool p → Alike (say f g) pool (add f p)
  alike_add f g p h = record { means = h.means; frames = ap (λ (l : List Frame). l ++ (f ∷ [])) h.frames }

  pub alike_timing : (f : Settings → Timers → Timers) (g : Making) (p : Progress) → Alike g pool p
      → Alike (become (λ (s : State). with_timers s (f s.settings s.timers)) g) pool (change (timing f) p)
  alike_timing f g p like = record { means = means_timing g.state g.times pool p.link like.means f; frames = like.frames }

  pub alike_confirm : (g : Making) (p : Progress) → Alike g pool p → Alike (confirm g) pool (confirm_all p)
  unfolding confirm confirm_all
  alike_confirm g p like =
      let m = like.means in
      record {
        means = means_settled g.state g.times pool p.link m;
        frames = cc (like.frames, m.recv);
      }

-- ---- I frames go out

module _ (now : ℕ) (pool : List ℕ) where
  pub alike_hand : (x : List ℕ) (g : Making) (p : Progress) → g.state.window.held < length g.times → Alike g pool p
      → Alike (hand_out now x g) pool (send_out now x p.link.waiting p)
  unfolding hand_out sent_of send_out send_one
  alike_hand x g p h like =
      let m = like.means in
      let e = m.held in
      let n = m.next in
      record {
        means = record {
          settings = m.settings;
          next = omega arith;
          recv = m.recv;
          held = omega arith;
          send_times_law = times_handed g.state.window _ g.times now refl refl h ∙ ap (λ (l : List ℕ). l ++ (now ∷ [])) m.send_times_law;
          waiting = m.waiting;
          unconfirmed = refl;
          timers = m.timers;
          status = m.status;
          clock = m.clock;
        };
        frames = cc (like.frames, m.next, m.recv);
      }

  pub alike_let_out : (x : List ℕ) (xs : List (List ℕ)) (g : Making) (p : Progress) → g.state.window.held < length g.times → g.state.queue.place ≤ 15
      → p.link.waiting ≡ x ∷ xs → Alike g pool p → Alike (let_out now pool g) pool (send_out now x xs p)
  unfolding let_out first_waiting hand_out sent_of send_out send_one
  alike_let_out x xs g p h place e like =
      let w = waiting_first g.state.queue pool x xs place (like.means.waiting ∙ e) in
      let o = alike_hand (first_waiting g.state pool) g p h like in
      let m = o.means in
      record {
        means = record {
          settings = m.settings;
          next = m.next;
          recv = m.recv;
          held = m.held;
          send_times_law = m.send_times_law;
          waiting = w.1;
          unconfirmed = m.unconfirmed;
          timers = m.timers;
          status = m.status;
          clock = m.clock;
        };
        frames = o.frames ∙ ap (λ (y : List ℕ). p.frames ++ (i_frame (on_wire p.link.sent) (on_wire p.link.received) y ∷ [])) w.0;
      }

  -- the first that goes out, then the others
  flushed_first : (n : ℕ) (g : Making) → flushed (suc n) now pool g ≡ flushed n now pool (let_out now pool g)
  unfolding flushed
  flushed_first zero g = refl
  flushed_first (suc n) g = ap (let_out now pool) (flushed_first n g)

  -- "while the window is open" is as often as there is room
  abbrev Flushes : List (List ℕ) → Type 0
  Flushes xs = (g : Making) (p : Progress) → p.link.waiting ≡ xs → GoodMaking g now → Alike g pool p → Alike (flushed (room g.state) now pool g) pool (flush now xs p)

  -- none goes out
  flushes_none : (xs : List (List ℕ)) (g : Making) (p : Progress) → room g.state ≡ 0 → Alike g pool p → Alike (flushed (room g.state) now pool g) pool p
  unfolding flushed
  flushes_none xs g p z like = rw z like

  -- one goes out, and there is room for one less
  room_less : (g : Making) → g.state.window.held < g.state.settings.k → 1 ≤ g.state.queue.count → room g.state ≡ suc (room (let_out now pool g).state)
  unfolding room let_out hand_out sent_of shifted
  room_less g h q = omega arith

  flushes_more : (x : List ℕ) (xs : List (List ℕ)) → Flushes xs → Flushes (x ∷ xs)
  unfolding flush
  flushes_more x xs next g p e good like =
      rw (means_open g.state g.times pool p.link like.means) (by (ltb g.state.window.held g.state.settings.k) refl)
    where
      by : (b : Bool) → ltb g.state.window.held g.state.settings.k ≡ b
          → Alike (flushed (room g.state) now pool g) pool (pick b (flush now xs (send_out now x xs p)) p)
      by true t =
          let h = ltb-true g.state.window.held g.state.settings.k t in
          let c = means_count g.state g.times pool p.link like.means in
          let l = ap length e in
          let places = good.window.places in
          let k = good.settings.k_high in
          let q : 1 ≤ g.state.queue.count = omega arith in
          let o = alike_let_out x xs g p (omega arith) good.queue.place_high e like in
          rw (room_less g h q, flushed_first (room (let_out now pool g).state) g)
          (next (let_out now pool g) (send_out now x xs p) (unfold send_out send_one in refl) (good_let_out now pool g h q good) o)
      by false t =
          let h = ltb-false g.state.window.held g.state.settings.k t in
          flushes_none xs g p (unfold room in (omega arith)) like

  flushes : (xs : List (List ℕ)) → Flushes xs
  unfolding flush room
  flushes [] g p e good like =
      let c = means_count g.state g.times pool p.link like.means in
      let l = ap length e in
      flushes_none [] g p (omega arith) like
  flushes (x ∷ xs) g p e good like = flushes_more x xs (flushes xs) g p e good like

  pub alike_release : (d : ℕ) (s : State) (times : List ℕ) (a : Abstract) → d ≤ s.window.held → Good s times now → Means s times pool a
      → Alike (release d now s times pool) pool (letting d now a)
  unfolding release send_waiting letting free
  alike_release d s times a h good m =
      flushes a.waiting (start (freed_of s (length times) d) times) (begin (free d a)) refl (good_freed s times now d good)
      (record { means = means_freed s times pool a m d h; frames = refl })

  -- ---- testing, the end of a call

  pub alike_tested : (g : Making) (p : Progress) → Alike g pool p → Alike (tested now g) pool (test_out now p)
  unfolding tested tested_of test_out
  alike_tested g p like = alike_timing pool (test_from now) (say (u_with test_act) g) (add (u_with test_act) p) (alike_add pool (u_with test_act) g p like)

  pub alike_finish : (more : Bool) (g : Making) (p : Progress) → Alike g pool p → Alike (ending more now g) pool (finish more now p)
  unfolding ending finish
  alike_finish more g p like = rw (means_due g.state g.times pool p.link like.means more) (by (must_confirm p.link more))
    where
      clocked : Alike (become (λ (s : State). with_clock s now) g) pool (change (set_clock now) p)
      clocked = record { means = means_clock g.state g.times pool p.link like.means now; frames = like.frames }

      by : (b : Bool) → Alike (pick b (confirm (become (λ (s : State). with_clock s now) g)) (become (λ (s : State). with_clock s now) g)) pool
          (pick b (confirm_all (change (set_clock now) p)) (change (set_clock now) p))
      by true = alike_confirm pool _ _ clocked
      by false = clocked
