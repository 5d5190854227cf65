-- Each step of an event keeps the record within the limits of refusal 19, at the call's clock. Assumes nothing.
use Prim.Native.Nat.{ℕ, zero, suc, ◌+◌, ◌-◌, ◌%◌, ◌<◌, ◌≤◌, min}
use mathlib.Core.Path.{◌≡◌, refl, ap}
use mathlib.Core.Bool.{true}
use mathlib.Core.List.{List}
use mathlib.Core.Logic.{◌⊎◌, inl, inr}
use native.Mathlib.Omega.{arith}
use native.Mathlib.Decide.{dec_lt}
use lib.ListN.{length, get_or, length-set}
use lib.Seq.{get_or-set_same, get_or-set_other}
use Rattle.std.proofs.Common.{Option, None, Some}
use Rattle.std.specs.Option.{option_or}
use Rattle.laws.proofs.Lists.{mod_add, mod_apart}
use Rattle.link_state.specs.Limits.{sound_link}
use Rattle.link_state.specs.Opening.{set_for}
use Rattle.link_state.specs.declared.Settings.{Settings}
use Rattle.link_state.specs.declared.Window.{Window}
use Rattle.link_state.specs.declared.Queue.{Queue}
use Rattle.link_state.specs.declared.Timers.{Timers}
use Rattle.link_state.specs.declared.State.{State}
use Rattle.link_state.specs.declared.Link.{Link}
use Rattle.link_state.proofs.Sound.{Sound, Lengths, InTime, Deadlines, sound_state, sound_lengths_law, sound_times_law, sound_deadlines, sound_link_law}
use Rattle.link.specs.Making.{Making, with_timers, with_clock, freed_of, sent_of, hand_out, first_waiting, shifted, queued, free_slot, let_out, flushed, room, send_waiting, set_t1u, set_t3, start_t2, confirmed_of, tested_of}
use Rattle.link.specs.Events.{received}

-- ---- the limits, group by group

pub record GoodSettings (s : Settings) : Type 0 where
  pub k_low : 1 ≤ s.k
  pub k_high : s.k ≤ 32
  pub w_low : 1 ≤ s.w
  pub w_high : s.w ≤ 32767
  pub p_low : 1 ≤ s.p
  pub p_high : s.p ≤ 16
  pub t1_low : 1 ≤ s.t1
  pub t1_high : s.t1 ≤ 172800000
  pub t2_low : 1 ≤ s.t2
  pub t2_high : s.t2 ≤ 172800000
  pub t3_low : 1 ≤ s.t3
  pub t3_high : s.t3 ≤ 172800000

-- the send times are at most the clock
pub record GoodWindow (k : ℕ) (w : Window) (times : List ℕ) (clock : ℕ) : Type 0 where
  pub held_k : w.held ≤ k
  pub first_high : w.first ≤ 31
  pub next_high : w.next.0 ≤ 32767
  pub places : length times ≡ 32
  pub sent : (i : ℕ) → i < w.held → get_or times ((w.first + i) % 32) 0 ≤ clock

pub record GoodQueue (p : ℕ) (q : Queue) : Type 0 where
  pub count_p : q.count ≤ p
  pub place_high : q.place ≤ 15
  pub slots : length q.lengths ≡ 16
  pub lengths : Lengths q

pub record GoodTimers (t : Timers) (clock : ℕ) : Type 0 where
  pub tests_high : t.tests ≤ 3
  pub deadlines : Deadlines t clock

-- all but two: that nothing waits with the window open, and the limit of the unconfirmed count, which a call may pass on its way
pub record Good (s : State) (times : List ℕ) (clock : ℕ) : Type 0 where
  pub settings : GoodSettings s.settings
  pub window : GoodWindow s.settings.k s.window times clock
  pub queue : GoodQueue s.settings.p s.queue
  pub recv_high : s.receive.next.0 ≤ 32767
  pub timers : GoodTimers s.timers clock
  pub clock_high : clock ≤ 281474976710655

-- nothing waits, or the window is full
abbrev pub Full : State → Type 0
Full s = (s.queue.count ≡ 0) ⊎ (s.settings.k ≤ s.window.held)

abbrev pub GoodMaking : Making → ℕ → Type 0
GoodMaking g clock = Good g.state g.times clock

-- ---- there and back

later : (d : Option ℕ) (a b : ℕ) → a ≤ b → InTime d a → InTime d b
later None a b h t = tt
later (Some at) a b h t = omega arith

-- a sound link at a later clock
pub sound_good : (l : Link) (now : ℕ) → length l.times ≡ 32 → length l.state.queue.lengths ≡ 16 → sound_link l ≡ true
    → l.state.clock ≤ now → now ≤ 281474976710655 → Good l.state l.times now
sound_good l now places slots e h high =
    let s = sound_state l e in
    let t = sound_times_law l e in
    let d = sound_deadlines l e in
    record {
      settings = omega arith;
      window = record { held_k = s.held_k; first_high = s.first_high; next_high = s.next_high; places = places; sent = λ i q. let u = t i q in omega arith };
      queue = record { count_p = s.count_p; place_high = s.place_high; slots = slots; lengths = sound_lengths_law l e };
      recv_high = s.recv_high;
      timers = record {
        tests_high = s.tests_high;
        deadlines = record { t1u = later _ _ _ h d.t1u; t2 = later _ _ _ h d.t2; t3 = later _ _ _ h d.t3 };
      };
      clock_high = high;
    }

sound_counts_of : (s : State) (times : List ℕ) → Good s times s.clock → Full s → s.receive.unconfirmed ≤ 32767 → Sound s
sound_counts_of s times g full u =
    let a = g.settings in
    let w = g.window in
    let q = g.queue in
    let t = g.timers in
    record {
      k_low = a.k_low;
      k_high = a.k_high;
      w_low = a.w_low;
      w_high = a.w_high;
      p_low = a.p_low;
      p_high = a.p_high;
      t1_low = a.t1_low;
      t1_high = a.t1_high;
      t2_low = a.t2_low;
      t2_high = a.t2_high;
      t3_low = a.t3_low;
      t3_high = a.t3_high;
      held_k = w.held_k;
      count_p = q.count_p;
      full = full;
      next_high = w.next_high;
      recv_high = g.recv_high;
      unconfirmed_high = u;
      first_high = w.first_high;
      place_high = q.place_high;
      tests_high = t.tests_high;
      clock_high = g.clock_high;
    }

pub good_sound : (s : State) (times : List ℕ) → Good s times s.clock → Full s → s.receive.unconfirmed ≤ 32767
    → sound_link (record { times = times; state = s }) ≡ true
good_sound s times g full u =
    sound_link_law (record { times = times; state = s }) (sound_counts_of s times g full u) g.queue.lengths g.window.sent g.timers.deadlines

-- ---- the window

pub good_freed : (s : State) (times : List ℕ) (c d : ℕ) → Good s times c → Good (freed_of s (length times) d) times c
unfolding freed_of
good_freed s times c d g =
    let w = g.window in
    rw w.places
    (record {
      settings = g.settings;
      window = record {
        held_k = omega arith;
        first_high = omega arith;
        next_high = w.next_high;
        places = w.places;
        sent = λ i q. rw (mod_add s.window.first d i 32) (w.sent (d + i) (omega arith));
      };
      queue = g.queue;
      recv_high = g.recv_high;
      timers = g.timers;
      clock_high = g.clock_high;
    })

pub good_hand : (now : ℕ) (asdu : List ℕ) (g : Making) → g.state.window.held < g.state.settings.k → GoodMaking g now
    → GoodMaking (hand_out now asdu g) now
unfolding hand_out sent_of
good_hand now asdu g h good =
    let w = good.window in
    let a = good.settings in
    let s = g.state in
    let last = (s.window.first + s.window.held) % 32 in
    rw w.places
    (record {
      settings = good.settings;
      window = record {
        held_k = omega arith;
        first_high = w.first_high;
        next_high = omega arith;
        places = simp length-set w.places;
        sent = λ i q.
            elim (dec_lt i s.window.held) [
              | yes y ↦
                  let apart = mod_apart s.window.first i s.window.held 32 y (omega arith) in
                  rw (get_or-set_other g.times last _ now 0 apart) (w.sent i y)
              | no y ↦
                  let z : i ≡ s.window.held = omega arith in
                  rw (z, get_or-set_same g.times last now 0 (omega arith)) (omega arith)
            ];
      };
      queue = good.queue;
      recv_high = good.recv_high;
      timers = good.timers;
      clock_high = good.clock_high;
    })

-- ---- what waits

good_shifted : (p : ℕ) (q : Queue) → 1 ≤ q.count → GoodQueue p q → GoodQueue p (shifted q)
unfolding shifted
good_shifted p q h g =
    record {
      count_p = omega arith;
      place_high = omega arith;
      slots = g.slots;
      lengths = λ i l. rw (mod_add q.place 1 i 16) (g.lengths (1 + i) (omega arith));
    }

pub good_queued : (p : ℕ) (q : Queue) (n : ℕ) → p ≤ 16 → q.count < p → 6 ≤ n → n ≤ 249 → GoodQueue p q → GoodQueue p (queued q n)
unfolding queued
good_queued p q n high h low most g =
    record {
      count_p = omega arith;
      place_high = g.place_high;
      slots = simp length-set g.slots;
      lengths = λ i l.
          elim (dec_lt i q.count) [
            | yes y ↦
                let apart = mod_apart q.place i q.count 16 y (omega arith) in
                rw (get_or-set_other q.lengths (free_slot q) _ n 0 apart) (g.lengths i y)
            | no y ↦
                let z : i ≡ q.count = omega arith in
                let s = g.slots in
                rw (z, get_or-set_same q.lengths (free_slot q) n 0 (omega arith)) (low, most)
          ];
    }

pub good_let_out : (now : ℕ) (pool : List ℕ) (g : Making) → g.state.window.held < g.state.settings.k → 1 ≤ g.state.queue.count → GoodMaking g now
    → GoodMaking (let_out now pool g) now
unfolding let_out hand_out sent_of
good_let_out now pool g h n good =
    let o = good_hand now (first_waiting g.state pool) g h good in
    record {
      settings = o.settings;
      window = o.window;
      queue = good_shifted _ g.state.queue n good.queue;
      recv_high = o.recv_high;
      timers = o.timers;
      clock_high = o.clock_high;
    }

-- n that went out: the settings as they were, n more outstanding, n fewer waiting
pub record Moved (n : ℕ) (s t : State) : Type 0 where
  pub settings : t.settings ≡ s.settings
  pub held : t.window.held ≡ s.window.held + n
  pub count : t.queue.count ≡ s.queue.count - n

pub moved : (n now : ℕ) (pool : List ℕ) (g : Making) → Moved n g.state (flushed n now pool g).state
unfolding flushed let_out hand_out sent_of shifted
moved zero now pool g = record { settings = refl; held = omega arith; count = omega arith }
moved (suc n) now pool g =
    let m = moved n now pool g in
    record { settings = m.settings; held = omega arith; count = omega arith }

good_flushed : (n now : ℕ) (pool : List ℕ) (g : Making) → n + g.state.window.held ≤ g.state.settings.k → n ≤ g.state.queue.count → GoodMaking g now
    → GoodMaking (flushed n now pool g) now
unfolding flushed
good_flushed zero now pool g h q good = good
good_flushed (suc n) now pool g h q good =
    let m = moved n now pool g in
    let k = ap (λ (x : Settings). x.k) m.settings in
    good_let_out now pool (flushed n now pool g) (omega arith) (omega arith) (good_flushed n now pool g (omega arith) (omega arith) good)

-- what waits goes out, and then nothing waits with the window open
pub good_waiting : (now : ℕ) (pool : List ℕ) (g : Making) → GoodMaking g now → GoodMaking (send_waiting now pool g) now
unfolding send_waiting room
good_waiting now pool g good =
    let w = good.window in
    good_flushed _ now pool g (omega arith) (omega arith) good

pub waiting_full : (now : ℕ) (pool : List ℕ) (g : Making) → Full (send_waiting now pool g).state
unfolding send_waiting room
waiting_full now pool g =
    let s = g.state in
    let n = min s.queue.count (s.settings.k - s.window.held) in
    let m = moved n now pool g in
    let k = ap (λ (x : Settings). x.k) m.settings in
    elim (dec_lt (s.settings.k - s.window.held) s.queue.count) [
      | yes y ↦ inr (omega arith)
      | no y ↦ inl (omega arith)
    ]

-- ---- timers, and what comes in

module _ (s : State) (times : List ℕ) (c : ℕ) (g : Good s times c) where
  pub good_timers : (t : Timers) → GoodTimers t c → Good (with_timers s t) times c
  good_timers t h =
      record { settings = g.settings; window = g.window; queue = g.queue; recv_high = g.recv_high; timers = h; clock_high = g.clock_high }

  pub good_t1u : Good (set_t1u c s) times c
  good_t1u =
      let d = g.timers.deadlines in
      let a = g.settings in
      good_timers _ (record { tests_high = g.timers.tests_high; deadlines = record { t1u = omega arith; t2 = d.t2; t3 = d.t3 } })

  pub good_t3 : Good (set_t3 c s) times c
  good_t3 =
      let d = g.timers.deadlines in
      let a = g.settings in
      good_timers _ (record { tests_high = g.timers.tests_high; deadlines = record { t1u = d.t1u; t2 = d.t2; t3 = omega arith } })

  pub good_t2 : Good (start_t2 c s) times c
  good_t2 =
      let d = g.timers.deadlines in
      good_timers _ (record { tests_high = g.timers.tests_high; deadlines = record { t1u = d.t1u; t2 = either s.timers.t2 d.t2; t3 = d.t3 } })
    where
      either : (d : Option ℕ) → InTime d c → InTime (option_or d (set_for (c + s.settings.t2))) c
      either None h = let a = g.settings in omega arith
      either (Some at) h = h

  pub good_tested : s.timers.tests ≤ 2 → Good (tested_of c s) times c
  unfolding tested_of
  good_tested h =
      let d = g.timers.deadlines in
      let a = g.settings in
      good_timers _ (record { tests_high = omega arith; deadlines = record { t1u = omega arith; t2 = d.t2; t3 = omega arith } })

  pub good_confirmed : Good (confirmed_of s) times c
  unfolding confirmed_of
  good_confirmed =
      let d = g.timers.deadlines in
      record {
        settings = g.settings;
        window = g.window;
        queue = g.queue;
        recv_high = g.recv_high;
        timers = record { tests_high = g.timers.tests_high; deadlines = record { t1u = d.t1u; t2 = tt; t3 = d.t3 } };
        clock_high = g.clock_high;
      }

  pub good_received : Good (received s) times c
  unfolding received
  good_received = record { settings = g.settings; window = g.window; queue = g.queue; recv_high = omega arith; timers = g.timers; clock_high = g.clock_high }

  pub good_clock : Good (with_clock s c) times c
  good_clock = record { settings = g.settings; window = g.window; queue = g.queue; recv_high = g.recv_high; timers = g.timers; clock_high = g.clock_high }
