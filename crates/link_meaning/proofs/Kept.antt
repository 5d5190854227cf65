-- A sound record stays sound, event by event; so no call on a link handed back untouched is refused under 19. Assumes nothing.
use Prim.Native.Nat.{ℕ, ◌*◌, ◌<◌, ◌≤◌}
use mathlib.Core.Path.{◌≡◌, refl, sym}
use mathlib.Core.Bool.{Bool, true, false, ◌&&◌, ◌||◌, not, false≢true}
use mathlib.Core.List.{List}
use mathlib.Core.Logic.{inl, inr, ⊎_elim}
use native.Mathlib.Omega.{arith}
use lib.ListN.{length}
use lib.Seq.{sets, length-sets}
use lib.Dec.{leb, ltb, eqb}
use borrow.Author.Tests.{leb-false, ltb-true, ltb-false, eqb-true}
use Rattle.laws.specs.Choice.{pick}
use Rattle.laws.proofs.Choices.{passed}
use Rattle.std.specs.Prelude as prelude
use Rattle.std.specs.Prelude.{Ok, Err}
use Rattle.elements.specs.declared.refusals.Refusal.{Refusal}
use Rattle.elements.specs.Refusals as rows
use Rattle.elements.specs.Refusals.{queue_full, wrong_send_number, u_not_answered, too_many_tests, not_plain_form, outside_limits}
use Rattle.asdu.specs.Plain.{plain_answer}
use Rattle.asdu.specs.declared.Form.{Form}
use Rattle.asdu.specs.declared.Form.TheVariants.{Plain, Reserved}
use Rattle.apdu.specs.Control.{u_octet}
use Rattle.apdu.specs.Reading.{frame_answer}
use Rattle.apdu.specs.declared.frame.UFrame.{UFrame}
use Rattle.apdu.specs.declared.frame.Frame as read
use Rattle.apdu.specs.declared.frame.Frame.TheVariants.{I, S, U}
use Rattle.link_state.specs.Limits.{sound_link, call_refusal}
use Rattle.link_state.specs.Opening.{fresh_link, opened, open_refusal}
use Rattle.link_state.specs.Acknowledging.{acknowledged}
use Rattle.link_state.specs.declared.Settings.{Settings}
use Rattle.link_state.specs.declared.State.{State}
use Rattle.link_state.specs.declared.Link.{Link}
use Rattle.link_state.proofs.Sound.{sound_state, opened_sound}
use Rattle.link_state.proofs.Sound as checks
use Rattle.link.specs.Frames.{u_with, stop_act, stop_con, test_act, test_con}
use Rattle.link.specs.Making.{Making, with_clock, with_queue, window_open, hand_out, sent_of, queued, free_slot, set_t3, start_t2, become, say, confirm, confirmed_of, due, tested_of, tested, ending, shut}
use Rattle.link.specs.Events.{Outcome, refusing, closing, accepting, start, release, s_freeing, on_s, received, i_freeing, on_i, tests_answered, stopped, test_acted, test_confirmed, on_u, on_answer, on_frame, send_plain, send_by, on_send, on_stop, too_many, on_test, is_due, t1i_due, tick_refusal, ticked_t2, ticked_t3, ticked, on_tick, Event, frame, send, stop, test, tick, event_outcome, called}
use Rattle.link_meaning.specs.Kept.{Shaped, link_after, Kept, StaysSound, Later, none, then, NeverOutside}
use Rattle.link_meaning.proofs.Good.{Good, GoodMaking, Full, sound_good, good_sound, good_freed, good_hand, good_queued, good_waiting, waiting_full, good_timers, good_t1u, good_t2, good_t3, good_tested, good_confirmed, good_received, good_clock}
use Rattle.asdu.proofs.Passed.{plain_sized}

-- what a call that was not refused under 19 to 24 starts from, at its own clock and at the call's
record Ready (s : State) (times : List ℕ) (now : ℕ) : Type 0 where
  here : Good s times s.clock
  good : Good s times now
  full : Full s
  unconfirmed : s.receive.unconfirmed ≤ 32767

-- ---- ends of a call

kept_pick : (b : Bool) {n : ℕ} {x y : Outcome} → Kept x n → Kept y n → Kept (pick b x y) n
kept_pick true h k = h
kept_pick false h k = k

good_shut : (n : ℕ) (s : State) (times : List ℕ) (c : ℕ) → Good s times c → Good (shut n s) times c
unfolding shut
good_shut n s times c g =
    record { settings = g.settings; window = g.window; queue = g.queue; recv_high = g.recv_high; timers = g.timers; clock_high = g.clock_high }

good_kept : (s : State) (times : List ℕ) (n : ℕ) (pool : List ℕ) (o : Outcome) → link_after o ≡ record { times = times; state = s } → o.pool ≡ pool → length pool ≡ n
    → Good s times s.clock → Full s → s.receive.unconfirmed ≤ 32767 → Kept o n
good_kept s times n pool o e q long g full u =
    record {
      sound = rw e (good_sound s times g full u);
      shaped = rw e (record { times = g.window.places; lengths = g.queue.slots });
      pool = rw q long;
    }

-- a count that is not due is below 32,768
or_right : (a b : Bool) → a || b ≡ false → b ≡ false
or_right true b e = absurd (false≢true (sym e))
or_right false b e = e

not_due : (s : State) (more : Bool) → due s more ≡ false → s.receive.unconfirmed ≤ 32767
unfolding due
not_due s more e = let h = leb-false 32768 s.receive.unconfirmed (or_right (ltb s.settings.w s.receive.unconfirmed && not more) _ e) in omega arith

-- an accepted call that goes on
kept_ending : (came more : Bool) (pool : List ℕ) (n now : ℕ) (g : Making) → length pool ≡ n → GoodMaking g now → Full g.state
    → Kept (accepting came pool (ending more now g)) n
unfolding accepting ending confirm confirmed_of
kept_ending came more pool n now g long good full = by (due g.state more) refl
  where
    by : (b : Bool) → due g.state more ≡ b
        → Kept (accepting came pool (pick b (confirm (become (λ (s : State). with_clock s now) g)) (become (λ (s : State). with_clock s now) g))) n
    by true e =
        let s = with_clock g.state now in
        good_kept (confirmed_of s) g.times n pool _ refl refl long (good_confirmed s g.times now (good_clock g.state g.times now good)) full (omega arith)
    by false e =
        good_kept (with_clock g.state now) g.times n pool _ refl refl long (good_clock g.state g.times now good) full (not_due g.state more e)

-- ---- the events

module _ (s : State) (times pool : List ℕ) (now : ℕ) (r : Ready s times now) where
  kept_refusing : (n : ℕ) → Kept (refusing n s times pool) (length pool)
  unfolding refusing
  kept_refusing n = good_kept s times (length pool) pool _ refl refl refl r.here r.full r.unconfirmed

  kept_closing : (n : ℕ) → Kept (closing n s times pool) (length pool)
  unfolding closing shut
  kept_closing n = good_kept (shut n s) times (length pool) pool _ refl refl refl (good_shut n s times _ r.here) r.full r.unconfirmed

  good_release : (d : ℕ) (t : State) → Good t times now → GoodMaking (release d now t times pool) now
  unfolding release
  good_release d t g = good_waiting now pool _ (good_freed t times now d g)

  release_full : (d : ℕ) (t : State) → Full (release d now t times pool).state
  unfolding release
  release_full d t = waiting_full now pool _

  kept_s : (a : prelude.Result ℕ Refusal) (more : Bool) → Kept (s_freeing a s times pool more now) (length pool)
  unfolding s_freeing
  kept_s (Ok d) more =
      kept_ending false more pool _ now (become (set_t3 now) (release d now s times pool)) refl (good_t3 _ _ now (good_release d s r.good)) (release_full d s)
  kept_s (Err n) more = kept_closing (rows.number n)

  kept_i : (a : prelude.Result ℕ Refusal) (more : Bool) → Kept (i_freeing a s times pool more now) (length pool)
  unfolding i_freeing
  kept_i (Ok d) more =
      let m = release d now (received s) times pool in
      kept_ending true more pool _ now (become (λ (t : State). set_t3 now (start_t2 now t)) m) refl
      (good_t3 _ _ now (good_t2 m.state m.times now (good_release d (received s) (good_received s times now r.good)))) (release_full d (received s))
  kept_i (Err n) more = kept_closing (rows.number n)

  kept_stopped : (g : Making) → g.state ≡ s → g.times ≡ times → Kept (accepting false pool (become (stopped now) g)) (length pool)
  unfolding accepting shut
  kept_stopped g e f =
      rw (e, f)
      (good_kept (stopped now s) times (length pool) pool _ refl refl refl
      (good_shut 0 _ times now (good_clock _ times now (good_t3 s times now r.good))) r.full r.unconfirmed)

  kept_u : (u : UFrame) (more : Bool) → Kept (on_u u s times pool more now) (length pool)
  unfolding on_u test_acted test_confirmed
  kept_u u more =
      let t = r.good.timers in
      let answered : Good (tests_answered s) times now = good_timers s times now r.good _ (record { tests_high = omega arith; deadlines = record { t1u = tt; t2 = t.deadlines.t2; t3 = t.deadlines.t3 } }) in
      kept_pick (eqb (u_octet u) test_act)
      (kept_ending false more pool _ now (become (set_t3 now) (say (u_with test_con) (start s times))) refl (good_t3 s times now r.good) r.full)
      (kept_pick (eqb (u_octet u) test_con)
      (kept_ending false more pool _ now (become (λ (m : State). set_t3 now (tests_answered m)) (start s times)) refl (good_t3 (tests_answered s) times now answered) r.full)
      (kept_pick (eqb (u_octet u) stop_act) (kept_stopped (say (u_with stop_con) (start s times)) refl refl)
      (kept_pick (eqb (u_octet u) stop_con) (kept_stopped (start s times) refl refl) (kept_closing u_not_answered))))

  kept_answer : (a : prelude.Result read.Frame Refusal) (more : Bool) → Kept (on_answer a s times pool more now) (length pool)
  unfolding on_answer on_i on_s
  kept_answer (Ok (I sent number)) more =
      kept_pick (eqb sent.0 s.receive.next.0) (kept_i (acknowledged s.window.next.0 s.window.held number.0) more) (kept_closing wrong_send_number)
  kept_answer (Ok (S number)) more = kept_s (acknowledged s.window.next.0 s.window.held number.0) more
  kept_answer (Ok (U u)) more = kept_u u more
  kept_answer (Err n) more = kept_closing (rows.number n)

  -- with the window open nothing waits, else it is full
  kept_plain : (asdu : List ℕ) → 6 ≤ length asdu → length asdu ≤ 249 → Kept (send_plain asdu s times pool now) (length pool)
  unfolding send_plain window_open
  kept_plain asdu low high = by (ltb s.window.held s.settings.k) refl (leb s.settings.p s.queue.count) refl
    where
      alone : s.window.held < s.settings.k → Full (hand_out now asdu (start s times)).state
      alone h = unfold hand_out sent_of in ⊎_elim (λ q. inl q) (λ q. absurd (omega arith)) r.full

      by : (a : Bool) → ltb s.window.held s.settings.k ≡ a → (b : Bool) → leb s.settings.p s.queue.count ≡ b
          → Kept (pick a (accepting false pool (ending false now (hand_out now asdu (start s times))))
          (pick b (refusing queue_full s times pool)
          (accepting false (sets pool (free_slot s.queue * 249) asdu)
          (ending false now (start (with_queue s (queued s.queue (length asdu))) times))))) (length pool)
      by true e b f =
          let h = ltb-true _ _ e in
          kept_ending false false pool _ now (hand_out now asdu (start s times)) refl (good_hand now asdu (start s times) h r.good) (alone h)
      by false e true f = kept_refusing queue_full
      by false e false f =
          let g = r.good in
          let q = good_queued s.settings.p s.queue (length asdu) g.settings.p_high (leb-false _ _ f) low high g.queue in
          kept_ending false false (sets pool (free_slot s.queue * 249) asdu) _ now (start (with_queue s (queued s.queue (length asdu))) times)
          (length-sets pool _ asdu)
          (record { settings = g.settings; window = g.window; queue = q; recv_high = g.recv_high; timers = g.timers; clock_high = g.clock_high })
          (inr (ltb-false _ _ e))

  kept_send : (asdu : List ℕ) (a : prelude.Result Form Refusal) → plain_answer asdu ≡ a → Kept (send_by a asdu s times pool now) (length pool)
  unfolding send_by
  kept_send asdu (Ok Plain) e = let h = plain_sized asdu e in kept_plain asdu h.0 h.1
  kept_send asdu (Ok Reserved) e = kept_refusing not_plain_form
  kept_send asdu (Err n) e = kept_refusing (rows.number n)

  kept_stop : Kept (on_stop s times pool now) (length pool)
  unfolding on_stop confirm confirmed_of
  kept_stop = kept_ending false false pool _ now _ refl (good_t1u (confirmed_of s) times now (good_confirmed s times now r.good)) r.full

  -- a test that may go out
  few : too_many s ≡ false → s.timers.tests ≤ 2
  unfolding too_many
  few e = ltb-false _ _ e

  kept_test : Kept (on_test s times pool now) (length pool)
  unfolding on_test tested tested_of
  kept_test = by (too_many s) refl
    where
      by : (b : Bool) → too_many s ≡ b → Kept (pick b (closing too_many_tests s times pool) (accepting false pool (ending false now (tested now (start s times))))) (length pool)
      by true e = kept_closing too_many_tests
      by false e = kept_ending false false pool _ now _ refl (good_tested s times now r.good (few e)) r.full

  -- the two steps of a tick
  ticked_t2_law : (b : Bool) → (GoodMaking (pick b (confirm (start s times)) (start s times)) now)
      × (Full (pick b (confirm (start s times)) (start s times)).state)
      × ((pick b (confirm (start s times)) (start s times)).state.timers.tests ≡ s.timers.tests)
  unfolding confirm confirmed_of
  ticked_t2_law true = (good_confirmed s times now r.good, r.full, refl)
  ticked_t2_law false = (r.good, r.full, refl)

  ticked_t3_law : (b : Bool) (g : Making) → (b ≡ true → g.state.timers.tests ≤ 2) → GoodMaking g now → Full g.state
      → Kept (accepting false pool (ending false now (pick b (tested now g) g))) (length pool)
  unfolding tested tested_of
  ticked_t3_law true g few good full = kept_ending false false pool _ now (tested now g) refl (good_tested g.state g.times now good (few refl)) full
  ticked_t3_law false g few good full = kept_ending false false pool _ now g refl good full

  not_both : (a b : Bool) → a && b ≡ false → a ≡ true → b ≡ false
  not_both true b e f = e
  not_both false b e f = absurd (false≢true f)

  tick_tests : tick_refusal s times now ≡ 0 → is_due s.timers.t3 now ≡ true → s.timers.tests ≤ 2
  unfolding tick_refusal
  tick_tests e =
      let u = passed (is_due s.timers.t1u now) 29 _ e in
      let i = passed (t1i_due s times now) 30 _ u.1 in
      let t = passed (is_due s.timers.t3 now && too_many s) 31 0 i.1 in
      λ d. few (not_both _ _ t.0 d)

  kept_tick : Kept (on_tick s times pool now) (length pool)
  unfolding on_tick ticked ticked_t2 ticked_t3
  kept_tick = by (eqb (tick_refusal s times now) 0) refl
    where
      by : (b : Bool) → eqb (tick_refusal s times now) 0 ≡ b
          → Kept (pick b (accepting false pool (ending false now (ticked s times now))) (closing (tick_refusal s times now) s times pool)) (length pool)
      by true e =
          let t = ticked_t2_law (is_due s.timers.t2 now) in
          let tests = t.2 in
          let due3 = tick_tests (eqb-true _ _ e) in
          ticked_t3_law (is_due s.timers.t3 now) (ticked_t2 now (start s times)) (λ d. let h = due3 d in omega arith) t.0 t.1
      by false e = kept_closing (tick_refusal s times now)

  kept_event : (e : Event) → Kept (event_outcome e s times pool now) (length pool)
  unfolding event_outcome on_frame on_send
  kept_event (frame f more) = kept_answer (frame_answer f) more
  kept_event (send asdu) = kept_send asdu (plain_answer asdu) refl
  kept_event stop = kept_stop
  kept_event test = kept_test
  kept_event tick = kept_tick

-- ---- a call

ready : (l : Link) (output pool now : ℕ) → Shaped l → call_refusal l output pool now ≡ 0 → Ready l.state l.times now
ready l output pool now shaped e =
    let p = checks.passed l output pool now e in
    let s = sound_state l p.sound in
    record {
      here = sound_good l l.state.clock shaped.times shaped.lengths p.sound (omega arith) s.clock_high;
      good = sound_good l now shaped.times shaped.lengths p.sound p.clock p.now_high;
      full = s.full;
      unconfirmed = s.unconfirmed_high;
    }

pub stays_sound : StaysSound
unfolding called refusing
stays_sound e l pool output now shaped sound = by (eqb (call_refusal l output (length pool) now) 0) refl
  where
    by : (b : Bool) → eqb (call_refusal l output (length pool) now) 0 ≡ b
        → Kept (pick b (event_outcome e l.state l.times pool now) (refusing (call_refusal l output (length pool) now) l.state l.times pool)) (length pool)
    by true c = kept_event l.state l.times pool now (ready l output (length pool) now shaped (eqb-true _ _ c)) e
    by false c = record { sound = sound; shaped = shaped; pool = refl }

-- ---- any calls after opening

later : (l : Link) (pool : List ℕ) (m : Link) (between : List ℕ) → Shaped l → sound_link l ≡ true → Later l pool m between → (Shaped m) × (sound_link m ≡ true)
later l pool m between a e none = (a, e)
later l pool m between a e (then {m = n} {between = q} before c) =
    let i = later l pool n q a e before in
    let k = stays_sound c.event n q c.output c.now i.0 i.1 in
    (k.shaped, k.sound)

-- one refusal of a row is not 19, and neither are those after it
pick_not : (b : Bool) (n x : ℕ) → (n ≡ outside_limits → ⊥) → (x ≡ outside_limits → ⊥) → pick b n x ≡ outside_limits → ⊥
pick_not true n x h k = h
pick_not false n x h k = k

inside : (l : Link) (output pool now : ℕ) → sound_link l ≡ true → call_refusal l output pool now ≡ outside_limits → ⊥
unfolding call_refusal
inside l output pool now e h =
    pick_not l.state.status.closed 20 _ (λ q. omega arith)
    (pick_not (ltb output 4096) 23 _ (λ q. omega arith)
    (pick_not (ltb pool 3984) 24 _ (λ q. omega arith)
    (pick_not (ltb 281474976710655 now) 22 _ (λ q. omega arith) (pick_not (ltb now l.state.clock) 21 0 (λ q. omega arith) (λ q. omega arith)))))
    (rw e at h)

pub shaped_fresh : (s : Settings) (now : ℕ) → open_refusal s now ≡ 0 → Shaped (opened s now).link
unfolding opened fresh_link
shaped_fresh s now e = rw e (record { times = refl; lengths = refl })

pub never_outside : NeverOutside
never_outside s start pool m between output now e run h =
    let k = later (opened s start).link pool m between (shaped_fresh s start e) (opened_sound s start e) run in
    inside m output (length between) now k.1 h
