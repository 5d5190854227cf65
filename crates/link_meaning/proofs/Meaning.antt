-- The code's link and the link by totals and lists do the same, event by event. Assumes nothing.
use Prim.Native.Nat.{ℕ, zero, suc, ◌+◌, ◌%◌, ◌<◌, ◌≤◌}
use mathlib.Core.Path.{◌≡◌, refl, sym, ap, ◌∙◌}
use mathlib.Core.Bool.{Bool, true, false, ◌&&◌, false≢true}
use mathlib.Core.List.{List}
use native.Mathlib.Omega.{arith}
use native.Mathlib.Nat.{add-zero, mod-eq_of_lt}
use lib.ListN.{length, get_or}
use lib.Dec.{leb, ltb, eqb}
use borrow.Author.Tests.{leb-true, leb-false, lt-ltb, ltb-true, eq-eqb}
use Rattle.laws.specs.Choice.{pick}
use Rattle.laws.specs.Lists.{tabulate, ring}
use Rattle.std.specs.Prelude as prelude
use Rattle.std.specs.Prelude.{Ok, Err}
use Rattle.elements.specs.declared.refusals.Refusal.{Refusal}
use Rattle.elements.specs.Refusals as rows
use Rattle.elements.specs.Refusals.{refusal, queue_full, not_plain_form, wrong_receive_number, wrong_send_number, u_not_answered, too_many_tests}
use Rattle.asdu.specs.Plain.{plain_answer}
use Rattle.asdu.specs.declared.Form.{Form}
use Rattle.asdu.specs.declared.Form.TheVariants.{Plain, Reserved}
use Rattle.apdu.specs.Control.{u_octet}
use Rattle.apdu.specs.Reading.{frame_answer}
use Rattle.apdu.specs.declared.frame.UFrame.{UFrame}
use Rattle.apdu.specs.declared.frame.Frame as read
use Rattle.apdu.specs.declared.frame.Frame.TheVariants.{I, S, U}
use Rattle.apdu.proofs.Shapes.{number_in, number_low}
use Rattle.link_state.specs.Acknowledging.{acknowledged}
use Rattle.link_state.specs.Opening.{fresh_link, opened}
use Rattle.link_state.specs.declared.Timers.{Timers}
use Rattle.link_state.specs.declared.State.{State}
use Rattle.link_state.proofs.Sound.{passed}
use Rattle.link.specs.Frames.{u_with, stop_act, stop_con, test_act, test_con}
use Rattle.link.specs.Making.{Making, window_open, become, ending}
use Rattle.link.specs.Events.{Outcome, refusing, closing, accepting, start, s_freeing, on_s, received, i_freeing, on_i, stopped, test_acted, test_confirmed, on_u, on_answer, on_frame, send_plain, send_by, on_send, on_stop, too_many, on_test, is_due, t1i_due, tick_refusal, ticked_t2, ticked_t3, ticked, on_tick, Event, frame, send, stop, test, tick, event_outcome, called}
use Rattle.link_meaning.specs.Abstract.{Abstract, Progress, Result, freed_by, fits, count, timing, t1u_from, t2_from, t3_from, test_answered, begin, change, letting, finish, accept, refuse, close, step_s, step_i, stop_link, step_u, step_frame, step_plain, step_send, step_stop, many_open, step_test, oldest_due, tick_number, tick_t2, tick_t3, step_tick, fresh, step}
use Rattle.link_meaning.specs.Meaning.{times_of, waiting_of, Means, SameOutcome, OctetsIn, OpensFresh, StepsAlike}
use Rattle.link_meaning.proofs.Good.{Good, sound_good, good_received}
use Rattle.asdu.proofs.Passed.{plain_sized}
use Rattle.link_meaning.proofs.Pieces.{Alike, means_received, means_timing, means_clock, means_shut, means_queued, means_count, means_open, means_acknowledged, alike_add, alike_hand, alike_release, alike_confirm, alike_timing, alike_tested, alike_finish}

-- ---- choices by the same test

same_pick : (b c : Bool) {o q : Outcome} {r t : Result} → b ≡ c → (b ≡ true → SameOutcome o r) → (b ≡ false → SameOutcome q t) → SameOutcome (pick b o q) (pick c r t)
same_pick true true e f g = f refl
same_pick true false e f g = absurd (false≢true (sym e))
same_pick false true e f g = absurd (false≢true e)
same_pick false false e f g = g refl

alike_pick : (b c : Bool) (pool : List ℕ) {g h : Making} {p q : Progress} → b ≡ c → Alike g pool p → Alike h pool q → Alike (pick b g h) pool (pick c p q)
alike_pick true true pool e x y = x
alike_pick true false pool e x y = absurd (false≢true (sym e))
alike_pick false true pool e x y = absurd (false≢true e)
alike_pick false false pool e x y = y

-- the oldest of a ring is due
oldest : (f : ℕ → ℕ) (m p n t1 now : ℕ) → p < m → (ltb 0 n && leb (f p + t1) now) ≡ oldest_due (ring f m p n) t1 now
unfolding ring tabulate
oldest f m p zero t1 now h = refl
oldest f m p (suc n) t1 now h =
    rw (lt-ltb 0 (suc n) (omega arith)) (ap (λ (k : ℕ). leb (f k + t1) now) (sym (ap (λ (k : ℕ). k % m) (add-zero p) ∙ mod-eq_of_lt h)))

-- ---- ends of a call

same_accept : (came : Bool) (pool : List ℕ) (g : Making) (p : Progress) → Alike g pool p → SameOutcome (accepting came pool g) (accept came p)
unfolding accepting accept
same_accept came pool g p like = record { refused = refl; frames = like.frames; came = refl; means = like.means }

module _ (s : State) (times pool : List ℕ) (now : ℕ) (a : Abstract) (good : Good s times now) (room : 3984 ≤ length pool) (m : Means s times pool a) where
  begins : Alike (start s times) pool (begin a)
  begins = record { means = m; frames = refl }

  same_refuse : (n : ℕ) → SameOutcome (refusing n s times pool) (refuse n a)
  unfolding refusing refuse
  same_refuse n = record { refused = refl; frames = refl; came = refl; means = m }

  same_close : (n : ℕ) → SameOutcome (closing n s times pool) (close n a)
  unfolding closing close
  same_close n = record { refused = refl; frames = refl; came = refl; means = means_shut s times pool a m n }

  same_end : (came more : Bool) (g : Making) (p : Progress) → Alike g pool p → SameOutcome (accepting came pool (ending more now g)) (accept came (finish more now p))
  same_end came more g p like = same_accept came pool _ _ (alike_finish now pool more g p like)

  -- ---- frames

  acknowledges : (number : ℕ) → number ≤ 32767 → acknowledged s.window.next.0 s.window.held number
      ≡ pick {A = prelude.Result ℕ Refusal} (fits number a) (Ok (freed_by number a)) (Err (refusal wrong_receive_number))
  acknowledges number h =
      let w = good.window in
      let k = good.settings.k_high in
      means_acknowledged s times pool a m number (omega arith) w.next_high h

  within : (number : ℕ) → fits number a ≡ true → freed_by number a ≤ s.window.held
  unfolding fits
  within number e =
      let h = m.held in
      let l = leb-true (a.confirmed + freed_by number a) a.sent e in
      omega arith

  same_s : (number : ℕ) (more : Bool) → number ≤ 32767 → SameOutcome (on_s number s times pool more now) (step_s number more now a)
  unfolding on_s step_s refusal
  same_s number more h = rw (acknowledges number h) (by (fits number a) refl)
    where
      by : (b : Bool) → fits number a ≡ b
          → SameOutcome (s_freeing (pick {A = prelude.Result ℕ Refusal} b (Ok (freed_by number a)) (Err (refusal wrong_receive_number))) s times pool more now)
          (pick b (accept false (finish more now (change (timing (t3_from now)) (letting (freed_by number a) now a)))) (close wrong_receive_number a))
      by true e =
          unfold s_freeing in
          same_end false more _ _ (alike_timing pool (t3_from now) _ _ (alike_release now pool (freed_by number a) s times a (within number e) good m))
      by false e = unfold s_freeing in same_close wrong_receive_number

  same_i : (sent number : ℕ) (more : Bool) → number ≤ 32767 → SameOutcome (on_i sent number s times pool more now) (step_i sent number more now a)
  unfolding on_i step_i refusal
  same_i sent number more h =
      same_pick (eqb sent s.receive.next.0) (eqb sent (a.received % 32768)) (ap (eqb sent) m.recv)
      (λ t. rw (acknowledges number h) (by (fits number a) refl))
      (λ t. same_close wrong_send_number)
    where
      by : (b : Bool) → fits number a ≡ b
          → SameOutcome (i_freeing (pick {A = prelude.Result ℕ Refusal} b (Ok (freed_by number a)) (Err (refusal wrong_receive_number))) s times pool more now)
          (pick b
          (accept true (finish more now (change (timing (t3_from now)) (change (timing (t2_from now)) (letting (freed_by number a) now (count a))))))
          (close wrong_receive_number a))
      by true e =
          unfold i_freeing in
          same_end true more _ _
          (alike_timing pool (t3_from now) _ _
          (alike_timing pool (t2_from now) _ _
          (alike_release now pool (freed_by number a) (received s) times (count a) (unfold received in within number e) (good_received s times now good) (means_received s times pool a m))))
      by false e = unfold i_freeing in same_close wrong_receive_number

  same_stopped : (g : Making) (p : Progress) → Alike g pool p → SameOutcome (accepting false pool (become (stopped now) g)) (accept false (change (stop_link now) p))
  same_stopped g p like =
      let t = means_timing g.state g.times pool p.link like.means (t3_from now) in
      let c = means_clock _ g.times pool _ t now in
      same_accept false pool _ _ (record { means = means_shut _ g.times pool _ c 0; frames = like.frames })

  same_u : (u : UFrame) (more : Bool) → SameOutcome (on_u u s times pool more now) (step_u u more now a)
  unfolding on_u test_acted test_confirmed step_u
  same_u u more =
      same_pick (eqb (u_octet u) test_act) (eqb (u_octet u) test_act) refl
      (λ t. same_end false more _ _ (alike_timing pool (t3_from now) _ _ (alike_add pool (u_with test_con) _ _ begins)))
      (λ t.
      same_pick (eqb (u_octet u) test_con) (eqb (u_octet u) test_con) refl
      (λ t. same_end false more _ _ (alike_timing pool (t3_from now) _ _ (alike_timing pool test_answered _ _ begins)))
      (λ t.
      same_pick (eqb (u_octet u) stop_act) (eqb (u_octet u) stop_act) refl
      (λ t. same_stopped _ _ (alike_add pool (u_with stop_con) _ _ begins))
      (λ t.
      same_pick (eqb (u_octet u) stop_con) (eqb (u_octet u) stop_con) refl
      (λ t. same_stopped _ _ begins)
      (λ t. same_close u_not_answered))))

  same_answer : (f : prelude.Result read.Frame Refusal) (more : Bool) → number_in f ≤ 32767 → SameOutcome (on_answer f s times pool more now) (step_frame f more now a)
  unfolding on_answer step_frame
  same_answer (Ok (I sent number)) more h = same_i sent.0 number.0 more h
  same_answer (Ok (S number)) more h = same_s number.0 more h
  same_answer (Ok (U u)) more h = same_u u more
  same_answer (Err r) more h = same_close (rows.number r)

  -- ---- send

  same_plain : (asdu : List ℕ) → length asdu ≤ 249 → SameOutcome (send_plain asdu s times pool now) (step_plain asdu now a)
  unfolding send_plain window_open step_plain
  same_plain asdu h =
      let q = good.queue in
      let w = good.window in
      let p = good.settings.p_high in
      let k = good.settings.k_high in
      let c = means_count s times pool a m in
      same_pick (ltb s.window.held s.settings.k) _ (sym (means_open s times pool a m))
      (λ t. let l = ltb-true s.window.held s.settings.k t in same_end false false _ _ (alike_hand now pool asdu _ _ (omega arith) begins))
      (λ t.
      same_pick (leb s.settings.p s.queue.count) (leb a.settings.p (length a.waiting)) (cc (m.settings, c))
      (λ u. same_refuse queue_full)
      (λ u.
      let l = leb-false s.settings.p s.queue.count u in
      same_accept false _ _ _
      (alike_finish now _ false _ _
      (record { means = means_queued s times pool a m asdu (omega arith) q.slots h room (λ i n. (q.lengths i n).1); frames = refl }))))

  same_send : (asdu : List ℕ) (p : prelude.Result Form Refusal) → plain_answer asdu ≡ p → SameOutcome (send_by p asdu s times pool now) (step_send p asdu now a)
  unfolding send_by step_send
  same_send asdu (Ok Plain) e = same_plain asdu (plain_sized asdu e).1
  same_send asdu (Ok Reserved) e = same_refuse not_plain_form
  same_send asdu (Err r) e = same_refuse (rows.number r)

  -- ---- stop, test, tick

  same_stop : SameOutcome (on_stop s times pool now) (step_stop now a)
  unfolding on_stop step_stop
  same_stop = same_end false false _ _ (alike_timing pool (t1u_from now) _ _ (alike_confirm pool _ _ (alike_add pool (u_with stop_act) _ _ begins)))

  many : too_many s ≡ many_open a
  unfolding too_many many_open
  many = ap (λ (t : Timers). ltb 2 t.tests) m.timers

  same_test : SameOutcome (on_test s times pool now) (step_test now a)
  unfolding on_test step_test
  same_test = same_pick (too_many s) (many_open a) many (λ t. same_close too_many_tests) (λ t. same_end false false _ _ (alike_tested now pool _ _ begins))

  oldest_due_law : t1i_due s times now ≡ oldest_due a.times a.settings.t1 now
  unfolding t1i_due
  oldest_due_law =
      let w = good.window in
      oldest (λ (q : ℕ). get_or times q 0) (length times) s.window.first s.window.held s.settings.t1 now (omega arith)
      ∙ (unfold times_of in cc (m.send_times_law, m.settings))

  tick_number_law : tick_refusal s times now ≡ tick_number now a
  unfolding tick_refusal tick_number
  tick_number_law = cc (m.timers, oldest_due_law, many)

  same_tick : SameOutcome (on_tick s times pool now) (step_tick now a)
  unfolding on_tick ticked ticked_t2 ticked_t3 step_tick tick_t2 tick_t3
  same_tick =
      same_pick (eqb (tick_refusal s times now) 0) (eqb (tick_number now a) 0) (ap (λ (n : ℕ). eqb n 0) tick_number_law)
      (λ t.
      let confirmed = alike_pick (is_due s.timers.t2 now) (is_due a.timers.t2 now) pool (ap (λ (x : Timers). is_due x.t2 now) m.timers) (alike_confirm pool _ _ begins) begins in
      same_end false false _ _
      (alike_pick (is_due s.timers.t3 now) (is_due a.timers.t3 now) pool (ap (λ (x : Timers). is_due x.t3 now) m.timers) (alike_tested now pool _ _ confirmed) confirmed))
      (λ t. rw tick_number_law (same_close (tick_number now a)))

  same_event : (e : Event) → OctetsIn e → SameOutcome (event_outcome e s times pool now) (step e now a)
  unfolding event_outcome on_frame on_send step
  same_event (frame f more) o = same_answer (frame_answer f) more (number_low f o)
  same_event (send asdu) o = same_send asdu (plain_answer asdu) refl
  same_event stop o = same_stop
  same_event test o = same_test
  same_event tick o = same_tick

-- ---- a call, and opening

pub steps_alike : StepsAlike
unfolding called
steps_alike e l pool output now a shaped o c m =
    let p = passed l output (length pool) now c in
    let good = sound_good l now shaped.times shaped.lengths p.sound p.clock p.now_high in
    rw (eq-eqb _ _ c) (same_event l.state l.times pool now a good p.pool_room m e o)

pub opens_fresh : OpensFresh
unfolding opened fresh_link fresh times_of waiting_of ring tabulate
opens_fresh s now pool e =
    rw e
    (record {
      settings = refl;
      next = refl;
      recv = refl;
      held = refl;
      send_times_law = refl;
      waiting = refl;
      unconfirmed = refl;
      timers = refl;
      status = refl;
      clock = refl;
    })
