-- Whatever is called on whatever record, the refusal's number is one of document 01's: 33 at most. Assumes nothing.
use Prim.Native.Nat.{ℕ, ◌≤◌}
use mathlib.Core.Bool.{Bool, true, false, ◌&&◌}
use mathlib.Core.List.{List}
use native.Mathlib.Omega.{arith}
use lib.Dec.{eqb, ltb, leb}
use lib.ListN.{length}
use Rattle.std.specs.Prelude.{Result, Ok, Err}
use Rattle.laws.specs.Choice.{pick}
use Rattle.elements.specs.Refusals.{number, too_many_tests, u_not_answered, wrong_send_number, not_plain_form, queue_full}
use Rattle.elements.specs.declared.refusals.Refusal.{Refusal}
use Rattle.elements.proofs.Refused.{number_range}
use Rattle.asdu.specs.Plain.{plain_answer}
use Rattle.asdu.specs.declared.Form.{Form}
use Rattle.asdu.specs.declared.Form.TheVariants.{Plain, Reserved}
use Rattle.apdu.specs.Control.{u_octet}
use Rattle.apdu.specs.Reading.{frame_answer}
use Rattle.apdu.specs.declared.frame.Frame.{Frame}
use Rattle.apdu.specs.declared.frame.Frame.TheVariants.{I, S, U}
use Rattle.apdu.specs.declared.frame.UFrame.{UFrame}
use Rattle.link_state.specs.Acknowledging.{acknowledged}
use Rattle.link_state.specs.Limits.{sound_link, call_refusal}
use Rattle.link_state.specs.declared.State.{State}
use Rattle.link_state.specs.declared.Link.{Link}
use Rattle.link.specs.Frames.{test_act, test_con, stop_act, stop_con}
use Rattle.link.specs.Making.{Making, window_open}
use Rattle.link.specs.Events.{Outcome, accepting, refusing, closing, s_freeing, on_s, i_freeing, on_i, test_acted, test_confirmed, on_u, on_answer, on_frame, send_plain, send_by, on_send, on_stop, too_many, on_test, is_due, t1i_due, tick_refusal, on_tick, Event, frame, send, stop, test, tick, event_outcome, called}

record Low (o : Outcome) : Type 0 where
  most : o.refused ≤ 33

low_pick : {o q : Outcome} (b : Bool) → Low o → Low q → Low (pick b o q)
low_pick true x y = x
low_pick false x y = y

most_pick : {m x y : ℕ} (b : Bool) → x ≤ m → y ≤ m → pick b x y ≤ m
most_pick true x y = x
most_pick false x y = y

low_accepting : (came : Bool) (pool : List ℕ) (g : Making) → Low (accepting came pool g)
unfolding accepting
low_accepting came pool g = record { most = omega arith }

module _ (s : State) (times pool : List ℕ) where
  low_refusing : (n : ℕ) → n ≤ 33 → Low (refusing n s times pool)
  unfolding refusing
  low_refusing n h = record { most = h }

  low_closing : (n : ℕ) → n ≤ 33 → Low (closing n s times pool)
  unfolding closing
  low_closing n h = record { most = h }

  module _ (now : ℕ) where
    s_low : (a : Result ℕ Refusal) (more : Bool) → Low (s_freeing a s times pool more now)
    unfolding s_freeing
    s_low (Ok d) more = low_accepting _ _ _
    s_low (Err r) more = low_closing (number r) (number_range r).1

    i_low : (a : Result ℕ Refusal) (more : Bool) → Low (i_freeing a s times pool more now)
    unfolding i_freeing
    i_low (Ok d) more = low_accepting _ _ _
    i_low (Err r) more = low_closing (number r) (number_range r).1

    u_low : (u : UFrame) (more : Bool) → Low (on_u u s times pool more now)
    unfolding on_u test_acted test_confirmed
    u_low u more =
        low_pick (eqb (u_octet u) test_act) (low_accepting _ _ _)
        (low_pick (eqb (u_octet u) test_con) (low_accepting _ _ _)
        (low_pick (eqb (u_octet u) stop_act) (low_accepting _ _ _)
        (low_pick (eqb (u_octet u) stop_con) (low_accepting _ _ _) (low_closing u_not_answered (omega arith)))))

    answer_low : (a : Result Frame Refusal) (more : Bool) → Low (on_answer a s times pool more now)
    unfolding on_answer on_i on_s
    answer_low (Ok (I n r)) more = low_pick (eqb n.0 s.receive.next.0) (i_low (acknowledged s.window.next.0 s.window.held r.0) more) (low_closing wrong_send_number (omega arith))
    answer_low (Ok (S r)) more = s_low (acknowledged s.window.next.0 s.window.held r.0) more
    answer_low (Ok (U u)) more = u_low u more
    answer_low (Err r) more = low_closing (number r) (number_range r).1

    send_low : (asdu : List ℕ) (a : Result Form Refusal) → Low (send_by a asdu s times pool now)
    unfolding send_by send_plain
    send_low asdu (Ok Plain) =
        low_pick (window_open s) (low_accepting _ _ _) (low_pick (leb s.settings.p s.queue.count) (low_refusing queue_full (omega arith)) (low_accepting _ _ _))
    send_low asdu (Ok Reserved) = low_refusing not_plain_form (omega arith)
    send_low asdu (Err r) = low_refusing (number r) (number_range r).1

    tick_most : tick_refusal s times now ≤ 33
    unfolding tick_refusal
    tick_most =
        most_pick (is_due s.timers.t1u now) (omega arith)
        (most_pick (t1i_due s times now) (omega arith) (most_pick (is_due s.timers.t3 now && too_many s) (omega arith) (omega arith)))

    event_low : (e : Event) → Low (event_outcome e s times pool now)
    unfolding event_outcome on_frame on_send on_stop on_test on_tick
    event_low (frame f more) = answer_low (frame_answer f) more
    event_low (send asdu) = send_low asdu (plain_answer asdu)
    event_low stop = low_accepting _ _ _
    event_low test = low_pick (too_many s) (low_closing too_many_tests (omega arith)) (low_accepting _ _ _)
    event_low tick = low_pick (eqb (tick_refusal s times now) 0) (low_accepting _ _ _) (low_closing (tick_refusal s times now) tick_most)

call_most : (l : Link) (output pool now : ℕ) → call_refusal l output pool now ≤ 33
unfolding call_refusal
call_most l output pool now =
    most_pick (sound_link l)
    (most_pick l.state.status.closed (omega arith)
    (most_pick (ltb output 4096) (omega arith)
    (most_pick (ltb pool 3984) (omega arith)
    (most_pick (ltb 281474976710655 now) (omega arith) (most_pick (ltb now l.state.clock) (omega arith) (omega arith))))))
    (omega arith)

pub called_most : (e : Event) (l : Link) (pool : List ℕ) (output now : ℕ) → (called e l pool output now).refused ≤ 33
unfolding called
called_most e l pool output now =
    (low_pick (eqb (call_refusal l output (length pool) now) 0) (event_low l.state l.times pool now e)
    (low_refusing l.state l.times pool (call_refusal l output (length pool) now) (call_most l output (length pool) now))).most
