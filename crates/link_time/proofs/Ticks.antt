-- The parts of a tick: what t2 and t3 due leave as it was. Assumes nothing.
use Prim.Native.Nat.{ℕ, ◌≤◌}
use mathlib.Core.Path.{◌≡◌, refl, sym, ap}
use mathlib.Core.Bool.{Bool, true, false, ◌&&◌}
use mathlib.Core.List.{List, append-nil}
use native.Mathlib.Omega.{arith}
use lib.ListN.{length}
use Rattle.std.proofs.Common.{Option}
use Rattle.laws.specs.Choice.{pick}
use Rattle.laws.proofs.Choices.{picked}
use Rattle.apdu.specs.Control.{u_of}
use Rattle.link_state.specs.declared.State.{State}
use Rattle.link.specs.Frames.{Frame, s_frame, u_with, test_act, octets_of, wire}
use Rattle.link.specs.Making.{confirm, confirmed_of, tested, tested_of}
use Rattle.link.specs.Events.{start, is_due, t1i_due, too_many, tick_refusal, ticked_t2, ticked_t3}
use Rattle.link.specs.Answering.{Calm}
use Rattle.apdu.proofs.Answers.{s_long, u_long}
use Rattle.link.proofs.Wires.{wire_one}
use Rattle.link_steps.proofs.Made.{Appends, after}

module _ (s : State) (ts : List ℕ) (outLen now : ℕ) where
  pub calm_t2 : Calm s outLen now → Calm (ticked_t2 now (start s ts)).state outLen now
  unfolding ticked_t2 confirm confirmed_of
  calm_t2 h = go (is_due s.timers.t2 now)
    where
      go : (b : Bool) → Calm (pick b (confirm (start s ts)) (start s ts)).state outLen now
      go true = record { timed = record { t1_high = h.timed.t1_high; t2_high = h.timed.t2_high; t3_high = h.timed.t3_high; now_high = h.timed.now_high }; out_room = h.out_room; recv_high = h.recv_high; tests_high = h.tests_high }
      go false = h

  pub short_t2 : length (wire (ticked_t2 now (start s ts)).frames) ≤ 6
  unfolding ticked_t2 confirm octets_of wire
  short_t2 = go (is_due s.timers.t2 now)
    where
      go : (b : Bool) → length (wire (pick b (confirm (start s ts)) (start s ts)).frames) ≤ 6
      go true = rw (wire_one (s_frame s.receive.next.0), s_long s.receive.next.0) (omega arith)
      go false = omega arith

  pub short_t3 : (t3 : Option ℕ) → length (wire (ticked_t3 t3 now (start s ts)).frames) ≤ 6
  unfolding ticked_t3 tested octets_of wire
  short_t3 t3 = go (is_due t3 now)
    where
      go : (b : Bool) → length (wire (pick b (tested now (start s ts)) (start s ts)).frames) ≤ 6
      go true = rw (wire_one (u_with test_act), u_long (u_of test_act)) (omega arith)
      go false = omega arith

  pub next_t3 : (t3 : Option ℕ) → (ticked_t3 t3 now (start s ts)).state.receive.next.0 ≡ s.receive.next.0
  unfolding ticked_t3 tested tested_of
  next_t3 t3 = go (is_due t3 now)
    where
      go : (b : Bool) → (pick b (tested now (start s ts)) (start s ts)).state.receive.next.0 ≡ s.receive.next.0
      go true = refl
      go false = refl

pub ticked_t3_appends : (t3 : Option ℕ) (now : ℕ) → Appends (ticked_t3 t3 now)
unfolding ticked_t3 tested
ticked_t3_appends t3 now g = go (is_due t3 now)
  where
    go : (b : Bool) → pick b (tested now g) g ≡ after g.frames (pick b (tested now (start g.state g.times)) (start g.state g.times))
    go true = refl
    go false = ap (λ (fs : List Frame). record { state = g.state; times = g.times; frames = fs }) (sym (append-nil g.frames))

-- what a tick refuses has a row
pub tick_row : (s : State) (times : List ℕ) (now : ℕ) → tick_refusal s times now ≤ 33
unfolding tick_refusal
tick_row s times now =
    picked (λ (n : ℕ). n ≤ 33) (is_due s.timers.t1u now) (omega arith)
    (picked (λ (n : ℕ). n ≤ 33) (t1i_due s times now) (omega arith)
    (picked (λ (n : ℕ). n ≤ 33) (is_due s.timers.t3 now && too_many s) (omega arith) (omega arith)))
