-- Of all calls only send writes into the pool; and the pool stays as long as it was. Assumes nothing.
use Prim.Native.Nat.{ℕ}
use mathlib.Core.Path.{◌≡◌, refl}
use mathlib.Core.Bool.{Bool}
use mathlib.Core.List.{List}
use lib.ListN.{length}
use lib.Dec.{eqb}
use Rattle.laws.specs.Choice.{pick}
use Rattle.laws.proofs.Choices.{picked}
use Rattle.apdu.specs.Control.{u_octet}
use Rattle.apdu.specs.Reading.{frame_answer}
use Rattle.apdu.specs.declared.frame.UFrame.{UFrame}
use Rattle.link_state.specs.Acknowledging.{acknowledged}
use Rattle.link_state.specs.Limits.{call_refusal}
use Rattle.link_state.specs.declared.State.{State}
use Rattle.link_state.specs.declared.Link.{Link}
use Rattle.link.specs.Frames.{stop_act, stop_con, test_act, test_con}
use Rattle.link.specs.Events.{Outcome, refusing, closing, accepting, s_freeing, on_s, i_freeing, on_i, test_acted, test_confirmed, on_u, on_answer, on_frame, on_stop, too_many, on_test, tick_refusal, on_tick, Event, frame, send, stop, test, tick, event_outcome, called}
use Rattle.promises.specs.Demand3.{pool_by}
use Rattle.std.specs.Prelude.{Result, Ok, Err}
use Rattle.elements.specs.declared.refusals.Refusal.{Refusal}
use Rattle.apdu.specs.declared.frame.Frame.TheVariants.{I, S, U}
use Rattle.apdu.specs.declared.frame.Frame.{Frame}

record Keeps (pool : List ℕ) (o : Outcome) : Type 0 where
  same : o.pool ≡ pool

module _ (s : State) (times pool : List ℕ) (now : ℕ) where
  s_pool : (a : Result ℕ Refusal) (more : Bool) → Keeps pool (s_freeing a s times pool more now)
  unfolding s_freeing accepting closing
  s_pool (Ok d) more = record { same = refl }
  s_pool (Err r) more = record { same = refl }

  i_pool : (a : Result ℕ Refusal) (more : Bool) → Keeps pool (i_freeing a s times pool more now)
  unfolding i_freeing accepting closing
  i_pool (Ok d) more = record { same = refl }
  i_pool (Err r) more = record { same = refl }

  u_pool : (u : UFrame) (more : Bool) → Keeps pool (on_u u s times pool more now)
  unfolding on_u test_acted test_confirmed accepting closing
  u_pool u more =
      picked (Keeps pool) (eqb (u_octet u) test_act) (record { same = refl })
      (picked (Keeps pool) (eqb (u_octet u) test_con) (record { same = refl })
      (picked (Keeps pool) (eqb (u_octet u) stop_act) (record { same = refl })
      (picked (Keeps pool) (eqb (u_octet u) stop_con) (record { same = refl }) (record { same = refl }))))

  answer_pool : (f : Result Frame Refusal) (more : Bool) → Keeps pool (on_answer f s times pool more now)
  unfolding on_answer on_i on_s closing
  answer_pool (Ok (I n r)) more = picked (Keeps pool) (eqb n.0 s.receive.next.0) (i_pool (acknowledged s.window.next.0 s.window.held r.0) more) (record { same = refl })
  answer_pool (Ok (S r)) more = s_pool (acknowledged s.window.next.0 s.window.held r.0) more
  answer_pool (Ok (U u)) more = u_pool u more
  answer_pool (Err r) more = record { same = refl }

  test_pool : Keeps pool (on_test s times pool now)
  unfolding on_test accepting closing
  test_pool = picked (Keeps pool) (too_many s) (record { same = refl }) (record { same = refl })

  tick_pool : Keeps pool (on_tick s times pool now)
  unfolding on_tick accepting closing
  tick_pool = picked (Keeps pool) (eqb (tick_refusal s times now) 0) (record { same = refl }) (record { same = refl })

pub pool_is : (e : Event) (l : Link) (pool : List ℕ) (output now : ℕ) → (called e l pool output now).pool ≡ pool_by e (called e l pool output now) pool
unfolding called event_outcome on_frame on_stop accepting refusing
pool_is e l pool output now = by e
  where
    checked : {o : Outcome} → Keeps pool o
        → Keeps pool (pick (eqb (call_refusal l output (length pool) now) 0) o (refusing (call_refusal l output (length pool) now) l.state l.times pool))
    checked k = picked (Keeps pool) (eqb (call_refusal l output (length pool) now) 0) k (record { same = refl })

    by : (e : Event) → (called e l pool output now).pool ≡ pool_by e (called e l pool output now) pool
    by (frame f more) = (checked (answer_pool l.state l.times pool now (frame_answer f) more)).same
    by (send x) = refl
    by stop = (checked (record { same = refl })).same
    by test = (checked (test_pool l.state l.times pool now)).same
    by tick = (checked (tick_pool l.state l.times pool now)).same
