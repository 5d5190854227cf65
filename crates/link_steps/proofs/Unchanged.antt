-- What leaves the ring of send times as it was. Assumes nothing.
use Prim.Native.Nat.{ℕ}
use mathlib.Core.Path.{◌≡◌, refl, sym, ◌∙◌}
use mathlib.Core.Bool.{Bool, true, false}
use mathlib.Core.List.{List}
use lib.Dec.{eqb}
use Rattle.std.proofs.Common.{Option}
use Rattle.laws.specs.Choice.{pick}
use Rattle.elements.specs.Refusals.{too_many_tests, u_not_answered}
use Rattle.apdu.specs.Control.{u_octet}
use Rattle.apdu.specs.declared.frame.UFrame.{UFrame}
use Rattle.link_state.specs.declared.State.{State}
use Rattle.link.specs.declared.answers.Step.{Step}
use Rattle.link.specs.Frames.{u_with, stop_act, stop_con, test_act, test_con}
use Rattle.link.specs.Making.{Making, with_clock, set_t1u, set_t3, become, say, confirm, tested, ending, due}
use Rattle.link.specs.Events.{Outcome, closing, accepting, start, tests_answered, stopped, test_acted, test_confirmed, on_u, on_stop, too_many, on_test, is_due, tick_refusal, ticked_t2, ticked_t3, ticked, on_tick}
use Rattle.link.specs.Answering.{Answers, Does}

pub ending_times : (more : Bool) (now : ℕ) (g : Making) → (ending more now g).times ≡ g.times
unfolding ending confirm
ending_times more now g = go (due g.state more)
  where
    clock : Making
    clock = become (λ (s : State). with_clock s now) g

    go : (b : Bool) → (pick b (confirm clock) clock).times ≡ g.times
    go true = refl
    go false = refl

module _ (s : State) (ts ps : List ℕ) (now : ℕ) where
  pub stop_times : (on_stop s ts ps now).times ≡ ts
  unfolding on_stop accepting confirm
  stop_times = ending_times false now (become (set_t1u now) (confirm (say (u_with stop_act) (start s ts))))

  pub test_times : (on_test s ts ps now).times ≡ ts
  unfolding on_test accepting closing tested
  test_times = go (too_many s)
    where
      go : (b : Bool) → (pick b (closing too_many_tests s ts ps) (accepting false ps (ending false now (tested now (start s ts))))).times ≡ ts
      go true = refl
      go false = ending_times false now (tested now (start s ts))

  t2_times : (ticked_t2 now (start s ts)).times ≡ ts
  unfolding ticked_t2 confirm
  t2_times = go (is_due s.timers.t2 now)
    where
      go : (b : Bool) → (pick b (confirm (start s ts)) (start s ts)).times ≡ ts
      go true = refl
      go false = refl

  t3_times : (t3 : Option ℕ) (g : Making) → (ticked_t3 t3 now g).times ≡ g.times
  unfolding ticked_t3 tested
  t3_times t3 g = go (is_due t3 now)
    where
      go : (b : Bool) → (pick b (tested now g) g).times ≡ g.times
      go true = refl
      go false = refl

  pub tick_times : (on_tick s ts ps now).times ≡ ts
  unfolding on_tick accepting closing ticked
  tick_times = go (eqb (tick_refusal s ts now) 0)
    where
      g₂ : Making
      g₂ = ticked_t2 now (start s ts)

      go : (b : Bool) → (pick b (accepting false ps (ending false now (ticked s ts now))) (closing (tick_refusal s ts now) s ts ps)).times ≡ ts
      go true = ending_times false now (ticked s ts now) ∙ (t3_times s.timers.t3 g₂ ∙ t2_times)
      go false = refl

  module _ (u : UFrame) (more : Bool) where
    acted : (test_acted s ts ps more now).times ≡ ts
    unfolding test_acted accepting
    acted = ending_times more now (become (set_t3 now) (say (u_with test_con) (start s ts)))

    confirmed : (test_confirmed s ts ps more now).times ≡ ts
    unfolding test_confirmed accepting
    confirmed = ending_times more now (become (λ (m : State). set_t3 now (tests_answered m)) (start s ts))

    pub u_times : (on_u u s ts ps more now).times ≡ ts
    unfolding on_u accepting closing
    u_times = go (eqb (u_octet u) test_act) (eqb (u_octet u) test_con) (eqb (u_octet u) stop_act) (eqb (u_octet u) stop_con)
      where
        go : (a b c d : Bool)
            → (pick a (test_acted s ts ps more now)
            (pick b (test_confirmed s ts ps more now)
            (pick c (accepting false ps (become (stopped now) (say (u_with stop_con) (start s ts))))
            (pick d (accepting false ps (become (stopped now) (start s ts))) (closing u_not_answered s ts ps))))).times
            ≡ ts
        go true b c d = acted
        go false true c d = confirmed
        go false false true d = refl
        go false false false true = refl
        go false false false false = refl

-- an event that leaves the ring
pub does_same : {o : Outcome} {out out₁ ts : List ℕ} {r : Step} → Answers o out r out₁ → o.times ≡ ts → Does o out r ts out₁
does_same h e = record { answers = h; ring = sym e }
