-- A call as a whole: what a passed check gives the event, and what the call answers, refused by its check or not. Assumes nothing.
use Prim.Native.Nat.{ℕ, ◌+◌, ◌%◌, ◌≤◌}
use mathlib.Core.Path.{◌≡◌, refl, subst, ◌∙◌}
use mathlib.Core.Bool.{Bool, true, false}
use mathlib.Core.List.{List}
use native.Mathlib.Omega.{arith}
use borrow.Author.Tests.{eqb-true}
use lib.Dec.{eqb}
use lib.ListN.{length, get_or}
use lib.Seq.{sets}
use Rattle.std.specs.Prelude.{Err}
use Rattle.elements.specs.Refusals.{answer}
use Rattle.elements.specs.declared.refusals.Refusal.{Refusal}
use Rattle.link_state.specs.Limits.{call_refusal}
use Rattle.link_state.specs.declared.Link.{Link}
use Rattle.link_state.proofs.Sound.{Sound, Passed, passed, sound_state, sound_lengths_law, sound_times_law}
use Rattle.link.proofs.Numbered.{refused_some}
use Rattle.link.specs.declared.answers.Called.{Called}
use Rattle.link.specs.declared.answers.Step.{Step}
use Rattle.link.specs.Frames.{wire}
use Rattle.link.specs.Events.{Event, refusing, event_outcome, called}
use Rattle.link.specs.Answering.{Does, DoesSend, Calm, Aged, Open, answer_of, step_for, called_of, refused_call, call_of, Comes}

-- ---- a passed check

module _ (l : Link) (output pool now : ℕ) (e : call_refusal l output pool now ≡ 0) where
  checks : Passed l output pool now
  checks = passed l output pool now e

  sound : Sound l.state
  sound = sound_state l checks.sound

  pub calm : Calm l.state output now
  calm =
      record {
        timed = record { t1_high = sound.t1_high; t2_high = sound.t2_high; t3_high = sound.t3_high; now_high = checks.now_high };
        out_room = checks.output_room;
        recv_high = sound.recv_high;
        tests_high = sound.tests_high;
      }

  pub few_unconfirmed : l.state.receive.unconfirmed ≤ 32767
  few_unconfirmed = sound.unconfirmed_high

  pub opened : length l.times ≡ 32 → Open l.state (length l.times) pool output now
  opened long =
      let k = sound.k_high in
      let first = sound.first_high in
      record {
        calm = calm;
        pool_room = checks.pool_room;
        p_high = sound.p_high;
        k_places = omega arith;
        places_high = omega arith;
        held_k = sound.held_k;
        count_p = sound.count_p;
        first_low = omega arith;
        next_high = sound.next_high;
        place_high = sound.place_high;
        lengths_high = λ i h. (sound_lengths_law l checks.sound i h).1;
      }

  pub aged : length l.times ≡ 32 → Aged l.state l.times
  aged long =
      let first = sound.first_high in
      let clock = sound.clock_high in
      let at : (l.state.window.first + 0) % 32 ≡ l.state.window.first = omega arith in
      record {
        t1_high = sound.t1_high;
        first_low = omega arith;
        oldest_high = λ some-held.
            let t : get_or l.times l.state.window.first 0 ≤ l.state.clock = subst (λ (i : ℕ). get_or l.times i 0 ≤ l.state.clock) at (sound_times_law l checks.sound 0 some-held) in
            omega arith;
      }

-- ---- what the call answers

module _ (e : Event) (l : Link) (pool out : List ℕ) (now : ℕ) where
  pub call_refused : {r : Refusal} {a : Called} → answer {A = Unit {0}} (call_refusal l (length out) (length pool) now) tt ≡ Err r → a ≡ refused_call l r
      → (a ≡ called_of (called e l pool (length out) now))
      × (pool ≡ (called e l pool (length out) now).pool)
      × (out ≡ sets out 0 (wire (called e l pool (length out) now).frames))
  unfolding called called_of answer_of refusing wire
  call_refused e ends =
      let stops = refused_some _ _ e in
      (ends ∙ rw stops.0 (rw (stops.0, stops.1)), rw stops.0, rw stops.0)

  module _ (passes : call_refusal l (length out) (length pool) now ≡ 0) {a : Called} {r : Step} {ts₁ out₁ : List ℕ} (ends : a ≡ call_of ts₁ r) where
    pub call_does : Does (event_outcome e l.state l.times pool now) out r ts₁ out₁
        → (a ≡ called_of (called e l pool (length out) now))
        × (out₁ ≡ sets out 0 (wire (called e l pool (length out) now).frames))
    unfolding called called_of step_for
    call_does d = (ends ∙ rw (passes, d.ring, d.answers.step), rw passes d.answers.octets)

    pub call_sends : {pool₁ : List ℕ} → DoesSend (event_outcome e l.state l.times pool now) out r ts₁ pool₁ out₁
        → (a ≡ called_of (called e l pool (length out) now))
        × (pool₁ ≡ (called e l pool (length out) now).pool)
        × (out₁ ≡ sets out 0 (wire (called e l pool (length out) now).frames))
    unfolding called
    call_sends d = let done = call_does d.does in (done.0, rw passes d.pool, done.1)

  -- an event that `call` runs
  pub call_comes : (Runs : Step → List ℕ → List ℕ → Type 0) {a : Called} {out₁ : List ℕ}
      → Comes (call_refusal l (length out) (length pool) now) l Runs out a out₁
      → ((r : Step) (ts₁ : List ℕ) → Runs r ts₁ out₁ → Does (event_outcome e l.state l.times pool now) out r ts₁ out₁)
      → (a ≡ called_of (called e l pool (length out) now))
      × (out₁ ≡ sets out 0 (wire (called e l pool (length out) now).frames))
  unfolding called called_of answer_of refusing wire
  call_comes Runs {a} {out₁} comes does = by (eqb (call_refusal l (length out) (length pool) now) 0) refl
    where
      by : (b : Bool) → eqb (call_refusal l (length out) (length pool) now) 0 ≡ b
          → (a ≡ called_of (called e l pool (length out) now))
          × (out₁ ≡ sets out 0 (wire (called e l pool (length out) now).frames))
      by true test =
          let none = eqb-true _ 0 test in
          let c = comes.passes none in
          call_does none c.3 (does c.0 c.1 c.2)
      by false test =
          let c = comes.refuses test in
          (c.0 ∙ rw test (rw test), c.1 ∙ rw test)
