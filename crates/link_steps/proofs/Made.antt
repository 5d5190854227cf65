-- Steps one after the other: each appends its frames to those that are there, and leaves the rest to the step itself.
-- Assumes nothing.
use Prim.Native.Nat.{ℕ, ◌+◌, ◌*◌, ◌%◌}
use mathlib.Core.Path.{◌≡◌, refl, sym, ap, ◌∙◌}
use mathlib.Core.Bool.{Bool, true, false}
use mathlib.Core.List.{List, [], ◌∷◌, ◌++◌, append-nil}
use native.Mathlib.Nat.{add_assoc, add-zero, zero-add}
use lib.ListN.{length, set, length-append}
use lib.Seq.{sets}
use Rattle.laws.specs.Choice.{pick}
use Rattle.laws.specs.Numbers.{le_octets}
use Rattle.laws.proofs.Lists.{sets_append}
use Rattle.elements.specs.Refusals.{number}
use Rattle.elements.specs.declared.refusals.Refusal.{Refusal}
use Rattle.link_state.specs.declared.State.{State}
use Rattle.link_steps.specs.declared.steps.Made.{Made}
use Rattle.link.specs.declared.answers.Step.{Step}
use Rattle.apdu.specs.Control.{u_of, u_octet}
use Rattle.apdu.specs.Writing.{start_octets, i_octets, s_octets, u_octets}
use Rattle.link.specs.Frames.{Frame, i_frame, s_frame, u_with, octets_of, wire, test_act}
use Rattle.link.specs.Making.{Making, become, say, sent_of, confirm, confirmed_of, tested, tested_of, ending, hand_out, let_out, due, with_clock, shut}
use Rattle.link.specs.Events.{start, accepting, closing, refusing}
use Rattle.link.specs.Answering.{Answers, done_step, refused_step, step_for, answer_of}
use Rattle.link_steps.specs.Steps.{Makes, HandsOut, made_of}
use Rattle.apdu.proofs.Answers.{i_long, s_long, u_long}
use Rattle.link.proofs.Numbered.{some_number, numbered}
use Rattle.link.proofs.Wires.{wire_append, wire_one}

-- frames before those of a call in the making
abbrev pub after : List Frame → Making → Making
after fs g = record { state = g.state; times = g.times; frames = fs ++ g.frames }

-- a step that only appends
abbrev pub Appends : (Making → Making) → Type 0
Appends F = (g : Making) → F g ≡ after g.frames (F (start g.state g.times))

-- what one step has made, and the next one from there
pub makes_then : {F : Making → Making} → Appends F → {g : Making} {at : ℕ} {out out₁ out₂ : List ℕ} {m r : Made}
    → Makes g at out m out₁ → Makes (F (start m.state g.times)) m.end out₁ r out₂ → Makes (F g) at out r out₂
makes_then {F} appends {g} {at} {out} {out₁} {out₂} {m} {r} one two =
    let h = F (start g.state g.times) in
    let e : F g ≡ after g.frames h = appends g in
    let two' : Makes h m.end out₁ r out₂ = rw one.state at two in
    let w : wire (g.frames ++ h.frames) ≡ wire g.frames ++ wire h.frames = wire_append g.frames h.frames in
    rw e (record {
      state = two'.state;
      end = two'.end ∙ (rw (one.end, w, length-append (wire g.frames) (wire h.frames)) (add_assoc at _ _));
      octets = two'.octets ∙ rw (one.octets, one.end, w) (sym (sets_append out at (wire g.frames) (wire h.frames)));
    })

pub hands_then : {F : Making → Making} → Appends F → {g : Making} {at : ℕ} {out out₁ out₂ ts ts₂ : List ℕ} {m r : Made}
    → HandsOut g at out m ts out₁ → HandsOut (F (start m.state ts)) m.end out₁ r ts₂ out₂ → HandsOut (F g) at out r ts₂ out₂
hands_then {F} appends {g} one two =
    let two' : HandsOut (F (start g.state g.times)) _ _ _ _ _ = rw (one.makes.state, one.ring) at two in
    record { makes = makes_then appends one.makes (rw one.ring at two.makes); ring = two'.ring ∙ ap (λ (h : Making). h.times) (sym (appends g)) }

-- a step that changes the state alone
pub makes_become : (f : State → State) {g : Making} {at : ℕ} {out out₁ : List ℕ} {m r : Made}
    → Makes g at out m out₁ → r ≡ made_of (f m.state) m.end → Makes (become f g) at out r out₁
makes_become f one e =
    record {
      state = ap (λ (x : Made). x.state) e ∙ ap f one.state;
      end = ap (λ (x : Made). x.end) e ∙ one.end;
      octets = one.octets;
    }

-- one frame
pub makes_say : (f : Frame) (s : State) (ts : List ℕ) (at : ℕ) (out : List ℕ) {end : ℕ} {out₁ : List ℕ}
    → end ≡ at + length (octets_of f) → out₁ ≡ sets out at (octets_of f) → Makes (say f (start s ts)) at out (record { state = s; end = end }) out₁
makes_say f s ts at out e o = record { state = refl; end = rw (wire_one f) e; octets = rw (wire_one f) o }

pub makes_u : (octet : ℕ) (s : State) (ts : List ℕ) (at : ℕ) (out : List ℕ) {r : Made} {out₁ : List ℕ}
    → r ≡ made_of s (at + 6) → out₁ ≡ sets out at (start_octets 4 (u_octet (u_of octet)) 0)
    → Makes (say (u_with octet) (start s ts)) at out r out₁
unfolding octets_of u_octets
makes_u octet s ts at out e o =
    rw e (makes_say (u_with octet) s ts at out (ap (λ (n : ℕ). at + n) (sym (u_long (u_of octet)))) o)

-- nothing yet
pub makes_none : (s : State) (ts : List ℕ) (at : ℕ) (out : List ℕ) → Makes (start s ts) at out (record { state = s; end = at }) out
unfolding wire
makes_none s ts at out = record { state = refl; end = sym (add-zero at); octets = refl }

-- confirming, and a test act
pub makes_confirm : (s : State) (ts : List ℕ) (at : ℕ) (out : List ℕ) {r : Made} {out₁ : List ℕ}
    → r ≡ made_of (confirmed_of s) (at + 6) → out₁ ≡ sets out at (s_octets s.receive.next.0) → Makes (confirm (start s ts)) at out r out₁
unfolding confirm octets_of
makes_confirm s ts at out e o =
    let f = s_frame s.receive.next.0 in
    record {
      state = ap (λ (r : Made). r.state) e;
      end = ap (λ (r : Made). r.end) e ∙ rw (wire_one f, s_long s.receive.next.0);
      octets = o ∙ rw (wire_one f);
    }

pub makes_tested : (now : ℕ) (s : State) (ts : List ℕ) (at : ℕ) (out : List ℕ) {r : Made} {out₁ : List ℕ}
    → r ≡ made_of (tested_of now s) (at + 6) → out₁ ≡ sets out at (start_octets 4 67 0) → Makes (tested now (start s ts)) at out r out₁
unfolding tested octets_of u_octets
makes_tested now s ts at out e o =
    let f = u_with test_act in
    record {
      state = ap (λ (r : Made). r.state) e;
      end = ap (λ (r : Made). r.end) e ∙ rw (wire_one f, u_long (u_of test_act));
      octets = o ∙ rw (wire_one f);
    }

-- an I frame
pub hands_out : (now : ℕ) (s : State) (ts asdu : List ℕ) (at : ℕ) (out : List ℕ) {r : Made} {ts₁ out₁ out₂ : List ℕ}
    → r.state ≡ sent_of s → r.end ≡ at + 6 + length asdu
    → out₁ ≡ sets out at (start_octets (4 + length asdu) (s.window.next.0 * 2) (s.receive.next.0 * 2)) → out₂ ≡ sets out₁ (at + 6) asdu
    → ts₁ ≡ set ts ((s.window.first + s.window.held) % length ts) now
    → HandsOut (hand_out now asdu (start s ts)) at out r ts₁ out₂
unfolding hand_out octets_of i_octets le_octets
hands_out now s ts asdu at out {out₁ = out₁} e f one two ring =
    let a = s.window.next.0 in
    let b = s.receive.next.0 in
    let w : wire (i_frame a b asdu ∷ []) ≡ i_octets a b asdu = wire_one (i_frame a b asdu) in
    record {
      makes = record {
        state = e;
        end = f ∙ rw (w, i_long a b asdu) (add_assoc at 6 (length asdu));
        octets = two ∙ rw (one, w) (sym (sets_append out at (start_octets (4 + length asdu) (a * 2) (b * 2)) asdu));
      };
      ring = ring;
    }

-- ---- the steps append

pub confirm_appends : Appends confirm
unfolding confirm
confirm_appends g = refl

pub let_out_appends : (now : ℕ) (pool : List ℕ) → Appends (let_out now pool)
unfolding let_out hand_out
let_out_appends now pool g = refl

ending_appends : (more : Bool) (now : ℕ) → Appends (ending more now)
unfolding ending confirm
ending_appends more now g = go (due g.state more)
  where
    clock : Making → Making
    clock h = become (λ (s : State). with_clock s now) h

    go : (b : Bool) → pick b (confirm (clock g)) (clock g) ≡ after g.frames (pick b (confirm (clock (start g.state g.times))) (clock (start g.state g.times)))
    go true = refl
    go false = ap (λ (fs : List Frame). record { state = with_clock g.state now; times = g.times; frames = fs }) (sym (append-nil g.frames))

-- ---- what the events answer

pub answers_accepting : (came : Bool) (pool : List ℕ) {g : Making} {out out₁ : List ℕ} {m : Made} {r : Step}
    → Makes g 0 out m out₁ → r ≡ done_step m.state m.end came → Answers (accepting came pool g) out r out₁
unfolding accepting step_for answer_of done_step
answers_accepting came pool one e = record { step = rw (e, one.state, one.end, zero-add); octets = one.octets }

-- the end of an accepted call: the clock and the rule of confirming, then the answer
pub answers_ending : (came more : Bool) (now : ℕ) (pool : List ℕ) {g : Making} {out out₁ out₂ : List ℕ} {m ended : Made} {r : Step}
    → Makes g 0 out m out₁ → ((ts : List ℕ) → Makes (ending more now (start m.state ts)) m.end out₁ ended out₂)
    → r ≡ done_step ended.state ended.end came → Answers (accepting came pool (ending more now g)) out r out₂
answers_ending came more now pool {g} one finished e =
    answers_accepting came pool (makes_then (ending_appends more now) one (finished g.times)) e

pub answers_closing : (k : Refusal) (s : State) (ts pool out : List ℕ) {r : Step}
    → r ≡ refused_step (shut (number k) s) k → Answers (closing (number k) s ts pool) out r out
unfolding closing step_for answer_of refused_step wire
answers_closing k s ts pool out e = record { step = rw (some_number k, numbered k) e; octets = refl }

pub answers_refusing : (k : Refusal) (s : State) (ts pool out : List ℕ) {r : Step}
    → r ≡ refused_step s k → Answers (refusing (number k) s ts pool) out r out
unfolding refusing step_for answer_of refused_step wire
answers_refusing k s ts pool out e = record { step = rw (some_number k, numbered k) e; octets = refl }
