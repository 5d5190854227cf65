-- What a refusal leaves: every lent byte, and of the link all but the mark and the reason where it closes. Assumes nothing.
use Prim.Native.Nat.{ℕ, ◌+◌, ◌<◌, ◌≤◌}
use mathlib.Core.Path.{◌≡◌, refl, sym, ap, subst, ◌∙◌}
use mathlib.Core.Bool.{Bool, true, false, ◌&&◌, ◌||◌}
use mathlib.Core.List.{List, [], ◌++◌}
use native.Mathlib.Omega.{arith}
use borrow.Author.Tests.{eqb-true, ltb-false, eq-eqb, ne_eqb, le-leb, lt-leb}
use lib.ListN.{length, get_or, drop}
use lib.Dec.{eqb, leb, ltb}
use Rattle.laws.specs.Choice.{pick}
use Rattle.laws.specs.Lists.{Octets}
use Rattle.std.specs.Prelude.{Result, Ok, Err}
use Rattle.elements.specs.declared.refusals.Refusal.{Refusal}
use Rattle.elements.specs.Refusals.{number, refusal, answer_number, queue_full, not_plain_form, wrong_receive_number, wrong_send_number, u_not_answered, too_many_tests}
use Rattle.objects.specs.Kinds.{kind_of}
use Rattle.asdu.specs.Header.{header_by}
use Rattle.asdu.specs.Records.{no_asdu}
use Rattle.asdu.specs.Reading.{read_refusal, checked_header, record_by, read_asdu}
use Rattle.asdu.specs.Writing.{write_refusal, write_answer, written}
use Rattle.asdu.specs.Plain.{plain_answer}
use Rattle.asdu.specs.declared.Asdu.{Asdu}
use Rattle.asdu.specs.declared.header.Header.{Header}
use Rattle.apdu.specs.Control.{number_at, u_of, u_octet}
use Rattle.apdu.specs.Reading.{frame_answer, asdu_part_by, asdu_part}
use Rattle.apdu.specs.Writing.{answer_for, output_for}
use Rattle.apdu.specs.declared.frame.UFrame.{UFrame}
use Rattle.apdu.proofs.Shapes.{number_fits, Shape, i_shape, s_shape, u_shape, refused_shape, shape}
use Rattle.assembly.specs.Picking.{pick_answer, pick_part_by, pick_part}
use Rattle.assembly.specs.Topping.{top_up_answer, moved_in, topped}
use Rattle.assembly.specs.Stepping.{step_answer, step_moved, step_carry}
use Rattle.assembly.specs.declared.Pick.{Pick}
use Rattle.assembly.specs.declared.Step.{Step}
use Rattle.link_state.specs.Acknowledging.{confirms, acknowledged}
use Rattle.link_state.specs.Limits.{call_refusal}
use Rattle.link_state.specs.Opening.{set_for, fresh_link, blank_link, open_refusal, refused_opening, opened}
use Rattle.link_state.specs.declared.Settings.{Settings}
use Rattle.link_state.specs.declared.State.{State}
use Rattle.link_state.specs.declared.Link.{Link}
use Rattle.link_state.proofs.Sound.{Sound, sound_state, passed}
use Rattle.link.specs.Frames.{wire, stop_act, stop_con, test_act, test_con}
use Rattle.link.specs.Making.{Making, with_clock, window_open, window_full, become, confirmed_of, confirm, due, ending, shut}
use Rattle.link.specs.Events.{Outcome, refusing, closing, accepting, s_freeing, on_s, i_freeing, on_i, test_acted, test_confirmed, on_u, on_answer, on_frame, send_plain, send_by, on_send, on_stop, too_many, on_test, is_due, t1i_due, tick_refusal, on_tick, Event, frame, send, stop, test, tick, event_outcome, called}
use Rattle.link.specs.Answering.{answer_of, called_of, link_full, link_came}
use Rattle.link_meaning.specs.Meaning.{OctetsIn}
use Rattle.promises.specs.Demand3.{Call, outcome_of, entry_of, framed, brings}
use Rattle.link.specs.declared.answers.Done.{Done}
use Rattle.elements.proofs.Refused.{number_some}
use Rattle.promises.proofs.Numbered.{called_most}
use Rattle.promises.specs.Demand1.{closes, closed_by, is_i, more_to_come, LinkCall, Demand1Level}
use Rattle.promises.proofs.Answered.{answers}
use Rattle.promises.proofs.Acknowledged.{ack_is}
use Rattle.promises.proofs.Ranges.{read_most, frame_most}
use Rattle.promises.proofs.Demand3Pool.{pool_is}
use Rattle.promises.proofs.Demand3.{number_is}
use Rattle.promises.proofs.Demand3Runs.{Range, none, from_19_to_24, first_range}
use Rattle.apdu.specs.declared.frame.Frame.TheVariants.{I, S, U}
use Rattle.apdu.specs.declared.frame.Frame.{Frame}
use Rattle.asdu.specs.declared.Form.{Form}
use Rattle.asdu.specs.declared.Form.TheVariants.{Plain, Reserved}

-- ---- reading, writing, assembling, opening

reading : (s : List ℕ) → 0 < answer_number (read_asdu s).answer → (read_asdu s).asdu ≡ no_asdu
unfolding read_asdu checked_header
reading s = by (eqb (read_refusal s) 0)
  where
    by : (t : Bool) → 0 < answer_number (pick {A = Result (Unit {0}) Refusal} t (Ok tt) (Err (refusal (read_refusal s))))
        → record_by (pick {A = Result Header Refusal} t (header_by (kind_of (get_or s 0 0)) s) (Err (refusal (read_refusal s)))) s ≡ no_asdu
    by true p = absurd (omega arith)
    by false p = refl

opening : (s : Settings) (now : ℕ) → 0 < answer_number (opened s now).answer → (opened s now).link ≡ blank_link
unfolding opened refused_opening
opening s now = by (eqb (open_refusal s now) 0)
  where
    by : (t : Bool)
        → 0 < answer_number (pick t (record { link = fresh_link s (set_for (now + s.t3)) now; answer = Ok tt }) (refused_opening (refusal (open_refusal s now)))).answer
        → (pick t (record { link = fresh_link s (set_for (now + s.t3)) now; answer = Ok tt }) (refused_opening (refusal (open_refusal s now)))).link ≡ blank_link
    by true p = absurd (omega arith)
    by false p = refl

part_by : (a : Result Frame Refusal) (f : List ℕ) → 0 < answer_number a → asdu_part_by a f ≡ []
part_by (Ok (I s r)) f p = absurd (omega arith)
part_by (Ok (S r)) f p = refl
part_by (Ok (U u)) f p = refl
part_by (Err r) f p = refl

frame_part : (f : List ℕ) → 0 < answer_number (frame_answer f) → asdu_part f ≡ []
unfolding asdu_part
frame_part f p = part_by (frame_answer f) f p

picked_by : (a : Result Pick Refusal) (carry chunk : List ℕ) → 0 < answer_number a → pick_part_by a carry chunk ≡ []
picked_by (Ok (Pick.Carry n)) carry chunk p = absurd (omega arith)
picked_by (Ok (Pick.Chunk n)) carry chunk p = absurd (omega arith)
picked_by (Ok Pick.More) carry chunk p = refl
picked_by (Err r) carry chunk p = refl

picked_part : (carry : List ℕ) (held : ℕ) (chunk : List ℕ) → 0 < answer_number (pick_answer carry held chunk) → pick_part carry held chunk ≡ []
unfolding pick_part
picked_part carry held chunk p = picked_by (pick_answer carry held chunk) carry chunk p

asdu_output : (a : Asdu) (out : List ℕ) → 0 < answer_number (write_answer a (length out)) → written a out ≡ out
unfolding written
asdu_output a out p = rw (ne_eqb (write_refusal a (length out)) 0 (λ z. omega (arith, answers.writing a (length out))))

frame_output : (refused : ℕ) (octets out : List ℕ) → 0 < answer_number (answer_for refused octets) → output_for refused octets out ≡ out
unfolding answer_for output_for
frame_output refused octets out = by (eqb refused 0)
  where
    by : (t : Bool) → 0 < answer_number (pick {A = Result ℕ Refusal} t (Ok (length octets)) (Err (refusal refused))) → pick t (octets ++ drop (length octets) out) out ≡ out
    by true p = absurd (omega arith)
    by false p = refl

moved_none : (a : Result ℕ Refusal) → 0 < answer_number a → moved_in a ≡ 0
moved_none (Ok m) p = absurd (omega arith)
moved_none (Err r) p = refl

topped_carry : (carry : List ℕ) (held : ℕ) (chunk : List ℕ) → 0 < answer_number (top_up_answer carry held chunk) → topped carry held chunk ≡ carry
unfolding topped
topped_carry carry held chunk p = rw (moved_none (top_up_answer carry held chunk) p)

stepped_none : (a : Result Step Refusal) → 0 < answer_number a → step_moved a ≡ 0
stepped_none (Ok (Step.Chunk n)) p = refl
stepped_none (Ok (Step.Carry m n)) p = absurd (omega arith)
stepped_none (Ok (Step.More m)) p = absurd (omega arith)
stepped_none (Err r) p = refl

stepped_carry : (carry : List ℕ) (held : ℕ) (chunk : List ℕ) → 0 < answer_number (step_answer carry held chunk) → step_carry carry held chunk ≡ carry
unfolding step_carry
stepped_carry carry held chunk p = rw (stepped_none (step_answer carry held chunk) p)

-- ---- the numbers that close the link

shuts : (e : Event) (n : ℕ) → 27 ≤ n → n ≤ 32 → closes e n ≡ true
shuts e n p q = rw (le-leb 27 n p, le-leb n 32 q)

frame_shuts : (f : List ℕ) (more : Bool) (n : ℕ) → 1 ≤ n → n ≤ 14 → closes (frame f more) n ≡ true
frame_shuts f more n p q = rw (lt-leb 27 n (omega arith), le-leb 1 n p, le-leb n 14 q)

stays : (e : Event) (n : ℕ) → 15 ≤ n → n ≤ 26 → closes e n ≡ false
stays (frame f more) n p q = rw (lt-leb 27 n (omega arith), le-leb 1 n (omega arith), lt-leb n 14 (omega arith))
stays (send asdu) n p q = rw (lt-leb 27 n (omega arith))
stays stop n p q = rw (lt-leb 27 n (omega arith))
stays test n p q = rw (lt-leb 27 n (omega arith))
stays tick n p q = rw (lt-leb 27 n (omega arith))

send_stays : (asdu : List ℕ) (n : ℕ) → n ≤ 26 → closes (send asdu) n ≡ false
send_stays asdu n q = rw (lt-leb 27 n (omega arith))

-- ---- how a call comes out

-- the count is at most w, where the link goes on and no more is to come
abbrev Confirmed : Event → State → Type 0
Confirmed e s = s.status.closed ≡ false → more_to_come e ≡ false → s.receive.unconfirmed ≤ s.settings.w

-- accepted; or refused with everything as it was; or refused and closed
data Ending (e : Event) (s : State) (times pool : List ℕ) (now : ℕ) (o : Outcome) : Type 0 where
  accepted : o.refused ≡ 0 → o.came ≡ is_i (brings e) → o.state.clock ≡ now → Confirmed e o.state → Ending e s times pool now o
  kept : (r : ℕ) → closes e r ≡ false → r ≤ 33 → 1 ≤ r → o ≡ refusing r s times pool → Ending e s times pool now o
  ended : (r : ℕ) → closes e r ≡ true → r ≤ 33 → 1 ≤ r → o ≡ closing r s times pool → Ending e s times pool now o

record Settled (g : Making) : Type 0 where
  most : g.state.receive.unconfirmed ≤ g.state.settings.w

-- the rule of confirming, at the end of a call
settled : (now : ℕ) (g : Making) → Settled (ending false now g)
unfolding ending due confirm confirmed_of
settled now g = by (ltb g.state.settings.w g.state.receive.unconfirmed) (leb 32768 g.state.receive.unconfirmed) refl
  where
    by : (t v : Bool) → ltb g.state.settings.w g.state.receive.unconfirmed ≡ t
        → Settled (pick ((t && true) || v) (confirm (become (λ (s : State). with_clock s now) g)) (become (λ (s : State). with_clock s now) g))
    by true v e = record { most = omega arith }
    by false true e = record { most = omega arith }
    by false false e = record { most = ltb-false g.state.settings.w g.state.receive.unconfirmed e }

ending_clock : (more : Bool) (now : ℕ) (g : Making) → (ending more now g).state.clock ≡ now
unfolding ending confirm confirmed_of
ending_clock more now g = by (due g.state more)
  where
    by : (t : Bool) → (pick t (confirm (become (λ (s : State). with_clock s now) g)) (become (λ (s : State). with_clock s now) g)).state.clock ≡ now
    by true = refl
    by false = refl

settled_by : (more : Bool) (now : ℕ) (g : Making) → more ≡ false → Settled (ending more now g)
settled_by more now g m = subst (λ (b : Bool). Settled (ending b now g)) (sym m) (settled now g)

by_test : {e : Event} {s : State} {times pool : List ℕ} {now : ℕ} (b : Bool) {o q : Outcome} → Ending e s times pool now o → Ending e s times pool now q → Ending e s times pool now (pick b o q)
by_test true x y = x
by_test false x y = y

module _ (s : State) (times pool : List ℕ) (now : ℕ) where
  module _ (f : List ℕ) (more : Bool) (o : Octets f) (sound : Sound s) where
    abbrev came_in : Event
    came_in = frame f more

    held_low : s.window.held ≤ 32767
    held_low = let h = sound.held_k in let k = sound.k_high in omega arith

    s_ending : is_i (brings came_in) ≡ false → (t : Bool) (d : ℕ)
        → Ending came_in s times pool now (s_freeing (pick {A = Result ℕ Refusal} t (Ok d) (Err (refusal wrong_receive_number))) s times pool more now)
    unfolding s_freeing accepting refusal
    s_ending is true d = accepted refl (sym is) (ending_clock more now _) (λ z m. (settled_by more now _ m).most)
    s_ending is false d = ended wrong_receive_number (shuts came_in 27 (omega arith) (omega arith)) (omega arith) (omega arith) refl

    i_ending : is_i (brings came_in) ≡ true → (t : Bool) (d : ℕ)
        → Ending came_in s times pool now (i_freeing (pick {A = Result ℕ Refusal} t (Ok d) (Err (refusal wrong_receive_number))) s times pool more now)
    unfolding i_freeing accepting refusal
    i_ending is true d = accepted refl (sym is) (ending_clock more now _) (λ z m. (settled_by more now _ m).most)
    i_ending is false d = ended wrong_receive_number (shuts came_in 27 (omega arith) (omega arith)) (omega arith) (omega arith) refl

    -- a stop ends the link
    over : {n : ℕ} → true ≡ false → more_to_come came_in ≡ false → n ≤ s.settings.w
    over z m = let y : ◌≡◌ {A = ℕ} 0 1 = cc in absurd (omega arith)

    u_ending : is_i (brings came_in) ≡ false → (u : UFrame) → Ending came_in s times pool now (on_u u s times pool more now)
    unfolding on_u test_acted test_confirmed accepting shut
    u_ending is u =
        by_test (eqb (u_octet u) test_act) (accepted refl (sym is) (ending_clock more now _) (λ z m. (settled_by more now _ m).most))
        (by_test (eqb (u_octet u) test_con) (accepted refl (sym is) (ending_clock more now _) (λ z m. (settled_by more now _ m).most))
        (by_test (eqb (u_octet u) stop_act) (accepted refl (sym is) refl over)
        (by_test (eqb (u_octet u) stop_con) (accepted refl (sym is) refl over)
        (ended u_not_answered (shuts came_in 29 (omega arith) (omega arith)) (omega arith) (omega arith) refl))))

    by_answer : {a : Result Frame Refusal} → frame_answer f ≡ a → Ending came_in s times pool now (on_answer a s times pool more now) → Ending came_in s times pool now (on_frame f more s times pool now)
    unfolding on_frame
    by_answer g x = rw g x

    brings_is : {a : Result Frame Refusal} → frame_answer f ≡ a → is_i (brings came_in) ≡ is_i (framed a)
    brings_is g = ap (λ (x : Result Frame Refusal). is_i (framed x)) g

    -- what the receive number does
    confirmed : ℕ
    confirmed = confirms s.window.next.0 s.window.held (number_at 4 f)

    acknowledges : acknowledged s.window.next.0 s.window.held (number_at 4 f)
        ≡ pick (leb confirmed s.window.held) (Ok confirmed) (Err (refusal wrong_receive_number))
    unfolding confirmed
    acknowledges = ack_is s.window.next.0 s.window.held (number_at 4 f) sound.next_high held_low (number_fits f 4 o)

    frame_ending : Ending came_in s times pool now (on_frame f more s times pool now)
    unfolding on_answer on_i on_s
    frame_ending = by (shape f)
      where
        by : Shape f → Ending came_in s times pool now (on_frame f more s times pool now)
        by (i_shape c g) =
            by_answer g
            (by_test (eqb (number_at 2 f) s.receive.next.0)
            (rw acknowledges (i_ending (brings_is g) (leb confirmed s.window.held) confirmed))
            (ended wrong_send_number (shuts came_in 28 (omega arith) (omega arith)) (omega arith) (omega arith) refl))
        by (s_shape c g) = by_answer g (rw acknowledges (s_ending (brings_is g) (leb confirmed s.window.held) confirmed))
        by (u_shape c g) = by_answer g (u_ending (brings_is g) (u_of (get_or f 2 0)))
        by (refused_shape r n g) =
            let high : number r ≤ 14 = omega (arith, frame_most f, ap answer_number g) in
            let low : 1 ≤ number r = omega (arith, n) in
            by_answer g (ended (number r) (frame_shuts f more (number r) low high) (omega arith) low refl)

  plain_ending : (asdu : List ℕ) → Ending (send asdu) s times pool now (send_plain asdu s times pool now)
  unfolding send_plain accepting
  plain_ending asdu =
      by_test (window_open s) (accepted refl refl (ending_clock false now _) (λ z m. (settled now _).most))
      (by_test (leb s.settings.p s.queue.count) (kept queue_full (stays (send asdu) 25 (omega arith) (omega arith)) (omega arith) (omega arith) refl)
      (accepted refl refl (ending_clock false now _) (λ z m. (settled now _).most)))

  send_by_law : (asdu : List ℕ) (q : Result Form Refusal) → plain_answer asdu ≡ q → answer_number q ≤ 17 → Ending (send asdu) s times pool now (send_by q asdu s times pool now)
  unfolding send_by
  send_by_law asdu (Ok Plain) e h = plain_ending asdu
  send_by_law asdu (Ok Reserved) e h = kept not_plain_form (stays (send asdu) 26 (omega arith) (omega arith)) (omega arith) (omega arith) refl
  send_by_law asdu (Err r) e h =
      let some = number_some r in
      kept (number r) (send_stays asdu (number r) (omega arith)) (omega arith) (omega (arith, some)) refl

  send_ending : (asdu : List ℕ) → Ending (send asdu) s times pool now (on_send asdu s times pool now)
  unfolding on_send
  send_ending asdu = send_by_law asdu (plain_answer asdu) refl (omega (arith, answers.telling asdu, read_most 17 (omega arith) asdu (λ z. omega arith)))

  stop_ending : Ending stop s times pool now (on_stop s times pool now)
  unfolding on_stop accepting
  stop_ending = accepted refl refl (ending_clock false now _) (λ z m. (settled now _).most)

  test_ending : Ending test s times pool now (on_test s times pool now)
  unfolding on_test accepting
  test_ending =
      by_test (too_many s) (ended too_many_tests (shuts test 32 (omega arith) (omega arith)) (omega arith) (omega arith) refl)
      (accepted refl refl (ending_clock false now _) (λ z m. (settled now _).most))

  data Due (n : ℕ) : Type 0 where
    no_timeout : n ≡ 0 → Due n
    timeout : 27 ≤ n → n ≤ 32 → Due n

  due_test : (b : Bool) {x y : ℕ} → Due x → Due y → Due (pick b x y)
  due_test true p q = p
  due_test false p q = q

  tick_due : Due (tick_refusal s times now)
  unfolding tick_refusal
  tick_due =
      due_test (is_due s.timers.t1u now) (timeout (omega arith) (omega arith))
      (due_test (t1i_due s times now) (timeout (omega arith) (omega arith))
      (due_test (is_due s.timers.t3 now && too_many s) (timeout (omega arith) (omega arith)) (no_timeout refl)))

  tick_ending : Ending tick s times pool now (on_tick s times pool now)
  unfolding on_tick accepting
  tick_ending = by tick_due
    where
      by : Due (tick_refusal s times now) → Ending tick s times pool now (on_tick s times pool now)
      by (no_timeout z) = rw (eq-eqb (tick_refusal s times now) 0 z) (accepted refl refl (ending_clock false now _) (λ y m. (settled now _).most))
      by (timeout p q) = rw (ne_eqb (tick_refusal s times now) 0 (λ z. omega arith)) (ended (tick_refusal s times now) (shuts tick _ p q) (omega arith) (omega arith) refl)

  event_ending : (e : Event) → OctetsIn e → Sound s → Ending e s times pool now (event_outcome e s times pool now)
  unfolding event_outcome
  event_ending (frame f more) o sound = frame_ending f more o sound
  event_ending (send asdu) o sound = send_ending asdu
  event_ending stop o sound = stop_ending
  event_ending test o sound = test_ending
  event_ending tick o sound = tick_ending

call_ending : (e : Event) (l : Link) (pool : List ℕ) (output now : ℕ) → OctetsIn e → Ending e l.state l.times pool now (called e l pool output now)
unfolding called
call_ending e l pool output now o = by (first_range l output (length pool) now)
  where
    by : Range (call_refusal l output (length pool) now) → Ending e l.state l.times pool now (called e l pool output now)
    by (none z) =
        rw (eq-eqb (call_refusal l output (length pool) now) 0 z)
        (event_ending l.state l.times pool now e o (sound_state l (passed l output (length pool) now z).sound))
    by (from_19_to_24 p q) =
        rw (ne_eqb (call_refusal l output (length pool) now) 0 (λ z. omega arith))
        (kept (call_refusal l output (length pool) now) (stays e (call_refusal l output (length pool) now) (omega arith) (omega arith)) (omega arith) (omega arith) refl)

-- ---- the claim

full_is : (o : Outcome) → o.refused ≡ 0 → link_full (answer_of o) ≡ window_full o.state
unfolding answer_of
full_is o z = rw (eq-eqb o.refused 0 z)

came_is : (o : Outcome) {n : ℕ} {i : Bool} → n ≡ o.refused → (o.refused ≡ 0 → o.came ≡ i) → link_came (answer_of o) ≡ (eqb n 0 && i)
unfolding answer_of
came_is o {i = i} m h = rw m (by (eqb o.refused 0) refl)
  where
    by : (b : Bool) → eqb o.refused 0 ≡ b
        → link_came (pick {A = Result Done Refusal} b (Ok (record { written = length (wire o.frames); full = window_full o.state; came = o.came })) (Err (refusal o.refused)))
        ≡ (b && i)
    by true e = h (eqb-true _ _ e)
    by false e = refl

module _ (c : Call) (l : Link) (pool : List ℕ) where
  abbrev o : Outcome
  o = outcome_of c l pool

  number_law : (entry_of c l pool).number ≡ o.refused
  unfolding called_of
  number_law = number_is o (called_most c.event l pool (length c.output) c.now)

  -- a refused one
  left : {q : Outcome} → o ≡ q → q.frames ≡ [] → q.pool ≡ pool → q.refused ≤ 33 → 1 ≤ q.refused
      → record { times = q.times; state = q.state } ≡ pick (closes c.event q.refused) (closed_by q.refused l) l → LinkCall c l pool
  unfolding called_of wire
  left {q} is silent same small low after =
      let n : (entry_of c l pool).number ≡ q.refused = number_law ∙ ap (λ (x : Outcome). x.refused) is in
      let never : (entry_of c l pool).number ≡ 0 → ⊥ = λ z. omega arith in
      record {
        numbered = omega arith;
        output_same = λ h. rw (is, silent);
        pool_same = λ h. sym (pool_is c.event l pool (length c.output) c.now) ∙ (ap (λ (x : Outcome). x.pool) is ∙ same);
        link_after_law = λ h. rw n (ap (λ (x : Outcome). record { times = x.times; state = x.state }) is ∙ after);
        clocked = λ z. absurd (never z);
        full = λ z. absurd (never z);
        came = came_is o number_law (λ z. absurd (never (number_law ∙ z)));
        confirmed = λ z. absurd (never z);
      }

  -- one that is accepted
  taken : o.refused ≡ 0 → o.came ≡ is_i (brings c.event) → o.state.clock ≡ c.now → Confirmed c.event o.state → LinkCall c l pool
  unfolding called_of
  taken z came clock low =
      let n = number_law in
      record {
        numbered = omega arith;
        output_same = λ h. absurd (omega arith);
        pool_same = λ h. absurd (omega arith);
        link_after_law = λ h. absurd (omega arith);
        clocked = λ y. clock;
        full = λ y. full_is o z;
        came = came_is o number_law (λ y. came);
        confirmed = λ y. low;
      }

  link_call : OctetsIn c.event → LinkCall c l pool
  unfolding refusing closing
  link_call octets = by (call_ending c.event l pool (length c.output) c.now octets)
    where
      by : Ending c.event l.state l.times pool c.now o → LinkCall c l pool
      by (accepted z came clock confirmed) = taken z came clock confirmed
      by (kept r stay small low is) = left is refl refl small low (sym (ap (λ (b : Bool). pick b (closed_by r l) l) stay))
      by (ended r close small low is) = left is refl refl small low (sym (ap (λ (b : Bool). pick b (closed_by r l) l) close))

pub demand_1_level : Demand1Level
demand_1_level = record {
  leaves = record {
    reading = reading;
    opening = opening;
    frame_part = frame_part;
    picked_part = picked_part;
    asdu_output = asdu_output;
    frame_output = frame_output;
    topped_carry = topped_carry;
    stepped_carry = stepped_carry;
  };
  calls = link_call;
}
