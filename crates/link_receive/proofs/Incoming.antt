-- A frame received: what its numbers and its reading show, what goes out for it, and what the link answers. Assumes nothing.
use Prim.Native.Nat.{ℕ, ◌≤◌}
use mathlib.Core.Path.{◌≡◌, refl, sym, ap, subst, ◌∙◌}
use mathlib.Core.Bool.{Bool, true, false}
use mathlib.Core.List.{List}
use native.Mathlib.Omega.{arith}
use native.Mathlib.Nat.{mod-lt}
use lib.Dec.{eqb}
use lib.ListN.{length}
use lib.Seq.{sets}
use borrow.Author.Tests.{eqb-true, eq-eqb, ne_eqb}
use Rattle.laws.specs.Choice.{pick}
use Rattle.std.specs.Prelude.{Result, Ok, Err}
use Rattle.elements.specs.Refusals.{number, refusal}
use Rattle.elements.specs.declared.refusals.Refusal.{Refusal}
use Rattle.elements.specs.declared.refusals.Refusal.TheVariants.{UNotAnswered}
use Rattle.apdu.specs.Control.{u_octet}
use Rattle.apdu.specs.Reading.{frame_answer}
use Rattle.apdu.specs.Writing.{start_octets}
use Rattle.apdu.specs.declared.frame.ReceiveNumber.{ReceiveNumber}
use Rattle.apdu.specs.declared.frame.UFrame.{UFrame}
use Rattle.apdu.specs.declared.frame.Frame.{Frame}
use Rattle.link_state.specs.Acknowledging.{confirms, ack_refusal, acknowledged}
use Rattle.link_state.specs.declared.State.{State}
use Rattle.link_state.proofs.Acks.{frees_within}
use Rattle.link.specs.declared.answers.Step.{Step}
use Rattle.link_steps.specs.declared.steps.Made.{Made}
use Rattle.link.specs.Frames.{wire, stop_act, stop_con, test_act, test_con}
use Rattle.link.specs.Making.{Making, freed_of, room, send_waiting, set_t3, start_t2, become, ending, shut}
use Rattle.link.specs.Events.{accepting, closing, start, release, s_freeing, on_s, received, i_freeing, on_i, test_acted, test_confirmed, stopped, on_u, on_answer, on_frame}
use Rattle.link.specs.Answering.{Answers, Does, Timed, Open, done_step, refused_step}
use Rattle.link_steps.specs.Steps.{made_of, Makes, HandsOut}
use Rattle.link_steps.proofs.Made.{makes_become, makes_u, makes_none, answers_accepting, answers_ending, answers_closing}
use Rattle.link_steps.proofs.Flushing.{after_flush, can_flush, flush_short}
use Rattle.link_steps.proofs.Unchanged.{ending_times}

-- ---- what a state that differs elsewhere rests on

pub timed_by : {s t : State} {now : ℕ} → t.settings ≡ s.settings → Timed s now → Timed t now
timed_by e h = record { t1_high = rw e h.t1_high; t2_high = rw e h.t2_high; t3_high = rw e h.t3_high; now_high = h.now_high }

module _ (s : State) (places poolLen outLen now : ℕ) (o : Open s places poolLen outLen now) where
  pub open_freed : (d : ℕ) → Open (freed_of s places d) places poolLen outLen now
  unfolding freed_of
  open_freed d =
      let low = o.first_low in
      let k = o.held_k in
      record {
        calm = record { timed = timed_by refl o.calm.timed; out_room = o.calm.out_room; recv_high = o.calm.recv_high; tests_high = o.calm.tests_high };
        pool_room = o.pool_room;
        p_high = o.p_high;
        k_places = o.k_places;
        places_high = o.places_high;
        held_k = omega arith;
        count_p = o.count_p;
        first_low = mod-lt _ (omega arith);
        next_high = o.next_high;
        place_high = o.place_high;
        lengths_high = o.lengths_high;
      }

  pub open_received : Open (received s) places poolLen outLen now
  unfolding received
  open_received =
      record {
        calm = record { timed = timed_by refl o.calm.timed; out_room = o.calm.out_room; recv_high = omega arith; tests_high = o.calm.tests_high };
        pool_room = o.pool_room;
        p_high = o.p_high;
        k_places = o.k_places;
        places_high = o.places_high;
        held_k = o.held_k;
        count_p = o.count_p;
        first_low = o.first_low;
        next_high = o.next_high;
        place_high = o.place_high;
        lengths_high = o.lengths_high;
      }

-- ---- what was let out

pub record Released (s : State) (g : Making) : Type 0 where
  pub settings : g.state.settings ≡ s.settings
  pub next : g.state.receive.next.0 ≡ s.receive.next.0
  pub short : length (wire g.frames) ≤ 4080

pub released : (s : State) (ts pool : List ℕ) (poolLen outLen now d : ℕ) → Open s (length ts) poolLen outLen now → Released s (release d now s ts pool)
unfolding release send_waiting freed_of
released s ts pool poolLen outLen now d o =
    let f = freed_of s (length ts) d in
    let n = room f in
    let can = can_flush f (length ts) poolLen outLen now (open_freed s (length ts) poolLen outLen now o d) in
    let k = after_flush n now pool (start f ts) can.next_high can.place_high in
    let long = flush_short f n (length ts) poolLen outLen now ts pool can n (omega arith) in
    let high = can.n_high in
    record { settings = k.settings; next = ap (λ (x : ReceiveNumber). x.0) k.receive; short = omega arith }

-- ---- the receive number

-- what an answer shows
abbrev AckTold : ℕ → Result ℕ Refusal → Type 0
AckTold held (Ok d) = d ≤ held
AckTold held (Err r) = Unit {0}

ack_told : (next held number : ℕ) → AckTold held (acknowledged next held number)
unfolding acknowledged
ack_told next held number = by (eqb (ack_refusal next held number) 0) refl
  where
    by : (b : Bool) → eqb (ack_refusal next held number) 0 ≡ b
        → AckTold held (pick {A = Result ℕ Refusal} b (Ok (confirms next held number)) (Err (refusal (ack_refusal next held number))))
    by true e = frees_within next held number (eqb-true _ _ e)
    by false e = tt

pub frees_held : (next held number : ℕ) {a : Result ℕ Refusal} {d : ℕ} → a ≡ acknowledged next held number → a ≡ Ok d → d ≤ held
frees_held next held number acked is = subst (AckTold held) (sym acked ∙ is) (ack_told next held number)

module _ (s : State) (got : ℕ) (ts ps out : List ℕ) (more : Bool) (now : ℕ) {a : Result ℕ Refusal}
    (acked : a ≡ acknowledged s.window.next.0 s.window.held got) where
  -- 27 ends the link
  module _ {x : Refusal} {r : Step} (is : a ≡ Err x) (closed : r ≡ refused_step (shut (number x) s) x) where
    wrong : acknowledged s.window.next.0 s.window.held got ≡ Err x
    wrong = sym acked ∙ is

    closes : Does (closing (number x) s ts ps) out r ts out
    unfolding closing
    closes = record { answers = answers_closing x s ts ps out closed; ring = refl }

    pub s_refused : Does (on_s got s ts ps more now) out r ts out
    unfolding on_s s_freeing
    s_refused = rw wrong closes

    pub i_refused : (sent : ℕ) → sent ≡ s.receive.next.0 → Does (on_i sent got s ts ps more now) out r ts out
    unfolding on_i i_freeing
    i_refused sent e = rw (eq-eqb sent s.receive.next.0 e, wrong) closes

  right : {d : ℕ} → a ≡ Ok d → acknowledged s.window.next.0 s.window.held got ≡ Ok d
  right is = sym acked ∙ is

  pub s_frees : {d : ℕ} {m t ended : Made} {r : Step} {ts₁ out₁ out₂ : List ℕ} → a ≡ Ok d
      → HandsOut (release d now s ts ps) 0 out m ts₁ out₁ → t ≡ made_of (set_t3 now m.state) m.end
      → ((l : List ℕ) → Makes (ending more now (start t.state l)) t.end out₁ ended out₂) → r ≡ done_step ended.state ended.end false
      → Does (on_s got s ts ps more now) out r ts₁ out₂
  unfolding on_s s_freeing accepting
  s_frees {d} is let_out_law timed finished accepted =
      let g = release d now s ts ps in
      let one = makes_become (set_t3 now) let_out_law.makes timed in
      rw (right is) (record { answers = answers_ending false more now ps one finished accepted; ring = let_out_law.ring ∙ sym (ending_times more now (become (set_t3 now) g)) })

  pub i_frees : (sent : ℕ) {d : ℕ} {m t₂ t ended : Made} {c : State} {r : Step} {ts₁ out₁ out₂ : List ℕ} → sent ≡ s.receive.next.0 → a ≡ Ok d
      → c ≡ received s → HandsOut (release d now c ts ps) 0 out m ts₁ out₁ → t₂ ≡ made_of (start_t2 now m.state) m.end → t ≡ made_of (set_t3 now t₂.state) t₂.end
      → ((l : List ℕ) → Makes (ending more now (start t.state l)) t.end out₁ ended out₂) → r ≡ done_step ended.state ended.end true
      → Does (on_i sent got s ts ps more now) out r ts₁ out₂
  unfolding on_i i_freeing accepting
  i_frees sent {d} {m} {ts₁ = ts₁} {out₁ = out₁} e is counted let_out_law started timed finished accepted =
      let g = release d now (received s) ts ps in
      let f : State → State = λ x. set_t3 now (start_t2 now x) in
      let let-out' : HandsOut g 0 out m ts₁ out₁ = rw counted at let_out_law in
      let one = makes_become (set_t3 now) (makes_become (start_t2 now) let-out'.makes started) timed in
      rw (eq-eqb sent s.receive.next.0 e, right is) (record { answers = answers_ending true more now ps one finished accepted; ring = let-out'.ring ∙ sym (ending_times more now (become f g)) })

-- ---- U frames

module _ (u : UFrame) (s : State) (ts ps out : List ℕ) (more : Bool) (now : ℕ) {r : Step} {out₁ : List ℕ} where
  pub u_test_act : u_octet u ≡ test_act → Answers (test_acted s ts ps more now) out r out₁ → Answers (on_u u s ts ps more now) out r out₁
  unfolding on_u
  u_test_act e h = rw e h

  pub u_test_con : u_octet u ≡ test_con → Answers (test_confirmed s ts ps more now) out r out₁ → Answers (on_u u s ts ps more now) out r out₁
  unfolding on_u
  u_test_con e h = rw e h

  pub u_stop_act : u_octet u ≡ stop_act → out₁ ≡ sets out 0 (start_octets 4 stop_con 0) → r ≡ done_step (stopped now s) 6 false
      → Answers (on_u u s ts ps more now) out r out₁
  unfolding on_u
  u_stop_act e stored done =
      let one = makes_u stop_con s ts 0 out refl stored in
      let two = makes_become (stopped now) {r = made_of (stopped now s) 6} one refl in
      rw e (answers_accepting false ps two done)

  pub u_stop_con : u_octet u ≡ stop_con → out₁ ≡ out → r ≡ done_step (stopped now s) 0 false → Answers (on_u u s ts ps more now) out r out₁
  unfolding on_u
  u_stop_con e same done =
      let one = makes_become (stopped now) {r = made_of (stopped now s) 0} (makes_none s ts 0 out) refl in
      rw (same, e) (answers_accepting false ps one done)

  pub u_other : (u_octet u ≡ test_act → ⊥) → (u_octet u ≡ test_con → ⊥) → (u_octet u ≡ stop_act → ⊥) → (u_octet u ≡ stop_con → ⊥)
      → out₁ ≡ out → r ≡ refused_step (shut (number UNotAnswered) s) UNotAnswered → Answers (on_u u s ts ps more now) out r out₁
  unfolding on_u
  u_other n₁ n₂ n₃ n₄ same closed =
      rw (same, ne_eqb _ _ n₁, ne_eqb _ _ n₂, ne_eqb _ _ n₃, ne_eqb _ _ n₄) (answers_closing UNotAnswered s ts ps out closed)

-- ---- the reading

module _ (f : List ℕ) (s : State) (ts ps out : List ℕ) (more : Bool) (now : ℕ) {a : Result Frame Refusal} (read : a ≡ frame_answer f) {r : Step} {ts₁ out₁ : List ℕ} where
  -- what is answered to the reading is answered to the frame
  pub frame_answered : {b : Result Frame Refusal} → a ≡ b → Does (on_answer b s ts ps more now) out r ts₁ out₁ → Does (on_frame f more s ts ps now) out r ts₁ out₁
  unfolding on_frame
  frame_answered is h = subst (λ (x : Result Frame Refusal). Does (on_answer x s ts ps more now) out r ts₁ out₁) (sym is ∙ read) h

  pub frame_refused : {x : Refusal} → a ≡ Err x → ts₁ ≡ ts → out₁ ≡ out → r ≡ refused_step (shut (number x) s) x → Does (on_frame f more s ts ps now) out r ts₁ out₁
  unfolding on_answer closing
  frame_refused {x} is same-ring same closed =
      frame_answered is (rw (same-ring, same) (record { answers = answers_closing x s ts ps out closed; ring = refl }))
