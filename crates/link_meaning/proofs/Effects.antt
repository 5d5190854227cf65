-- What every event does to totals and lists, and which receive numbers are accepted. Assumes nothing.
use Prim.Native.Nat.{ℕ, ◌+◌, ◌<◌, ◌≤◌}
use mathlib.Core.Path.{◌≡◌, refl, sym, ap, subst, ◌∙◌}
use mathlib.Core.Bool.{Bool, true, false}
use mathlib.Core.List.{List, [], ◌∷◌, ◌++◌, append_assoc, append-nil}
use native.Mathlib.Omega.{arith}
use native.Mathlib.Nat.{add-zero}
use lib.ListN.{length, drop, replicate, length-append, replicate-append-replicate}
use lib.Dec.{leb, eqb}
use borrow.Author.Tests.{leb-true, le-leb, ltb-true, le-ltb, eqb-true, eq-eqb}
use Rattle.laws.specs.Bits.{num}
use Rattle.laws.specs.Choice.{pick}
use Rattle.laws.proofs.Choices.{held, picked, pick_same}
use Rattle.laws.proofs.Window.{window}
use Rattle.std.specs.Prelude as prelude
use Rattle.std.specs.Prelude.{Ok, Err}
use Rattle.elements.specs.declared.refusals.Refusal.{Refusal}
use Rattle.elements.specs.Refusals as rows
use Rattle.elements.specs.Refusals.{wrong_receive_number, wrong_send_number, u_not_answered, too_many_tests, queue_full, not_plain_form}
use Rattle.asdu.specs.Plain.{plain_answer}
use Rattle.asdu.specs.declared.Form.{Form}
use Rattle.asdu.specs.declared.Form.TheVariants.{Plain, Reserved}
use Rattle.link.proofs.Numbered.{some_number}
use Rattle.apdu.specs.Control.{u_of, u_octet}
use Rattle.apdu.specs.Reading.{frame_answer}
use Rattle.apdu.specs.declared.frame.UFrame.{UFrame}
use Rattle.apdu.specs.declared.frame.Frame as read
use Rattle.apdu.specs.declared.frame.Frame.TheVariants.{I, S, U}
use Rattle.link_state.specs.declared.Settings.{Settings}
use Rattle.link_state.specs.declared.Timers.{Timers}
use Rattle.link.specs.Frames.{Frame, i_frame, s_frame, u_frame, stop_act, stop_con, test_act, test_con}
use Rattle.link.specs.Events.{Event, frame, send, stop, test, tick, is_due}
use Rattle.link_meaning.specs.Abstract.{Abstract, Progress, Result, on_wire, is_open, fits, freed_by, free, count, send_one, queue, timing, settle, set_clock, ended, begin, change, add, send_out, flush, letting, confirm_all, test_out, must_confirm, finish, accept, refuse, close, outstanding, t1u_from, t2_from, t3_from, test_from, test_answered, stop_link, step_s, step_i, step_u, step_frame, step_plain, step_send, step_stop, many_open, step_test, tick_number, tick_t2, tick_t3, step_tick, step}
use Rattle.link_meaning.specs.Runs.{Within}
use Rattle.link_meaning.specs.Effects.{asdus_of, NumberedFrames, tells_r, others, frees_by, counts_by, frees, counts, takes, Effect, HasEffect, SomeFits, AcceptsExactly}

-- ---- frames in a row

pub asdus_append : (fs gs : List Frame) → asdus_of (fs ++ gs) ≡ asdus_of fs ++ asdus_of gs
unfolding asdus_of
asdus_append [] gs = refl
asdus_append (i_frame s r x ∷ fs) gs = ap (λ (l : List (List ℕ)). x ∷ l) (asdus_append fs gs)
asdus_append (s_frame r ∷ fs) gs = asdus_append fs gs
asdus_append (u_frame u ∷ fs) gs = asdus_append fs gs

pub numbered_append : (s r : ℕ) (fs gs : List Frame) → NumberedFrames s r fs → NumberedFrames (s + length (asdus_of fs)) r gs → NumberedFrames s r (fs ++ gs)
unfolding NumberedFrames asdus_of
numbered_append s r [] gs h k = subst (λ (n : ℕ). NumberedFrames n r gs) (add-zero s) k
numbered_append s r (i_frame a b x ∷ fs) gs h k =
    (h.0, h.1, numbered_append (s + 1) r fs gs h.2 (subst (λ (n : ℕ). NumberedFrames n r gs) (omega arith) k))
numbered_append s r (s_frame b ∷ fs) gs h k = (h.0, numbered_append s r fs gs h.1 k)
numbered_append s r (u_frame u ∷ fs) gs h k = numbered_append s r fs gs h k

tells_i : (fs : List Frame) (s r : ℕ) (x : List ℕ) → tells_r (fs ++ (i_frame s r x ∷ [])) ≡ true
unfolding tells_r
tells_i [] s r x = refl
tells_i (i_frame a b y ∷ fs) s r x = refl
tells_i (s_frame b ∷ fs) s r x = refl
tells_i (u_frame u ∷ fs) s r x = tells_i fs s r x

tells_s : (fs : List Frame) (r : ℕ) → tells_r (fs ++ (s_frame r ∷ [])) ≡ true
unfolding tells_r
tells_s [] r = refl
tells_s (i_frame a b y ∷ fs) r = refl
tells_s (s_frame b ∷ fs) r = refl
tells_s (u_frame u ∷ fs) r = tells_s fs r

tells_u : (fs : List Frame) (v : UFrame) → tells_r (fs ++ (u_frame v ∷ [])) ≡ tells_r fs
unfolding tells_r
tells_u [] v = refl
tells_u (i_frame a b y ∷ fs) v = refl
tells_u (s_frame b ∷ fs) v = refl
tells_u (u_frame u ∷ fs) v = tells_u fs v

num_low : (b : Bool) → num b ≤ 1
num_low true = omega arith
num_low false = omega arith

others_append : (fs gs : List Frame) → others (fs ++ gs) ≡ others fs + others gs
unfolding others
others_append [] gs = omega arith
others_append (i_frame s r x ∷ fs) gs = others_append fs gs
others_append (s_frame r ∷ fs) gs = let h = others_append fs gs in omega arith
others_append (u_frame u ∷ fs) gs = let h = others_append fs gs in omega arith

-- ---- a call in the making

-- so far d are freed, c counted, at most u U frames are out, and ws is what is handed out and then what waits
record Grows (a : Abstract) (now d c u : ℕ) (ws : List (List ℕ)) (p : Progress) : Type 0 where
  sent : p.link.sent ≡ a.sent + length (asdus_of p.frames)
  received : p.link.received ≡ a.received + c
  confirmed : p.link.confirmed ≡ a.confirmed + d
  times : p.link.times ≡ drop d a.times ++ replicate (length (asdus_of p.frames)) now
  order : asdus_of p.frames ++ p.link.waiting ≡ ws
  numbers : NumberedFrames a.sent (a.received + c) p.frames
  unconfirmed : p.link.unconfirmed ≡ pick (tells_r p.frames) 0 (a.unconfirmed + c)
  settings : p.link.settings ≡ a.settings
  few : others p.frames ≤ u + num (tells_r p.frames)

module _ (a : Abstract) (now d c : ℕ) {u : ℕ} where
  grows_more : {v : ℕ} {ws : List (List ℕ)} {p : Progress} → u ≤ v → Grows a now d c u ws p → Grows a now d c v ws p
  grows_more h g =
      let few = g.few in
      record {
        sent = g.sent;
        received = g.received;
        confirmed = g.confirmed;
        times = g.times;
        order = g.order;
        numbers = g.numbers;
        unconfirmed = g.unconfirmed;
        settings = g.settings;
        few = omega arith;
      }

  -- a frame that carries no ASDU, and a link that changes in none but the count
  grows_add : (v : ℕ) (ws : List (List ℕ)) (f : Frame) (p : Progress) (b : Abstract) → asdus_of (f ∷ []) ≡ [] → ((s : ℕ) → NumberedFrames s (a.received + c) (f ∷ []))
      → b.sent ≡ p.link.sent → b.received ≡ p.link.received → b.confirmed ≡ p.link.confirmed → b.times ≡ p.link.times → b.waiting ≡ p.link.waiting
      → b.settings ≡ p.link.settings → b.unconfirmed ≡ pick (tells_r (p.frames ++ (f ∷ []))) 0 (a.unconfirmed + c)
      → others p.frames + 1 ≤ v + num (tells_r (p.frames ++ (f ∷ []))) → others (f ∷ []) ≡ 1 → Grows a now d c u ws p
      → Grows a now d c v ws (record { link = b; frames = p.frames ++ (f ∷ []) })
  grows_add v ws f p b none numbered s r k t w e n few one g =
      let same : asdus_of (p.frames ++ (f ∷ [])) ≡ asdus_of p.frames = asdus_append p.frames (f ∷ []) ∙ (ap (λ (l : List (List ℕ)). asdus_of p.frames ++ l) none ∙ append-nil _) in
      record {
        sent = rw same (s ∙ g.sent);
        received = r ∙ g.received;
        confirmed = k ∙ g.confirmed;
        times = rw same (t ∙ g.times);
        order = rw same (ap (λ (l : List (List ℕ)). asdus_of p.frames ++ l) w ∙ g.order);
        numbers = numbered_append a.sent (a.received + c) p.frames (f ∷ []) g.numbers (numbered _);
        unconfirmed = n;
        settings = e ∙ g.settings;
        few = omega (arith, others_append p.frames (f ∷ []));
      }

  -- an I frame
  grows_send : (ws vs : List (List ℕ)) (x : List ℕ) (rest : List (List ℕ)) (p : Progress) → asdus_of p.frames ++ (x ∷ rest) ≡ vs → Grows a now d c u ws p → Grows a now d c u vs (send_out now x rest p)
  unfolding send_out send_one
  grows_send ws vs x rest p e g =
      let f = i_frame (on_wire p.link.sent) (on_wire p.link.received) x in
      let one : asdus_of (f ∷ []) ≡ x ∷ [] = unfold asdus_of in refl in
      let same : asdus_of (p.frames ++ (f ∷ [])) ≡ asdus_of p.frames ++ (x ∷ []) = asdus_append p.frames (f ∷ []) ∙ ap (λ (l : List (List ℕ)). asdus_of p.frames ++ l) one in
      let long : length (asdus_of (p.frames ++ (f ∷ []))) ≡ length (asdus_of p.frames) + 1 = ap length same ∙ length-append (asdus_of p.frames) (x ∷ []) in
      let s = g.sent in
      let tells = tells_i p.frames (on_wire p.link.sent) (on_wire p.link.received) x in
      record {
        sent = omega arith;
        received = g.received;
        confirmed = g.confirmed;
        times = rw (long, ← replicate-append-replicate (length (asdus_of p.frames)) 1 now, g.times) (append_assoc (drop d a.times) _ _);
        order = rw same (append_assoc (asdus_of p.frames) (x ∷ []) rest ∙ e);
        numbers = numbered_append a.sent (a.received + c) p.frames (f ∷ []) g.numbers
            (unfold NumberedFrames in (ap on_wire g.sent, ap on_wire g.received, tt));
        unconfirmed = sym (ap (λ (b : Bool). pick b 0 (a.unconfirmed + c)) tells);
        settings = g.settings;
        few =
            let few = g.few in
            let low = num_low (tells_r p.frames) in
            unfold others in omega (arith, others_append p.frames (f ∷ []), ap num tells);
      }

  grows_flush : (ws : List (List ℕ)) (xs : List (List ℕ)) (p : Progress) → p.link.waiting ≡ xs → Grows a now d c u ws p → Grows a now d c u ws (flush now xs p)
  unfolding flush
  grows_flush ws [] p e g = g
  grows_flush ws (x ∷ xs) p e g =
      picked (Grows a now d c u ws) (is_open p.link)
      (grows_flush ws xs (send_out now x xs p) (unfold send_out send_one in refl) (grows_send ws ws x xs p (ap (λ (l : List (List ℕ)). asdus_of p.frames ++ l) (sym e) ∙ g.order) g)) g

  -- the link changes in none of these
  grows_change : (ws : List (List ℕ)) (p : Progress) (b : Abstract) → b.sent ≡ p.link.sent → b.received ≡ p.link.received → b.confirmed ≡ p.link.confirmed
      → b.times ≡ p.link.times → b.waiting ≡ p.link.waiting → b.settings ≡ p.link.settings → b.unconfirmed ≡ p.link.unconfirmed → Grows a now d c u ws p
      → Grows a now d c u ws (record { link = b; frames = p.frames })
  grows_change ws p b s r f t w e n g =
      record {
        sent = s ∙ g.sent;
        received = r ∙ g.received;
        confirmed = f ∙ g.confirmed;
        times = t ∙ g.times;
        order = ap (λ (l : List (List ℕ)). asdus_of p.frames ++ l) w ∙ g.order;
        numbers = g.numbers;
        unconfirmed = n ∙ g.unconfirmed;
        settings = e ∙ g.settings;
        few = g.few;
      }

  grows_timing : (ws : List (List ℕ)) (f : Settings → Timers → Timers) (p : Progress) → Grows a now d c u ws p → Grows a now d c u ws (change (timing f) p)
  unfolding timing
  grows_timing ws f p g = grows_change ws p _ refl refl refl refl refl refl refl g

  grows_ended : (ws : List (List ℕ)) (n : ℕ) (p : Progress) → Grows a now d c u ws p → Grows a now d c u ws (change (ended n) p)
  unfolding ended
  grows_ended ws n p g = grows_change ws p _ refl refl refl refl refl refl refl g

  grows_clock : (ws : List (List ℕ)) (p : Progress) → Grows a now d c u ws p → Grows a now d c u ws (change (set_clock now) p)
  grows_clock ws p g = grows_change ws p _ refl refl refl refl refl refl refl g

  grows_u : (ws : List (List ℕ)) (f : UFrame) (p : Progress) → Grows a now d c u ws p → Grows a now d c (u + 1) ws (add (u_frame f) p)
  unfolding asdus_of NumberedFrames others
  grows_u ws f p g =
      let few = g.few in
      grows_add (u + 1) ws (u_frame f) p p.link refl (λ s. tt) refl refl refl refl refl refl
      (g.unconfirmed ∙ sym (ap (λ (b : Bool). pick b 0 (a.unconfirmed + c)) (tells_u p.frames f)))
      (omega (arith, ap num (tells_u p.frames f))) refl g

  -- an S frame, where none told R yet
  grows_confirm : (ws : List (List ℕ)) (p : Progress) → tells_r p.frames ≡ false → Grows a now d c u ws p → Grows a now d c u ws (confirm_all p)
  unfolding confirm_all settle asdus_of NumberedFrames others
  grows_confirm ws p none g =
      let r = on_wire p.link.received in
      let few = g.few in
      grows_add u ws (s_frame r) p (settle p.link) refl (λ s. (ap on_wire g.received, tt)) refl refl refl refl refl refl
      (sym (ap (λ (b : Bool). pick b 0 (a.unconfirmed + c)) (tells_s p.frames r)))
      (omega (arith, ap num (tells_s p.frames r), ap num none)) refl g

  -- what confirms at the end has told nothing before: R told leaves none unconfirmed
  untold : (ws : List (List ℕ)) (more : Bool) (p : Progress) → Grows a now d c u ws p → must_confirm p.link more ≡ true → tells_r p.frames ≡ false
  unfolding must_confirm
  untold ws more p g e = by (tells_r p.frames) refl
    where
      by : (b : Bool) → tells_r p.frames ≡ b → b ≡ false
      by true t =
          let n : p.link.unconfirmed ≡ 0 = g.unconfirmed ∙ ap (λ (b : Bool). pick b 0 (a.unconfirmed + c)) t in
          sym (rw (n, le-ltb p.link.settings.w 0 (omega arith)) at e)
      by false t = refl

  grows_finish : (ws : List (List ℕ)) (more : Bool) (p : Progress) → Grows a now d c u ws p → Grows a now d c u ws (finish more now p)
  unfolding finish
  grows_finish ws more p g = by (must_confirm p.link more) refl
    where
      by : (b : Bool) → must_confirm p.link more ≡ b → Grows a now d c u ws (pick b (confirm_all (change (set_clock now) p)) (change (set_clock now) p))
      by true e = grows_confirm ws _ (untold ws more p g e) (grows_clock ws p g)
      by false e = grows_clock ws p g

-- ---- ends of a call

module _ (a : Abstract) (now : ℕ) where
  begins : Grows a now 0 0 0 a.waiting (begin a)
  unfolding asdus_of NumberedFrames tells_r others
  begins =
      record {
        sent = sym (add-zero _);
        received = sym (add-zero _);
        confirmed = sym (add-zero _);
        times = sym (append-nil a.times);
        order = refl;
        numbers = tt;
        unconfirmed = sym (add-zero _);
        settings = refl;
        few = omega arith;
      }

  lets : (d : ℕ) → Grows a now d 0 0 a.waiting (letting d now a)
  unfolding letting free
  lets d = grows_flush a now d 0 a.waiting a.waiting (begin (free d a)) refl freed_first
    where
      freed_first : Grows a now d 0 0 a.waiting (begin (free d a))
      freed_first =
          unfold asdus_of NumberedFrames tells_r others in
          (record {
            sent = sym (add-zero _);
            received = sym (add-zero _);
            confirmed = refl;
            times = sym (append-nil (drop d a.times));
            order = refl;
            numbers = tt;
            unconfirmed = sym (add-zero _);
            settings = refl;
            few = omega arith;
          })

  counts_lets : (d : ℕ) → Grows a now d 1 0 a.waiting (letting d now (count a))
  unfolding letting free count
  counts_lets d = grows_flush a now d 1 a.waiting a.waiting (begin (free d (count a))) refl freed_first
    where
      freed_first : Grows a now d 1 0 a.waiting (begin (free d (count a)))
      freed_first =
          unfold asdus_of NumberedFrames tells_r others in
          (record {
            sent = sym (add-zero _);
            received = refl;
            confirmed = refl;
            times = sym (append-nil (drop d a.times));
            order = refl;
            numbers = tt;
            unconfirmed = refl;
            settings = refl;
            few = omega arith;
          })

  module _ (e : Event) where
    has_accepted : (came : Bool) (d c : ℕ) {u : ℕ} (ws : List (List ℕ)) (p : Progress) → frees e 0 a.confirmed ≡ d → counts e 0 ≡ c → a.waiting ++ takes e 0 ≡ ws
        → u ≤ 1 → Grows a now d c u ws p → Effect e now a (accept came p)
    unfolding accept
    has_accepted came d c ws p ed ec et h g =
        let few = g.few in
        let low = num_low (tells_r p.frames) in
        record {
          sent = g.sent;
          received = rw ec g.received;
          confirmed = rw ed g.confirmed;
          times = rw ed g.times;
          order = et ∙ sym g.order;
          numbers = subst (λ (n : ℕ). NumberedFrames a.sent n p.frames) (sym g.received) g.numbers;
          unconfirmed = rw ec g.unconfirmed;
          settings = g.settings;
          few = omega arith;
          silent = λ z. absurd (z refl);
        }

    has_refused : (n : ℕ) (b : Abstract) → b.sent ≡ a.sent → b.received ≡ a.received → b.confirmed ≡ a.confirmed → b.times ≡ a.times → b.waiting ≡ a.waiting → b.settings ≡ a.settings → b.unconfirmed ≡ a.unconfirmed
        → frees e n a.confirmed ≡ 0 → counts e n ≡ 0 → takes e n ≡ [] → Effect e now a (record { refused = n; link = b; frames = []; came = false })
    unfolding asdus_of NumberedFrames tells_r others
    has_refused n b s r f t w k u ed ec et =
        record {
          sent = s ∙ sym (add-zero _);
          received = rw ec (r ∙ sym (add-zero _));
          confirmed = rw ed (f ∙ sym (add-zero _));
          times = rw ed (t ∙ sym (append-nil a.times));
          order = rw et (append-nil a.waiting ∙ sym w);
          numbers = tt;
          unconfirmed = rw ec (u ∙ sym (add-zero _));
          settings = k;
          few = omega arith;
          silent = λ z. refl;
        }

    has_refuse : (n : ℕ) → frees e n a.confirmed ≡ 0 → counts e n ≡ 0 → takes e n ≡ [] → Effect e now a (refuse n a)
    unfolding refuse
    has_refuse n ed ec et = has_refused n a refl refl refl refl refl refl refl ed ec et

    has_close : (n : ℕ) → frees e n a.confirmed ≡ 0 → counts e n ≡ 0 → takes e n ≡ [] → Effect e now a (close n a)
    unfolding close ended
    has_close n ed ec et = has_refused n _ refl refl refl refl refl refl refl ed ec et

-- ---- the events

none_waits : (ws : List (List ℕ)) → (0 < length ws → ⊥) → ws ≡ []
none_waits [] h = refl
none_waits (w ∷ ws) h = absurd (h (omega arith))

module _ (now : ℕ) (a : Abstract) (w : Within a) where
  abbrev Has : Event → Result → Type 0
  Has e r = Effect e now a r

  on_frame_law : (f : List ℕ) (more : Bool) (q : prelude.Result read.Frame Refusal) → frame_answer f ≡ q → Has (frame f more) (step_frame q more now a)
  unfolding step_frame step_i step_s step_u
  on_frame_law f more (Ok (I sent number)) e =
      let ev = frame f more in
      let d = freed_by number.0 a in
      picked (Has ev) (eqb sent.0 (on_wire a.received))
      (picked (Has ev) (fits number.0 a)
      (has_accepted a now ev true d 1 a.waiting _ (ap (λ (q : prelude.Result read.Frame Refusal). frees_by q a.confirmed) e) (ap counts_by e) (append-nil _) (omega arith)
      (grows_finish a now d 1 _ more _ (grows_timing a now d 1 _ (t3_from now) _ (grows_timing a now d 1 _ (t2_from now) _ (counts_lets a now d)))))
      (has_close a now ev wrong_receive_number refl refl refl))
      (has_close a now ev wrong_send_number refl refl refl)
  on_frame_law f more (Ok (S number)) e =
      let ev = frame f more in
      let d = freed_by number.0 a in
      picked (Has ev) (fits number.0 a)
      (has_accepted a now ev false d 0 a.waiting _ (ap (λ (q : prelude.Result read.Frame Refusal). frees_by q a.confirmed) e) (ap counts_by e) (append-nil _) (omega arith)
      (grows_finish a now d 0 _ more _ (grows_timing a now d 0 _ (t3_from now) _ (lets a now d))))
      (has_close a now ev wrong_receive_number refl refl refl)
  on_frame_law f more (Ok (U u)) e =
      let ev = frame f more in
      let none_out : Grows a now 0 0 1 a.waiting (begin a) = grows_more a now 0 0 (omega arith) (begins a now) in
      let taken : (p : Progress) → Grows a now 0 0 1 a.waiting p → Has ev (accept false p) = λ p g.
      has_accepted a now ev false 0 0 a.waiting p (ap (λ (q : prelude.Result read.Frame Refusal). frees_by q a.confirmed) e) (ap counts_by e) (append-nil _) (omega arith) g in
      let stopping : (p : Progress) → Grows a now 0 0 1 a.waiting p → Has ev (accept false (change (stop_link now) p)) = λ p g.
      taken _ (grows_ended a now 0 0 _ 0 _ (grows_clock a now 0 0 _ _ (grows_timing a now 0 0 _ (t3_from now) p g))) in
      picked (Has ev) (eqb (u_octet u) test_act)
      (taken _ (grows_finish a now 0 0 _ more _ (grows_timing a now 0 0 _ (t3_from now) _ (grows_u a now 0 0 _ (u_of test_con) _ (begins a now)))))
      (picked (Has ev) (eqb (u_octet u) test_con)
      (taken _ (grows_finish a now 0 0 _ more _ (grows_timing a now 0 0 _ (t3_from now) _ (grows_timing a now 0 0 _ test_answered _ none_out))))
      (picked (Has ev) (eqb (u_octet u) stop_act)
      (stopping _ (grows_u a now 0 0 _ (u_of stop_con) _ (begins a now)))
      (picked (Has ev) (eqb (u_octet u) stop_con) (stopping _ none_out) (has_close a now ev u_not_answered refl refl refl))))
  on_frame_law f more (Err r) e =
      has_close a now (frame f more) (rows.number r)
      (ap (λ (q : prelude.Result read.Frame Refusal). pick (eqb (rows.number r) 0) (frees_by q a.confirmed) 0) e ∙ pick_same (eqb (rows.number r) 0) 0)
      (ap (λ (q : prelude.Result read.Frame Refusal). pick (eqb (rows.number r) 0) (counts_by q) 0) e ∙ pick_same (eqb (rows.number r) 0) 0) refl

  -- with the window open nothing waits
  pub alone : is_open a ≡ true → a.waiting ≡ []
  unfolding is_open
  alone e =
      none_waits a.waiting
      (λ q.
      let h = w.only_full q in
      let l = ltb-true (outstanding a) a.settings.k e in
      omega arith)

  on_plain : (asdu : List ℕ) → Has (send asdu) (step_plain asdu now a)
  unfolding step_plain
  on_plain asdu = by (is_open a) refl
    where
      by : (b : Bool) → is_open a ≡ b
          → Has (send asdu) (pick b (accept false (finish false now (send_out now asdu a.waiting (begin a))))
          (pick (leb a.settings.p (length a.waiting)) (refuse queue_full a) (accept false (finish false now (begin (queue asdu a))))))
      by true e =
          let n = alone e in
          has_accepted a now (send asdu) false 0 0 (a.waiting ++ (asdu ∷ [])) _ refl refl refl (omega arith)
          (grows_finish a now 0 0 (a.waiting ++ (asdu ∷ [])) false _
          (grows_send a now 0 0 a.waiting (a.waiting ++ (asdu ∷ [])) asdu a.waiting (begin a) (unfold asdus_of in (rw n)) (begins a now)))
      by false e =
          picked (Has (send asdu)) (leb a.settings.p (length a.waiting)) (has_refuse a now (send asdu) queue_full refl refl refl)
          (has_accepted a now (send asdu) false 0 0 (a.waiting ++ (asdu ∷ [])) _ refl refl refl (omega arith) (grows_finish a now 0 0 _ false _ waits))
        where
          waits : Grows a now 0 0 0 (a.waiting ++ (asdu ∷ [])) (begin (queue asdu a))
          waits = let g = begins a now in
              unfold queue asdus_of in
              (record { sent = g.sent; received = g.received; confirmed = g.confirmed; times = g.times; order = refl; numbers = g.numbers; unconfirmed = g.unconfirmed; settings = refl; few = g.few })

  on_send_law : (asdu : List ℕ) (q : prelude.Result Form Refusal) → plain_answer asdu ≡ q → Has (send asdu) (step_send q asdu now a)
  unfolding step_send
  on_send_law asdu (Ok Plain) e = on_plain asdu
  on_send_law asdu (Ok Reserved) e = has_refuse a now (send asdu) not_plain_form refl refl refl
  on_send_law asdu (Err r) e = has_refuse a now (send asdu) (rows.number r) refl refl (rw (some_number r))

  on_stop_law : Has stop (step_stop now a)
  unfolding step_stop tells_r
  on_stop_law =
      has_accepted a now stop false 0 0 a.waiting _ refl refl (append-nil _) (omega arith)
      (grows_finish a now 0 0 _ false _ (grows_timing a now 0 0 _ (t1u_from now) _ (grows_confirm a now 0 0 _ _ refl (grows_u a now 0 0 _ (u_of stop_act) _ (begins a now)))))

  grows_test : (p : Progress) → Grows a now 0 0 0 a.waiting p → Grows a now 0 0 1 a.waiting (test_out now p)
  unfolding test_out
  grows_test p g = grows_timing a now 0 0 _ (test_from now) _ (grows_u a now 0 0 _ (u_of test_act) p g)

  on_test : Has test (step_test now a)
  unfolding step_test
  on_test =
      picked (Has test) (many_open a) (has_close a now test too_many_tests refl refl refl)
      (has_accepted a now test false 0 0 a.waiting _ refl refl (append-nil _) (omega arith) (grows_finish a now 0 0 _ false _ (grows_test _ (begins a now))))

  on_tick_law : Has tick (step_tick now a)
  unfolding step_tick tick_t3 tick_t2 tells_r
  on_tick_law =
      let g = picked (Grows a now 0 0 0 _) (is_due a.timers.t2 now) (grows_confirm a now 0 0 _ _ refl (begins a now)) (begins a now) in
      picked (Has tick) (eqb (tick_number now a) 0)
      (has_accepted a now tick false 0 0 a.waiting _ refl refl (append-nil _) (omega arith)
      (grows_finish a now 0 0 _ false _ (picked (Grows a now 0 0 1 _) (is_due a.timers.t3 now) (grows_test _ g) (grows_more a now 0 0 (omega arith) g))))
      (has_close a now tick (tick_number now a) refl refl refl)

pub has_effect : HasEffect
unfolding step
has_effect (frame f more) now a w = on_frame_law now a w f more (frame_answer f) refl
has_effect (send asdu) now a w = on_send_law now a w asdu (plain_answer asdu) refl
has_effect stop now a w = on_stop_law now a w
has_effect test now a w = on_test now a w
has_effect tick now a w = on_tick_law now a w

-- ---- which numbers are accepted

refused_s : (number : ℕ) (more : Bool) (now : ℕ) (a : Abstract) → (step_s number more now a).refused ≡ pick (fits number a) 0 wrong_receive_number
unfolding step_s accept close
refused_s number more now a = by (fits number a)
  where
    by : (b : Bool) → (pick b (accept false (finish more now (change (timing (t3_from now)) (letting (freed_by number a) now a)))) (close wrong_receive_number a)).refused
        ≡ pick b 0 wrong_receive_number
    by true = refl
    by false = refl

refused_i : (sent number : ℕ) (more : Bool) (now : ℕ) (a : Abstract)
    → (step_i sent number more now a).refused ≡ pick (eqb sent (on_wire a.received)) (pick (fits number a) 0 wrong_receive_number) wrong_send_number
unfolding step_i accept close
refused_i sent number more now a = by (eqb sent (on_wire a.received)) (fits number a)
  where
    by : (b c : Bool)
        → (pick b
        (pick c
        (accept true (finish more now (change (timing (t3_from now)) (change (timing (t2_from now)) (letting (freed_by number a) now (count a))))))
        (close wrong_receive_number a))
        (close wrong_send_number a)).refused
        ≡ pick b (pick c 0 wrong_receive_number) wrong_send_number
    by true true = refl
    by true false = refl
    by false c = refl

pub accepts_exactly : AcceptsExactly
unfolding fits
accepts_exactly now more a sent number w h =
    let k = w.window in
    let k32 = w.k_high in
    let law = window 32768 a.confirmed a.sent number w.confirmed (omega arith) h in
    let into : fits number a ≡ true → SomeFits a number = λ e. (a.confirmed + freed_by number a, law.some (leb-true (a.confirmed + freed_by number a) a.sent e)) in
    let back : SomeFits a number → fits number a ≡ true = λ k. le-leb (a.confirmed + freed_by number a) a.sent (let one = law.one k.0 k.1 in let most = k.1.most in omega arith) in
    record {
      s_frame_accepted = (
        (λ e. into (held (fits number a) 26 0 (sym (refused_s number more now a) ∙ e)).0),
        (λ k. refused_s number more now a ∙ ap (λ (b : Bool). pick b 0 wrong_receive_number) (back k)),
      );
      i_frame_accepted = (
        (λ e.
            let p = held (eqb sent (on_wire a.received)) 27 _ (sym (refused_i sent number more now a) ∙ e) in
            (eqb-true sent (on_wire a.received) p.0, into (held (fits number a) 26 0 p.1).0)),
        (λ k. refused_i sent number more now a ∙ cc (eq-eqb sent (on_wire a.received) k.0, back k.1)),
      );
      unique = law.one;
    }
