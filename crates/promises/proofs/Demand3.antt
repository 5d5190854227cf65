-- Demand 3, call after call: what a transcript counts is what the link by totals and lists has. Assumes nothing.
use Prim.Native.Nat.{ℕ, suc, ◌+◌, ◌-◌, ◌%◌, ◌<◌, ◌≤◌}
use mathlib.Core.Path.{◌≡◌, refl, sym, ap, subst, ◌∙◌}
use mathlib.Core.Bool.{Bool, true, false}
use mathlib.Core.List.{List, [], ◌∷◌, ◌++◌, append_assoc}
use native.Mathlib.Omega.{arith}
use native.Mathlib.Nat.{add-zero, le_refl, mod-eq_of_lt}
use borrow.Author.Tests.{eqb-false, eq-eqb}
use lib.ListN.{length, take, drop, get_or, replicate, length-append, length-drop, length-replicate}
use lib.Seq.{sets, take_at, drop-drop, drop-append-le, get_or-drop}
use lib.Dec.{eqb}
use Rattle.laws.specs.Choice.{pick}
use Rattle.laws.specs.Lists.{Octets, ring}
use Rattle.laws.specs.Window.{Confirms, freed}
use Rattle.laws.specs.Promises.{WindowLaw}
use Rattle.laws.proofs.Choices.{picked}
use Rattle.laws.proofs.Lists.{sets_all, get_d_tabulate}
use Rattle.laws.proofs.Window.{window}
use Rattle.elements.specs.Refusals.{refusal}
use Rattle.apdu.specs.Reading.{frame_answer, asdu_part}
use Rattle.apdu.proofs.Shapes.{number_in, number_low}
use Rattle.assembly.specs.Streams.{rest, StreamOutcome, stream}
use Rattle.link_state.specs.Limits.{call_refusal}
use Rattle.link_state.specs.Opening.{opened, open_refusal}
use Rattle.link_state.specs.declared.Settings.{Settings}
use Rattle.link_state.specs.declared.Link.{Link}
use Rattle.link_state.proofs.Sound.{sound_state, passed}
use Rattle.link.specs.Frames.{Frame, wire}
use Rattle.link.specs.Making.{window_full}
use Rattle.link.specs.Events.{Event, frame, send, stop, test, tick}
use Rattle.link.specs.Events as events
use Rattle.link.specs.Answering.{answer_of, called_of, link_written}
use Rattle.link.proofs.Wires.{wire_append}
use Rattle.link_meaning.specs.Abstract.{Abstract, Result, fresh, step}
use Rattle.link_meaning.specs.Meaning.{OctetsIn, waiting_of, times_of, SameOutcome}
use Rattle.link_meaning.specs.Effects.{asdus_of, tells_r, frees, counts, takes, Effect}
use Rattle.link_meaning.specs.Runs.{Agrees, Within}
use Rattle.link_meaning.specs.Runs as totals
use Rattle.link_meaning.proofs.Effects.{has_effect}
use Rattle.link_meaning.proofs.Meaning.{steps_alike, opens_fresh}
use Rattle.link_meaning.proofs.Runs.{runs_agree}
use Rattle.link.specs.declared.answers.Done.{Done}
use Rattle.elements.proofs.Refused.{answer_numbered}
use Rattle.promises.proofs.Numbered.{called_most}
use Rattle.promises.specs.Demand3.{Call, outcome_of, answered, pool_after, Entry, entry_of, Run, opening, after, cut, i_frames_in, i_frames, all_handed, s_of, send_times, asdus_in, have_left, Brought, framed, brings, received_by, confirmed_by, r_of, a_of, taken_by, taken, told_in, untold, Numbered, Claim, Begun, Demand3}
use Rattle.promises.proofs.Demand3Pool.{pool_is}
use Rattle.promises.proofs.Demand3Wire.{AllFit, AllPlain, all_of, each, stream_wire, all_fit, asdus_out, numbers_out, fit_append, each_append, kept_append, told_out}
use Rattle.promises.proofs.Demand3Steps.{Exact, number_of, counts_are, frees_are, takes_are, takes_plain, wire_fits, exactly}
use Rattle.std.specs.Prelude.{Ok, Err}
use Rattle.elements.specs.Refusals.{answer_number}
use Rattle.elements.specs.declared.refusals.Refusal.{Refusal}
use Rattle.apdu.specs.declared.frame.Frame as read
use Rattle.apdu.specs.declared.frame.Frame.TheVariants.{I, S, U}
use Rattle.std.specs.Prelude as prelude

-- ---- what a frame brings

frame_low : (f : List ℕ) → Octets f → number_of (framed (frame_answer f)) ≤ 32767
frame_low f o = by (frame_answer f) (number_low f o)
  where
    by : (a : prelude.Result read.Frame Refusal) → number_in a ≤ 32767 → number_of (framed a) ≤ 32767
    by (Ok (I n r)) h = h
    by (Ok (S r)) h = h
    by (Ok (U u)) h = h
    by (Err r) h = h

brings_low : (e : Event) → OctetsIn e → number_of (brings e) ≤ 32767
brings_low (frame f more) o = frame_low f o
brings_low (send x) o = omega arith
brings_low stop o = omega arith
brings_low test o = omega arith
brings_low tick o = omega arith

-- ---- what an answer says

pub number_is : (o : events.Outcome) → o.refused ≤ 33 → answer_number (answer_of o) ≡ o.refused
unfolding answer_of
number_is o high = answer_numbered o.refused _ high

bytes_are : (o : events.Outcome) (out : List ℕ) → ((o.refused ≡ 0 → ⊥) → o.frames ≡ []) → length (wire o.frames) ≤ length out
    → take (link_written (answer_of o)) (sets out 0 (wire o.frames)) ≡ wire o.frames
unfolding answer_of
bytes_are o out silent h = by (eqb o.refused 0) refl
  where
    all : take (length (wire o.frames)) (sets out 0 (wire o.frames)) ≡ wire o.frames
    all =
        ap (take (length (wire o.frames))) (sets_all out (wire o.frames) h)
        ∙ take_at (wire o.frames) (drop (length (wire o.frames)) out) (length (wire o.frames)) refl

    by : (b : Bool) → eqb o.refused 0 ≡ b
        → take (link_written (pick {A = prelude.Result Done Refusal} b (Ok (record { written = length (wire o.frames); full = window_full o.state; came = o.came })) (Err (refusal o.refused))))
        (sets out 0 (wire o.frames)) ≡ wire o.frames
    by true e = all
    by false e = unfold wire in sym (ap wire (silent (eqb-false _ _ e)))

written_most : (o : events.Outcome) → link_written (answer_of o) ≤ length (wire o.frames)
unfolding answer_of
written_most o = picked (λ (a : prelude.Result Done Refusal). link_written a ≤ length (wire o.frames)) (eqb o.refused 0) (le_refl _) (omega arith)

-- ---- a transcript beside the link by totals and lists

pub record Counted (s : Settings) (past : List Entry) (a : Abstract) : Type 0 where
  pub settings : a.settings ≡ s
  pub sent : a.sent ≡ s_of past
  pub received : a.received ≡ r_of past
  pub confirmed : a.confirmed ≡ a_of past
  pub times : a.times ≡ drop (a_of past) (send_times past)
  pub timed : length (send_times past) ≡ s_of past
  pub order : taken past ≡ have_left past ++ a.waiting
  pub unconfirmed : a.unconfirmed ≡ untold past
  pub plain : AllPlain a.waiting
  pub frames : List Frame
  pub fit : AllFit frames
  pub bytes : all_handed past ≡ wire frames
  pub kept : i_frames past ≡ i_frames_in (each frames)

pub counted_none : (s : Settings) (start : ℕ) → Counted s [] (fresh s start)
unfolding fresh wire
counted_none s start =
    record {
      settings = refl;
      sent = refl;
      received = refl;
      confirmed = refl;
      times = refl;
      timed = refl;
      order = refl;
      unconfirmed = refl;
      plain = tt;
      frames = [];
      fit = tt;
      bytes = refl;
      kept = refl;
    }

asdus_append : (fs gs : List (List ℕ)) → asdus_in (fs ++ gs) ≡ asdus_in fs ++ asdus_in gs
asdus_append [] gs = refl
asdus_append (f ∷ fs) gs = ap (λ (l : List (List ℕ)). asdu_part f ∷ l) (asdus_append fs gs)

asdus_long : (fs : List (List ℕ)) → length (asdus_in fs) ≡ length fs
asdus_long [] = refl
asdus_long (f ∷ fs) = ap suc (asdus_long fs)

plain_append : (xs ys : List (List ℕ)) → AllPlain xs → AllPlain ys → AllPlain (xs ++ ys)
plain_append [] ys h k = k
plain_append (x ∷ xs) ys h k = (h.0, plain_append xs ys h.1 k)

plain_parts : (xs ys : List (List ℕ)) → AllPlain (xs ++ ys) → AllPlain xs × AllPlain ys
plain_parts [] ys h = (tt, h)
plain_parts (x ∷ xs) ys h = let p = plain_parts xs ys h.1 in ((h.0, p.0), p.1)

-- one entry more
module _ (s : Settings) (e : Entry) (past : List Entry) (a : Abstract) (r : Result) (c : Counted s past a) (f : Effect e.event e.now a r)
    (new_plain : AllPlain (takes e.event r.refused)) where
  out : List (List ℕ)
  out = asdus_of r.frames

  plain : AllPlain out × AllPlain r.link.waiting
  unfolding out
  plain = plain_parts out r.link.waiting (subst AllPlain f.order (plain_append a.waiting (takes e.event r.refused) c.plain new_plain))

  fit : AllFit r.frames
  unfolding out
  fit = all_fit a.sent r.link.received r.frames f.numbers plain.0

  module _ (w : Within a) (v : Within r.link) (number : e.number ≡ r.refused) (bytes : e.handed ≡ wire r.frames) where
    streamed : stream e.handed ≡ all_of r.frames
    streamed = ap stream bytes ∙ stream_wire r.frames fit

    cut_is : cut e.handed ≡ each r.frames
    cut_is = ap (λ (o : StreamOutcome). o.frames) streamed

    ends : (stream e.handed).end ≡ rest []
    ends = ap (λ (o : StreamOutcome). o.end) streamed

    left_is : asdus_in (i_frames_in (cut e.handed)) ≡ out
    unfolding out
    left_is = ap (λ (l : List (List ℕ)). asdus_in (i_frames_in l)) cut_is ∙ asdus_out r.frames fit

    many : length (i_frames_in (cut e.handed)) ≡ length out
    many = sym (asdus_long (i_frames_in (cut e.handed))) ∙ ap length left_is

    received_is : r.link.received ≡ r_of (e ∷ past)
    received_is = f.received ∙ (counts_are e.event r.refused a.received ∙ cc (number, c.received))

    confirmed_is : r.link.confirmed ≡ a_of (e ∷ past)
    confirmed_is = f.confirmed ∙ (frees_are e.event r.refused a.confirmed ∙ cc (number, c.confirmed))

    numbers : Numbered (s_of past) (r_of (e ∷ past)) (cut e.handed)
    numbers =
        let n = numbers_out a.sent r.link.received r.frames f.numbers fit in
        rw cut_is (subst (λ (k : ℕ). Numbered k (r_of (e ∷ past)) (each r.frames)) c.sent
        (subst (λ (k : ℕ). Numbered a.sent k (each r.frames)) received_is n))

    sent_is : r.link.sent ≡ s_of (e ∷ past)
    unfolding out
    sent_is =
        let h = f.sent in
        omega (arith, length-append (i_frames past) (i_frames_in (cut e.handed)), many, c.sent)

    abbrev steps : ℕ
    steps = frees e.event r.refused a.confirmed

    -- no more is confirmed than was handed out before the call: else there were too many send times after it
    low : a_of (e ∷ past) ≤ length (send_times past)
    low =
        let sent = f.sent in
        let confirmed = f.confirmed in
        let before = w.times in
        let least = w.confirmed in
        let after = v.times in
        let most = v.confirmed in
        omega (
          arith,
          confirmed_is,
          c.sent,
          c.timed,
          ap length f.times,
          length-append (drop steps a.times) (replicate (length (asdus_of r.frames)) e.now),
          length-drop steps a.times,
          length-replicate (length (asdus_of r.frames)) e.now,
        )

    times_are : r.link.times ≡ drop (a_of (e ∷ past)) (send_times (e ∷ past))
    unfolding out
    times_are =
        let before : drop steps a.times ≡ drop (a_of (e ∷ past)) (send_times past) =
        ap (drop steps) c.times
        ∙ (drop-drop steps (a_of past) (send_times past)
        ∙ ap (λ (k : ℕ). drop k (send_times past)) (ap (λ (k : ℕ). k + steps) (sym c.confirmed) ∙ (sym f.confirmed ∙ confirmed_is))) in
        f.times
        ∙ (cc (before, many)
        ∙ sym (drop-append-le (a_of (e ∷ past)) (send_times past) (replicate (length (i_frames_in (cut e.handed))) e.now) low))

    timed : length (send_times (e ∷ past)) ≡ s_of (e ∷ past)
    timed =
        let n = length (i_frames_in (cut e.handed)) in
        omega (
          arith,
          length-append (send_times past) (replicate n e.now),
          length-replicate n e.now,
          length-append (i_frames past) (i_frames_in (cut e.handed)),
          c.timed,
        )

    order : taken (e ∷ past) ≡ have_left (e ∷ past) ++ r.link.waiting
    unfolding out
    order =
        let new = pick (eqb e.number 0) (taken_by (brings e.event)) [] in
        let same : a.waiting ++ new ≡ out ++ r.link.waiting =
        cc (number, sym (takes_are e.event r.refused)) ∙ f.order in
        ap (λ (l : List (List ℕ)). l ++ new) c.order
        ∙ (append_assoc (have_left past) a.waiting new
        ∙ (ap (λ (l : List (List ℕ)). have_left past ++ l) same
        ∙ (sym (append_assoc (have_left past) out r.link.waiting)
        ∙ ap (λ (l : List (List ℕ)). l ++ r.link.waiting)
        (ap (λ (l : List (List ℕ)). have_left past ++ l) (sym left_is) ∙ sym (asdus_append (i_frames past) (i_frames_in (cut e.handed)))))))

    untold_is : r.link.unconfirmed ≡ untold (e ∷ past)
    untold_is =
        let n = a.unconfirmed + counts e.event r.refused in
        let told : told_in (cut e.handed) ≡ tells_r r.frames = ap told_in cut_is ∙ told_out r.frames fit in
        let count : n ≡ pick (eqb e.number 0) (received_by (brings e.event) (untold past)) (untold past) =
        counts_are e.event r.refused a.unconfirmed ∙ cc (number, c.unconfirmed) in
        f.unconfirmed ∙ (ap (λ (b : Bool). pick b 0 n) (sym told) ∙ ap (λ (k : ℕ). pick (told_in (cut e.handed)) 0 k) count)

    counted : Counted s (e ∷ past) r.link
    counted =
        record {
          settings = f.settings ∙ c.settings;
          sent = sent_is;
          received = received_is;
          confirmed = confirmed_is;
          times = times_are;
          timed = timed;
          order = order;
          unconfirmed = untold_is;
          plain = plain.1;
          frames = c.frames ++ r.frames;
          fit = fit_append c.frames r.frames c.fit fit;
          bytes = rw (c.bytes, bytes) (sym (wire_append c.frames r.frames));
          kept = rw (c.kept, cut_is, each_append c.frames r.frames) (sym (kept_append (each c.frames) (each r.frames)));
        }

-- ---- what a link that agrees with a transcript has

-- the place in a ring of the oldest
first_of_ring : (f : ℕ → ℕ) (m p n : ℕ) → p < m → 0 < n → get_or (ring f m p n) 0 0 ≡ f p
unfolding ring
first_of_ring f m p n h some =
    get_d_tabulate (λ (i : ℕ). f ((p + i) % m)) 0 n 0 0 some ∙ ap f (ap (λ (k : ℕ). k % m) (add-zero p) ∙ mod-eq_of_lt h)

module _ (s : Settings) (past : List Entry) (l : Link) (between : List ℕ) (a : Abstract) (g : Agrees l between a) (c : Counted s past a) where
  abbrev held : ℕ
  held = l.state.window.held

  k_is : l.state.settings.k ≡ s.k
  k_is = ap (λ (x : Settings). x.k) (g.means.settings ∙ c.settings)

  outstanding : held + a_of past ≡ s_of past
  outstanding = omega (arith, g.means.held, c.sent, c.confirmed)

  at_most_k : held ≤ s.k
  at_most_k = let h = (sound_state l g.sound).held_k in omega (arith, k_is)

  oldest : 0 < held → get_or l.times l.state.window.first 0 ≡ get_or (send_times past) (a_of past) 0
  unfolding times_of
  oldest some =
      let first = (sound_state l g.sound).first_high in
      let places = g.shaped.times in
      sym (first_of_ring (λ (q : ℕ). get_or l.times q 0) (length l.times) l.state.window.first held (omega arith) some)
      ∙ (ap (λ (x : List ℕ). get_or x 0 0) (g.means.send_times_law ∙ c.times)
      ∙ (get_or-drop (a_of past) (send_times past) 0 0 ∙ ap (λ (k : ℕ). get_or (send_times past) k 0) (add-zero (a_of past))))

  in_order : taken past ≡ have_left past ++ waiting_of l.state.queue between
  in_order = rw g.means.waiting c.order

  only_full : 0 < length (waiting_of l.state.queue between) → held ≡ s.k
  only_full some =
      let more : 0 < length a.waiting = (rw g.means.waiting at some) in
      let full = g.within.only_full more in
      omega (arith, g.means.held, k_is, ap (λ (x : Settings). x.k) c.settings)

  one_stream : i_frames_in (cut (all_handed past)) ≡ i_frames past
  one_stream = ap (λ (o : StreamOutcome). i_frames_in o.frames) (ap stream c.bytes ∙ stream_wire c.frames c.fit) ∙ sym c.kept

  -- fewer than 32,768 are outstanding, so a number has one total
  narrow : s_of past - a_of past < 32768
  narrow = let h = (sound_state l g.sound).held_k in let k = (sound_state l g.sound).k_high in omega (arith, outstanding)

  law : (r : ℕ) → r < 32768 → WindowLaw 32768 (a_of past) (s_of past) r
  law r h = window 32768 (a_of past) (s_of past) r (omega (arith, outstanding)) narrow h

  is_next : (r b : ℕ) → Confirms 32768 (a_of past) (s_of past) r b → b ≡ a_of past + freed 32768 (a_of past) r
  is_next r b k = let e = k.remainder in (law r (omega arith)).one b k

-- ---- a run

-- the run of totals and lists beside it
pub record Known (s : Settings) (start : ℕ) (pool : List ℕ) (past : List Entry) (l : Link) (between : List ℕ) : Type 0 where
  pub link : Abstract
  pub run : totals.Run s start pool l between link
  pub counted : Counted s past link

module _ (s : Settings) (start : ℕ) (pool : List ℕ) (past : List Entry) (l : Link) (between : List ℕ) (k : Known s start pool past l between) (c : Call) (o : OctetsIn c.event)
    (free : call_refusal l (length c.output) (length between) c.now ≡ 0) where
  agrees : Agrees l between k.link
  agrees = runs_agree s start pool l between k.link k.run

  abbrev pub result : Result
  result = step c.event c.now k.link

  few : length k.link.waiting ≤ 16
  few =
      let p = ap (λ (x : Settings). x.p) agrees.means.settings in
      let h = (sound_state l agrees.sound).p_high in
      let w = agrees.within.waiting in
      omega arith

  alike : SameOutcome (outcome_of c l between) result
  alike = steps_alike c.event l between (length c.output) c.now k.link agrees.shaped o free agrees.means

  done : Effect c.event c.now k.link result
  done = has_effect c.event c.now k.link agrees.within

  new_plain : AllPlain (takes c.event result.refused)
  new_plain = takes_plain c.event c.now k.link

  run : totals.Run s start pool (answered c l between).link (pool_after c l between) result.link
  unfolding called_of
  run =
      subst (λ (q : List ℕ). totals.Run s start pool (answered c l between).link q result.link) (pool_is c.event l between (length c.output) c.now)
      (totals.after k.run (record { event = c.event; output = length c.output; now = c.now }) o free)

  within : Within result.link
  within = (runs_agree s start pool (answered c l between).link (pool_after c l between) result.link run).within

  entry_number : (entry_of c l between).number ≡ result.refused
  unfolding called_of
  entry_number = number_is (outcome_of c l between) (called_most c.event l between (length c.output) c.now) ∙ alike.refused

  size : length (wire result.frames) ≤ 4096
  size =
      let all = fit s (entry_of c l between) past k.link result k.counted done new_plain in
      wire_fits c.event c.now k.link result done agrees.within within few all

  pub written_fits : link_written (answered c l between).answer ≤ 4096
  unfolding called_of
  written_fits = let most = written_most (outcome_of c l between) in omega (arith, size, ap (λ (x : List Frame). length (wire x)) alike.frames)

  pub entry_bytes : (entry_of c l between).handed ≡ wire result.frames
  unfolding called_of
  entry_bytes =
      let fs = alike.frames in
      let room = (passed l (length c.output) (length between) c.now free).output_room in
      bytes_are (outcome_of c l between) c.output (λ z. fs ∙ done.silent (λ q. z (alike.refused ∙ q))) (omega (arith, size, ap (λ (x : List Frame). length (wire x)) fs))
      ∙ ap wire fs

  pub next : Known s start pool (entry_of c l between ∷ past) (answered c l between).link (pool_after c l between)
  next =
      record {
        link = result.link;
        run = run;
        counted = counted s (entry_of c l between) past k.link result k.counted done new_plain agrees.within within entry_number entry_bytes;
      }

  pub next_link : next.link ≡ result.link
  unfolding next
  next_link = refl

  -- ---- the claim

  abbrev e : Entry
  e = entry_of c l between

  abbrev l' : Link
  l' = (answered c l between).link

  abbrev pool' : List ℕ
  pool' = pool_after c l between

  still : Agrees l' pool' next.link
  still = runs_agree s start pool l' pool' next.link next.run

  exact : Exact (brings c.event) e.number (s_of past) (a_of past) (r_of past)
  exact = let d = k.counted in rw (entry_number, ← d.sent, ← d.confirmed, ← d.received) (exactly c.now k.link agrees.within c.event (brings_low c.event o))

  single : (r b : ℕ) → Confirms 32768 (a_of past) (s_of past) r b → b ≡ a_of past + freed 32768 (a_of past) r
  single = is_next s past l between k.link agrees k.counted

  becomes : (r : ℕ) → confirmed_by (brings c.event) (a_of past) ≡ a_of past + freed 32768 (a_of past) r → (b : ℕ) → e.number ≡ 0 → Confirms 32768 (a_of past) (s_of past) r b
      → a_of (e ∷ past) ≡ b
  becomes r h b z f = rw (eq-eqb e.number 0 z) (h ∙ sym (single r b f))

  claim : Claim s e past l' pool'
  claim =
      let a = next.link in
      let d = next.counted in
      record {
        s_accepted = λ r h. subst (λ (b : Brought). Exact b e.number (s_of past) (a_of past) (r_of past)) h exact;
        i_accepted = λ n r h. subst (λ (b : Brought). Exact b e.number (s_of past) (a_of past) (r_of past)) h exact;
        unique = λ r x y p q. single r x p ∙ sym (single r y q);
        s_becomes = λ r x h z f. becomes r (ap (λ (b : Brought). confirmed_by b (a_of past)) h) x z f;
        i_becomes = λ n r x h z f. becomes r (ap (λ (b : Brought). confirmed_by b (a_of past)) h) x z f;
        numbers = numbers s e past k.link result k.counted done new_plain agrees.within within entry_number entry_bytes;
        whole = ends s e past k.link result k.counted done new_plain agrees.within within entry_number entry_bytes;
        one_stream = one_stream s (e ∷ past) l' pool' a still d;
        outstanding = outstanding s (e ∷ past) l' pool' a still d;
        at_most_k = at_most_k s (e ∷ past) l' pool' a still d;
        oldest = oldest s (e ∷ past) l' pool' a still d;
        timed = d.timed;
        in_order = in_order s (e ∷ past) l' pool' a still d;
        only_full = only_full s (e ∷ past) l' pool' a still d;
        unconfirmed = still.means.unconfirmed ∙ d.unconfirmed;
      }

-- ---- every run

pub known : (s : Settings) (start : ℕ) (pool : List ℕ) (past : List Entry) (l : Link) (between : List ℕ) → Run s start pool past l between → Known s start pool past l between
known s start pool past l between (opening e) = record { link = fresh s start; run = totals.opening e; counted = counted_none s start }
known s start pool past l between (after {past = q} {l = m} {between = b} before c o free) = next s start pool q m b (known s start pool q m b before) c o free

begun : (s : Settings) (start : ℕ) (pool : List ℕ) → open_refusal s start ≡ 0 → Begun (opened s start).link pool
unfolding fresh
begun s start pool e = let m = opens_fresh s start pool e in record { none_outstanding = omega (arith, m.held); none_waits = m.waiting }

pub demand_3 : Demand3
demand_3 s start pool past l between (opening e) = begun s start pool e
demand_3 s start pool past l between (after {past = q} {l = m} {between = b} before c o free) = claim s start pool q m b (known s start pool q m b before) c o free
