-- What refusal 19 looks at, clause by clause and in both directions; what a passed check gives; a link just opened is sound. Assumes nothing.
use Prim.Native.Nat.{ℕ, ◌+◌, ◌<◌, ◌≤◌}
use mathlib.Core.Path.{◌≡◌, refl}
use mathlib.Core.Bool.{true, false, ◌||◌, and-true}
use mathlib.Core.Logic.{◌⊎◌, ◌↔◌}
use native.Mathlib.Omega.{arith}
use lib.Dec.{leb, eqb, ltb}
use borrow.Author.Tests.{leb-true, le-leb, ltb-false}
use Rattle.std.proofs.Common.{Option, None, Some}
use Rattle.laws.specs.Lists.{every}
use Rattle.laws.proofs.Choices as choices
use Rattle.link_state.specs.Limits.{sound_settings, sound_counts, length_at, sound_length, sound_lengths, time_at, sound_time_at, sound_times, sound_deadline, sound_timers, sound_link, call_refusal}
use Rattle.link_state.specs.Opening.{fresh_link, set_for, opened, open_refusal}
use Rattle.link_state.specs.declared.Settings.{Settings}
use Rattle.link_state.specs.declared.Queue.{Queue}
use Rattle.link_state.specs.declared.Timers.{Timers}
use Rattle.link_state.specs.declared.State.{State}
use Rattle.link_state.specs.declared.Link.{Link}
use Rattle.laws.proofs.Clauses.{leb_iff, eqb_iff, and_iff, or_iff, every_iff}

-- ---- settings and counts

pub record Sound (s : State) : Type 0 where
  pub k_low : 1 ≤ s.settings.k
  pub k_high : s.settings.k ≤ 32
  pub w_low : 1 ≤ s.settings.w
  pub w_high : s.settings.w ≤ 32767
  pub p_low : 1 ≤ s.settings.p
  pub p_high : s.settings.p ≤ 16
  pub t1_low : 1 ≤ s.settings.t1
  pub t1_high : s.settings.t1 ≤ 172800000
  pub t2_low : 1 ≤ s.settings.t2
  pub t2_high : s.settings.t2 ≤ 172800000
  pub t3_low : 1 ≤ s.settings.t3
  pub t3_high : s.settings.t3 ≤ 172800000
  pub held_k : s.window.held ≤ s.settings.k
  pub count_p : s.queue.count ≤ s.settings.p
  pub full : (s.queue.count ≡ 0) ⊎ (s.settings.k ≤ s.window.held)
  pub next_high : s.window.next.0 ≤ 32767
  pub recv_high : s.receive.next.0 ≤ 32767
  pub unconfirmed_high : s.receive.unconfirmed ≤ 32767
  pub first_high : s.window.first ≤ 31
  pub place_high : s.queue.place ≤ 15
  pub tests_high : s.timers.tests ≤ 3
  pub clock_high : s.clock ≤ 281474976710655

pub t3_small : (s : Settings) → sound_settings s ≡ true → s.t3 ≤ 172800000
unfolding sound_settings
t3_small s e = let h = simp (and_iff, leb_iff) at e in omega arith

-- none wait, or the window is full
full_iff : (count k held : ℕ) → (eqb count 0 || leb k held ≡ true) ↔ ((count ≡ 0) ⊎ (k ≤ held))
full_iff count k held = or_iff (eqb count 0) (leb k held) (eqb_iff count 0) (leb_iff k held)

pub sound_counts_law : (s : State) → sound_settings s.settings ≡ true → sound_counts s ≡ true → Sound s
unfolding sound_settings sound_counts
sound_counts_law s e f =
    let g = simp (and_iff, leb_iff) at e in
    let h = simp (and_iff, leb_iff) at f in
    record {
      k_low = omega arith;
      k_high = omega arith;
      w_low = omega arith;
      w_high = omega arith;
      p_low = omega arith;
      p_high = omega arith;
      t1_low = omega arith;
      t1_high = omega arith;
      t2_low = omega arith;
      t2_high = omega arith;
      t3_low = omega arith;
      t3_high = omega arith;
      held_k = omega arith;
      count_p = omega arith;
      full = (full_iff s.queue.count s.settings.k s.window.held).0 h.0.0.0.0.0.0.0.1;
      next_high = omega arith;
      recv_high = omega arith;
      unconfirmed_high = omega arith;
      first_high = omega arith;
      place_high = omega arith;
      tests_high = omega arith;
      clock_high = omega arith;
    }

settings_test : (s : State) → Sound s → sound_settings s.settings ≡ true
unfolding sound_settings
settings_test s h = simp (and_iff, leb_iff) (omega arith)

counts_test : (s : State) → Sound s → sound_counts s ≡ true
unfolding sound_counts
counts_test s h = rw ((full_iff s.queue.count s.settings.k s.window.held).1 h.full, and-true) (simp (and_iff, leb_iff) (omega arith))

-- ---- what waits, send times and deadlines

abbrev pub Lengths : Queue → Type 0
Lengths q = (i : ℕ) → i < q.count → (6 ≤ length_at q i) × (length_at q i ≤ 249)

abbrev pub Times : Link → Type 0
Times l = (i : ℕ) → i < l.state.window.held → time_at l i ≤ l.state.clock

abbrev pub InTime : Option ℕ → ℕ → Type 0
InTime None clock = Unit {0}
InTime (Some at) clock = at ≤ clock + 172800000

pub record Deadlines (t : Timers) (clock : ℕ) : Type 0 where
  pub t1u : InTime t.t1u clock
  pub t2 : InTime t.t2 clock
  pub t3 : InTime t.t3 clock

lengths_iff : (q : Queue) → (sound_lengths q ≡ true) ↔ Lengths q
unfolding sound_lengths sound_length
lengths_iff q =
    let each = every_iff (sound_length q) q.count in
    ((λ e i h. let l = each.0 e i h in simp (and_iff, leb_iff) at l), (λ f. each.1 (λ i h. simp (and_iff, leb_iff) (f i h))))

times_iff : (l : Link) → (sound_times l ≡ true) ↔ Times l
unfolding sound_times sound_time_at
times_iff l =
    let each = every_iff (sound_time_at l) l.state.window.held in
    ((λ e i h. leb-true _ _ (each.0 e i h)), (λ f. each.1 (λ i h. le-leb _ _ (f i h))))

deadline_iff : (d : Option ℕ) (clock : ℕ) → (sound_deadline d clock ≡ true) ↔ InTime d clock
deadline_iff None clock = ((λ e. tt), (λ h. refl))
deadline_iff (Some at) clock = leb_iff at (clock + 172800000)

deadlines_iff : (t : Timers) (clock : ℕ) → (sound_timers t clock ≡ true) ↔ Deadlines t clock
unfolding sound_timers
deadlines_iff t clock =
    let u = deadline_iff t.t1u clock in
    let v = deadline_iff t.t2 clock in
    let w = deadline_iff t.t3 clock in (
      (λ e. let p = simp and_iff at e in record { t1u = u.0 p.0.0; t2 = v.0 p.0.1; t3 = w.0 p.1 }),
      (λ d. rw (u.1 d.t1u, v.1 d.t2, w.1 d.t3)),
    )

-- ---- the whole record

record Parts (l : Link) : Type 0 where
  settings : sound_settings l.state.settings ≡ true
  counts : sound_counts l.state ≡ true
  times : sound_times l ≡ true
  lengths : sound_lengths l.state.queue ≡ true
  timers : sound_timers l.state.timers l.state.clock ≡ true

parts : (l : Link) → sound_link l ≡ true → Parts l
unfolding sound_link
parts l e =
    let p = simp and_iff at e in
    record { settings = p.0; counts = p.1.0; times = p.1.1.0.0; lengths = p.1.1.0.1; timers = p.1.1.1 }

module _ (l : Link) (e : sound_link l ≡ true) where
  pub sound_state : Sound l.state
  sound_state = sound_counts_law l.state (parts l e).settings (parts l e).counts

  pub sound_lengths_law : Lengths l.state.queue
  sound_lengths_law = (lengths_iff l.state.queue).0 (parts l e).lengths

  pub sound_times_law : Times l
  sound_times_law = (times_iff l).0 (parts l e).times

  pub sound_deadlines : Deadlines l.state.timers l.state.clock
  sound_deadlines = (deadlines_iff l.state.timers l.state.clock).0 (parts l e).timers

pub sound_link_law : (l : Link) → Sound l.state → Lengths l.state.queue → Times l → Deadlines l.state.timers l.state.clock → sound_link l ≡ true
unfolding sound_link
sound_link_law l s lengths times deadlines =
    let d = (deadlines_iff l.state.timers l.state.clock).1 deadlines in
    rw (settings_test l.state s, counts_test l.state s, (times_iff l).1 times, (lengths_iff l.state.queue).1 lengths, d)

-- ---- a passed check

pub record Passed (l : Link) (output pool now : ℕ) : Type 0 where
  pub sound : sound_link l ≡ true
  pub running : l.state.status.closed ≡ false
  pub output_room : 4096 ≤ output
  pub pool_room : 3984 ≤ pool
  pub now_high : now ≤ 281474976710655
  pub clock : l.state.clock ≤ now

pub passed : (l : Link) (output pool now : ℕ) → call_refusal l output pool now ≡ 0 → Passed l output pool now
unfolding call_refusal
passed l output pool now e =
    let limits = choices.held (sound_link l) 18 _ e in
    let running = choices.passed l.state.status.closed 19 _ limits.1 in
    let room = choices.passed (ltb output 4096) 22 _ running.1 in
    let slots = choices.passed (ltb pool 3984) 23 _ room.1 in
    let late = choices.passed (ltb 281474976710655 now) 21 _ slots.1 in
    let back = choices.passed (ltb now l.state.clock) 20 _ late.1 in
    record {
      sound = limits.0;
      running = running.0;
      output_room = ltb-false _ _ room.0;
      pool_room = ltb-false _ _ slots.0;
      now_high = ltb-false _ _ late.0;
      clock = ltb-false _ _ back.0;
    }

-- ---- opening

fresh_sound : (s : Settings) (at now : ℕ) → sound_settings s ≡ true → now ≤ 281474976710655 → at ≤ now + 172800000
    → sound_link (fresh_link s (set_for at) now) ≡ true
unfolding fresh_link sound_link sound_counts sound_times sound_lengths sound_timers every
fresh_sound s at now e h t = rw (e, le-leb 0 s.k (omega arith), le-leb 0 s.p (omega arith), le-leb now 281474976710655 h, le-leb at (now + 172800000) t)

pub opened_sound : (s : Settings) (now : ℕ) → open_refusal s now ≡ 0 → sound_link (opened s now).link ≡ true
unfolding opened open_refusal
opened_sound s now e =
    let sound = choices.held (sound_settings s) 18 _ e in
    let late = choices.passed (ltb 281474976710655 now) 21 0 sound.1 in
    let h = t3_small s sound.0 in
    rw e (fresh_sound s (now + s.t3) now sound.0 (ltb-false _ _ late.0) (omega arith))
