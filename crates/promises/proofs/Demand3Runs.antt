-- There are runs: any call that is not refused under 19 to 24 can follow, and none is as long as the link is not closed. Assumes nothing.
use Prim.Native.Nat.{ℕ, ◌≤◌}
use mathlib.Core.Path.{◌≡◌, refl, sym, ap, ◌∙◌}
use mathlib.Core.List.{List}
use native.Mathlib.Omega.{arith}
use borrow.Author.Tests.{le-ltb, ne_eqb}
use lib.ListN.{length}
use lib.Dec.{ltb}
use Rattle.laws.proofs.Choices.{picked}
use Rattle.link_state.specs.Limits.{sound_link, call_refusal}
use Rattle.link_state.specs.declared.Settings.{Settings}
use Rattle.link_state.specs.declared.Link.{Link}
use Rattle.link.specs.Events.{refusing, called}
use Rattle.link.specs.Answering.{called_of}
use Rattle.link_meaning.proofs.Kept.{stays_sound}
use Rattle.link_meaning.proofs.Runs.{runs_agree}
use Rattle.promises.proofs.Numbered.{called_most}
use Rattle.promises.specs.Demand3.{Entry, Run, opening, after, outcome_of}
use Rattle.promises.specs.Demand3Runs.{Covers, GoesOn, RoomEnough}
use Rattle.promises.proofs.Demand3Pool.{pool_is}
use Rattle.promises.proofs.Demand3.{number_is, known, written_fits}

-- ---- what is refused first

pub data Range (n : ℕ) : Type 0 where
  none : n ≡ 0 → Range n
  from_19_to_24 : 19 ≤ n → n ≤ 24 → Range n

pub first_range : (l : Link) (output pool now : ℕ) → Range (call_refusal l output pool now)
unfolding call_refusal
first_range l output pool now =
    picked Range (sound_link l)
    (picked Range l.state.status.closed (from_19_to_24 (omega arith) (omega arith))
    (picked Range (ltb output 4096) (from_19_to_24 (omega arith) (omega arith))
    (picked Range (ltb pool 3984) (from_19_to_24 (omega arith) (omega arith))
    (picked Range (ltb 281474976710655 now) (from_19_to_24 (omega arith) (omega arith))
    (picked Range (ltb now l.state.clock) (from_19_to_24 (omega arith) (omega arith)) (none refl))))))
    (from_19_to_24 (omega arith) (omega arith))

pub covers : Covers
unfolding called_of
covers c l pool h = by (first_range l (length c.output) (length pool) c.now)
  where
    by : Range (call_refusal l (length c.output) (length pool) c.now) → call_refusal l (length c.output) (length pool) c.now ≡ 0
    by (none e) = e
    by (from_19_to_24 low high) =
        let is : (outcome_of c l pool).refused ≡ call_refusal l (length c.output) (length pool) c.now =
        (unfold called refusing in rw (ne_eqb (call_refusal l (length c.output) (length pool) c.now) 0 (λ z. omega arith))) in
        let e = number_is (outcome_of c l pool) (called_most c.event l pool (length c.output) c.now) ∙ is in
        absurd (h (omega (arith, e)) (omega (arith, e)))

-- ---- going on

-- the pool is as long as it was
pool_long : (s : Settings) (start : ℕ) (pool : List ℕ) (past : List Entry) (l : Link) (between : List ℕ) → Run s start pool past l between → length between ≡ length pool
pool_long s start pool past l between (opening e) = refl
pool_long s start pool past l between (after {past = q} {l = m} {between = b} before c o free) =
    let k = known s start pool q m b before in
    let g = runs_agree s start pool m b k.link k.run in
    sym (ap length (pool_is c.event m b (length c.output) c.now))
    ∙ ((stays_sound c.event m b (length c.output) c.now g.shaped g.sound).pool ∙ pool_long s start pool q m b before)

pub goes_on : GoesOn
unfolding call_refusal
goes_on s start pool past l between run room running output now h clock late =
    let k = known s start pool past l between run in
    let g = runs_agree s start pool l between k.link k.run in
    let long = pool_long s start pool past l between run in
    rw (
      g.sound,
      running,
      le-ltb output 4096 h,
      le-ltb (length between) 3984 (omega arith),
      le-ltb 281474976710655 now late,
      le-ltb now l.state.clock clock,
    )

pub room_enough : RoomEnough
room_enough s start pool past l between run c o free = written_fits s start pool past l between (known s start pool past l between run) c o free
