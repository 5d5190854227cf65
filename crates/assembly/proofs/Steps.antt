-- Topping up and a step by what is on hand, where the carry needs more. Assumes nothing.
use Prim.Native.Nat.{ℕ, ◌+◌, ◌-◌, ◌<◌, ◌≤◌, min}
use mathlib.Core.Path.{◌≡◌, refl, sym, ap, ◌∙◌}
use mathlib.Core.Bool.{Bool, true, false}
use mathlib.Core.List.{List, ◌++◌}
use native.Mathlib.Omega.{arith}
use native.Mathlib.Decide.{dec_lt}
use borrow.Author.Tests.{eqb-true, ltb-false, lt-ltb, le-ltb}
use lib.Dec.{eqb, ltb}
use lib.ListN.{length, get_or, take, drop, length-append}
use lib.Seq.{sets, sets-eq, length-sets, length-take-le, take-length, take_at, take-append-add, drop-append-add}
use Rattle.std.specs.Prelude.{Option, None, Some, Result, Ok, Err}
use Rattle.laws.specs.Choice.{pick}
use Rattle.elements.specs.Refusals.{refusal}
use Rattle.elements.specs.declared.refusals.Refusal.{Refusal}
use Rattle.assembly.specs.Start.{start_refusal, start_answer, carry_refusal}
use Rattle.assembly.specs.Picking.{from, pick_answer}
use Rattle.assembly.specs.Topping.{on_hand, top_up_refusal, moving, top_up_answer, moved_in, topped}
use Rattle.assembly.specs.Stepping.{after_moved, after_top_up, after_pick, step_answer, step_moved, step_carry}
use Rattle.assembly.specs.declared.Pick.{Pick}
use Rattle.assembly.specs.declared.Step.{Step}
use Rattle.assembly.proofs.Moves.{carry_fits}
use Rattle.assembly.proofs.Sights.{Sight, few, part, whole, bad, few_more, view, frame_of, bad_of, more_few, first_whole, start_short}

-- bytes stored behind the held ones
stored : (carry : List ℕ) (held m : ℕ) (chunk : List ℕ) → held + m ≤ length carry → m ≤ length chunk
    → take (held + m) (sets carry held (take m chunk)) ≡ take held carry ++ take m chunk
stored carry held m chunk fits there =
    let moved = take m chunk in
    let long : length moved ≡ m = length-take-le m chunk there in
    let front : length (take held carry) ≡ held = length-take-le held carry (omega arith) in
    rw (sets-eq moved carry held (omega (arith, long))) (take_at (take held carry ++ moved) _ (held + m) (length-append (take held carry) moved ∙ omega arith))

module _ (carry : List ℕ) (held : ℕ) (chunk : List ℕ) (room : 255 ≤ length carry) (count : held ≤ 255) where
  pub carry_good : carry_refusal (length carry) held ≡ 0
  unfolding carry_refusal
  carry_good = rw (le-ltb (length carry) 255 room, le-ltb 255 held count)

  pub held_long : length (take held carry) ≡ held
  held_long = length-take-le held carry (omega arith)

  pub hand_long : length (on_hand carry held chunk) ≡ held + length chunk
  hand_long = length-append (take held carry) chunk ∙ ap (λ (n : ℕ). n + length chunk) held_long

  pub pick_by : pick_answer carry held chunk ≡ pick (ltb 0 held) (from Pick.Carry (start_answer (take held carry))) (from Pick.Chunk (start_answer chunk))
  unfolding pick_answer
  pick_by = rw carry_good

  -- ---- topping up by what is on hand

  abbrev first : ℕ
  first = get_or (on_hand carry held chunk) 0 0

  abbrev l : ℕ
  l = get_or (on_hand carry held chunk) 1 0

  few_none : held + length chunk < 3 → top_up_refusal carry held chunk ≡ 0
  unfolding top_up_refusal
  few_none h = rw (carry_good, lt-ltb _ 3 h)

  enough_by : 3 ≤ held + length chunk → top_up_refusal carry held chunk ≡ start_refusal first l
  unfolding top_up_refusal
  enough_by h = rw (carry_good, le-ltb _ 3 h)

  moves : (m : ℕ) → top_up_refusal carry held chunk ≡ 0 → moving carry held chunk ≡ m → top_up_answer carry held chunk ≡ Ok m
  unfolding top_up_answer
  moves m z e = rw (z, e)

  refuses : (r : Refusal) → eqb (top_up_refusal carry held chunk) 0 ≡ false → r ≡ refusal (top_up_refusal carry held chunk) → top_up_answer carry held chunk ≡ Err r
  unfolding top_up_answer
  refuses r z e = rw (z, e)

  few_moving : held + length chunk < 3 → moving carry held chunk ≡ length chunk
  unfolding moving
  few_moving h = rw (lt-ltb _ 3 h)

  enough_moving : 3 ≤ held + length chunk → moving carry held chunk ≡ min (2 + l - held) (length chunk)
  unfolding moving
  enough_moving h = rw (le-ltb _ 3 h)

  pub top_more : start_answer (on_hand carry held chunk) ≡ Ok None → top_up_answer carry held chunk ≡ Ok (length chunk)
  top_more e = by (view (length (on_hand carry held chunk)) first l)
    where
      by : Sight (length (on_hand carry held chunk)) first l → top_up_answer carry held chunk ≡ Ok (length chunk)
      by (few h g) = let n : held + length chunk < 3 = omega (arith, hand_long) in moves _ (few_none n) (few_moving n)
      by (part h z s g) =
          let n : 3 ≤ held + length chunk = omega (arith, hand_long) in
          moves _ (enough_by n ∙ z) (enough_moving n ∙ omega (arith, hand_long))
      by (whole h z s g) = let f : ◌≡◌ {A = ℕ} 0 1 = cc in absurd (omega arith)
      by (bad h z g) = let f : ◌≡◌ {A = ℕ} 0 1 = cc in absurd (omega arith)

  pub top_whole : (n : ℕ) → start_answer (on_hand carry held chunk) ≡ Ok (Some n) → top_up_answer carry held chunk ≡ Ok (n - held)
  top_whole n e =
      let f = frame_of _ first l n e in
      let enough : 3 ≤ held + length chunk = omega (arith, hand_long, f.enough) in
      moves _ (enough_by enough ∙ f.none) (enough_moving enough ∙ omega (arith, hand_long, f.size, f.there))

  pub top_refused : (r : Refusal) → start_answer (on_hand carry held chunk) ≡ Err r → top_up_answer carry held chunk ≡ Err r
  top_refused r e =
      let f = bad_of _ first l r e in
      let by = enough_by (omega (arith, hand_long, f.enough)) in
      refuses r (rw by f.some) (f.is ∙ ap refusal (sym by))

  -- ---- the carry afterwards, and what is picked from it

  module _ (m : ℕ) (answer : top_up_answer carry held chunk ≡ Ok m) (fits : held + m ≤ 255) (there : m ≤ length chunk) where
    pub filled : take (held + m) (topped carry held chunk) ≡ take held carry ++ take m chunk
    unfolding topped
    filled = rw answer (stored carry held m chunk (omega arith) there)

    pub topped_long : length (topped carry held chunk) ≡ length carry
    unfolding topped
    topped_long = length-sets carry held (take (moved_in (top_up_answer carry held chunk)) chunk)

-- ---- where the carry needs more

module _ (carry : List ℕ) (held : ℕ) (chunk : List ℕ) (room : 255 ≤ length carry) (count : held ≤ 255)
    (m : ℕ) (answer : top_up_answer carry held chunk ≡ Ok m) (fits : held + m ≤ 255) (there : m ≤ length chunk) where
  pick_again : pick_answer (topped carry held chunk) (held + m) chunk ≡ pick (ltb 0 (held + m)) (from Pick.Carry (start_answer (take held carry ++ take m chunk))) (from Pick.Chunk (start_answer chunk))
  pick_again =
      pick_by (topped carry held chunk) (held + m) chunk (omega (arith, topped_long carry held chunk room count m answer fits there)) fits
      ∙ ap (λ (s : List ℕ). pick (ltb 0 (held + m)) (from Pick.Carry (start_answer s)) (from Pick.Chunk (start_answer chunk))) (filled carry held chunk room count m answer fits there)

  after : (a : Result Pick Refusal) → pick_answer (topped carry held chunk) (held + m) chunk ≡ a
      → after_top_up carry held chunk (top_up_answer carry held chunk) ≡ after_moved m a
  after a e = ap (after_top_up carry held chunk) answer ∙ ap (after_moved m) e

module _ (carry : List ℕ) (held : ℕ) (chunk : List ℕ) (room : 255 ≤ length carry) (count : held ≤ 255) (more : start_answer (take held carry) ≡ Ok None) where
  -- the first bytes on hand are the held ones and then the chunk's
  pub first_part : (n : ℕ) → held ≤ n → take held carry ++ take (n - held) chunk ≡ take n (on_hand carry held chunk)
  first_part n h =
      let e : length (take held carry) + (n - held) ≡ n = omega (arith, held_long carry held chunk room count) in
      sym (take-append-add (take held carry) chunk (n - held)) ∙ ap (λ (k : ℕ). take k (on_hand carry held chunk)) e

  -- all of the chunk is moved, and more is needed
  pub after_more : start_answer (on_hand carry held chunk) ≡ Ok None → after_top_up carry held chunk (top_up_answer carry held chunk) ≡ Ok (Step.More (length chunk))
  after_more e =
      let answer = top_more carry held chunk room count e in
      let fits : held + length chunk ≤ 255 = omega (arith, more_few _ _ _ e, hand_long carry held chunk room count) in
      let there : length chunk ≤ length chunk = omega arith in
      let all : take held carry ++ take (length chunk) chunk ≡ on_hand carry held chunk = ap (λ (s : List ℕ). take held carry ++ s) (take-length chunk) in
      let carried : start_answer (take held carry ++ take (length chunk) chunk) ≡ Ok None = ap (λ (s : List ℕ). start_answer s) all ∙ e in
      after carry held chunk room count (length chunk) answer fits there (Ok Pick.More)
      (pick_again carry held chunk room count (length chunk) answer fits there ∙ either (ltb 0 (held + length chunk)) refl carried)
    where
      either : (t : Bool) → ltb 0 (held + length chunk) ≡ t → start_answer (take held carry ++ take (length chunk) chunk) ≡ Ok None
          → pick t (from Pick.Carry (start_answer (take held carry ++ take (length chunk) chunk))) (from Pick.Chunk (start_answer chunk)) ≡ Ok Pick.More
      either true b c = ap (from Pick.Carry) c
      either false b c = ap (from Pick.Chunk) (few_more (length chunk) _ _ (omega (arith, ltb-false 0 (held + length chunk) b)))

  -- what is missing is moved, and the carry holds the frame
  pub after_whole : (n : ℕ) → start_answer (on_hand carry held chunk) ≡ Ok (Some n) → after_top_up carry held chunk (top_up_answer carry held chunk) ≡ Ok (Step.Carry (n - held) n)
  after_whole n e =
      let f = frame_of _ _ _ n e in
      let h = hand_long carry held chunk room count in
      let short : held < n = omega (arith, start_short (take held carry) chunk n more e, held_long carry held chunk room count) in
      let answer = top_whole carry held chunk room count n e in
      let fits : held + (n - held) ≤ 255 = omega (arith, f.size, f.shape.most) in
      let there : n - held ≤ length chunk = omega (arith, f.there, h) in
      let sum : held + (n - held) ≡ n = omega arith in
      let some : ltb 0 (held + (n - held)) ≡ true = lt-ltb 0 (held + (n - held)) (omega arith) in
      let all : take held carry ++ take (n - held) chunk ≡ take n (on_hand carry held chunk) = first_part n (omega arith) in
      let carried : start_answer (take held carry ++ take (n - held) chunk) ≡ Ok (Some n) = ap (λ (s : List ℕ). start_answer s) all ∙ first_whole (on_hand carry held chunk) n e in
      after carry held chunk room count (n - held) answer fits there (Ok (Pick.Carry n))
      (pick_again carry held chunk room count (n - held) answer fits there ∙ rw (some, carried))

  pub after_refused : (r : Refusal) → start_answer (on_hand carry held chunk) ≡ Err r → after_top_up carry held chunk (top_up_answer carry held chunk) ≡ Err r
  after_refused r e = ap (after_top_up carry held chunk) (top_refused carry held chunk room count r e)

  -- the bytes that the step moved are those that topping up moved
  pub same_moved : step_moved (after_top_up carry held chunk (top_up_answer carry held chunk)) ≡ moved_in (top_up_answer carry held chunk)
  same_moved = by (start_answer (on_hand carry held chunk)) refl
    where
      by : (a : Result (Option ℕ) Refusal) → start_answer (on_hand carry held chunk) ≡ a → step_moved (after_top_up carry held chunk (top_up_answer carry held chunk)) ≡ moved_in (top_up_answer carry held chunk)
      by (Ok (Some n)) e = ap step_moved (after_whole n e) ∙ sym (ap moved_in (top_whole carry held chunk room count n e))
      by (Ok None) e = ap step_moved (after_more e) ∙ sym (ap moved_in (top_more carry held chunk room count e))
      by (Err r) e = ap step_moved (after_refused r e) ∙ sym (ap moved_in (top_refused carry held chunk room count r e))

  -- ---- a step by what is on hand

  step_by : (a : Result Pick Refusal) → pick_answer carry held chunk ≡ a → step_answer carry held chunk ≡ after_pick carry held chunk a
  unfolding step_answer
  step_by a e = ap (after_pick carry held chunk) e

  pub step_chunk : (n : ℕ) → held ≡ 0 → start_answer chunk ≡ Ok (Some n) → step_answer carry held chunk ≡ Ok (Step.Chunk n)
  step_chunk n z e = step_by (Ok (Pick.Chunk n)) (pick_by carry held chunk room count ∙ rw (z, e))

  -- a carry that holds something is topped up
  carry_picks : 0 < held → pick_answer carry held chunk ≡ Ok Pick.More
  carry_picks h = pick_by carry held chunk room count ∙ rw (lt-ltb 0 held h, more)

  pub step_carry_law : (n : ℕ) → 0 < held → start_answer (on_hand carry held chunk) ≡ Ok (Some n) → step_answer carry held chunk ≡ Ok (Step.Carry (n - held) n)
  step_carry_law n h e = step_by (Ok Pick.More) (carry_picks h) ∙ after_whole n e

  pub step_more : start_answer (on_hand carry held chunk) ≡ Ok None → step_answer carry held chunk ≡ Ok (Step.More (length chunk))
  step_more e = elim (dec_lt 0 held) [
    | yes h ↦ step_by (Ok Pick.More) (carry_picks h) ∙ after_more e
    | no h ↦
        let z : held ≡ 0 = omega arith in
        let c : start_answer chunk ≡ Ok None = sym (ap (λ (k : ℕ). start_answer (on_hand carry k chunk)) z) ∙ e in
        step_by (Ok Pick.More) (pick_by carry held chunk room count ∙ rw (z, c)) ∙ after_more e
  ]

  pub step_refused : (r : Refusal) → start_answer (on_hand carry held chunk) ≡ Err r → step_answer carry held chunk ≡ Err r
  step_refused r e = elim (dec_lt 0 held) [
    | yes h ↦ step_by (Ok Pick.More) (carry_picks h) ∙ after_refused r e
    | no h ↦
        let z : held ≡ 0 = omega arith in
        let c : start_answer chunk ≡ Err r = sym (ap (λ (k : ℕ). start_answer (on_hand carry k chunk)) z) ∙ e in
        step_by (Err r) (pick_by carry held chunk room count ∙ rw (z, c))
  ]

  -- ---- the carry after a step

  pub carry_after : (a : Result Step Refusal) → step_answer carry held chunk ≡ a → step_carry carry held chunk ≡ sets carry held (take (step_moved a) chunk)
  unfolding step_carry
  carry_after a e = ap (λ (b : Result Step Refusal). sets carry held (take (step_moved b) chunk)) e

  pub carry_long : length (step_carry carry held chunk) ≡ length carry
  unfolding step_carry
  carry_long = length-sets carry held (take (step_moved (step_answer carry held chunk)) chunk)

  -- it holds all that was on hand, and it still needs more
  pub holds_all : start_answer (on_hand carry held chunk) ≡ Ok None → (take (held + length chunk) (step_carry carry held chunk) ≡ on_hand carry held chunk) × (held + length chunk ≤ 255)
  holds_all e =
      let fits : held + length chunk ≤ 255 = omega (arith, more_few _ _ _ e, hand_long carry held chunk room count) in (
        rw (carry_after (Ok (Step.More (length chunk))) (step_more e))
            (stored carry held (length chunk) chunk (omega arith) (omega arith) ∙ ap (λ (s : List ℕ). take held carry ++ s) (take-length chunk)),
        fits,
      )

  -- it holds the frame, and the rest of the chunk follows the frame
  pub holds_frame : (n : ℕ) → 0 < held → start_answer (on_hand carry held chunk) ≡ Ok (Some n)
      → (take n (step_carry carry held chunk) ≡ take n (on_hand carry held chunk)) × (drop (n - held) chunk ≡ drop n (on_hand carry held chunk))
  holds_frame n some e =
      let f = frame_of _ _ _ n e in
      let l = held_long carry held chunk room count in
      let short : held < n = omega (arith, start_short (take held carry) chunk n more e, l) in
      let sum : held + (n - held) ≡ n = omega arith in
      let there : n - held ≤ length chunk = omega (arith, f.there, hand_long carry held chunk room count) in
      let fits : held + (n - held) ≤ length carry = omega (arith, f.size, f.shape.most) in
      let behind : length (take held carry) + (n - held) ≡ n = omega (arith, l) in (
        ap (λ (k : ℕ). take k (step_carry carry held chunk)) (sym sum)
            ∙ (ap (take (held + (n - held))) (carry_after (Ok (Step.Carry (n - held) n)) (step_carry_law n some e))
            ∙ (stored carry held (n - held) chunk fits there ∙ first_part n (omega arith))),
        sym (drop-append-add (take held carry) chunk (n - held)) ∙ ap (λ (k : ℕ). drop k (on_hand carry held chunk)) behind,
      )

-- ---- a step as the code comes to it

-- more is needed of the carry or, where it is empty, of the chunk
pub record Needing (carry : List ℕ) (held : ℕ) : Type 0 where
  pub room : 255 ≤ length carry
  pub count : held ≤ 255
  pub more : start_answer (take held carry) ≡ Ok None

pub needing : (carry : List ℕ) (held : ℕ) (chunk : List ℕ) → pick_answer carry held chunk ≡ Ok Pick.More → Needing carry held
unfolding pick_answer
needing carry held chunk e = by (eqb (carry_refusal (length carry) held) 0) (ltb 0 held) refl refl e
  where
    carried : (a : Result (Option ℕ) Refusal) → from Pick.Carry a ≡ Ok Pick.More → a ≡ Ok None
    carried (Ok (Some n)) g = let z : ◌≡◌ {A = ℕ} 0 1 = cc in absurd (omega arith)
    carried (Ok None) g = refl
    carried (Err r) g = let z : ◌≡◌ {A = ℕ} 0 1 = cc in absurd (omega arith)

    by : (t v : Bool) → eqb (carry_refusal (length carry) held) 0 ≡ t → ltb 0 held ≡ v
        → pick t (pick v (from Pick.Carry (start_answer (take held carry))) (from Pick.Chunk (start_answer chunk))) (Err (refusal (carry_refusal (length carry) held))) ≡ Ok Pick.More
        → Needing carry held
    by true true b d g =
        let fits = carry_fits _ _ (eqb-true _ 0 b) in
        record { room = fits.0; count = fits.1; more = carried _ g }
    by true false b d g =
        let fits = carry_fits _ _ (eqb-true _ 0 b) in
        let z : held ≡ 0 = omega (arith, ltb-false 0 held d) in
        record { room = fits.0; count = fits.1; more = ap (λ (k : ℕ). start_answer (take k carry)) z ∙ few_more 0 0 0 (omega arith) }
    by false v b d g = let z : ◌≡◌ {A = ℕ} 0 1 = cc in absurd (omega arith)

-- the carry is as topping up left it, whatever is picked then
pub carry_topped : (carry : List ℕ) (held : ℕ) (chunk : List ℕ) {w : Result Pick Refusal} {p : Pick} {after : List ℕ}
    → w ≡ pick_answer carry held chunk → w ≡ Ok p → p ≡ Pick.More → after ≡ topped carry held chunk → after ≡ step_carry carry held chunk
unfolding step_answer step_carry topped
carry_topped carry held chunk is was more stored =
    let e : pick_answer carry held chunk ≡ Ok Pick.More = sym is ∙ (was ∙ ap Ok more) in
    let n = needing carry held chunk e in
    let moved = same_moved carry held chunk n.room n.count n.more in
    rw (stored, e, moved)
