-- Both procedures yield the frames of the whole stream and the same end, however the stream is cut: what is still to be handed out
-- is the stream of what the carry holds and the chunks to come. Assumes nothing.
use Prim.Native.Nat.{ℕ, zero, suc, ◌+◌, ◌-◌, ◌<◌, ◌≤◌}
use mathlib.Core.Path.{◌≡◌, refl, sym, ap, ◌∙◌}
use mathlib.Core.Bool.{Bool, true, false}
use mathlib.Core.List.{List, [], ◌∷◌, ◌++◌, append_assoc, append-nil}
use native.Mathlib.Omega.{arith}
use native.Mathlib.Decide.{dec_lt}
use native.Mathlib.Nat.{le_refl}
use borrow.Author.Tests.{lt-ltb}
use lib.Dec.{ltb}
use lib.ListN.{length, take, drop, length-append, length-drop}
use lib.Seq.{length-sets, take-length, take-append-le, drop-append-le, drop-append-add}
use Rattle.std.specs.Prelude.{Option, Some, None, Result, Ok, Err}
use Rattle.laws.specs.Choice.{pick}
use Rattle.elements.specs.Refusals.{number}
use Rattle.elements.specs.declared.refusals.Refusal.{Refusal}
use Rattle.assembly.specs.Start.{start_answer}
use Rattle.assembly.specs.Picking.{from, pick_answer, pick_part}
use Rattle.assembly.specs.Topping.{on_hand, top_up_answer, moved_in, topped}
use Rattle.assembly.specs.Stepping.{step_answer, step_moved, step_carry}
use Rattle.assembly.specs.Streams.{rest, refused, no_frames, handed, stream_from, stream, joined}
use Rattle.assembly.specs.declared.Pick.{Pick}
use Rattle.assembly.specs.declared.Step.{Step}
use Rattle.assembly.proofs.Sights.{few_more, frame_of, more_few, first_whole, longer_whole, longer_refused, start_short}
use Rattle.assembly.proofs.Steps.{Needing, held_long, hand_long, pick_by, top_more, top_whole, top_refused, filled, first_part, step_chunk, step_carry_law, step_more, step_refused, carry_after, carry_long, holds_all}
use Rattle.promises.specs.Streams.{Next, Turn, turns, enough, run_by, step_turn, run, CutIndependent, run_picked, run_topped, top_turn, run_topping, ToppingFirst, InPlace}
use Rattle.promises.proofs.Starts.{frame_whole}
use Rattle.promises.proofs.Cuts.{stream_more, stream_refused, stream_whole}
use Rattle.promises.proofs.Parts.{part_of, picks_back}

-- ---- one turn

-- What a turn does on a carry that needs more, by what is on hand. It stops; or the carry holds all of the chunk, and it goes on
-- with the next; or it hands out the frame, and goes on with an empty carry and what follows the frame. `after` is the buffer then.
record OneTurn (turn : Turn) (at : ℕ) (carry : List ℕ) (held : ℕ) (c : List ℕ) (cs : List (List ℕ)) (next : Next) (after : List ℕ) : Type 0 where
  roomy : 255 ≤ length after
  kept : start_answer (on_hand carry held c) ≡ Ok None → take (held + length c) after ≡ on_hand carry held c
  refuses : (r : Refusal) → start_answer (on_hand carry held c) ≡ Err r → turn at carry held c cs next ≡ no_frames (refused (number r) at)
  more : start_answer (on_hand carry held c) ≡ Ok None → turn at carry held c cs next ≡ next at after (held + length c) cs
  whole : (n : ℕ) → start_answer (on_hand carry held c) ≡ Ok (Some n)
      → turn at carry held c cs next ≡ handed (take n (on_hand carry held c)) (next (at + n) after 0 (drop (n - held) c ∷ cs))

abbrev Lawful : Turn → (List ℕ → ℕ → List ℕ → List ℕ) → Type 0
Lawful turn after = (at : ℕ) (carry : List ℕ) (held : ℕ) (c : List ℕ) (cs : List (List ℕ)) (next : Next) → Needing carry held
    → OneTurn turn at carry held c cs next (after carry held c)

-- ---- one turn after the other

-- the bytes still to be handed out
abbrev ahead : List ℕ → ℕ → List (List ℕ) → List ℕ
ahead carry held cs = take held carry ++ joined cs

abbrev Goes : Turn → ℕ → Type 0
Goes turn fuel = (most at : ℕ) (carry : List ℕ) (held : ℕ) (cs : List (List ℕ)) → Needing carry held → enough cs ≤ fuel → length (ahead carry held cs) ≤ most
    → turns turn fuel at carry held cs ≡ stream_from most at (ahead carry held cs)

module _ (turn : Turn) (after : List ℕ → ℕ → List ℕ → List ℕ) (lawful : Lawful turn after) where
  module _ (fuel at : ℕ) (carry : List ℕ) (held : ℕ) (c : List ℕ) (cs : List (List ℕ)) (need : Needing carry held) where
    abbrev hand : List ℕ
    hand = on_hand carry held c

    law : OneTurn turn at carry held c cs (turns turn fuel) (after carry held c)
    law = lawful at carry held c cs (turns turn fuel) need

    joins : ahead carry held (c ∷ cs) ≡ hand ++ joined cs
    joins = sym (append_assoc (take held carry) c (joined cs))

    long : length hand ≡ held + length c
    long = hand_long carry held c need.room need.count

    goes_refused : (most : ℕ) (r : Refusal) → length (ahead carry held (c ∷ cs)) ≤ most → start_answer hand ≡ Err r
        → turns turn (suc fuel) at carry held (c ∷ cs) ≡ stream_from most at (ahead carry held (c ∷ cs))
    goes_refused most r l e =
        let is : start_answer (ahead carry held (c ∷ cs)) ≡ Err r = ap (λ (s : List ℕ). start_answer s) joins ∙ longer_refused hand (joined cs) r e in
        law.refuses r e ∙ sym (stream_refused most at _ r l is)

    goes_more : (most : ℕ) → Goes turn fuel → enough (c ∷ cs) ≤ suc fuel → length (ahead carry held (c ∷ cs)) ≤ most → start_answer hand ≡ Ok None
        → turns turn (suc fuel) at carry held (c ∷ cs) ≡ stream_from most at (ahead carry held (c ∷ cs))
    goes_more most goes t l e =
        let all = law.kept e in
        let next : ahead (after carry held c) (held + length c) cs ≡ ahead carry held (c ∷ cs) = ap (λ (s : List ℕ). s ++ joined cs) all ∙ sym joins in
        let n : Needing (after carry held c) (held + length c) =
        record { room = law.roomy; count = omega (arith, more_few _ _ _ e, long); more = ap (λ (s : List ℕ). start_answer s) all ∙ e } in
        law.more e ∙ (goes most at _ _ cs n (omega arith) (omega (arith, ap length next)) ∙ ap (stream_from most at) next)

    -- a whole frame: what follows it is ahead of an empty carry and the rest of the chunk
    goes_whole : (n most : ℕ) → start_answer hand ≡ Ok (Some n) → Goes turn fuel → enough (c ∷ cs) ≤ suc fuel → length (ahead carry held (c ∷ cs)) ≤ suc most
        → turns turn (suc fuel) at carry held (c ∷ cs) ≡ stream_from (suc most) at (ahead carry held (c ∷ cs))
    goes_whole n most e goes t l =
        let bytes = ahead carry held (c ∷ cs) in
        let there = (frame_of _ _ _ n e).there in
        let front = held_long carry held c need.room need.count in
        let short : held < n = omega (arith, start_short (take held carry) c n need.more e, front) in
        let left = drop (n - held) c in
        let behind : length (take held carry) + (n - held) ≡ n = omega (arith, front) in
        let follows : left ≡ drop n hand = sym (drop-append-add (take held carry) c (n - held)) ∙ ap (λ (k : ℕ). drop k hand) behind in
        let next : left ++ joined cs ≡ drop n bytes =
        ap (λ (s : List ℕ). s ++ joined cs) follows ∙ (sym (drop-append-le n hand (joined cs) there) ∙ ap (drop n) (sym joins)) in
        let frame : take n hand ≡ take n bytes = sym (take-append-le n hand (joined cs) there) ∙ ap (take n) (sym joins) in
        let is : start_answer bytes ≡ Ok (Some n) = ap (λ (s : List ℕ). start_answer s) joins ∙ longer_whole hand (joined cs) n e in
        let empty : Needing (after carry held c) 0 = record { room = law.roomy; count = omega arith; more = few_more 0 0 0 (omega arith) } in
        let fewer : suc (length left) + enough cs ≤ fuel = omega (arith, length-drop (n - held) c, there, long) in
        let rests = goes most (at + n) _ 0 (left ∷ cs) empty fewer (omega (arith, ap length next, length-drop n bytes)) ∙ ap (stream_from most (at + n)) next in
        law.whole n e
        ∙ (ap (handed (take n hand)) rests
        ∙ (ap (λ (f : List ℕ). handed f (stream_from most (at + n) (drop n bytes))) frame ∙ sym (stream_whole most at bytes n is)))

  -- no chunk is left
  done : (most at : ℕ) (carry : List ℕ) (held : ℕ) → Needing carry held → no_frames (rest (take held carry)) ≡ stream_from most at (ahead carry held [])
  done most at carry held need = rw append-nil (sym (stream_more most at (take held carry) need.more))

  goes : (fuel : ℕ) → Goes turn fuel
  goes zero most at carry held [] need t l = done most at carry held need
  goes (suc fuel) most at carry held [] need t l = done most at carry held need
  goes zero most at carry held (c ∷ cs) need t l = absurd (omega arith)
  goes (suc fuel) most at carry held (c ∷ cs) need t l = by (goes fuel) most (start_answer (on_hand carry held c)) l refl
    where
      by : Goes turn fuel → (most : ℕ) (a : Result (Option ℕ) Refusal) → length (ahead carry held (c ∷ cs)) ≤ most → start_answer (on_hand carry held c) ≡ a
          → turns turn (suc fuel) at carry held (c ∷ cs) ≡ stream_from most at (ahead carry held (c ∷ cs))
      by next most (Err r) l e = goes_refused fuel at carry held c cs need most r l e
      by next most (Ok None) l e = goes_more fuel at carry held c cs need most next t l e
      by next zero (Ok (Some n)) l e =
          let f = frame_of _ _ _ n e in
          absurd (omega (arith, f.enough, ap length (joins fuel at carry held c cs need), length-append (on_hand carry held c) (joined cs)))
      by next (suc most) (Ok (Some n)) l e = goes_whole fuel at carry held c cs need n most e next t l

  -- from an empty carry on
  from_empty : (carry : List ℕ) (chunks : List (List ℕ)) → 255 ≤ length carry
      → turns turn (enough chunks) 0 carry 0 chunks ≡ stream_from (length (joined chunks)) 0 (joined chunks)
  from_empty carry chunks room =
      goes (enough chunks) (length (joined chunks)) 0 carry 0 chunks (record { room = room; count = omega arith; more = few_more 0 0 0 (omega arith) }) (le_refl _) (le_refl _)

-- ---- the turn that steps

module _ (at : ℕ) (carry : List ℕ) (held : ℕ) (c : List ℕ) (cs : List (List ℕ)) (next : Next) (need : Needing carry held) where
  steps_by : (a : Result Step Refusal) → step_answer carry held c ≡ a → step_turn at carry held c cs next ≡ run_by a at (step_carry carry held c) held c cs next
  steps_by a e = ap (λ (b : Result Step Refusal). run_by b at (step_carry carry held c) held c cs next) e

  -- the part that is picked once so many bytes were moved
  step_part : (n : ℕ) → start_answer (on_hand carry held c) ≡ Ok (Some n) → (a : Result Step Refusal) → step_answer carry held c ≡ a
      → pick_part (step_carry carry held c) (held + step_moved a) c ≡ take n (on_hand carry held c)
  step_part n e a s = sym (ap (λ (b : Result Step Refusal). pick_part (step_carry carry held c) (held + step_moved b) c) s) ∙ picks_back carry held c n need e

  step_whole : (n : ℕ) → start_answer (on_hand carry held c) ≡ Ok (Some n)
      → step_turn at carry held c cs next ≡ handed (take n (on_hand carry held c)) (next (at + n) (step_carry carry held c) 0 (drop (n - held) c ∷ cs))
  step_whole n e = elim (dec_lt 0 held) [
    | yes some ↦
        let answer = step_carry_law carry held c need.room need.count need.more n some e in
        steps_by (Ok (Step.Carry (n - held) n)) answer
        ∙ ap (λ (f : List ℕ). handed f (next (at + n) (step_carry carry held c) 0 (drop (n - held) c ∷ cs))) (step_part n e _ answer)
    | no none ↦
        let z : held ≡ 0 = omega arith in
        let answer = step_chunk carry held c need.room need.count need.more n z (sym (ap (λ (k : ℕ). start_answer (on_hand carry k c)) z) ∙ e) in
        let none-moved : held ≡ held + 0 = omega arith in
        let part = ap (λ (k : ℕ). pick_part (step_carry carry held c) k c) none-moved ∙ step_part n e (Ok (Step.Chunk n)) answer in
        let all : n ≡ n - held = omega arith in
        steps_by (Ok (Step.Chunk n)) answer
        ∙ (ap (λ (f : List ℕ). handed f (next (at + n) (step_carry carry held c) 0 (drop n c ∷ cs))) part
        ∙ ap (λ (k : ℕ). handed (take n (on_hand carry held c)) (next (at + n) (step_carry carry held c) 0 (drop k c ∷ cs))) all)
  ]

step_lawful : Lawful step_turn step_carry
step_lawful at carry held c cs next need = record {
  roomy = omega (arith, need.room, carry_long carry held c need.room need.count need.more);
  kept = λ e. (holds_all carry held c need.room need.count need.more e).0;
  refuses = λ r e. steps_by at carry held c cs next need _ (step_refused carry held c need.room need.count need.more r e);
  more = λ e. steps_by at carry held c cs next need _ (step_more carry held c need.room need.count need.more e);
  whole = step_whole at carry held c cs next need;
}

-- From an empty carry on, the frames, and a refusal that ends them, do not depend on where the stream is cut.
pub cut_independent : CutIndependent
unfolding run stream
cut_independent carry chunks room = from_empty step_turn step_carry step_lawful carry chunks room

-- ---- the turn that tops up first

top_long : (carry : List ℕ) (held : ℕ) (c : List ℕ) → length (topped carry held c) ≡ length carry
unfolding topped
top_long carry held c = length-sets carry held (take (moved_in (top_up_answer carry held c)) c)

module _ (at : ℕ) (carry : List ℕ) (held : ℕ) (c : List ℕ) (cs : List (List ℕ)) (next : Next) (need : Needing carry held) where
  tops_by : (a : Result ℕ Refusal) → top_up_answer carry held c ≡ a → top_turn at carry held c cs next ≡ run_topped a at (topped carry held c) held c cs next
  tops_by a e = ap (λ (b : Result ℕ Refusal). run_topped b at (topped carry held c) held c cs next) e

  top_roomy : 255 ≤ length (topped carry held c)
  top_roomy = omega (arith, need.room, top_long carry held c)

  top_kept : start_answer (on_hand carry held c) ≡ Ok None → take (held + length c) (topped carry held c) ≡ on_hand carry held c
  top_kept e =
      let answer = top_more carry held c need.room need.count e in
      let fits : held + length c ≤ 255 = omega (arith, more_few _ _ _ e, hand_long carry held c need.room need.count) in
      filled carry held c need.room need.count (length c) answer fits (le_refl _) ∙ ap (λ (s : List ℕ). take held carry ++ s) (take-length c)

  top_goes : start_answer (on_hand carry held c) ≡ Ok None → top_turn at carry held c cs next ≡ next at (topped carry held c) (held + length c) cs
  top_goes e =
      let fits : held + length c ≤ 255 = omega (arith, more_few _ _ _ e, hand_long carry held c need.room need.count) in
      let picks = pick_by (topped carry held c) (held + length c) (drop (length c) c) top_roomy fits ∙ either (ltb 0 (held + length c)) refl in
      tops_by _ (top_more carry held c need.room need.count e)
      ∙ ap (λ (a : Result Pick Refusal). run_picked a at (topped carry held c) (held + length c) (drop (length c) c) cs next) picks
    where
      either : (t : Bool) → ltb 0 (held + length c) ≡ t
          → pick t (from Pick.Carry (start_answer (take (held + length c) (topped carry held c)))) (from Pick.Chunk (start_answer (drop (length c) c))) ≡ Ok Pick.More
      either true b = ap (from Pick.Carry) (ap (λ (s : List ℕ). start_answer s) (top_kept e) ∙ e)
      either false b = ap (from Pick.Chunk) (few_more _ _ _ (omega (arith, length-drop (length c) c)))

  top_hands : (n : ℕ) → start_answer (on_hand carry held c) ≡ Ok (Some n)
      → top_turn at carry held c cs next ≡ handed (take n (on_hand carry held c)) (next (at + n) (topped carry held c) 0 (drop (n - held) c ∷ cs))
  top_hands n e =
      let after = topped carry held c in
      let left = drop (n - held) c in
      let f = frame_of _ _ _ n e in
      let answer = top_whole carry held c need.room need.count n e in
      let short : held < n = omega (arith, start_short (take held carry) c n need.more e, held_long carry held c need.room need.count) in
      let sum : held + (n - held) ≡ n = omega arith in
      let fits : held + (n - held) ≤ 255 = omega (arith, f.size, f.shape.most) in
      let there : n - held ≤ length c = omega (arith, f.there, hand_long carry held c need.room need.count) in
      let held-now : take (held + (n - held)) after ≡ take n (on_hand carry held c) =
      filled carry held c need.room need.count (n - held) answer fits there ∙ first_part carry held c need.room need.count need.more n (omega arith) in
      let whole : start_answer (take (held + (n - held)) after) ≡ Ok (Some n) = ap (λ (s : List ℕ). start_answer s) held-now ∙ first_whole (on_hand carry held c) n e in
      let picks : pick_answer after (held + (n - held)) left ≡ Ok (Pick.Carry n) =
      pick_by after (held + (n - held)) left top_roomy fits ∙ rw (lt-ltb 0 (held + (n - held)) (omega arith), whole) in
      let part : pick_part after (held + (n - held)) left ≡ take n (on_hand carry held c) =
      part_of after (held + (n - held)) left _ picks ∙ (ap (λ (k : ℕ). take k after) (sym sum) ∙ held-now) in
      tops_by _ answer
      ∙ (ap (λ (a : Result Pick Refusal). run_picked a at after (held + (n - held)) left cs next) picks
      ∙ ap (λ (x : List ℕ). handed x (next (at + n) after 0 (left ∷ cs))) part)

top_lawful : Lawful top_turn topped
top_lawful at carry held c cs next need = record {
  roomy = top_roomy at carry held c cs next need;
  kept = top_kept at carry held c cs next need;
  refuses = λ r e. tops_by at carry held c cs next need _ (top_refused carry held c need.room need.count r e);
  more = top_goes at carry held c cs next need;
  whole = top_hands at carry held c cs next need;
}

-- topping up first gives the same
pub topping_first : ToppingFirst
unfolding run_topping stream
topping_first carry chunks room = from_empty top_turn topped top_lawful carry chunks room

-- ---- no copy

pub in_place : InPlace
in_place carry f r room i =
    let none = few_more 0 0 0 (omega arith) in
    let answer = step_chunk carry 0 (f ++ r) room (omega arith) none (length f) refl (frame_whole f r i) in
    record { answer = answer; kept = carry_after carry 0 (f ++ r) room (omega arith) none (Ok (Step.Chunk (length f))) answer }
