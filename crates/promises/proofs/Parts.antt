-- What picking hands out is a whole frame or nothing; after a step that tells of a frame it is that frame. Picking and topping up
-- by what stands there. Assumes nothing.
use Prim.Native.Nat.{ℕ, zero, suc, ◌+◌, ◌<◌, ◌≤◌}
use mathlib.Core.Path.{◌≡◌, refl, sym, ap, subst, ◌∙◌}
use mathlib.Core.List.{List, ◌++◌}
use native.Mathlib.Omega.{arith}
use native.Mathlib.Decide.{dec_lt}
use borrow.Author.Tests.{lt-ltb}
use lib.Dec.{ltb, eqb}
use lib.ListN.{length, take, length-append, length-take}
use lib.Seq.{length-take-le, take-take, take-append_seam}
use Rattle.std.specs.Prelude.{Option, Some, None, Result, Ok, Err}
use Rattle.laws.specs.Choice.{pick}
use Rattle.laws.proofs.Choices.{picked}
use Rattle.elements.specs.Refusals.{refusal, answer_number}
use Rattle.elements.specs.declared.refusals.Refusal.{Refusal}
use Rattle.assembly.specs.Start.{start_answer, carry_refusal}
use Rattle.assembly.specs.Picking.{from, pick_answer, pick_length, pick_part_by, pick_part}
use Rattle.assembly.specs.Topping.{on_hand, topped}
use Rattle.assembly.specs.Stepping.{step_answer, step_moved, step_length, step_carry}
use Rattle.assembly.specs.declared.Pick.{Pick}
use Rattle.assembly.specs.declared.Step.{Step}
use Rattle.assembly.proofs.Sights.{frame_of, first_whole, start_short}
use Rattle.assembly.proofs.Steps.{Needing, held_long, pick_by, top_more, top_whole, top_refused, step_chunk, step_carry_law, carry_long, holds_frame}
use Rattle.promises.specs.Streams.{IsFrame, HandsBack, PickedBy, Picked, picked_from, Picks, TopsUp}
use Rattle.promises.proofs.Starts.{frame_whole, unfinished_more, refuses_refused, refuses_number}
use Rattle.promises.proofs.Cuts.{is_frame}

pub part_of : (carry : List ℕ) (held : ℕ) (chunk : List ℕ) (a : Result Pick Refusal) → pick_answer carry held chunk ≡ a → pick_part carry held chunk ≡ pick_part_by a carry chunk
unfolding pick_part
part_of carry held chunk a e = ap (λ (p : Result Pick Refusal). pick_part_by p carry chunk) e

-- a step that has a whole frame on hand, where the held bytes need more
pub picks_back : (carry : List ℕ) (held : ℕ) (chunk : List ℕ) (n : ℕ) → Needing carry held → start_answer (on_hand carry held chunk) ≡ Ok (Some n)
    → pick_part (step_carry carry held chunk) (held + step_moved (step_answer carry held chunk)) chunk ≡ take n (on_hand carry held chunk)
picks_back carry held chunk n need e = elim (dec_lt 0 held) [
  | yes some ↦
      let after = step_carry carry held chunk in
      let f = frame_of _ _ _ n e in
      let short : held < n = omega (arith, start_short (take held carry) chunk n need.more e, held_long carry held chunk need.room need.count) in
      let frame : take n after ≡ take n (on_hand carry held chunk) = (holds_frame carry held chunk need.room need.count need.more n some e).0 in
      let whole : start_answer (take n after) ≡ Ok (Some n) = ap (λ (s : List ℕ). start_answer s) frame ∙ first_whole (on_hand carry held chunk) n e in
      let roomy : 255 ≤ length after = omega (arith, need.room, carry_long carry held chunk need.room need.count need.more) in
      let picked : pick_answer after n chunk ≡ Ok (Pick.Carry n) =
      pick_by after n chunk roomy (omega (arith, f.size, f.shape.most)) ∙ rw (lt-ltb 0 n (omega arith), whole) in
      ap (λ (a : Result Step Refusal). pick_part after (held + step_moved a) chunk) (step_carry_law carry held chunk need.room need.count need.more n some e)
      ∙ (ap (λ (k : ℕ). pick_part after k chunk) (omega arith) ∙ (part_of after n chunk (Ok (Pick.Carry n)) picked ∙ frame))
  | no none ↦
      let after = step_carry carry held chunk in
      let z : held ≡ 0 = omega arith in
      let same : on_hand carry held chunk ≡ chunk = ap (λ (k : ℕ). on_hand carry k chunk) z in
      let whole : start_answer chunk ≡ Ok (Some n) = sym (ap (λ (s : List ℕ). start_answer s) same) ∙ e in
      let roomy : 255 ≤ length after = omega (arith, need.room, carry_long carry held chunk need.room need.count need.more) in
      let picked : pick_answer after 0 chunk ≡ Ok (Pick.Chunk n) = pick_by after 0 chunk roomy (omega arith) ∙ rw whole in
      ap (λ (a : Result Step Refusal). pick_part after (held + step_moved a) chunk) (step_chunk carry held chunk need.room need.count need.more n z whole)
      ∙ (ap (λ (k : ℕ). pick_part after k chunk) (omega arith) ∙ (part_of after 0 chunk (Ok (Pick.Chunk n)) picked ∙ ap (take n) (sym same)))
]

-- its answer by number and length
tells : (carry : List ℕ) (held : ℕ) (chunk : List ℕ) (n : ℕ) → Needing carry held → start_answer (on_hand carry held chunk) ≡ Ok (Some n)
    → (answer_number (step_answer carry held chunk) ≡ 0) × (step_length (step_answer carry held chunk) ≡ n)
tells carry held chunk n need e = elim (dec_lt 0 held) [
  | yes some ↦ let s = step_carry_law carry held chunk need.room need.count need.more n some e in (ap answer_number s, ap step_length s)
  | no none ↦
      let z : held ≡ 0 = omega arith in
      let whole : start_answer chunk ≡ Ok (Some n) = sym (ap (λ (k : ℕ). start_answer (on_hand carry k chunk)) z) ∙ e in
      let s = step_chunk carry held chunk need.room need.count need.more n z whole in
      (ap answer_number s, ap step_length s)
]

pub hands_back : HandsBack
hands_back carry held chunk f r room count u i e =
    let need : Needing carry held = record { room = room; count = count; more = unfinished_more (take held carry) u } in
    let whole : start_answer (on_hand carry held chunk) ≡ Ok (Some (length f)) = ap (λ (s : List ℕ). start_answer s) e ∙ frame_whole f r i in
    let t = tells carry held chunk (length f) need whole in
    record { number = t.0; long = t.1; part = picks_back carry held chunk (length f) need whole ∙ (ap (take (length f)) e ∙ take-append_seam f r) }

-- ---- any part

module _ (carry : List ℕ) (held : ℕ) (chunk : List ℕ) where
  abbrev Told : Result Pick Refusal → Type 0
  Told a = PickedBy a (pick_part_by a carry chunk) × (length (pick_part_by a carry chunk) ≡ pick_length a)

  from_carry_law : (a : Result (Option ℕ) Refusal) → start_answer (take held carry) ≡ a → Told (from Pick.Carry a)
  from_carry_law (Ok (Some n)) e =
      let f = frame_of _ _ _ n e in
      let same : take n (take held carry) ≡ take n carry = take-take n held carry (omega (arith, f.there, length-take held carry)) in
      (subst IsFrame same (is_frame (take held carry) n e), ap length (sym same) ∙ length-take-le n (take held carry) f.there)
  from_carry_law (Ok None) e = (refl, refl)
  from_carry_law (Err r) e = (refl, refl)

  from_chunk_law : (a : Result (Option ℕ) Refusal) → start_answer chunk ≡ a → Told (from Pick.Chunk a)
  from_chunk_law (Ok (Some n)) e = (is_frame chunk n e, length-take-le n chunk (frame_of _ _ _ n e).there)
  from_chunk_law (Ok None) e = (refl, refl)
  from_chunk_law (Err r) e = (refl, refl)

  told : Told (pick_answer carry held chunk)
  unfolding pick_answer
  told =
      picked Told (eqb (carry_refusal (length carry) held) 0)
      (picked Told (ltb 0 held) (from_carry_law (start_answer (take held carry)) refl) (from_chunk_law (start_answer chunk) refl))
      (refl, refl)

pub picks_frames : (carry : List ℕ) (held : ℕ) (chunk : List ℕ) → Picked carry held chunk
unfolding pick_part
picks_frames carry held chunk = let t = told carry held chunk in record { frame = t.0; long = t.1 }

-- ---- picking and topping up by what stands there

module _ (carry : List ℕ) (held : ℕ) (chunk : List ℕ) (room : 255 ≤ length carry) (count : held ≤ 255) where
  -- the chunk, or the carry if it holds anything
  abbrev named : ℕ → ℕ → Pick
  named zero = Pick.Chunk
  named (suc n) = Pick.Carry

  pick_named : pick_answer carry held chunk ≡ from (named held) (start_answer (picked_from carry held chunk))
  pick_named = pick_by carry held chunk room count ∙ by held
    where
      by : (k : ℕ) → pick (ltb 0 k) (from Pick.Carry (start_answer (take k carry))) (from Pick.Chunk (start_answer chunk)) ≡ from (named k) (start_answer (picked_from carry k chunk))
      by zero = refl
      by (suc k) = rw (lt-ltb 0 (suc k) (omega arith))

  picks_as : (a : Result (Option ℕ) Refusal) → start_answer (picked_from carry held chunk) ≡ a → pick_answer carry held chunk ≡ from (named held) a
  picks_as a e = pick_named ∙ ap (from (named held)) e

  named_part : (k : ℕ) (f r : List ℕ) → picked_from carry k chunk ≡ f ++ r → pick_part_by (Ok (named k (length f))) carry chunk ≡ f
  named_part zero f r e = ap (take (length f)) e ∙ take-append_seam f r
  named_part (suc k) f r e =
      let fits : length f ≤ suc k = omega (arith, ap length e, length-append f r, length-take (suc k) carry) in
      sym (take-take (length f) (suc k) carry fits) ∙ (ap (take (length f)) e ∙ take-append_seam f r)

  pub picks : Picks carry held chunk
  picks = record {
    whole = λ f r i e.
        part_of carry held chunk _ (picks_as (Ok (Some (length f))) (ap (λ (s : List ℕ). start_answer s) e ∙ frame_whole f r i))
        ∙ named_part held f r e;
    more = λ u. picks_as (Ok None) (unfinished_more _ u);
    refuses = λ n k. ap answer_number (picks_as (Err (refusal n)) (refuses_refused _ n k)) ∙ refuses_number _ n k;
  }

  pub tops_up : TopsUp carry held chunk
  unfolding topped
  tops_up = record {
    whole = λ f r i e. top_whole carry held chunk room count (length f) (ap (λ (s : List ℕ). start_answer s) e ∙ frame_whole f r i);
    more = λ u. top_more carry held chunk room count (unfinished_more _ u);
    refuses = λ n k. ap answer_number (top_refused carry held chunk room count (refusal n) (refuses_refused _ n k)) ∙ refuses_number _ n k;
    stored = refl;
  }
