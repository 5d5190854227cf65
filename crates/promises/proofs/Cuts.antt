-- The frames of a stream: they and what is left over are the stream, each is a whole frame, and they end where they must. A stream
-- that begins with frames hands out these, and then what its rest hands out; that settles what it hands out. Assumes nothing.
use Prim.Native.Nat.{ℕ, zero, suc, ◌+◌, ◌≤◌}
use mathlib.Core.Path.{◌≡◌, refl, sym, ap, subst, ◌∙◌}
use mathlib.Core.List.{List, [], ◌∷◌, ◌++◌, append_assoc}
use native.Mathlib.Omega.{arith}
use native.Mathlib.Nat.{le_refl}
use lib.ListN.{length, get_or, take, drop, length-append, length-drop, take-append-drop}
use lib.Seq.{get_or-take, length-take-le, take-append_seam, drop-append_seam, drop-drop}
use Rattle.std.specs.Prelude.{Option, Some, None, Result, Ok, Err}
use Rattle.elements.specs.Refusals.{number}
use Rattle.elements.specs.declared.refusals.Refusal.{Refusal}
use Rattle.assembly.specs.Start.{start_answer}
use Rattle.assembly.specs.Streams.{End, rest, refused, StreamOutcome, no_frames, handed, outcome_by, stream_from, stream, joined}
use Rattle.assembly.proofs.Sights.{few_more, frame_of, bad_of}
use Rattle.promises.specs.Streams.{IsFrame, AllFrames, Unfinished, few, Refuses, left_over, Ends, Cuts, later, handed_all, Outcomes, OneOutcome}
use Rattle.promises.proofs.Starts.{frame_whole, unfinished_more, more_unfinished, refuses_refused, refused_refuses, refuses_number}

-- ---- a stream by what stands at its start

pub stream_more : (most at : ℕ) (s : List ℕ) → start_answer s ≡ Ok None → stream_from most at s ≡ no_frames (rest s)
stream_more zero at s e = refl
stream_more (suc most) at s e = ap (λ (a : Result (Option ℕ) Refusal). outcome_by a at s (stream_from most)) e

pub stream_refused : (most at : ℕ) (s : List ℕ) (r : Refusal) → length s ≤ most → start_answer s ≡ Err r → stream_from most at s ≡ no_frames (refused (number r) at)
stream_refused zero at s r l e = let b = bad_of _ _ _ r e in absurd (omega (arith, b.enough))
stream_refused (suc most) at s r l e = ap (λ (a : Result (Option ℕ) Refusal). outcome_by a at s (stream_from most)) e

-- a frame, and the stream of what follows it
pub stream_whole : (most at : ℕ) (s : List ℕ) (n : ℕ) → start_answer s ≡ Ok (Some n) → stream_from (suc most) at s ≡ handed (take n s) (stream_from most (at + n) (drop n s))
stream_whole most at s n e = ap (λ (a : Result (Option ℕ) Refusal). outcome_by a at s (stream_from most)) e

-- ---- nothing is lost, each part is a frame, and the frames end where they must

-- the same of the bytes s that stand at the end of a stream
record From (all s : List ℕ) (o : StreamOutcome) : Type 0 where
  same : joined o.frames ++ left_over o.end all ≡ s
  whole : AllFrames o.frames
  ends : Ends o.end all

pub is_frame : (s : List ℕ) (n : ℕ) → start_answer s ≡ Ok (Some n) → IsFrame (take n s)
is_frame s n e =
    let f = frame_of _ _ _ n e in
    let big : 6 ≤ n = omega (arith, f.size, f.shape.least) in
    let a : get_or (take n s) 0 0 ≡ get_or s 0 0 = get_or-take n s 0 0 (omega arith) in
    let l : get_or (take n s) 1 0 ≡ get_or s 1 0 = get_or-take n s 1 0 (omega arith) in
    record {
      start = a ∙ f.shape.start;
      least = omega (arith, f.shape.least);
      most = omega (arith, f.shape.most);
      long = length-take-le n s f.there ∙ omega (arith, f.size);
    }

module _ (all : List ℕ) where
  from : (most at : ℕ) (s : List ℕ) → length s ≤ most → drop at all ≡ s → From all s (stream_from most at s)
  from zero at s l e = record { same = refl; whole = tt; ends = few (omega arith) }
  from (suc most) at s l e = by (λ n. from most (at + n) (drop n s)) (start_answer s) refl
    where
      by : ((n : ℕ) → length (drop n s) ≤ most → drop (at + n) all ≡ drop n s → From all (drop n s) (stream_from most (at + n) (drop n s)))
          → (a : Result (Option ℕ) Refusal) → start_answer s ≡ a → From all s (outcome_by a at s (stream_from most))
      by next (Ok None) g = record { same = refl; whole = tt; ends = more_unfinished s g }
      by next (Err r) g = record { same = e; whole = tt; ends = refused_refuses (drop at all) r (ap (λ (x : List ℕ). start_answer x) e ∙ g) }
      by next (Ok (Some n)) g =
          let f = frame_of _ _ _ n g in
          let fewer : length (drop n s) ≤ most = omega (arith, length-drop n s, f.size, f.enough) in
          let rest = next n fewer (sym (drop-drop n at all) ∙ ap (drop n) e) in
          record {
            same = append_assoc (take n s) _ _ ∙ (ap (λ (x : List ℕ). take n s ++ x) rest.same ∙ take-append-drop n s);
            whole = (is_frame s n g, rest.whole);
            ends = rest.ends;
          }

pub cuts : (s : List ℕ) → Cuts s
unfolding stream
cuts s = let f = from s (length s) 0 s (le_refl _) refl in record { all = f.same; whole = f.whole; ends = f.ends }

-- ---- the streams that hand out no frame

-- the end tells why there is none
ends_as : (r : List ℕ) (e : End) → stream r ≡ no_frames e → Ends e r
ends_as r e is = subst (λ (o : StreamOutcome). Ends o.end r) is (cuts r).ends

unfinished_rests : (r : List ℕ) → Unfinished r → stream r ≡ no_frames (rest r)
unfolding stream
unfinished_rests r u = stream_more (length r) 0 r (unfinished_more r u)

refuses_stops : (r : List ℕ) (n : ℕ) → Refuses r n → stream r ≡ no_frames (refused n 0)
unfolding stream
refuses_stops r n k =
    stream_refused (length r) 0 r _ (le_refl _) (refuses_refused r n k) ∙ ap (λ (m : ℕ). no_frames (refused m 0)) (refuses_number r n k)

-- ---- a stream that begins with frames

-- an outcome where n bytes stand before the stream
abbrev moved : ℕ → StreamOutcome → StreamOutcome
moved n o = record { frames = o.frames; end = later n o.end }

-- the same frames from a later place on, whatever bounds their number
stream_moved : (m k n at : ℕ) (s : List ℕ) → length s ≤ m → length s ≤ k → stream_from m (n + at) s ≡ moved n (stream_from k at s)
stream_moved zero k n at s l h = let e = few_more (length s) _ _ (omega arith) in sym (ap (moved n) (stream_more k at s e))
stream_moved (suc m) k n at s l h = by (stream_moved m) k (start_answer s) h refl
  where
    by : ((k n at : ℕ) (s : List ℕ) → length s ≤ m → length s ≤ k → stream_from m (n + at) s ≡ moved n (stream_from k at s))
        → (k : ℕ) (a : Result (Option ℕ) Refusal) → length s ≤ k → start_answer s ≡ a → stream_from (suc m) (n + at) s ≡ moved n (stream_from k at s)
    by next k (Ok None) h e = stream_more (suc m) (n + at) s e ∙ sym (ap (moved n) (stream_more k at s e))
    by next k (Err r) h e = stream_refused (suc m) (n + at) s r l e ∙ sym (ap (moved n) (stream_refused k at s r h e))
    by next zero (Ok (Some c)) h e = let f = frame_of _ _ _ c e in absurd (omega (arith, f.enough))
    by next (suc k) (Ok (Some c)) h e =
        let f = frame_of _ _ _ c e in
        let fewer = length-drop c s in
        let place : n + at + c ≡ n + (at + c) = omega arith in
        stream_whole m (n + at) s c e
        ∙ (ap (λ (p : ℕ). handed (take c s) (stream_from m p (drop c s))) place
        ∙ (ap (handed (take c s)) (next k n (at + c) (drop c s) (omega (arith, fewer, f.size, f.enough)) (omega (arith, fewer, f.size, f.enough)))
        ∙ sym (ap (moved n) (stream_whole k at s c e))))

-- one frame, and what follows it
stream_front : (f r : List ℕ) → IsFrame f → stream (f ++ r) ≡ handed f (moved (length f) (stream r))
unfolding stream
stream_front f r i = by (length (f ++ r)) (le_refl _)
  where
    long : length (f ++ r) ≡ length f + length r
    long = length-append f r

    by : (most : ℕ) → length (f ++ r) ≤ most → stream_from most 0 (f ++ r) ≡ handed f (moved (length f) (stream_from (length r) 0 r))
    by zero l = absurd (omega (arith, long, i.long))
    by (suc most) l =
        let place : 0 + length f ≡ length f + 0 = omega arith in
        stream_whole most 0 (f ++ r) (length f) (frame_whole f r i)
        ∙ (ap (λ (x : List ℕ). handed x (stream_from most (0 + length f) (drop (length f) (f ++ r)))) (take-append_seam f r)
        ∙ (ap (λ (x : List ℕ). handed f (stream_from most (0 + length f) x)) (drop-append_seam f r)
        ∙ (ap (λ (p : ℕ). handed f (stream_from most p r)) place
        ∙ ap (handed f) (stream_moved most (length r) (length f) 0 r (omega (arith, long, i.long)) (le_refl _)))))

later_none : (e : End) → later 0 e ≡ e
later_none (rest r) = refl
later_none (refused n at) = ap (refused n) (omega arith)

later_later : (a b : ℕ) (e : End) → later a (later b e) ≡ later (a + b) e
later_later a b (rest r) = refl
later_later a b (refused n at) = ap (refused n) (omega arith)

begins : (fs : List (List ℕ)) (r : List ℕ) → AllFrames fs → stream (joined fs ++ r) ≡ handed_all fs (stream r)
begins [] r h = ap (λ (e : End). record { frames = (stream r).frames; end = e }) (sym (later_none (stream r).end))
begins (f ∷ fs) r h =
    let end = (stream r).end in
    ap stream (append_assoc f (joined fs) r)
    ∙ (stream_front f (joined fs ++ r) h.0
    ∙ (ap (λ (o : StreamOutcome). handed f (moved (length f) o)) (begins fs r h.1)
    ∙ ap (λ (e : End). record { frames = f ∷ fs ++ (stream r).frames; end = e })
    (later_later (length f) (length (joined fs)) end ∙ ap (λ (n : ℕ). later n end) (sym (length-append f (joined fs))))))

-- ---- what settles the outcome

pub outcomes : Outcomes stream
outcomes = record {
  begins = begins;
  rests = λ r. (ends_as r (rest r), unfinished_rests r);
  refuses = λ r n. (ends_as r (refused n 0), refuses_stops r n);
}

-- what settles the end of the stream settles all of it
pub one_outcome : OneOutcome
one_outcome outcome laws s = by (stream s).end (cuts s).all (cuts s).ends
  where
    settles : (r : List ℕ) → joined (stream s).frames ++ r ≡ s → outcome r ≡ stream r → outcome s ≡ stream s
    settles r all e =
        let fs = (stream s).frames in
        let whole = (cuts s).whole in
        ap outcome (sym all) ∙ (laws.begins fs r whole ∙ (ap (handed_all fs) e ∙ (sym (begins fs r whole) ∙ ap stream all)))

    by : (e : End) → joined (stream s).frames ++ left_over e s ≡ s → Ends e s → outcome s ≡ stream s
    by (rest r) all u = settles r all ((laws.rests r).1 u ∙ sym (unfinished_rests r u))
    by (refused n at) all k = settles (drop at s) all ((laws.refuses (drop at s) n).1 k ∙ sym (refuses_stops (drop at s) n k))
