-- The bytes of frames that are handed out, cut and read again: each frame, its numbers and its ASDU. Assumes nothing.
use Prim.Native.Nat.{ℕ, zero, suc, ◌+◌, ◌*◌, ◌%◌, ◌≤◌}
use mathlib.Core.Path.{◌≡◌, refl, sym, ap, ◌∙◌}
use mathlib.Core.List.{List, [], ◌∷◌, ◌++◌, append_assoc}
use native.Mathlib.Omega.{arith}
use native.Mathlib.Nat.{le_refl}
use borrow.Author.Tests.{le-ltb}
use lib.ListN.{length, length-append}
use lib.Seq.{take_at, drop_at}
use Rattle.std.specs.Prelude.{Option, Some, Result, Ok}
use Rattle.laws.specs.Numbers.{le_octets}
use Rattle.elements.specs.declared.refusals.Refusal.{Refusal}
use Rattle.asdu.specs.Plain.{plain_answer}
use Rattle.apdu.specs.Control.{send_number, receive_number}
use Rattle.apdu.specs.Reading.{frame_answer, asdu_part}
use Rattle.apdu.specs.Writing.{i_octets, s_octets, u_octets}
use Rattle.apdu.specs.declared.frame.UFrame.{UFrame}
use Rattle.apdu.proofs.Answers.{i_long}
use Rattle.assembly.specs.Start.{start_refusal, sight, start_answer}
use Rattle.assembly.specs.Streams.{rest, StreamOutcome, handed, outcome_by, stream_from, stream}
use Rattle.assembly.proofs.Sights.{enough_whole, longer_whole}
use Rattle.link.specs.Frames.{Frame, i_frame, s_frame, u_frame, octets_of, wire}
use Rattle.link_meaning.specs.Effects.{asdus_of, tells_r, others, NumberedFrames}
use Rattle.asdu.proofs.Passed.{plain_reads, plain_sized}
use Rattle.promises.specs.Demand3.{keep_i, i_frames_in, asdus_in, Numbered, told_in}
use Rattle.promises.proofs.FrameBack.{i_reads, part_is, s_reads, frame_reads_back}
use Rattle.apdu.specs.declared.frame.Frame as read
use Rattle.apdu.specs.declared.frame.Frame.TheVariants.{I, S, U}
use Rattle.asdu.specs.declared.Form.TheVariants.{Plain}

-- ---- one frame

-- numbers of 15 bits, and an ASDU of plain form
abbrev pub Fit : Frame → Type 0
Fit (i_frame s r x) = (s ≤ 32767) × (r ≤ 32767) × (plain_answer x ≡ Ok Plain)
Fit (s_frame r) = r ≤ 32767
Fit (u_frame u) = Unit {0}

abbrev read_as : Frame → Result read.Frame Refusal
read_as (i_frame s r x) = Ok (I (send_number s) (receive_number r))
read_as (s_frame r) = Ok (S (receive_number r))
read_as (u_frame u) = Ok (U u)

reads : (f : Frame) → Fit f → frame_answer (octets_of f) ≡ read_as f
unfolding octets_of
reads (i_frame s r x) h = let z = plain_sized x h.2 in i_reads s r x h.0 h.1 (omega (arith, z.0)) (plain_reads x h.2)
reads (s_frame r) h = s_reads r h
reads (u_frame u) h = frame_reads_back.u u

part : (s r : ℕ) (x : List ℕ) → Fit (i_frame s r x) → asdu_part (octets_of (i_frame s r x)) ≡ x
unfolding octets_of
part s r x h = part_is s r x (reads (i_frame s r x) h)

-- six octets without an ASDU; with one, at most 255
s_six : (r : ℕ) → length (octets_of (s_frame r)) ≡ 6
unfolding octets_of s_octets le_octets
s_six r = refl

u_six : (u : UFrame) → length (octets_of (u_frame u)) ≡ 6
unfolding octets_of u_octets le_octets
u_six u = refl

i_most : (s r : ℕ) (x : List ℕ) → plain_answer x ≡ Ok Plain → length (octets_of (i_frame s r x)) ≤ 255
unfolding octets_of
i_most s r x e = let z = plain_sized x e in omega (arith, i_long s r x, z.1)

-- ---- cutting

no_refusal : (n : ℕ) → n ≤ 249 → start_refusal 104 (4 + n) ≡ 0
unfolding start_refusal
no_refusal n h = rw (le-ltb 253 (4 + n) (omega arith), le-ltb (4 + n) 4 (omega arith))

starts : (f : Frame) → Fit f → start_answer (octets_of f) ≡ Ok (Some (length (octets_of f)))
unfolding octets_of
starts (i_frame s r x) h =
    let z = plain_sized x h.2 in
    let long = i_long s r x in
    unfold i_octets in
    enough_whole _ 104 (4 + length x) (omega (arith, long)) (no_refusal (length x) z.1) (omega (arith, long)) ∙ ap (λ (n : ℕ). Ok (Some n)) (omega (arith, long))
starts (s_frame r) h = unfold s_octets le_octets sight start_refusal in refl
starts (u_frame u) h = unfold u_octets le_octets sight start_refusal in refl

abbrev pub AllFit : List Frame → Type 0
AllFit [] = Unit {0}
AllFit (f ∷ fs) = Fit f × AllFit fs

abbrev pub each : List Frame → List (List ℕ)
each [] = []
each (f ∷ fs) = octets_of f ∷ each fs

some_octets : (f : Frame) → Fit f → 6 ≤ length (octets_of f)
unfolding octets_of
some_octets (i_frame s r x) h = omega (arith, i_long s r x)
some_octets (s_frame r) h = let e = s_six r in omega arith
some_octets (u_frame u) h = let e = u_six u in omega arith

abbrev pub all_of : List Frame → StreamOutcome
all_of fs = record { frames = each fs; end = rest [] }

cuts_wire : (fs : List Frame) → AllFit fs → (most at : ℕ) → length (wire fs) ≤ most → stream_from most at (wire fs) ≡ all_of fs
unfolding wire
cuts_wire [] h zero at l = refl
cuts_wire [] h (suc most) at l = unfold sight in refl
cuts_wire (f ∷ fs) h zero at l = absurd (omega (arith, some_octets f h.0, length-append (octets_of f) (wire fs)))
cuts_wire (f ∷ fs) h (suc most) at l =
    let n = length (octets_of f) in
    let s = octets_of f ++ wire fs in
    let e : start_answer s ≡ Ok (Some n) = longer_whole (octets_of f) (wire fs) n (starts f h.0) in
    let next = cuts_wire fs h.1 most (at + n) (omega (arith, some_octets f h.0, length-append (octets_of f) (wire fs))) in
    ap (λ (a : Result (Option ℕ) Refusal). outcome_by a at s (stream_from most)) e
    ∙ (rw (take_at (octets_of f) (wire fs) n refl, drop_at (octets_of f) (wire fs) n refl) (ap (handed (octets_of f)) next))

pub stream_wire : (fs : List Frame) → AllFit fs → stream (wire fs) ≡ all_of fs
unfolding stream
stream_wire fs h = cuts_wire fs h (length (wire fs)) 0 (le_refl _)

pub wire_most : (fs : List Frame) → AllFit fs → length (wire fs) ≤ 255 * length (asdus_of fs) + 6 * others fs
unfolding wire asdus_of others
wire_most [] h = omega arith
wire_most (i_frame s r x ∷ fs) h = let f = i_frame s r x in omega (arith, length-append (octets_of f) (wire fs), i_most s r x h.0.2, wire_most fs h.1)
wire_most (s_frame r ∷ fs) h = let f = s_frame r in omega (arith, length-append (octets_of f) (wire fs), s_six r, wire_most fs h.1)
wire_most (u_frame u ∷ fs) h = let f = u_frame u in omega (arith, length-append (octets_of f) (wire fs), u_six u, wire_most fs h.1)

-- ---- frames with their numbers

-- ASDUs of plain form
abbrev pub AllPlain : List (List ℕ) → Type 0
AllPlain [] = Unit {0}
AllPlain (x ∷ xs) = (plain_answer x ≡ Ok Plain) × AllPlain xs

low : (n : ℕ) → n % 32768 ≤ 32767
low n = omega arith

pub all_fit : (s r : ℕ) (fs : List Frame) → NumberedFrames s r fs → AllPlain (asdus_of fs) → AllFit fs
unfolding asdus_of NumberedFrames
all_fit s r [] h p = tt
all_fit s r (i_frame n m x ∷ fs) h p = ((omega (arith, low s, h.0), omega (arith, low r, h.1), p.0), all_fit (s + 1) r fs h.2 p.1)
all_fit s r (s_frame m ∷ fs) h p = (omega (arith, low r, h.0), all_fit s r fs h.1 p)
all_fit s r (u_frame u ∷ fs) h p = (tt, all_fit s r fs h p)

pub asdus_out : (fs : List Frame) → AllFit fs → asdus_in (i_frames_in (each fs)) ≡ asdus_of fs
unfolding asdus_of
asdus_out [] f = refl
asdus_out (i_frame n m x ∷ fs) f =
    let rest_is = asdus_out fs f.1 in
    rw (reads (i_frame n m x) f.0) (λ i. part n m x f.0 i ∷ rest_is i)
asdus_out (s_frame m ∷ fs) f = rw (reads (s_frame m) f.0) (asdus_out fs f.1)
asdus_out (u_frame u ∷ fs) f = rw (reads (u_frame u) f.0) (asdus_out fs f.1)

pub numbers_out : (s r : ℕ) (fs : List Frame) → NumberedFrames s r fs → AllFit fs → Numbered s r (each fs)
unfolding NumberedFrames
numbers_out s r [] h f = tt
numbers_out s r (i_frame n m x ∷ fs) h f = rw (reads (i_frame n m x) f.0) ((h.0, h.1), numbers_out (s + 1) r fs h.2 f.1)
numbers_out s r (s_frame m ∷ fs) h f = rw (reads (s_frame m) f.0) (h.0, numbers_out s r fs h.1 f.1)
numbers_out s r (u_frame u ∷ fs) h f = rw (reads (u_frame u) f.0) (tt, numbers_out s r fs h f.1)

-- which frames tell R
pub told_out : (fs : List Frame) → AllFit fs → told_in (each fs) ≡ tells_r fs
unfolding tells_r
told_out [] h = refl
told_out (i_frame n m x ∷ fs) h = rw (reads (i_frame n m x) h.0)
told_out (s_frame m ∷ fs) h = rw (reads (s_frame m) h.0)
told_out (u_frame u ∷ fs) h = rw (reads (u_frame u) h.0) (told_out fs h.1)

-- ---- frames after others

pub fit_append : (fs gs : List Frame) → AllFit fs → AllFit gs → AllFit (fs ++ gs)
fit_append [] gs h k = k
fit_append (f ∷ fs) gs h k = (h.0, fit_append fs gs h.1 k)

pub each_append : (fs gs : List Frame) → each (fs ++ gs) ≡ each fs ++ each gs
each_append [] gs = refl
each_append (f ∷ fs) gs = ap (λ (l : List (List ℕ)). octets_of f ∷ l) (each_append fs gs)

pub kept_append : (xs ys : List (List ℕ)) → i_frames_in (xs ++ ys) ≡ i_frames_in xs ++ i_frames_in ys
kept_append [] ys = refl
kept_append (x ∷ xs) ys =
    ap (λ (l : List (List ℕ)). keep_i (frame_answer x) x ++ l) (kept_append xs ys) ∙ sym (append_assoc (keep_i (frame_answer x) x) (i_frames_in xs) (i_frames_in ys))
