-- Assembling. The sentences are document 01's; docs/PROMISES.md has them side by side with these statements.
use Rattle.std.specs.Prelude.{ℕ, zero, suc, ◌+◌, ◌-◌, ◌<◌, ◌≤◌, ◌≡◌, ◌↔◌, List, [], ◌∷◌, ◌++◌, length, get_or, take, drop, Result, Ok, Err}
use Rattle.std.proofs.lemmas.List.Edits.{sets}
use Rattle.elements.specs.Refusals.{number, answer_number}
use Rattle.elements.specs.declared.refusals.Refusal.{Refusal}
use Rattle.assembly.specs.Start.{start_answer, start_length}
use Rattle.assembly.specs.Picking.{pick_answer, pick_length, pick_part}
use Rattle.assembly.specs.Topping.{top_up_answer, moved_in, topped}
use Rattle.assembly.specs.Stepping.{step_answer, step_moved, step_length, step_carry}
use Rattle.assembly.specs.Streams.{End, rest, refused, StreamOutcome, no_frames, handed, stream, joined}
use Rattle.assembly.specs.declared.Pick.{Pick}
use Rattle.assembly.specs.declared.Step.{Step}
use Rattle.assembly.specs.declared.Step.TheVariants.{Chunk, Carry, More}

-- ---- what may stand at the start of some bytes, by the bytes alone

-- they are a whole frame: 68 hex, L from 4 to 253, and L bytes more
pub record IsFrame (f : List ℕ) : Type 0 where
  pub start : get_or f 0 0 ≡ 0x68
  pub least : 4 ≤ get_or f 1 0
  pub most : get_or f 1 0 ≤ 253
  pub long : length f ≡ 2 + get_or f 1 0

abbrev pub AllFrames : List (List ℕ) → Type 0
AllFrames [] = Unit {0}
AllFrames (f ∷ fs) = IsFrame f × AllFrames fs

-- more is needed: they are fewer than 3, or they begin as a frame does and are fewer than its 2 + L
pub data Unfinished (s : List ℕ) : Type 0 where
  few : length s < 3 → Unfinished s
  begun : get_or s 0 0 ≡ 0x68 → 4 ≤ get_or s 1 0 → get_or s 1 0 ≤ 253 → length s < 2 + get_or s 1 0 → Unfinished s

-- they are 3 or more and are refused with this number: the rows 2, 3 and 1, in this order
pub data Refuses (s : List ℕ) : ℕ → Type 0 where
  wrong_start : 3 ≤ length s → (get_or s 0 0 ≡ 0x68 → ⊥) → Refuses s 2
  too_long : 3 ≤ length s → get_or s 0 0 ≡ 0x68 → 253 < get_or s 1 0 → Refuses s 3
  too_short : 3 ≤ length s → get_or s 0 0 ≡ 0x68 → get_or s 1 0 < 4 → Refuses s 1

-- the answer tells which it is, by its number and by the frame's length
abbrev pub Tells : List ℕ → ℕ → ℕ → Type 0
Tells s number n = (answer_number (start_answer s) ≡ number) × (start_length (start_answer s) ≡ n)

pub record Starts (s : List ℕ) : Type 0 where
  pub whole : (f r : List ℕ) → IsFrame f → s ≡ f ++ r → Tells s 0 (length f)
  pub more : Unfinished s → Tells s 0 0
  pub refuses : (number : ℕ) → Refuses s number → Tells s number 0

-- ---- what the frames of a stream are

-- what was not handed out
abbrev pub left_over : End → List ℕ → List ℕ
left_over (rest r) s = r
left_over (refused number at) s = drop at s

-- at the end more is needed, or what begins there is refused with that number
abbrev pub Ends : End → List ℕ → Type 0
Ends (rest r) s = Unfinished r
Ends (refused number at) s = Refuses (drop at s) number

-- nothing is lost or repeated, each part handed out is a whole frame, and the frames end only where they must
pub record Cuts (s : List ℕ) : Type 0 where
  pub all : joined (stream s).frames ++ left_over (stream s).end s ≡ s
  pub whole : AllFrames (stream s).frames
  pub ends : Ends (stream s).end s

-- an end as it is where n bytes stand before the stream
abbrev pub later : ℕ → End → End
later n (rest r) = rest r
later n (refused number at) = refused number (n + at)

-- these frames, and then what the bytes after them give
abbrev pub handed_all : List (List ℕ) → StreamOutcome → StreamOutcome
handed_all fs o = record { frames = fs ++ o.frames; end = later (length (joined fs)) o.end }

-- What the outcome of each stream is. One that begins with whole frames hands out these, and then what the rest of it hands out.
-- It hands out none exactly if more is needed of its start, or if its start is refused.
pub record Outcomes (outcome : List ℕ → StreamOutcome) : Type 0 where
  pub begins : (fs : List (List ℕ)) (r : List ℕ) → AllFrames fs → outcome (joined fs ++ r) ≡ handed_all fs (outcome r)
  pub rests : (r : List ℕ) → (outcome r ≡ no_frames (rest r)) ↔ Unfinished r
  pub refuses : (r : List ℕ) (number : ℕ) → (outcome r ≡ no_frames (refused number 0)) ↔ Refuses r number

-- this settles the outcome of every stream: no other definition passes
abbrev pub OneOutcome : Type 0
OneOutcome = (outcome : List ℕ → StreamOutcome) → Outcomes outcome → (s : List ℕ) → outcome s ≡ stream s

-- ---- the procedure

-- How a caller goes on, by how many bytes of the stream are handed out, the carry's buffer, how many bytes it holds, and the chunks
-- to come.
abbrev pub Next : Type 0
Next = ℕ → List ℕ → ℕ → List (List ℕ) → StreamOutcome

-- a turn of the caller's loop on a chunk, with those to come after it
abbrev pub Turn : Type 0
Turn = ℕ → List ℕ → ℕ → List ℕ → List (List ℕ) → Next → StreamOutcome

-- Turns on each chunk until it is used up; what the carry holds after the last is left over. The first number bounds the turns.
abbrev pub turns : Turn → ℕ → Next
turns turn zero at carry held cs = no_frames (rest (take held carry))
turns turn (suc most) at carry held [] = no_frames (rest (take held carry))
turns turn (suc most) at carry held (c ∷ cs) = turn at carry held c cs (turns turn most)

-- a turn for each chunk, and for each byte at most one more
abbrev pub enough : List (List ℕ) → ℕ
enough [] = 0
enough (c ∷ cs) = suc (length c) + enough cs

-- What a caller does with the answer to a step on the chunk c: it takes the frame that is picked from the chunk and goes on after
-- it; or it takes the one that is picked from the carry, empties the carry and goes on with the rest of the chunk; or it goes on
-- with the next chunk; or it stops. The buffer of the carry is as the step left it.
abbrev pub run_by : Result Step Refusal → Turn
run_by (Ok (Chunk n)) at carry held c cs next = handed (pick_part carry held c) (next (at + n) carry 0 (drop n c ∷ cs))
run_by (Ok (Carry m n)) at carry held c cs next = handed (pick_part carry (held + m) c) (next (at + n) carry 0 (drop m c ∷ cs))
run_by (Ok (More m)) at carry held c cs next = next at carry (held + m) cs
run_by (Err r) at carry held c cs next = no_frames (refused (number r) at)

abbrev pub step_turn : Turn
step_turn at carry held c cs next = run_by (step_answer carry held c) at (step_carry carry held c) held c cs next

-- from an empty carry on, whatever its buffer holds
unfoldable pub run : List ℕ → List (List ℕ) → StreamOutcome
run carry chunks = turns step_turn (enough chunks) 0 carry 0 chunks

-- "From an empty carry on, the frames, and a refusal that ends them, do not depend on where the stream is cut."
abbrev pub CutIndependent : Type 0
CutIndependent = (carry : List ℕ) (chunks : List (List ℕ)) → 255 ≤ length carry → run carry chunks ≡ stream (joined chunks)

-- ---- topping up first

-- A caller who wants another order tops up at once, and picks then from the carry and the rest of the chunk, here c.
abbrev pub run_picked : Result Pick Refusal → Turn
run_picked (Ok (Pick.Carry n)) at carry held c cs next = handed (pick_part carry held c) (next (at + n) carry 0 (c ∷ cs))
run_picked (Ok (Pick.Chunk n)) at carry held c cs next = handed (pick_part carry held c) (next (at + n) carry held (drop n c ∷ cs))
run_picked (Ok Pick.More) at carry held c cs next = next at carry held cs
run_picked (Err r) at carry held c cs next = no_frames (refused (number r) at)

-- the buffer of the carry is as topping up left it
abbrev pub run_topped : Result ℕ Refusal → Turn
run_topped (Ok m) at carry held c cs next =
    run_picked (pick_answer carry (held + m) (drop m c)) at carry (held + m) (drop m c) cs next
run_topped (Err r) at carry held c cs next = no_frames (refused (number r) at)

abbrev pub top_turn : Turn
top_turn at carry held c cs next = run_topped (top_up_answer carry held c) at (topped carry held c) held c cs next

unfoldable pub run_topping : List ℕ → List (List ℕ) → StreamOutcome
run_topping carry chunks = turns top_turn (enough chunks) 0 carry 0 chunks

-- the frames and what ends them are the same
abbrev pub ToppingFirst : Type 0
ToppingFirst = (carry : List ℕ) (chunks : List (List ℕ)) → 255 ≤ length carry → run_topping carry chunks ≡ stream (joined chunks)

-- ---- no copy

-- a frame that the chunk holds whole is handed out as a part of the chunk, and the carry is left alone
pub record Uncopied (carry chunk : List ℕ) (n : ℕ) : Type 0 where
  pub answer : step_answer carry 0 chunk ≡ Ok (Chunk n)
  pub kept : step_carry carry 0 chunk ≡ carry

abbrev pub InPlace : Type 0
InPlace = (carry f r : List ℕ) → 255 ≤ length carry → IsFrame f → Uncopied carry (f ++ r) (length f)

-- ---- the part

-- a step tells of the frame f and how long it is, and picking then hands it back
pub record HandedBack (carry : List ℕ) (held : ℕ) (chunk f : List ℕ) : Type 0 where
  pub number : answer_number (step_answer carry held chunk) ≡ 0
  pub long : step_length (step_answer carry held chunk) ≡ length f
  pub part : pick_part (step_carry carry held chunk) (held + step_moved (step_answer carry held chunk)) chunk ≡ f

-- so it is where the held bytes need more, and they and the chunk begin with f
abbrev pub HandsBack : Type 0
HandsBack = (carry : List ℕ) (held : ℕ) (chunk f r : List ℕ) → 255 ≤ length carry → held ≤ 255
    → Unfinished (take held carry) → IsFrame f → take held carry ++ chunk ≡ f ++ r → HandedBack carry held chunk f

-- The part that an answer goes with is a whole frame; "more and a refusal have the empty part".
abbrev pub PickedBy : Result Pick Refusal → List ℕ → Type 0
PickedBy (Ok (Pick.Carry n)) part = IsFrame part
PickedBy (Ok (Pick.Chunk n)) part = IsFrame part
PickedBy (Ok Pick.More) part = part ≡ []
PickedBy (Err r) part = part ≡ []

-- whatever the carry holds; and the part is as long as the answer tells
pub record Picked (carry : List ℕ) (held : ℕ) (chunk : List ℕ) : Type 0 where
  pub frame : PickedBy (pick_answer carry held chunk) (pick_part carry held chunk)
  pub long : length (pick_part carry held chunk) ≡ pick_length (pick_answer carry held chunk)

-- ---- picking and topping up, each by itself, with a carry that is not refused

-- "for picking the one it picks from": the held bytes, or the chunk where none are held
abbrev pub picked_from : List ℕ → ℕ → List ℕ → List ℕ
picked_from carry zero chunk = chunk
picked_from carry (suc n) chunk = take (suc n) carry

-- it hands out the frame that stands there, and refuses what is refused there
pub record Picks (carry : List ℕ) (held : ℕ) (chunk : List ℕ) : Type 0 where
  pub whole : (f r : List ℕ) → IsFrame f → picked_from carry held chunk ≡ f ++ r → pick_part carry held chunk ≡ f
  pub more : Unfinished (picked_from carry held chunk) → pick_answer carry held chunk ≡ Ok Pick.More
  pub refuses : (number : ℕ) → Refuses (picked_from carry held chunk) number → answer_number (pick_answer carry held chunk) ≡ number

-- "On hand is the carry followed by the chunk for topping up". It moves what is missing of the frame that stands there; or all of
-- the chunk, where more is needed; or it refuses what is refused there, and leaves the carry as it was.
pub record TopsUp (carry : List ℕ) (held : ℕ) (chunk : List ℕ) : Type 0 where
  pub whole : (f r : List ℕ) → IsFrame f → take held carry ++ chunk ≡ f ++ r
      → top_up_answer carry held chunk ≡ Ok (length f - held)
  pub more : Unfinished (take held carry ++ chunk) → top_up_answer carry held chunk ≡ Ok (length chunk)
  pub refuses : (number : ℕ) → Refuses (take held carry ++ chunk) number → answer_number (top_up_answer carry held chunk) ≡ number
  pub stored : topped carry held chunk ≡ sets carry held (take (moved_in (top_up_answer carry held chunk)) chunk)

-- ---- all of it

pub record StreamLevel : Type 0 where
  pub starts : (s : List ℕ) → Starts s
  pub cuts : (s : List ℕ) → Cuts s
  pub outcomes : Outcomes stream
  pub one_outcome : OneOutcome
  pub cut : CutIndependent
  pub topping : ToppingFirst
  pub uncopied : InPlace
  pub part : HandsBack
  pub picked : (carry : List ℕ) (held : ℕ) (chunk : List ℕ) → Picked carry held chunk
  pub picks : (carry : List ℕ) (held : ℕ) (chunk : List ℕ) → 255 ≤ length carry → held ≤ 255 → Picks carry held chunk
  pub tops_up : (carry : List ℕ) (held : ℕ) (chunk : List ℕ) → 255 ≤ length carry → held ≤ 255 → TopsUp carry held chunk
