-- One step of assembling, as a caller does it: pick; where more is needed, top up and pick from the carry.
use Rattle.std.specs.Prelude.{ℕ, ◌+◌, List, take, Result, Ok, Err}
use Rattle.std.proofs.lemmas.List.Edits.{sets}
use Rattle.elements.specs.declared.refusals.Refusal.{Refusal}
use Rattle.assembly.specs.Picking.{pick_answer}
use Rattle.assembly.specs.Topping.{top_up_answer, topped}
use Rattle.assembly.specs.declared.Pick.{Pick}
use Rattle.assembly.specs.declared.Step.{Step}
use Rattle.assembly.specs.declared.Step.TheVariants.{Chunk, Carry, More}

-- what is picked once m bytes were moved
abbrev pub stepped : ℕ → Pick → Step
stepped m (Pick.Carry n) = Carry m n
stepped m (Pick.Chunk n) = Chunk n
stepped m Pick.More = More m

abbrev pub after_moved : ℕ → Result Pick Refusal → Result Step Refusal
after_moved m (Ok p) = Ok (stepped m p)
after_moved m (Err r) = Err r

-- where the carry was topped up, picking is tried again
abbrev pub after_top_up : List ℕ → ℕ → List ℕ → Result ℕ Refusal → Result Step Refusal
after_top_up carry held chunk (Ok m) = after_moved m (pick_answer (topped carry held chunk) (held + m) chunk)
after_top_up carry held chunk (Err r) = Err r

-- a frame at once, or topping up where more is needed
abbrev pub after_pick : List ℕ → ℕ → List ℕ → Result Pick Refusal → Result Step Refusal
after_pick carry held chunk (Ok (Pick.Carry n)) = Ok (Carry 0 n)
after_pick carry held chunk (Ok (Pick.Chunk n)) = Ok (Chunk n)
after_pick carry held chunk (Ok Pick.More) = after_top_up carry held chunk (top_up_answer carry held chunk)
after_pick carry held chunk (Err r) = Err r

unfoldable pub step_answer : List ℕ → ℕ → List ℕ → Result Step Refusal
step_answer carry held chunk = after_pick carry held chunk (pick_answer carry held chunk)

-- how many bytes were moved, and how long an answer's frame is, 0 where it tells of none
abbrev pub step_moved : Result Step Refusal → ℕ
step_moved (Ok (Chunk n)) = 0
step_moved (Ok (Carry m n)) = m
step_moved (Ok (More m)) = m
step_moved (Err r) = 0

abbrev pub step_length : Result Step Refusal → ℕ
step_length (Ok (Chunk n)) = n
step_length (Ok (Carry m n)) = n
step_length (Ok (More m)) = 0
step_length (Err r) = 0

-- the carry's buffer afterwards: only the bytes moved have changed
unfoldable pub step_carry : List ℕ → ℕ → List ℕ → List ℕ
step_carry carry held chunk = sets carry held (take (step_moved (step_answer carry held chunk)) chunk)
