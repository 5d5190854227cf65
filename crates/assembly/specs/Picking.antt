-- "Picking only reads: the next frame is a part of the carry if the carry holds anything, else of the chunk, or the answer is
-- more; more and a refusal have the empty part" (document 01). The carry holds the first `held` bytes of its buffer.
use Rattle.std.specs.Prelude.{ℕ, List, [], length, take, ltb, eqb, Option, None, Some, Result, Ok, Err}
use Rattle.laws.specs.Choice.{pick}
use Rattle.elements.specs.Refusals.{refusal}
use Rattle.elements.specs.declared.refusals.Refusal.{Refusal}
use Rattle.assembly.specs.Start.{start_answer, carry_refusal}
use Rattle.assembly.specs.declared.Pick.{Pick}
use Rattle.assembly.specs.declared.Pick.TheVariants.{Carry, Chunk, More}

-- what stands at the start of the carry, or of the chunk, as an answer that names which
abbrev pub from : (ℕ → Pick) → Result (Option ℕ) Refusal → Result Pick Refusal
from which (Ok (Some n)) = Ok (which n)
from which (Ok None) = Ok More
from which (Err r) = Err r

-- 33, then from the carry if it holds anything, else from the chunk
unfoldable pub pick_answer : List ℕ → ℕ → List ℕ → Result Pick Refusal
pick_answer carry held chunk =
    pick (eqb (carry_refusal (length carry) held) 0)
    (pick (ltb 0 held) (from Carry (start_answer (take held carry))) (from Chunk (start_answer chunk)))
    (Err (refusal (carry_refusal (length carry) held)))

-- how long an answer's part is, and the part
abbrev pub pick_length : Result Pick Refusal → ℕ
pick_length (Ok (Carry n)) = n
pick_length (Ok (Chunk n)) = n
pick_length (Ok More) = 0
pick_length (Err r) = 0

abbrev pub pick_part_by : Result Pick Refusal → List ℕ → List ℕ → List ℕ
pick_part_by (Ok (Carry n)) carry chunk = take n carry
pick_part_by (Ok (Chunk n)) carry chunk = take n chunk
pick_part_by (Ok More) carry chunk = []
pick_part_by (Err r) carry chunk = []

unfoldable pub pick_part : List ℕ → ℕ → List ℕ → List ℕ
pick_part carry held chunk = pick_part_by (pick_answer carry held chunk) carry chunk
