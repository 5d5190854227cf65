-- "Topping up moves chunk bytes into the carry until it holds one whole frame or the chunk is used up; its answer tells how
-- many" (document 01). On hand is the carry followed by the chunk.
use Rattle.std.specs.Prelude.{ℕ, ◌+◌, ◌-◌, min, List, ◌++◌, length, take, get_or, ltb, Result}
use Rattle.std.specs.Result.{result_unwrap_or}
use Rattle.std.proofs.lemmas.List.Edits.{sets}
use Rattle.laws.specs.Choice.{pick, ◌then◌}
use Rattle.elements.specs.Refusals.{answer}
use Rattle.elements.specs.declared.refusals.Refusal.{Refusal}
use Rattle.assembly.specs.Start.{start_refusal, carry_refusal}

-- the held bytes of the carry, then the chunk
abbrev pub on_hand : List ℕ → ℕ → List ℕ → List ℕ
on_hand carry held chunk = take held carry ++ chunk

-- 33, then, once 3 bytes are on hand, 2, 3, 1
unfoldable pub top_up_refusal : List ℕ → ℕ → List ℕ → ℕ
top_up_refusal carry held chunk =
    carry_refusal (length carry) held
    then pick (ltb (held + length chunk) 3) 0
    (start_refusal (get_or (on_hand carry held chunk) 0 0) (get_or (on_hand carry held chunk) 1 0))

-- what is missing of the 2 + L bytes of a frame, as far as the chunk has it; all of it where L is not known yet
unfoldable pub moving : List ℕ → ℕ → List ℕ → ℕ
moving carry held chunk =
    pick (ltb (held + length chunk) 3) (length chunk)
    (min (2 + get_or (on_hand carry held chunk) 1 0 - held) (length chunk))

unfoldable pub top_up_answer : List ℕ → ℕ → List ℕ → Result ℕ Refusal
top_up_answer carry held chunk = answer (top_up_refusal carry held chunk) (moving carry held chunk)

-- how many bytes were moved
abbrev pub moved_in : Result ℕ Refusal → ℕ
moved_in a = result_unwrap_or a 0

-- the carry's buffer afterwards: the bytes moved stand after the held ones, every other is as it was
unfoldable pub topped : List ℕ → ℕ → List ℕ → List ℕ
topped carry held chunk = sets carry held (take (moved_in (top_up_answer carry held chunk)) chunk)
