-- IEC 60870-5-104: a frame is 68 hex, the length L, which is 4 to 253, and L bytes more, so 2 + L in all.
-- What stands at the start of some bytes is told by the first three of them.
use Rattle.std.specs.Prelude.{ℕ, ◌+◌, List, get_or, length, ltb, eqb, Option, None, Some, Result, Ok, Err}
use Rattle.laws.specs.Choice.{pick}
use Rattle.elements.specs.Refusals.{answer, frame_too_short, wrong_start, frame_too_long, bad_carry}
use Rattle.elements.specs.declared.refusals.Refusal.{Refusal}

-- by the first byte and by L: 2, 3, 1
unfoldable pub start_refusal : ℕ → ℕ → ℕ
start_refusal first l =
    pick (eqb first 0x68)
    (pick (ltb 253 l) frame_too_long
    (pick (ltb l 4) frame_too_short 0))
    wrong_start

-- n bytes that begin with these two: the size of their frame, none where more is needed. Under 3 nothing is refused and more is
-- needed; so it is until 2 + L are there.
unfoldable pub sight : ℕ → ℕ → ℕ → Result (Option ℕ) Refusal
sight n first l =
    pick (ltb n 3) (Ok None)
    (answer (start_refusal first l) (pick (ltb n (2 + l)) None (Some (2 + l))))

-- what stands at the start of these bytes
abbrev pub start_answer : List ℕ → Result (Option ℕ) Refusal
start_answer s = sight (length s) (get_or s 0 0) (get_or s 1 0)

-- how long an answer's frame is, 0 where it tells of none
abbrev pub start_length : Result (Option ℕ) Refusal → ℕ
start_length (Ok (Some n)) = n
start_length (Ok None) = 0
start_length (Err r) = 0

-- 33: a carry buffer under 255 bytes, or its count above 255
unfoldable pub carry_refusal : ℕ → ℕ → ℕ
carry_refusal room held = pick (ltb room 255) bad_carry (pick (ltb 255 held) bad_carry 0)
