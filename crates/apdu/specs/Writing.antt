-- What writing a frame answers, and the output after it: only the octets reported written have changed.
use Rattle.std.specs.Prelude.{ℕ, ◌+◌, ◌*◌, ◌-◌, List, ◌∷◌, ◌++◌, drop, length, ltb, eqb, Result}
use Rattle.laws.specs.Choice.{pick, ◌then◌}
use Rattle.elements.specs.Refusals.{answer, value_out_of_range, output_too_short}
use Rattle.elements.specs.declared.refusals.Refusal.{Refusal}
use Rattle.asdu.specs.Reading.{read_refusal}
use Rattle.asdu.specs.Writing.{write_refusal}
use Rattle.asdu.specs.declared.Asdu.{Asdu}
use Rattle.laws.specs.Numbers.{le_octets}
use Rattle.apdu.specs.Control.{u_octet}
use Rattle.apdu.specs.declared.frame.UFrame.{UFrame}

-- 68 hex, L, and the four control octets as two numbers of two octets each, a and b
abbrev pub start_octets : ℕ → ℕ → ℕ → List ℕ
start_octets length a b = 0x68 ∷ length ∷ (le_octets 2 a ++ le_octets 2 b)

-- the octets of each kind of frame
unfoldable pub i_octets : ℕ → ℕ → List ℕ → List ℕ
i_octets s r asdu = start_octets (4 + length asdu) (s * 2) (r * 2) ++ asdu

unfoldable pub s_octets : ℕ → List ℕ
s_octets r = start_octets 4 1 (r * 2)

unfoldable pub u_octets : UFrame → List ℕ
u_octets u = start_octets 4 (u_octet u) 0

-- 15 for a number above 32,767
unfoldable pub number_refusal : ℕ → ℕ
number_refusal n = pick (ltb 32767 n) value_out_of_range 0

-- the send number, then the receive number
unfoldable pub numbers_refusal : ℕ → ℕ → ℕ
numbers_refusal s r = number_refusal s then number_refusal r

-- 18 where the output is shorter than what is written
unfoldable pub room_refusal : ℕ → ℕ → ℕ
room_refusal n room = pick (ltb room n) output_too_short 0

-- an I frame from a record: 15, what the ASDU's writer refuses, 18 last; six octets stand before the ASDU
unfoldable pub i_refusal : ℕ → ℕ → Asdu → ℕ → ℕ
i_refusal s r a room = numbers_refusal s r then write_refusal a (room - 6)

-- an I frame from an ASDU's octets: 15, what reading them refuses, 18 last
unfoldable pub relay_refusal : ℕ → ℕ → List ℕ → ℕ → ℕ
relay_refusal s r asdu room = numbers_refusal s r then read_refusal asdu then room_refusal (6 + length asdu) room

-- an S frame: 15, 18; a U frame has only 18
unfoldable pub s_refusal : ℕ → ℕ → ℕ
s_refusal r room = number_refusal r then room_refusal 6 room

-- the answer for such octets and such a refusal, and the output
unfoldable pub answer_for : ℕ → List ℕ → Result ℕ Refusal
answer_for refused octets = answer refused (length octets)

unfoldable pub output_for : ℕ → List ℕ → List ℕ → List ℕ
output_for refused octets out = pick (eqb refused 0) (octets ++ drop (length octets) out) out
