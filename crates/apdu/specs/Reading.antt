-- What reading a frame answers: the refusal, 1 to 8 in order and then the ASDU's; else I, S or U.
use Rattle.std.specs.Prelude.{ℕ, ◌+◌, ◌%◌, ◌&&◌, List, [], get_or, drop, length, ltb, eqb, Result, Ok, Err}
use Rattle.laws.specs.Choice.{pick}
use Rattle.laws.specs.Numbers.{le_of}
use Rattle.elements.specs.Refusals.{refusal, frame_too_short, wrong_start, frame_too_long, length_mismatch, i_without_asdu, bad_u_control, bad_s_control, bad_i_control}
use Rattle.elements.specs.declared.refusals.Refusal.{Refusal}
use Rattle.asdu.specs.Reading.{read_refusal}
use Rattle.apdu.specs.Control.{send_number, receive_number, number_at, u_of}
use Rattle.apdu.specs.declared.frame.Frame.{Frame}
use Rattle.apdu.specs.declared.frame.Frame.TheVariants.{I, S, U}

-- the frame's outside: 1 under six octets, 2 the first is not 68 hex, 3 L above 253, 4 not 2 + L octets
unfoldable pub outer_refusal : List ℕ → ℕ
outer_refusal f =
    pick (ltb (length f) 6) frame_too_short
    (pick (eqb (get_or f 0 0) 0x68)
    (pick (ltb 253 (get_or f 1 0)) frame_too_long
    (pick (eqb (length f) (2 + get_or f 1 0)) 0 length_mismatch))
    wrong_start)

-- L is 4: no ASDU, so a U frame where the low two bits are 11 and an S frame where they are 01.
-- 6: octets 2 to 4 of a U frame not 0; 7: the first two of an S frame not 01 and 0; 5: an I frame's low bits
unfoldable pub short_answer : List ℕ → Result Frame Refusal
short_answer f =
    pick (eqb (get_or f 2 0 % 4) 3)
    (pick (eqb (get_or f 3 0) 0 && eqb (le_of 2 (drop 4 f)) 0) (Ok (U (u_of (get_or f 2 0)))) (Err (refusal bad_u_control)))
    (pick (eqb (get_or f 2 0 % 4) 1)
    (pick (eqb (le_of 2 (drop 2 f)) 1) (Ok (S (receive_number (number_at 4 f)))) (Err (refusal bad_s_control)))
    (Err (refusal i_without_asdu)))

-- else an I frame: 8 where bit 0 of octet 1 or 3 is set, then what its ASDU refuses
unfoldable pub long_answer : List ℕ → Result Frame Refusal
long_answer f =
    pick (eqb (get_or f 2 0 % 2) 0 && eqb (get_or f 4 0 % 2) 0)
    (pick (eqb (read_refusal (drop 6 f)) 0)
    (Ok (I (send_number (number_at 2 f)) (receive_number (number_at 4 f))))
    (Err (refusal (read_refusal (drop 6 f)))))
    (Err (refusal bad_i_control))

-- the frame: its outside first, then by L
unfoldable pub frame_answer : List ℕ → Result Frame Refusal
frame_answer f =
    pick (eqb (outer_refusal f) 0)
    (pick (eqb (get_or f 1 0) 4) (short_answer f) (long_answer f))
    (Err (refusal (outer_refusal f)))

-- the ASDU as a part of the frame: from octet 6 on of an I frame, else empty
abbrev pub asdu_part_by : Result Frame Refusal → List ℕ → List ℕ
asdu_part_by (Ok (I s r)) f = drop 6 f
asdu_part_by (Ok (S r)) f = []
asdu_part_by (Ok (U u)) f = []
asdu_part_by (Err r) f = []

unfoldable pub asdu_part : List ℕ → List ℕ
asdu_part f = asdu_part_by (frame_answer f) f
