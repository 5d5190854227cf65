-- IEC 60870-5-104, the four control octets. I: both numbers shifted left by 1, bit 0 of octets 1 and 3 clear.
-- S: octet 1 is 01, octet 2 is 0, the receive number as in I; bit 0 of octet 3 is reserved.
-- U: octet 1 is 03 with start 04 and 08, stop 10 and 20, test 40 and 80 hex (act, con); the others are 0.
use Rattle.std.specs.Prelude.{ℕ, ◌/◌, List, [], ◌∷◌, drop}
use Rattle.laws.specs.Bits.{Layout, ◌at◌, flag, num, octet}
use Rattle.laws.specs.Numbers.{le_of}
use Rattle.apdu.specs.declared.frame.UFrame.{UFrame}
use Rattle.apdu.specs.declared.frame.SendNumber.{SendNumber}
use Rattle.apdu.specs.declared.frame.ReceiveNumber.{ReceiveNumber}

-- the code's numbers
abbrev pub send_number : ℕ → SendNumber
send_number n = record { 0 = n }

abbrev pub receive_number : ℕ → ReceiveNumber
receive_number n = record { 0 = n }

-- the number that two octets of a frame hold, shifted left by 1: the send number from octet 2 on, the receive number from 4 on
abbrev pub number_at : ℕ → List ℕ → ℕ
number_at i f = le_of 2 (drop i f) / 2

-- the first octet of a U frame; its low bits are 11
abbrev pub u_layout : Layout
u_layout = 2 at 0 ∷ 1 at 2 ∷ 1 at 3 ∷ 1 at 4 ∷ 1 at 5 ∷ 1 at 6 ∷ 1 at 7 ∷ []

-- reading takes U with none or several flags
abbrev pub u_of : ℕ → UFrame
u_of b = record {
  start_act = flag 2 b;
  start_con = flag 3 b;
  stop_act = flag 4 b;
  stop_con = flag 5 b;
  test_act = flag 6 b;
  test_con = flag 7 b;
}

abbrev pub u_octet : UFrame → ℕ
u_octet u =
    octet u_layout
    (3
    ∷ num u.start_act
    ∷ num u.start_con
    ∷ num u.stop_act
    ∷ num u.stop_con
    ∷ num u.test_act
    ∷ num u.test_con
    ∷ [])
