-- The frames that a link hands out, and their octets one after the other.
use Rattle.std.specs.Prelude.{ℕ, List, [], ◌∷◌, ◌++◌}
use Rattle.apdu.specs.Control.{u_of}
use Rattle.apdu.specs.Writing.{i_octets, s_octets, u_octets}
use Rattle.apdu.specs.declared.frame.UFrame.{UFrame}

-- I: send number, receive number, ASDU. S: receive number. U: its flags
pub data Frame : Type 0 where
  i_frame : ℕ → ℕ → List ℕ → Frame
  s_frame : ℕ → Frame
  u_frame : UFrame → Frame

-- the octets of one, and of all
unfoldable pub octets_of : Frame → List ℕ
octets_of (i_frame s r asdu) = i_octets s r asdu
octets_of (s_frame r) = s_octets r
octets_of (u_frame u) = u_octets u

unfoldable pub wire : List Frame → List ℕ
wire [] = []
wire (f ∷ fs) = octets_of f ++ wire fs

-- the first control octets of the U frames that a running link knows: stop act, stop con, test act, test con
abbrev pub stop_act : ℕ
stop_act = 0x13

abbrev pub stop_con : ℕ
stop_con = 0x23

abbrev pub test_act : ℕ
test_act = 0x43

abbrev pub test_con : ℕ
test_con = 0x83

-- such a frame
abbrev pub u_with : ℕ → Frame
u_with octet = u_frame (u_of octet)
