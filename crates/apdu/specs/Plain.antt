-- Plain form of a frame: in an S frame bit 0 of the third control octet is reserved, in an I frame what its ASDU reserves.
use Rattle.std.specs.Prelude.{ℕ, ◌%◌, List, get_or, drop, eqb, Result, Ok, Err}
use Rattle.laws.specs.Choice.{pick}
use Rattle.elements.specs.declared.refusals.Refusal.{Refusal}
use Rattle.asdu.specs.Plain.{plain_answer}
use Rattle.asdu.specs.declared.Form.{Form}
use Rattle.asdu.specs.declared.Form.TheVariants.{Plain, Reserved}
use Rattle.apdu.specs.Reading.{frame_answer}
use Rattle.apdu.specs.declared.frame.Frame.{Frame}
use Rattle.apdu.specs.declared.frame.Frame.TheVariants.{I, S, U}

-- by the answer of reading; a frame that does not read gets its refusal
abbrev pub plain_frame_by : Result Frame Refusal → List ℕ → Result Form Refusal
plain_frame_by (Ok (I s r)) f = plain_answer (drop 6 f)
plain_frame_by (Ok (S r)) f = Ok (pick (eqb (get_or f 4 0 % 2) 0) Plain Reserved)
plain_frame_by (Ok (U u)) f = Ok Plain
plain_frame_by (Err r) f = Err r

unfoldable pub plain_frame : List ℕ → Result Form Refusal
plain_frame f = plain_frame_by (frame_answer f) f
