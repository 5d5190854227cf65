-- IEC 60870-5-101: value with transient state indication, VTI (step position), and its quality, QDS.
use Rattle.std.specs.Prelude.{ℕ, [], ◌∷◌, ltb, ℤ, Result, Ok, Err}
use Rattle.std.specs.Int.Signed.{mag}
use Rattle.laws.specs.Bits.{field, flag, num, Layout, ◌at◌, octet}
use Rattle.laws.specs.Choice.{pick}
use Rattle.laws.specs.Numbers.{signed_of, bits_of}
use Rattle.elements.specs.Refusals.{refusal, value_out_of_range}
use Rattle.elements.specs.Quality.{qds_of, qds_octet}
use Rattle.elements.specs.declared.refusals.Refusal.{Refusal}
use Rattle.elements.specs.declared.information_elements.Vti.{Vti}

-- VTI: bits 0 to 6 signed, -64 to 63; bit 7 transient; no bit is reserved
abbrev pub vti_layout : Layout
vti_layout = 7 at 0 ∷ 1 at 7 ∷ []

-- the step position: 40 hex is -64, 3F is 63, FF is -1 (with transient set)
abbrev pub step_position : ℕ → ℤ
step_position b = signed_of 7 (field 0 7 b)

-- the two octets: VTI, QDS
abbrev pub vti_of : ℕ → ℕ → Vti
vti_of a b = record { value = step_position a; transient = flag 7 a; qds = qds_of b }

abbrev pub vti_octet : Vti → ℕ
vti_octet v = octet vti_layout (bits_of 7 v.value ∷ num v.transient ∷ [])

-- a value outside -64 to 63 is refused: mag z, which is z from 0 on and -z - 1 below, is then 64 or more
abbrev pub vti_answer : Vti → Result (ℕ × ℕ) Refusal
vti_answer v = pick (ltb (mag v.value) 64) (Ok (vti_octet v, qds_octet v.qds)) (Err (refusal value_out_of_range))
