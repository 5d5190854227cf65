-- IEC 60870-5-101: QDS, and the octet that follows a counter reading. Bit positions as in document 01, "Octets and types".
use Rattle.std.specs.Prelude.{ℕ, [], ◌∷◌, ltb, Result, Ok, Err}
use Rattle.laws.specs.Bits.{field, flag, num, Layout, ◌at◌, octet}
use Rattle.laws.specs.Choice.{pick}
use Rattle.elements.specs.Refusals.{refusal, value_out_of_range}
use Rattle.elements.specs.declared.refusals.Refusal.{Refusal}
use Rattle.elements.specs.declared.quality_descriptors.Qds.{Qds}
use Rattle.elements.specs.declared.quality_descriptors.SeqQd.{SeqQd}

-- QDS: ov 0, bl 4, sb 5, nt 6, iv 7; bits 1 to 3 are reserved
abbrev pub qds_layout : Layout
qds_layout = 1 at 0 ∷ 1 at 4 ∷ 1 at 5 ∷ 1 at 6 ∷ 1 at 7 ∷ []

abbrev pub qds_of : ℕ → Qds
qds_of b = record { iv = flag 7 b; nt = flag 6 b; sb = flag 5 b; bl = flag 4 b; ov = flag 0 b }

abbrev pub qds_octet : Qds → ℕ
qds_octet q = octet qds_layout (num q.ov ∷ num q.bl ∷ num q.sb ∷ num q.nt ∷ num q.iv ∷ [])

-- the counter octet: seq 0 to 4, cy 5, ca 6, iv 7; no bit is reserved
abbrev pub seq_qd_layout : Layout
seq_qd_layout = 5 at 0 ∷ 1 at 5 ∷ 1 at 6 ∷ 1 at 7 ∷ []

abbrev pub seq_qd_of : ℕ → SeqQd
seq_qd_of b = record { iv = flag 7 b; ca = flag 6 b; cy = flag 5 b; seq = field 0 5 b }

abbrev pub seq_qd_octet : SeqQd → ℕ
seq_qd_octet q = octet seq_qd_layout (q.seq ∷ num q.cy ∷ num q.ca ∷ num q.iv ∷ [])

-- seq is written in five bits: above 31 it is refused
abbrev pub seq_qd_answer : SeqQd → Result ℕ Refusal
seq_qd_answer q = pick (ltb 31 q.seq) (Err (refusal value_out_of_range)) (Ok (seq_qd_octet q))
