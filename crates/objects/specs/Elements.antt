-- An element's octets to its value and back, by kind (IEC 60870-5-101, type identifications of document 01).
use Rattle.std.specs.Prelude.{ℕ, List, [], ◌∷◌, ◌++◌, get_or}
use Rattle.laws.specs.Numbers.{le_of, le_octets, signed_of, bits_of}
use Rattle.elements.specs.Refusals.{answer_number, octet_in, pair_first, pair_second}
use Rattle.elements.specs.Quality.{qds_of, qds_octet, seq_qd_of, seq_qd_answer}
use Rattle.elements.specs.Points.{siq_of, siq_octet, diq_of, diq_octet}
use Rattle.elements.specs.Steps.{vti_of, vti_answer}
use Rattle.elements.specs.Causes.{coi_of, coi_answer}
use Rattle.objects.specs.declared.kinds.Kind.{Kind}
use Rattle.objects.specs.declared.values.Value.{Value}
use Rattle.objects.specs.declared.values.Value.TheVariants.{MSpNa1, MDpNa1, MStNa1, MBoNa1, MMeNa1, MMeNb1, MMeNc1, MItNa1, MMeNd1, MEiNa1, CIcNa1, CCiNa1, CRdNa1}

-- the value of an element that begins a list of octets
unfoldable pub element_of : Kind → List ℕ → Value
element_of Kind.MSpNa1 s = MSpNa1 (siq_of (get_or s 0 0))
element_of Kind.MDpNa1 s = MDpNa1 (diq_of (get_or s 0 0))
element_of Kind.MStNa1 s = MStNa1 (vti_of (get_or s 0 0) (get_or s 1 0))
element_of Kind.MBoNa1 s = MBoNa1 (qds_of (get_or s 4 0)) (le_of 4 s)
element_of Kind.MMeNa1 s = MMeNa1 (signed_of 16 (le_of 2 s)) (qds_of (get_or s 2 0))
element_of Kind.MMeNb1 s = MMeNb1 (signed_of 16 (le_of 2 s)) (qds_of (get_or s 2 0))
element_of Kind.MMeNc1 s = MMeNc1 (qds_of (get_or s 4 0)) (le_of 4 s)
element_of Kind.MItNa1 s = MItNa1 (signed_of 32 (le_of 4 s)) (seq_qd_of (get_or s 4 0))
element_of Kind.MMeNd1 s = MMeNd1 (signed_of 16 (le_of 2 s))
element_of Kind.MEiNa1 s = MEiNa1 (coi_of (get_or s 0 0))
element_of Kind.CIcNa1 s = CIcNa1 (get_or s 0 0)
element_of Kind.CCiNa1 s = CCiNa1 (get_or s 0 0)
element_of Kind.CRdNa1 s = CRdNa1

-- the octets of a value; where a field is refused, its octet is 0
unfoldable pub element_octets : Value → List ℕ
element_octets (MSpNa1 q) = siq_octet q ∷ []
element_octets (MDpNa1 q) = diq_octet q ∷ []
element_octets (MStNa1 v) = pair_first (vti_answer v) ∷ pair_second (vti_answer v) ∷ []
element_octets (MBoNa1 q n) = le_octets 4 n ++ (qds_octet q ∷ [])
element_octets (MMeNa1 n q) = le_octets 2 (bits_of 16 n) ++ (qds_octet q ∷ [])
element_octets (MMeNb1 n q) = le_octets 2 (bits_of 16 n) ++ (qds_octet q ∷ [])
element_octets (MMeNc1 q n) = le_octets 4 n ++ (qds_octet q ∷ [])
element_octets (MItNa1 n q) = le_octets 4 (bits_of 32 n) ++ (octet_in (seq_qd_answer q) ∷ [])
element_octets (MMeNd1 n) = le_octets 2 (bits_of 16 n)
element_octets (MEiNa1 c) = octet_in (coi_answer c) ∷ []
element_octets (CIcNa1 n) = n ∷ []
element_octets (CCiNa1 n) = n ∷ []
element_octets CRdNa1 = []

-- refusal 15 of a value with a field that its octet cannot hold, else 0
unfoldable pub value_refusal : Value → ℕ
value_refusal (MSpNa1 q) = 0
value_refusal (MDpNa1 q) = 0
value_refusal (MStNa1 v) = answer_number (vti_answer v)
value_refusal (MBoNa1 q n) = 0
value_refusal (MMeNa1 n q) = 0
value_refusal (MMeNb1 n q) = 0
value_refusal (MMeNc1 q n) = 0
value_refusal (MItNa1 n q) = answer_number (seq_qd_answer q)
value_refusal (MMeNd1 n) = 0
value_refusal (MEiNa1 c) = answer_number (coi_answer c)
value_refusal (CIcNa1 n) = 0
value_refusal (CCiNa1 n) = 0
value_refusal CRdNa1 = 0
