-- Demand 2 for octets: "What the writer accepts reads back as the same record. What the reader accepts and we write again
-- differs only in the reserved bits 01 lists." The laws of `laws` say it once for every layout; here they are put to each
-- octet. Accepted means that the answer's number is 0.
use Rattle.std.specs.Prelude.{ℕ, ◌*◌, ◌-◌, ◌^◌, ◌<◌, ◌≤◌, ◌≡◌, List, ◌++◌, T, ℤ, length, take, Result, Ok}
use Rattle.std.specs.Int.Signed.{mag}
use Rattle.laws.specs.Choice.{pick}
use Rattle.laws.specs.Bits.{Layout, field, kept, reserved, keeps, apart, whole}
use Rattle.laws.specs.Lists.{Octets}
use Rattle.laws.specs.Numbers.{le_of, le_octets, signed_of, bits_of}
use Rattle.elements.specs.Refusals.{answer_number, octet_in, pair_first, pair_second}
use Rattle.elements.specs.Quality.{qds_layout, qds_of, qds_octet, seq_qd_layout, seq_qd_of, seq_qd_answer}
use Rattle.elements.specs.Points.{siq_layout, siq_of, siq_octet, diq_layout, diq_of, diq_octet}
use Rattle.elements.specs.Steps.{vti_layout, vti_of, vti_answer}
use Rattle.elements.specs.Causes.{coi_of, coi_answer}
use Rattle.elements.specs.declared.refusals.Refusal.{Refusal}
use Rattle.elements.specs.declared.information_elements.Vti.{Vti}

-- What a layout keeps and what it reserves, bit by bit; `mask` is document 01's, in which the kept bits are set.
pub record Bitwise (l : Layout) (mask : ℕ) : Type 0 where
  pub lies : T (apart 0 l 8)
  pub masked : kept l 255 ≡ mask
  pub keeping : (b i : ℕ) → field i 1 (kept l b) ≡ pick (keeps l i) (field i 1 b) 0
  pub reserving : (b i : ℕ) → field i 1 (reserved l b) ≡ pick (keeps l i) 0 (field i 1 b)

-- One octet that `of` reads and `answer` writes. Every octet is read, so `again` also says that the writer
-- accepts what was read, and what it then writes.
pub record Octetwise {R : Type 0} (l : Layout) (mask : ℕ) (of : ℕ → R) (answer : R → Result ℕ Refusal) : Type 0 where
  pub bits : Bitwise l mask
  pub back : (v : R) → answer_number (answer v) ≡ 0 → of (octet_in (answer v)) ≡ v
  pub again : (b : ℕ) → b < 256 → (answer_number (answer (of b)) ≡ 0) × (octet_in (answer (of b)) ≡ kept l b)

-- Two octets were written, and which.
pub record WrittenPair (answer : Result (ℕ × ℕ) Refusal) (a b : ℕ) : Type 0 where
  pub accepted : answer_number answer ≡ 0
  pub first : pair_first answer ≡ a
  pub second : pair_second answer ≡ b

-- VTI and its quality.
pub record StepPair : Type 0 where
  pub step : Bitwise vti_layout 0xFF
  pub back : (v : Vti) → answer_number (vti_answer v) ≡ 0 → vti_of (pair_first (vti_answer v)) (pair_second (vti_answer v)) ≡ v
  pub again : (a b : ℕ) → a < 256 → b < 256 → WrittenPair (vti_answer (vti_of a b)) (kept vti_layout a) (kept qds_layout b)

-- A signed number of n octets, whatever follows it: mag z is z from 0 on, and -z - 1 below.
pub record SignedOctets (n : ℕ) : Type 0 where
  pub back : (z : ℤ) (rest : List ℕ) → mag z < 2 ^ (8 * n - 1) → signed_of (8 * n) (le_of n (le_octets n (bits_of (8 * n) z) ++ rest)) ≡ z
  pub again : (s : List ℕ) → Octets s → n ≤ length s → le_octets n (bits_of (8 * n) (signed_of (8 * n) (le_of n s))) ≡ take n s

-- A number of n octets without a sign, whatever follows it.
pub record PlainOctets (n : ℕ) : Type 0 where
  pub back : (v : ℕ) (rest : List ℕ) → v < 256 ^ n → le_of n (le_octets n v ++ rest) ≡ v
  pub again : (s : List ℕ) → Octets s → n ≤ length s → le_octets n (le_of n s) ≡ take n s

-- All octets and numbers of the carried types. The masks are document 01's.
pub record OctetLevel : Type 0 where
  pub qds : Octetwise qds_layout 0xF1 qds_of (λ q. Ok (qds_octet q))
  pub counter : Octetwise seq_qd_layout 0xFF seq_qd_of seq_qd_answer
  pub siq : Octetwise siq_layout 0xF1 siq_of (λ q. Ok (siq_octet q))
  pub diq : Octetwise diq_layout 0xF3 diq_of (λ q. Ok (diq_octet q))
  pub coi : Octetwise whole 0xFF coi_of coi_answer
  pub vti : StepPair
  pub i16 : SignedOctets 2
  pub i32 : SignedOctets 4
  pub bits32 : PlainOctets 4
  pub command : PlainOctets 1
