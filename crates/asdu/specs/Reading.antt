-- What reading an ASDU answers: the header's refusal, then the objects' by index; else the record.
use Rattle.std.specs.Prelude.{ℕ, zero, suc, ◌+◌, ◌*◌, Bool, true, false, ◌&&◌, List, get_or, drop, eqb, ltb, Option, Some, None, Result, Ok, Err}
use Rattle.laws.specs.Choice.{pick, ◌then◌}
use Rattle.laws.specs.Lists.{tabulate}
use Rattle.laws.specs.Numbers.{le_of}
use Rattle.elements.specs.Refusals.{refusal, wrong_address, answer, answer_number}
use Rattle.elements.specs.declared.refusals.Refusal.{Refusal}
use Rattle.objects.specs.Kinds.{kind_of}
use Rattle.objects.specs.Elements.{element_of}
use Rattle.objects.specs.Objects.{object_of, object_answer}
use Rattle.objects.specs.declared.kinds.Kind.{Kind}
use Rattle.objects.specs.declared.Object.{Object}
use Rattle.asdu.specs.Header.{step_of, header_refusal, header_in, header_by}
use Rattle.asdu.specs.Records.{filled, asdu_of, no_asdu}
use Rattle.asdu.specs.declared.header.Header.{Header}
use Rattle.asdu.specs.declared.Asdu.{Asdu}
use Rattle.asdu.specs.declared.ReadAsdu.{ReadAsdu}

-- object i of the octets s: in a sequence the first address and the index, else an address of its own
unfoldable pub object_in : Kind → Bool → List ℕ → ℕ → Object
object_in k true s i = record { address = le_of 3 (drop 6 s) + i; value = element_of k (drop (9 + i * step_of k true) s) }
object_in k false s i = object_of k (drop (6 + i * step_of k false) s)

-- the same by a header
abbrev pub object_at : Header → List ℕ → ℕ → Object
object_at h s i = object_in h.kind h.sequence s i

-- object i, or 14
unfoldable pub answer_at : Header → List ℕ → ℕ → Result Object Refusal
answer_at h s i = object_answer (object_at h s i).address (object_at h s i).value

-- the first number that is not 0 among f i, f (i + 1), .., n of them
unfoldable pub first_number : (ℕ → ℕ) → ℕ → ℕ → ℕ
first_number f i zero = 0
first_number f i (suc n) = f i then first_number f (suc i) n

-- the objects' refusal: 14 of the first that has one
unfoldable pub objects_refusal : Header → List ℕ → ℕ
objects_refusal h s = first_number (λ (i : ℕ). answer_number (answer_at h s i)) 0 h.count

-- the same by the last address alone: those of a sequence rise, and those of the plain layout always fit. The last is
-- first + n - 1: two objects from 16,777,215 on are one too many
unfoldable pub addresses_refusal : Bool → ℕ → List ℕ → ℕ
addresses_refusal q n s = pick (q && ltb 16777216 (le_of 3 (drop 6 s) + n)) wrong_address 0

-- all objects, in order
abbrev pub objects_in : Header → List ℕ → List Object
objects_in h s = tabulate (object_at h s) 0 h.count

-- by the kind of the type
abbrev pub objects_refusal_by : Option Kind → List ℕ → ℕ
objects_refusal_by None s = 0
objects_refusal_by (Some k) s = objects_refusal (header_in k s) s

-- the refusal of reading, 0 where there is none: the header's, then the objects'
unfoldable pub read_refusal : List ℕ → ℕ
read_refusal s = header_refusal s then objects_refusal_by (kind_of (get_or s 0 0)) s

-- the header of octets that reading accepts, else what reading refuses
unfoldable pub checked_header : List ℕ → Result Header Refusal
checked_header s = pick (eqb (read_refusal s) 0) (header_by (kind_of (get_or s 0 0)) s) (Err (refusal (read_refusal s)))

-- the record, or all 0 and clear beside a refusal
abbrev pub record_by : Result Header Refusal → List ℕ → Asdu
record_by (Ok h) s = asdu_of h (filled (objects_in h s))
record_by (Err r) s = no_asdu

unfoldable pub read_asdu : List ℕ → ReadAsdu
read_asdu s = record { asdu = record_by (checked_header s) s; answer = answer (read_refusal s) tt }
