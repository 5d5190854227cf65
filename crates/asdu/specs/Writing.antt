-- Writing an ASDU (IEC 60870-5-101): what is refused and in which order, its octets, and the output afterwards.
-- "Writing: .. 10, 11, 12, 13, then per object by index 16, 14, 15, then 17, 18" (document 01)
use Rattle.std.specs.Prelude.{ℕ, suc, Bool, true, false, ◌||◌, ◌&&◌, List, [], ◌∷◌, ◌++◌, get_or, take, drop, length, ltb, eqb, Option, Some, None, Result}
use Rattle.std.specs.Result.{result_unwrap_or}
use Rattle.laws.specs.Bits.{num, octet}
use Rattle.laws.specs.Choice.{pick, ◌then◌}
use Rattle.laws.specs.Numbers.{le_octets}
use Rattle.elements.specs.Refusals.{answer, cause_not_listed, type_not_carried, layout_mismatch, empty_sequence, asdu_too_long, output_too_short}
use Rattle.elements.specs.declared.refusals.Refusal.{Refusal}
use Rattle.objects.specs.Kinds.{kind_of, size_of}
use Rattle.objects.specs.Elements.{element_octets}
use Rattle.objects.specs.Objects.{blank, object_octets, object_refusal}
use Rattle.objects.specs.declared.kinds.Kind.{Kind}
use Rattle.objects.specs.declared.Object.{Object}
use Rattle.asdu.specs.Header.{count_layout, cause_layout, cause_listed, needed}
use Rattle.asdu.specs.declared.Asdu.{Asdu}

-- the record's own objects, and the first one's address
abbrev pub own_objects : Asdu → List Object
own_objects a = take a.count a.objects

abbrev pub first_address : Asdu → ℕ
first_address a = (get_or a.objects 0 blank).address

-- the refusal of the first object that has one; the list begins with object i
unfoldable pub first_refusal : Kind → Bool → ℕ → ℕ → List Object → ℕ
first_refusal k q first i [] = 0
first_refusal k q first i (o ∷ os) = object_refusal k q first i o then first_refusal k q first (suc i) os

-- 12 for a count above 127; 13 for a sequence of no object or of elements without octets
unfoldable pub shape_refusal : Kind → Bool → ℕ → ℕ
shape_refusal k q n = pick (ltb 127 n) layout_mismatch (pick (q && (eqb n 0 || eqb (size_of k) 0)) empty_sequence 0)

-- 17 for more than 249 octets, 18 for an output with less room
unfoldable pub size_refusal : ℕ → ℕ → ℕ
size_refusal n room = pick (ltb 249 n) asdu_too_long (pick (ltb room n) output_too_short 0)

unfoldable pub write_refusal_by : Option Kind → Asdu → ℕ → ℕ
write_refusal_by None a room = type_not_carried
write_refusal_by (Some k) a room =
    shape_refusal k a.sequence a.count
    then first_refusal k a.sequence (first_address a) 0 (own_objects a)
    then size_refusal (needed k a.sequence a.count) room

-- the refusal of writing into an output of `room` octets, 0 where there is none: 10, 11, 12, 13, the objects', 17, 18
unfoldable pub write_refusal : Asdu → ℕ → ℕ
write_refusal a room = pick (cause_listed a.cause) (write_refusal_by (kind_of a.type_id) a room) cause_not_listed

-- type; sequence and count; test, negative and cause; originator; common address
unfoldable pub header_octets : Asdu → List ℕ
header_octets a =
    a.type_id
    ∷ octet count_layout (a.count ∷ num a.sequence ∷ [])
    ∷ octet cause_layout (a.cause ∷ num a.negative ∷ num a.test ∷ [])
    ∷ a.originator
    ∷ le_octets 2 a.address

-- an object: with its address in the plain layout, without in a sequence
unfoldable pub body_octets : Bool → Object → List ℕ
body_octets true o = element_octets o.value
body_octets false o = object_octets o

unfoldable pub objects_octets : Bool → List Object → List ℕ
objects_octets q [] = []
objects_octets q (o ∷ os) = body_octets q o ++ objects_octets q os

-- the one address of a sequence
unfoldable pub address_octets : Bool → ℕ → List ℕ
address_octets true first = le_octets 3 first
address_octets false first = []

-- all octets: a writer that accepts a record writes these
unfoldable pub asdu_octets : Asdu → List ℕ
asdu_octets a = header_octets a ++ (address_octets a.sequence (first_address a) ++ objects_octets a.sequence (own_objects a))

-- the answer, and the output after it: only the octets reported written have changed
unfoldable pub write_answer : Asdu → ℕ → Result ℕ Refusal
write_answer a room = answer (write_refusal a room) (length (asdu_octets a))

unfoldable pub written : Asdu → List ℕ → List ℕ
written a l = pick (eqb (write_refusal a (length l)) 0) (asdu_octets a ++ drop (length (asdu_octets a)) l) l

-- how many octets an answer says, 0 where it was refused
abbrev pub written_count : Result ℕ Refusal → ℕ
written_count a = result_unwrap_or a 0
