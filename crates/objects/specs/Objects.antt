-- IEC 60870-5-101: one information object, an address of three octets and an element, and what is refused of it.
use Rattle.std.specs.Prelude.{ℕ, ◌+◌, Bool, false, List, ◌++◌, drop, ltb, eqb, Result, Ok, Err}
use Rattle.laws.specs.Choice.{pick, ◌then◌}
use Rattle.laws.specs.Numbers.{le_of, le_octets}
use Rattle.elements.specs.Refusals.{refusal, wrong_address, wrong_kind}
use Rattle.elements.specs.declared.refusals.Refusal.{Refusal}
use Rattle.elements.specs.declared.information_elements.Spi.TheVariants as Spi
use Rattle.objects.specs.Kinds.{type_of, value_kind}
use Rattle.objects.specs.Elements.{element_of, element_octets, value_refusal}
use Rattle.objects.specs.declared.kinds.Kind.{Kind}
use Rattle.objects.specs.declared.values.Value.{Value}
use Rattle.objects.specs.declared.Object.{Object}

-- address 0 and a clear SIQ: what stands past the count
abbrev pub blank : Object
blank = record { address = 0; value = Value.MSpNa1 (record { iv = false; nt = false; sb = false; bl = false; spi = Spi.Off }) }

-- an object with its own address, as the plain layout has it
unfoldable pub object_of : Kind → List ℕ → Object
object_of k s = record { address = le_of 3 s; value = element_of k (drop 3 s) }

-- its octets: the address, then the element
unfoldable pub object_octets : Object → List ℕ
object_octets o = le_octets 3 o.address ++ element_octets o.value

-- reading: 14 where the address runs past three octets, as one in a sequence can
unfoldable pub object_answer : ℕ → Value → Result Object Refusal
object_answer a v = pick (ltb 16777215 a) (Err (refusal wrong_address)) (Ok (record { address = a; value = v }))

-- the answer's object, blank where it was refused
abbrev pub object_given : Result Object Refusal → Object
object_given (Ok o) = o
object_given (Err r) = blank

-- writing: 16 where the value is not of the type's kind
unfoldable pub kind_refusal : Kind → Value → ℕ
kind_refusal k v = pick (eqb (type_of (value_kind v)) (type_of k)) 0 wrong_kind

-- 14 where the address does not fit three octets or, in a sequence, is not the first address plus the index i
unfoldable pub address_refusal : Bool → ℕ → ℕ → ℕ → ℕ
address_refusal sequence first i a =
    pick (ltb 16777215 a) wrong_address (pick sequence (pick (eqb a (first + i)) 0 wrong_address) 0)

-- object i's refusal, 0 where there is none: 16, 14, 15
unfoldable pub object_refusal : Kind → Bool → ℕ → ℕ → Object → ℕ
object_refusal k sequence first i o =
    kind_refusal k o.value then address_refusal sequence first i o.address then value_refusal o.value
