-- Demand 2 for ASDUs. The sentences are the letter's; docs/PROMISES.md has them side by side with these statements.
use Rattle.std.specs.Prelude.{ℕ, zero, suc, ◌+◌, ◌<◌, ◌≤◌, ◌≡◌, Bool, true, false, List, [], ◌∷◌, ◌++◌, ◌↔◌, length, drop, replicate}
use Rattle.laws.specs.Bits.{Layout, whole, num, octet}
use Rattle.laws.specs.Lists.{Octets}
use Rattle.laws.specs.Numbers.{le_of, le_octets}
use Rattle.elements.specs.Refusals.{refusal}
use Rattle.objects.specs.Kinds.{type_of, kind_of, kind_number, size_of, form_of}
use Rattle.objects.specs.Objects.{object_answer, object_given}
use Rattle.objects.specs.Promises.{Typed, kept_by}
use Rattle.objects.specs.declared.kinds.Kind.{Kind}
use Rattle.objects.specs.declared.values.Value.{Value}
use Rattle.objects.specs.declared.Object.{Object}
use Rattle.asdu.specs.Header.{count_layout, cause_layout, cause_listed, needed, header_answer}
use Rattle.asdu.specs.Records.{blanks}
use Rattle.asdu.specs.Reading.{read_refusal, read_asdu}
use Rattle.asdu.specs.Writing.{own_objects, write_refusal, asdu_octets, write_answer, written_count}
use Rattle.asdu.specs.Plain.{plain_answer}
use Rattle.asdu.specs.declared.Asdu.{Asdu}
use Rattle.asdu.specs.declared.header.Header.{Header}
use Rattle.std.specs.Prelude.{Some, Result, Ok, Err}
use Rattle.elements.specs.Refusals.{answer_number}
use Rattle.elements.specs.declared.refusals.Refusal.{Refusal}
use Rattle.asdu.specs.declared.Form.TheVariants.{Plain, Reserved}

-- ---- records

-- "Records are the same if header, count and the first count objects agree."
pub record Same (a b : Asdu) : Type 0 where
  pub type_same : a.type_id ≡ b.type_id
  pub count_same : a.count ≡ b.count
  pub sequence_same : a.sequence ≡ b.sequence
  pub test_same : a.test ≡ b.test
  pub negative_same : a.negative ≡ b.negative
  pub cause_same : a.cause ≡ b.cause
  pub originator_same : a.originator ≡ b.originator
  pub address_same : a.address ≡ b.address
  pub objects_same : own_objects a ≡ own_objects b

-- u32 addresses, and values of their own types
abbrev pub TypedObjects : List Object → Type 0
TypedObjects [] = Unit {0}
TypedObjects (o ∷ os) = (o.address < 4294967296) × (Typed o.value × TypedObjects os)

-- what the code's types give, and the only premise on a record: an array of 127 objects, u8 and u16 numbers
pub record TypedAsdu (a : Asdu) : Type 0 where
  pub array : length a.objects ≡ 127
  pub type_octet : a.type_id < 256
  pub originator_octet : a.originator < 256
  pub address_octets_law : a.address < 65536
  pub typed : TypedObjects a.objects

-- ---- reads back

-- "What the writer accepts reads back as the same record"; what stands past the count is blank.
pub record Back (a b : Asdu) : Type 0 where
  pub same : Same a b
  pub rest : drop b.count b.objects ≡ drop b.count blanks

-- its octets are accepted, and what they read as
pub record ReadBack (a : Asdu) : Type 0 where
  pub accepted : read_refusal (asdu_octets a) ≡ 0
  pub answered : answer_number (read_asdu (asdu_octets a)).answer ≡ 0
  pub back : Back a (read_asdu (asdu_octets a)).asdu

-- every record that the writer accepts in some room
abbrev pub AsduReadsBack : Type 0
AsduReadsBack = (a : Asdu) (room : ℕ) → TypedAsdu a → write_refusal a room ≡ 0 → ReadBack a

-- ---- writes again

-- a form n times over
abbrev pub times : ℕ → List Layout → List Layout
times zero f = []
times (suc n) f = f ++ times n f

-- a sequence has one address, the plain layout one with each element
abbrev pub body_form : Bool → Kind → ℕ → List Layout
body_form true k n = replicate 3 whole ++ times n (form_of k)
body_form false k n = times n (replicate 3 whole ++ form_of k)

-- the layouts of all octets of an ASDU, in wire order, six of the header and then the body: only those of elements may reserve bits
abbrev pub asdu_form : Result Header Refusal → List Layout
asdu_form (Err r) = []
asdu_form (Ok h) = replicate 6 whole ++ body_form h.sequence h.kind h.count

-- "What the reader accepts and we write again differs only in the reserved bits": where there is room the writer accepts it,
-- and it writes as many octets, each with just what its layout keeps.
pub record WrittenAgain (s : List ℕ) (room : ℕ) : Type 0 where
  pub accepted : write_refusal (read_asdu s).asdu room ≡ 0
  pub long : length (asdu_octets (read_asdu s).asdu) ≡ length s
  pub kept : asdu_octets (read_asdu s).asdu ≡ kept_by (asdu_form (header_answer s)) s

abbrev pub AsduWritesAgain : Type 0
AsduWritesAgain = (s : List ℕ) (room : ℕ) → Octets s → read_refusal s ≡ 0 → length s ≤ room → WrittenAgain s room

-- ---- tells

-- "a call tells exactly whether it differs": plain exactly if it reads and writing its reading gives the same octets, reserved
-- exactly if it reads and the octets differ; "one that does not read gets the reading's refusal"
pub record Told (s : List ℕ) : Type 0 where
  pub plain : (plain_answer s ≡ Ok Plain) ↔ ((read_refusal s ≡ 0) × (asdu_octets (read_asdu s).asdu ≡ s))
  pub differs : (plain_answer s ≡ Ok Reserved) ↔ ((read_refusal s ≡ 0) × (asdu_octets (read_asdu s).asdu ≡ s → ⊥))
  pub refused : (read_refusal s ≡ 0 → ⊥) → plain_answer s ≡ Err (refusal (read_refusal s))

abbrev pub Tells : Type 0
Tells = (s : List ℕ) → Octets s → Told s

-- ---- ignores the rest

-- "Reading sets the rest to address 0 and a clear SIQ, writing ignores them": records that are the same are refused alike, and
-- written alike where they are accepted, whatever stands past the count
pub record WrittenAlike (a b : Asdu) (room : ℕ) : Type 0 where
  pub refused : write_refusal a room ≡ write_refusal b room
  pub octets : write_refusal a room ≡ 0 → asdu_octets a ≡ asdu_octets b

abbrev pub WritesAlike : Type 0
WritesAlike = (a b : Asdu) (room : ℕ) → Same a b → WrittenAlike a b room

-- ---- accepts exactly the layout

-- an ASDU laid out by the standard from fields in range, within document 01's limits. The body is free but for its length
-- and the first address: any octets are elements, since a reserved bit is read as nothing.
pub record Laid (s : List ℕ) : Type 0 where
  pub kind : Kind
  pub count : ℕ
  pub sequence : Bool
  pub test : Bool
  pub negative : Bool
  pub cause : ℕ
  pub originator : ℕ
  pub address : ℕ
  pub body : List ℕ
  pub laid : s ≡ (type_of kind
      ∷ octet count_layout (count ∷ num sequence ∷ [])
      ∷ octet cause_layout (cause ∷ num negative ∷ num test ∷ [])
      ∷ originator
      ∷ le_octets 2 address) ++ body
  pub counted : count ≤ 127
  pub listed : cause_listed cause ≡ true
  pub addressed : address < 65536
  pub long : 6 + length body ≡ needed kind sequence count
  pub short : 6 + length body ≤ 249
  pub some : sequence ≡ true → (1 ≤ count) × (1 ≤ size_of kind)
  pub rising : sequence ≡ true → le_of 3 body + count ≤ 16777216

-- every such list is accepted, so a reader that always refuses fails; and nothing else is
pub record Accepts (s : List ℕ) : Type 0 where
  pub takes : Laid s → Octets s → read_refusal s ≡ 0
  pub only : Octets s → read_refusal s ≡ 0 → Laid s

-- ---- answers

-- the number that each call answers is the refusal that the other promises speak of; a refused ASDU gets the reading's
pub record AnswerNumbers : Type 0 where
  -- 11: the carried types, and only they, have a kind
  pub carried : (k : Kind) → kind_of (type_of k) ≡ Some k
  pub not_carried : (t : ℕ) → (kind_number (kind_of t) ≡ 0) ↔ ((k : Kind) × (t ≡ type_of k))
  -- 14 of an object that is read: its address is above 16,777,215; else the object is the one at this address
  pub addressed : (a : ℕ) (v : Value) → (answer_number (object_answer a v) ≡ 0) ↔ (a ≤ 16777215)
  pub given : (a : ℕ) (v : Value) → a ≤ 16777215 → object_given (object_answer a v) ≡ record { address = a; value = v }
  pub reading : (s : List ℕ) → answer_number (read_asdu s).answer ≡ read_refusal s
  pub telling : (s : List ℕ) → answer_number (plain_answer s) ≡ read_refusal s
  pub writing : (a : Asdu) (room : ℕ) → answer_number (write_answer a room) ≡ write_refusal a room
  pub counting : (a : Asdu) (room : ℕ) → write_refusal a room ≡ 0 → written_count (write_answer a room) ≡ length (asdu_octets a)

-- ---- all of it

pub record AsduLevel : Type 0 where
  pub back : AsduReadsBack
  pub again : AsduWritesAgain
  pub alike : WritesAlike
  pub tells : Tells
  pub accepts : (s : List ℕ) → Accepts s
  pub answers : AnswerNumbers
