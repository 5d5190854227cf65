-- IEC 60870-5-101, the data unit identifier, with the sizes that 60870-5-104 fixes: type; sequence bit 7 and count n in
-- bits 0 to 6; test bit 7, negative bit 6 and cause in bits 0 to 5; originator; common address of two octets. Then, plain:
-- n times an address of three octets and an element. Sequence: one address and n elements, whose addresses rise by 1.
use Rattle.std.specs.Prelude.{ℕ, ◌+◌, ◌*◌, Bool, true, false, ◌&&◌, ◌||◌, not, List, [], ◌∷◌, get_or, drop, length, ltb, leb, eqb, Option, Some, None, Result, Ok, Err}
use Rattle.laws.specs.Bits.{Layout, ◌at◌, field, flag}
use Rattle.laws.specs.Choice.{pick, ◌then◌}
use Rattle.laws.specs.Numbers.{le_of}
use Rattle.elements.specs.Refusals.{refusal, asdu_too_short, cause_not_listed, type_not_carried, layout_mismatch, empty_sequence, asdu_too_long}
use Rattle.elements.specs.declared.refusals.Refusal.{Refusal}
use Rattle.elements.specs.declared.refusals.Refusal.TheVariants.{TypeNotCarried}
use Rattle.objects.specs.Kinds.{kind_of, size_of}
use Rattle.objects.specs.declared.kinds.Kind.{Kind}
use Rattle.asdu.specs.declared.header.Header.{Header}

-- the octet of sequence and count, and that of test, negative and cause; neither has a reserved bit
abbrev pub count_layout : Layout
count_layout = 7 at 0 ∷ 1 at 7 ∷ []

abbrev pub cause_layout : Layout
cause_layout = 6 at 0 ∷ 1 at 6 ∷ 1 at 7 ∷ []

-- c is from a to b
abbrev pub between : ℕ → ℕ → ℕ → Bool
between a b c = leb a c && leb c b

-- the causes of transmission that are taken: 1 to 13, 20 to 41, 44 to 47
unfoldable pub cause_listed : ℕ → Bool
cause_listed c = between 1 13 c || (between 20 41 c || between 44 47 c)

-- octets from one element to the next: in the plain layout three of an address lie between
unfoldable pub step_of : Kind → Bool → ℕ
step_of k true = size_of k
step_of k false = size_of k + 3

-- the octets of an ASDU with n objects: six of the header, in a sequence three of its one address, then the objects.
-- 48 counters in sequence need 9 + 48 * 5 = 249, 60 single points in the plain layout 6 + 60 * 4 = 246
unfoldable pub needed : Kind → Bool → ℕ → ℕ
needed k true n = 9 + n * step_of k true
needed k false n = 6 + n * step_of k false

-- the fields of the octets s
abbrev pub sequence_in : List ℕ → Bool
sequence_in s = flag 7 (get_or s 1 0)

abbrev pub count_in : List ℕ → ℕ
count_in s = field 0 7 (get_or s 1 0)

abbrev pub cause_in : List ℕ → ℕ
cause_in s = field 0 6 (get_or s 2 0)

unfoldable pub header_in : Kind → List ℕ → Header
header_in k s = record {
  kind = k;
  count = count_in s;
  sequence = sequence_in s;
  test = flag 7 (get_or s 2 0);
  negative = flag 6 (get_or s 2 0);
  cause = cause_in s;
  originator = get_or s 3 0;
  address = le_of 2 (drop 4 s);
}

-- 12 where the length is not the layout's; 13 for a sequence of no object or of elements without octets
unfoldable pub layout_refusal : Kind → Bool → ℕ → ℕ → ℕ
layout_refusal k q n len =
    pick (eqb len (needed k q n)) (pick (q && (eqb n 0 || eqb (size_of k) 0)) empty_sequence 0) layout_mismatch

-- what is refused before the type is known: 17, 9, 10, 9
unfoldable pub early_refusal : List ℕ → ℕ
early_refusal s =
    pick (ltb 249 (length s)) asdu_too_long
    (pick (ltb (length s) 3) asdu_too_short
    (pick (not (cause_listed (cause_in s))) cause_not_listed
    (pick (ltb (length s) 6) asdu_too_short 0)))

-- then 11 by the kind of the type, and 12 and 13 by its layout
abbrev pub header_refusal_by : Option Kind → List ℕ → ℕ
header_refusal_by None s = type_not_carried
header_refusal_by (Some k) s = layout_refusal k (sequence_in s) (count_in s) (length s)

-- the header's refusal, 0 where there is none
unfoldable pub header_refusal : List ℕ → ℕ
header_refusal s = early_refusal s then header_refusal_by (kind_of (get_or s 0 0)) s

-- the header, by the kind of the type
abbrev pub header_by : Option Kind → List ℕ → Result Header Refusal
header_by None s = Err TypeNotCarried
header_by (Some k) s = Ok (header_in k s)

unfoldable pub header_answer : List ℕ → Result Header Refusal
header_answer s =
    pick (eqb (header_refusal s) 0) (header_by (kind_of (get_or s 0 0)) s) (Err (refusal (header_refusal s)))
