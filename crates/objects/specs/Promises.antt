-- Demand 2 for one element: what the writer accepts reads back as the same value; what the reader accepts is written
-- again with the same length, each octet equal but for the reserved bits of its form.
use Rattle.std.specs.Prelude.{ℕ, ◌<◌, ◌≤◌, ◌≡◌, List, [], ◌∷◌, ◌++◌, length, get_or, drop}
use Rattle.std.specs.Int.Signed.{mag}
use Rattle.laws.specs.Bits.{Layout, kept}
use Rattle.laws.specs.Lists.{Octets}
use Rattle.objects.specs.Kinds.{size_of, form_of, value_kind}
use Rattle.objects.specs.Elements.{element_of, element_octets, value_refusal}
use Rattle.objects.specs.declared.kinds.Kind.{Kind}
use Rattle.objects.specs.declared.values.Value.{Value}
use Rattle.objects.specs.declared.values.Value.TheVariants.{MSpNa1, MDpNa1, MStNa1, MBoNa1, MMeNa1, MMeNb1, MMeNc1, MItNa1, MMeNd1, MEiNa1, CIcNa1, CCiNa1, CRdNa1}

-- what the code's types give of a value's numbers: a u32, an i16, an i32, a u8
abbrev pub Typed : Value → Type 0
Typed (MSpNa1 q) = Unit {0}
Typed (MDpNa1 q) = Unit {0}
Typed (MStNa1 v) = Unit {0}
Typed (MBoNa1 q n) = n < 4294967296
Typed (MMeNa1 n q) = mag n < 32768
Typed (MMeNb1 n q) = mag n < 32768
Typed (MMeNc1 q n) = n < 4294967296
Typed (MItNa1 n q) = mag n < 2147483648
Typed (MMeNd1 n) = mag n < 32768
Typed (MEiNa1 c) = Unit {0}
Typed (CIcNa1 n) = n < 256
Typed (CCiNa1 n) = n < 256
Typed CRdNa1 = Unit {0}

-- what a form keeps of the octets that begin a list
unfoldable pub kept_by : List Layout → List ℕ → List ℕ
kept_by [] s = []
kept_by (l ∷ ls) s = kept l (get_or s 0 0) ∷ kept_by ls (drop 1 s)

pub record ElementLevel : Type 0 where
  pub sized : (v : Value) → length (element_octets v) ≡ size_of (value_kind v)
  pub back : (v : Value) (rest : List ℕ) → Typed v → value_refusal v ≡ 0 → element_of (value_kind v) (element_octets v ++ rest) ≡ v
  pub kinded : (k : Kind) (s : List ℕ) → value_kind (element_of k s) ≡ k
  pub accepted : (k : Kind) (s : List ℕ) → Octets s → size_of k ≤ length s → value_refusal (element_of k s) ≡ 0
  pub again : (k : Kind) (s : List ℕ) → Octets s → size_of k ≤ length s → element_octets (element_of k s) ≡ kept_by (form_of k) s
