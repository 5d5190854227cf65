-- The carried types of document 01, each a kind of its own: its number, and its element's octets.
use Rattle.std.specs.Prelude.{ℕ, List, [], ◌∷◌, length, eqb, Option, Some, None}
use Rattle.laws.specs.Bits.{Layout, whole}
use Rattle.laws.specs.Choice.{pick}
use Rattle.elements.specs.Refusals.{type_not_carried}
use Rattle.elements.specs.Quality.{qds_layout, seq_qd_layout}
use Rattle.elements.specs.Points.{siq_layout, diq_layout}
use Rattle.elements.specs.Steps.{vti_layout}
use Rattle.objects.specs.declared.kinds.Kind.{Kind}
use Rattle.objects.specs.declared.kinds.Kind.TheVariants.{MSpNa1, MDpNa1, MStNa1, MBoNa1, MMeNa1, MMeNb1, MMeNc1, MItNa1, MMeNd1, MEiNa1, CIcNa1, CCiNa1, CRdNa1}
use Rattle.objects.specs.declared.values.Value.{Value}

-- the type's number
abbrev pub type_of : Kind → ℕ
type_of MSpNa1 = 1
type_of MDpNa1 = 3
type_of MStNa1 = 5
type_of MBoNa1 = 7
type_of MMeNa1 = 9
type_of MMeNb1 = 11
type_of MMeNc1 = 13
type_of MItNa1 = 15
type_of MMeNd1 = 21
type_of MEiNa1 = 70
type_of CIcNa1 = 100
type_of CCiNa1 = 101
type_of CRdNa1 = 102

-- every kind, by rising number
abbrev pub kinds : List Kind
kinds =
    MSpNa1 ∷ MDpNa1 ∷ MStNa1 ∷ MBoNa1 ∷ MMeNa1 ∷ MMeNb1 ∷ MMeNc1 ∷ MItNa1 ∷ MMeNd1 ∷ MEiNa1 ∷ CIcNa1 ∷ CCiNa1 ∷ CRdNa1 ∷ []

-- the kind of the list that has this number, if there is one
abbrev pub among : List Kind → ℕ → Option Kind
among [] t = None
among (k ∷ ks) t = pick (eqb t (type_of k)) (Some k) (among ks t)

-- the kind of a type number
abbrev pub kind_of : ℕ → Option Kind
kind_of t = among kinds t

-- the refusal's number: 11 for a type that is not carried
abbrev pub kind_number : Option Kind → ℕ
kind_number (Some k) = 0
kind_number None = type_not_carried

-- the octets of an element, in wire order, each with the fields that it keeps. Sizes and reserved bits follow from it;
-- that reading and writing an element agree with it is shown (`again` and `sized` of `ElementLevel`)
abbrev pub form_of : Kind → List Layout
form_of MSpNa1 = siq_layout ∷ []
form_of MDpNa1 = diq_layout ∷ []
form_of MStNa1 = vti_layout ∷ qds_layout ∷ []
form_of MBoNa1 = whole ∷ whole ∷ whole ∷ whole ∷ qds_layout ∷ []
form_of MMeNa1 = whole ∷ whole ∷ qds_layout ∷ []
form_of MMeNb1 = whole ∷ whole ∷ qds_layout ∷ []
form_of MMeNc1 = whole ∷ whole ∷ whole ∷ whole ∷ qds_layout ∷ []
form_of MItNa1 = whole ∷ whole ∷ whole ∷ whole ∷ seq_qd_layout ∷ []
form_of MMeNd1 = whole ∷ whole ∷ []
form_of MEiNa1 = whole ∷ []
form_of CIcNa1 = whole ∷ []
form_of CCiNa1 = whole ∷ []
form_of CRdNa1 = []

-- the octets of an element: 5 for a counter, 0 for type 102
abbrev pub size_of : Kind → ℕ
size_of k = length (form_of k)

-- the kind that a value belongs to
abbrev pub value_kind : Value → Kind
value_kind (Value.MSpNa1 q) = MSpNa1
value_kind (Value.MDpNa1 q) = MDpNa1
value_kind (Value.MStNa1 v) = MStNa1
value_kind (Value.MBoNa1 q n) = MBoNa1
value_kind (Value.MMeNa1 n q) = MMeNa1
value_kind (Value.MMeNb1 n q) = MMeNb1
value_kind (Value.MMeNc1 q n) = MMeNc1
value_kind (Value.MItNa1 n q) = MItNa1
value_kind (Value.MMeNd1 n) = MMeNd1
value_kind (Value.MEiNa1 c) = MEiNa1
value_kind (Value.CIcNa1 n) = CIcNa1
value_kind (Value.CCiNa1 n) = CCiNa1
value_kind Value.CRdNa1 = CRdNa1
