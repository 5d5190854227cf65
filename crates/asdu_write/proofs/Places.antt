-- Octets that are stored one part after the other, and that they fit. Assumes nothing.
use Prim.Native.Nat.{ℕ, ◌+◌, ◌-◌, ◌≤◌}
use mathlib.Core.Path.{◌≡◌, refl, sym, ap, ◌∙◌}
use mathlib.Core.Bool.{Bool}
use mathlib.Core.List.{List, ◌++◌}
use native.Mathlib.Omega.{arith}
use lib.ListN.{length, take, drop, length-append}
use lib.Seq.{sets, length-sets}
use Rattle.std.specs.Prelude.{Ok}
use Rattle.laws.specs.Numbers.{le_octets}
use Rattle.laws.proofs.Lists.{sets_append, sets_all, rest_sets}
use Rattle.elements.specs.Refusals.{answer}
use Rattle.elements.proofs.Refused.{made_some}
use Rattle.objects.specs.Elements.{element_octets}
use Rattle.objects.specs.Objects.{object_octets}
use Rattle.objects.specs.declared.kinds.Kind.{Kind}
use Rattle.objects.specs.declared.Object.{Object}
use Rattle.objects.specs.declared.values.Value.{Value}
use Rattle.objects.specs.Kinds.{size_of, value_kind}
use Rattle.objects.proofs.Elements.{element_level}
use Rattle.objects.proofs.Objects.{object_long}
use Rattle.asdu.specs.Puts.{Put}
use Rattle.asdu.specs.Writing.{own_objects, first_address, header_octets, address_octets, objects_octets, asdu_octets, shape_refusal, write_refusal}
use Rattle.asdu.specs.declared.Asdu.{Asdu}
use Rattle.asdu.proofs.Lengths.{listed_small, writable, asdu_long, shape_fits}

-- a part, and the next part after it
pub put_then : {l l' l'' : List ℕ} {p r r' : ℕ} {vs ws : List ℕ} → Put l p vs r l' → Put l' r ws r' l'' → Put l p (vs ++ ws) r' l''
put_then {l} {l'} {l''} {p} {r} {r'} {vs} {ws} a b = record {
  stored =
      b.stored
      ∙ (ap (λ (x : List ℕ). sets x r ws) a.stored
      ∙ (ap (λ (n : ℕ). sets (sets l p vs) n ws) a.next ∙ sym (sets_append l p vs ws)));
  next = b.next ∙ omega (arith, a.next, length-append vs ws);
}

pub put_long : {l l' : List ℕ} {p r : ℕ} {vs : List ℕ} → Put l p vs r l' → length l' ≡ length l
put_long {l} {l'} {p} {r} {vs} a = ap length a.stored ∙ length-sets l p vs

-- the header, by its octets
pub header_put : (a : Asdu) (l : List ℕ) {l' : List ℕ} → l' ≡ sets l 0 (header_octets a) → Put l 0 (header_octets a) 6 l'
unfolding header_octets le_octets
header_put a l e = record { stored = e; next = refl }

-- where the objects begin, there is room for them
pub bodies_room : (a : Asdu) (r : ℕ) → r ≡ 6 + length (address_octets a.sequence (first_address a))
    → r + length (objects_octets a.sequence (own_objects a)) ≡ length (asdu_octets a)
unfolding asdu_octets header_octets le_octets
bodies_room a r e = omega (arith, e, length-append (address_octets a.sequence (first_address a)) (objects_octets a.sequence (own_objects a)))

-- a shape that is not refused has at most 127 objects
pub shape_small : (k : Kind) (q : Bool) (n : ℕ) → answer {A = Unit {0}} (shape_refusal k q n) tt ≡ Ok tt → n ≤ 127
shape_small k q n e = (shape_fits k q n (made_some (shape_refusal k q n) tt tt e)).0

-- the octets of one object, stored by writing to the rest of an output
module _ (l : List ℕ) (p : ℕ) where
  pub element_put : (v : Value) {s : List ℕ} {n : ℕ} → n ≡ size_of (value_kind v) → s ≡ sets (take (length l - p) (drop p l)) 0 (element_octets v)
      → Put l p (element_octets v) (p + n) (take p l ++ (s ++ drop (length l - p) (drop p l)))
  element_put v {n = n} z e = record { stored = rest_sets l p (element_octets v) e; next = omega (arith, z, element_level.sized v) }

  pub object_put : (o : Object) {s : List ℕ} {n : ℕ} → n ≡ size_of (value_kind o.value) → s ≡ sets (take (length l - p) (drop p l)) 0 (object_octets o)
      → Put l p (object_octets o) (p + 3 + n) (take p l ++ (s ++ drop (length l - p) (drop p l)))
  object_put o {n = n} z e = record { stored = rest_sets l p (object_octets o) e; next = omega (arith, z, object_long o) }

-- ---- a record that is not refused

module _ (a : Asdu) (room : ℕ) (h : write_refusal a room ≡ 0) where
  -- its count fits seven bits and its cause six
  pub fields_fit : (a.count ≤ 127) × (a.cause ≤ 63)
  fields_fit =
      let (k, w) = writable a room h in
      (w.counted, omega (arith, listed_small a.cause w.listed))

  module _ (l : length a.objects ≡ 127) where
    pub room_enough : length (asdu_octets a) ≤ room
    room_enough = let (k, w) = writable a room h in omega (arith, asdu_long k a room w l, w.enough)

    pub asdu_small : length (asdu_octets a) ≤ 249
    asdu_small = let (k, w) = writable a room h in omega (arith, asdu_long k a room w l, w.short)

-- header, address and objects, stored one after the other, are its octets
pub parts_stored : (a : Asdu) (l : List ℕ) {l₁ l₂ l₃ : List ℕ} {r r' : ℕ} → write_refusal a (length l) ≡ 0 → length a.objects ≡ 127
    → l₁ ≡ sets l 0 (header_octets a)
    → Put l₁ 6 (address_octets a.sequence (first_address a)) r l₂
    → Put l₂ r (objects_octets a.sequence (own_objects a)) r' l₃
    → l₃ ≡ asdu_octets a ++ drop (length (asdu_octets a)) l
unfolding asdu_octets
parts_stored a l h n header address objects =
    (put_then (header_put a l header) (put_then address objects)).stored ∙ sets_all l (asdu_octets a) (room_enough a (length l) h n)
