-- One object: how long its octets are, and what is known of one that is not refused. Assumes nothing.
use Prim.Native.Nat.{ℕ, ◌+◌, ◌≤◌}
use mathlib.Core.Path.{◌≡◌}
use mathlib.Core.Bool.{Bool, true}
use native.Mathlib.Omega.{arith}
use lib.ListN.{length, length-append}
use lib.Dec.{eqb, ltb}
use borrow.Author.Tests.{eqb-true, ltb-false}
use Rattle.laws.specs.Numbers.{le_octets}
use Rattle.laws.proofs.Choices.{passed, held, both}
use Rattle.laws.proofs.Numbers.{length_octets}
use Rattle.objects.specs.Kinds.{type_of, size_of, value_kind}
use Rattle.objects.specs.Elements.{element_octets, value_refusal}
use Rattle.objects.specs.Objects.{kind_refusal, address_refusal, object_refusal, object_octets}
use Rattle.objects.specs.declared.kinds.Kind.{Kind}
use Rattle.objects.specs.declared.Object.{Object}
use Rattle.objects.proofs.Elements.{element_level}
use Rattle.objects.proofs.TypeNumbers.{same_kind}

pub object_long : (o : Object) → length (object_octets o) ≡ 3 + size_of (value_kind o.value)
unfolding object_octets
object_long o = omega (arith, length-append (le_octets 3 o.address) (element_octets o.value), length_octets 3 o.address, element_level.sized o.value)

pub record Fit (k : Kind) (q : Bool) (first i : ℕ) (o : Object) : Type 0 where
  pub kind : value_kind o.value ≡ k
  pub small : o.address ≤ 16777215
  pub next : q ≡ true → o.address ≡ first + i
  pub value : value_refusal o.value ≡ 0

kind_fits : (k : Kind) (o : Object) → kind_refusal k o.value ≡ 0 → value_kind o.value ≡ k
unfolding kind_refusal
kind_fits k o h = same_kind (value_kind o.value) k (eqb-true _ _ (held (eqb (type_of (value_kind o.value)) (type_of k)) 15 0 h).0)

address_fits : (q : Bool) (first i a : ℕ) → address_refusal q first i a ≡ 0 → (a ≤ 16777215) × (q ≡ true → a ≡ first + i)
unfolding address_refusal
address_fits q first i a h =
    let s = passed (ltb 16777215 a) 13 _ h in
    (ltb-false 16777215 a s.0, λ e. eqb-true a (first + i) (held (eqb a (first + i)) 13 0 (rw e at s.1)).0)

pub fit : (k : Kind) (q : Bool) (first i : ℕ) (o : Object) → object_refusal k q first i o ≡ 0 → Fit k q first i o
unfolding object_refusal
fit k q first i o h =
    let x = both _ _ h in
    let y = both _ _ x.1 in
    let z = address_fits q first i o.address y.0 in
    record { kind = kind_fits k o x.0; small = z.0; next = z.1; value = y.1 }
