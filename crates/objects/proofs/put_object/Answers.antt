use Prim.Native.Nat.{ℕ}
use mathlib.Core.Path.{◌≡◌, sym, ◌∙◌}
use mathlib.Core.List.{List}
use native.Mathlib.Omega.{arith}
use lib.Seq.{sets}
use Rattle.laws.specs.Numbers.{le_octets}
use Rattle.laws.proofs.Lists.{sets_append, sets_past, rest_sets}
use Rattle.objects.specs.Elements.{element_octets}
use Rattle.objects.specs.Objects.{object_octets}
use Rattle.objects.specs.declared.Object.{Object}
use Rattle.objects.proofs.put_object.Goals as goal

stored : (out : List ℕ) (o : Object) {l : List ℕ} → l ≡ sets out 0 (le_octets 3 o.address)
    → sets l 3 (element_octets o.value) ≡ sets out 0 (object_octets o)
unfolding le_octets object_octets
stored out o e = rw e (sym (sets_append out 0 (le_octets 3 o.address) (element_octets o.value)))

pub returns-then-out-ge3 : goal.returns-then-out-ge3
returns-then-out-ge3 c =
    let a = c.args in
    let p = c.put_le in
    rest_sets p.new.out 3 (element_octets a.object.value) c.put_element.ensures
    ∙ stored a.out.now a.object p.ensures

pub returns-else-out-ge3 : goal.returns-else-out-ge3
returns-else-out-ge3 c =
    let a = c.args in
    let p = c.put_le in
    sym (sets_past p.new.out 3 (element_octets a.object.value) (omega arith)) ∙ stored a.out.now a.object p.ensures
