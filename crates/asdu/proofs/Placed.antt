-- An object where the code finds it. Assumes nothing.
use Prim.Native.Nat.{ℕ, ◌+◌, ◌*◌}
use mathlib.Core.Path.{◌≡◌, refl}
use mathlib.Core.Bool.{Bool, true, false}
use mathlib.Core.List.{List}
use native.Mathlib.Omega.{arith}
use lib.ListN.{drop}
use lib.Seq.{drop-drop}
use Rattle.laws.specs.Choice.{pick}
use Rattle.laws.specs.Numbers.{le_of}
use Rattle.objects.specs.Elements.{element_of}
use Rattle.objects.specs.Objects.{object_of}
use Rattle.objects.specs.declared.kinds.Kind.{Kind}
use Rattle.asdu.specs.Header.{step_of}
use Rattle.asdu.specs.Reading.{object_in}

-- object i by its address and its element, which stand at the same place in both layouts
pub placed : (k : Kind) (q : Bool) (s : List ℕ) (i : ℕ)
    → record {
      address = pick q (le_of 3 (drop 6 s) + i) (le_of 3 (drop (6 + i * step_of k q) s));
      value = element_of k (drop (9 + i * step_of k q) s);
    }
    ≡ object_in k q s i
unfolding object_in object_of
placed k true s i = refl
placed k false s i =
    let at = i * step_of k false in
    let e : (6 + at) + 3 ≡ 9 + at = omega arith in
    rw (drop-drop 3 (6 + at) s, e)
