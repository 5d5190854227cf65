use Prim.Native.Nat.{ℕ}
use mathlib.Core.Path.{sym, ap, ◌∙◌}
use Rattle.laws.proofs.Lists.{octets_all}
use Rattle.elements.specs.Refusals.{answer}
use Rattle.asdu.proofs.Walk.{by_addresses}
use Rattle.asdu.proofs.checking.check_objects.Goals as goal

pub returns : goal.returns
returns c =
    let a = c.args in
    c.check_addresses.ensures
    ∙ sym (ap (λ (n : ℕ). answer n tt) (by_addresses a.h a.s.now (octets_all a.s.now (λ i. (c.shared_slice_known-1.given i).fits))))
