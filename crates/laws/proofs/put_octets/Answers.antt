use Prim.Native.Nat.{◌-◌, ◌≤◌, min}
use mathlib.Core.Path.{sym, ◌∙◌}
use native.Mathlib.Omega.{arith}
use lib.ListN.{length}
use Rattle.laws.proofs.Lists.{sets_stop}
use Rattle.laws.proofs.put_octets.Goals as goal

pub returns : goal.returns
returns c =
    let l = c.loop-i in
    let a = c.args in
    let ended : min (length l.out - a.at) (length a.octets.now) ≤ l.i = omega arith in
    sym (sets_stop l.out a.at l.i a.octets.now ended) ∙ l.invariant.1
