use Prim.Native.Nat.{ℕ}
use mathlib.Core.Path.{◌≡◌}
use mathlib.Core.Bool.{true, ◌&&◌}
use lib.Dec.{leb}
use native.Mathlib.Omega.{arith}
use Rattle.laws.proofs.Window.{ahead}
use Rattle.elements.specs.Refusals.{refusal}
use Rattle.link_state.specs.Acknowledging.{confirms, numbers_in_limits}
use Rattle.link_state.proofs.Acks.{in_limits, outside, frees, past}
use Rattle.link_state.proofs.acknowledging.acknowledge.Goals as goal

-- past the first test the numbers are in limits
checked : (next held received : ℕ) → leb next 32767 && leb held 32767 && leb received 32767 ≡ true
    → numbers_in_limits next held received ≡ true
unfolding numbers_in_limits
checked next held received e = e

pub returns-then-not-next-held : goal.returns-then-not-next-held
unfolding numbers_in_limits refusal
returns-then-not-next-held c = outside _ _ _ c.if-not-next-held.true

pub overflow_add-oldest : goal.overflow_add-oldest
overflow_add-oldest c = let h = in_limits _ _ _ (checked c.args.next.0 c.args.held c.args.received.0 c.if-not-next-held.false) in omega arith

pub overflow_sub-oldest : goal.overflow_sub-oldest
overflow_sub-oldest c = let h = in_limits _ _ _ (checked c.args.next.0 c.args.held c.args.received.0 c.if-not-next-held.false) in omega arith

pub returns-then-oldest-freed : goal.returns-then-oldest-freed
unfolding confirms
returns-then-oldest-freed c =
    let n = (checked c.args.next.0 c.args.held c.args.received.0 c.if-not-next-held.false) in
    let h = in_limits _ _ _ n in
    frees _ _ _ c.loop-freed.freed n (ahead _ _ 32768 _ (omega arith) (omega arith) (omega arith) c.if-oldest-freed.true) (omega arith)

pub loop-freed-preserved : goal.loop-freed-preserved
loop-freed-preserved c =
    let h = in_limits _ _ _ (checked c.args.next.0 c.args.held c.args.received.0 c.if-not-next-held.false) in
    omega arith

pub returns : goal.returns
unfolding confirms refusal
returns c = past _ _ _ (checked c.args.next.0 c.args.held c.args.received.0 c.if-not-next-held.false) (omega arith)
