use Prim.Native.Nat.{ℕ, ◌+◌, ◌-◌, ◌*◌}
use mathlib.Core.Path.{◌≡◌, ap}
use native.Mathlib.Nat.{add-sub_cancel_left}
use lib.ListN.{get_or, take, drop}
use Rattle.link_state.specs.declared.State.{State}
use Rattle.link.specs.Making.{sent_of, hand_out, first_waiting}
use Rattle.link_steps.proofs.Flushing.{let_out_law}
use Rattle.link_steps.proofs.waiting.let_out.Goals as goal

pub shift-requires : goal.shift-requires
unfolding sent_of hand_out
shift-requires c =
    let same = ap (λ (x : State). x.queue) c.hand_out-handed.ensures.makes.state in
    rw same (c.requires.place_high, c.requires.some)

pub returns : goal.returns
unfolding first_waiting
returns c =
    let q = c.args.made.state.queue in
    let n = get_or q.lengths q.place 0 in
    let from = q.place * 249 in
    let part : take (from + n - from) (drop from c.args.pool.now) ≡ first_waiting c.args.made.state c.args.pool.now = ap (λ (k : ℕ). take k (drop from c.args.pool.now)) (add-sub_cancel_left from n) in
    let_out_law c.args.moment c.args.made.state c.args.times.now c.args.pool.now c.args.made.end c.args.out.now (rw part at c.hand_out-handed.ensures) c.shift.ensures
