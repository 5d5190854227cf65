use mathlib.Core.Path.{◌≡◌, sym, ap, ◌∙◌}
use mathlib.Core.Bool.{false}
use native.Mathlib.Omega.{arith}
use Rattle.link_state.specs.declared.State.{State}
use Rattle.link.specs.Making.{sent_of, hand_out}
use Rattle.link.specs.Events.{start, accepting}
use Rattle.link_steps.specs.Steps.{HandsOut}
use Rattle.link_steps.proofs.Made.{answers_ending}
use Rattle.link_steps.proofs.Flushing.{hand_out_short}
use Rattle.link_steps.proofs.Unchanged.{ending_times}
use Rattle.link_send.proofs.send_now.Goals as goal

pub finish-requires : goal.finish-requires
unfolding hand_out sent_of
finish-requires c =
    let a = c.args in
    let out = c.hand_out in
    let handed : HandsOut (hand_out a.moment a.asdu.now (start a.s a.times.now)) 0 a.out.now out.result out.new.times out.new.out = rw c.new.ensures at out.ensures in
    let end = handed.makes.end in
    let short = hand_out_short c.args.moment c.args.s c.args.times.now c.args.asdu.now c.requires.2 in
    let next : out.result.state.receive.next.0 ≡ c.args.s.receive.next.0 = ap (λ (x : State). x.receive.next.0) handed.makes.state in
    let long = out.auto.out in
    let room = c.requires.0.calm.out_room in
    let high = c.requires.0.calm.recv_high in
    (omega arith, omega arith)

pub returns : goal.returns
unfolding accepting
returns c =
    let a = c.args in
    let g = hand_out a.moment a.asdu.now (start a.s a.times.now) in
    let out : HandsOut g 0 a.out.now c.hand_out.result c.hand_out.new.times c.hand_out.new.out = rw c.new.ensures at c.hand_out.ensures in
    λ ps. record { answers = answers_ending false false a.moment ps out.makes c.finish.ensures c.accept.ensures; ring = out.ring ∙ sym (ending_times false a.moment g) }
